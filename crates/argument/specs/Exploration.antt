-- What an exploration leaves behind, and what is known of it where no move is left. All weights and loads are
-- multiplied by 3q.
--     Exploration         the numbers d, R and h; benches, jobs and directed rocks; conflict set, activated benches
--                         and own loads
--     target, bound, push_limit       t = R + d, B = t + R and P = t + 2d
--     inside              a rock with both ends in the conflict set
--     children, fathers   |D(v)| and |F(v)|: how many rocks inside have head v, have tail v
--     over_children, over_fathers     the sum of a function over D(v), over F(v)
--     into                in(v): the weight of the rocks inside with head v
--     FatherAbove b z v   v has a father rock e inside with b < z + e
--     EarlierNeighbour v  v has a rock inside below R whose other end has a smaller rank
--     NoMoveLeft          what holds of an exploration after which no move is left: the hypotheses H1 to H6 of Lemma
--                         4.4.4
--     InsidePlacement           each rock inside on one of its ends, no two on one bench
use Rattle.std.specs.Prelude.{ℕ, ◌+◌, ◌*◌, ◌≤◌, ◌<◌, Bool, true, ◌&&◌, ◌≡◌, ◌⊎◌}
use Rattle.argument.specs.Orientation.{number, gathered}

-- Benches are the numbers below benches, jobs those below jobs; what a function says of other numbers is without
-- meaning.
pub record Exploration : Type 0 where
  -- (q - p) T and (2q + p) T.
  pub d : ℕ
  pub R : ℕ
  -- 3pT: a job is heavy if it weighs more.
  pub h : ℕ
  pub benches : ℕ
  pub jobs : ℕ
  -- The heavy jobs with two benches; each is directed from its tail to its head.
  pub rock : ℕ → Bool
  pub head : ℕ → ℕ
  pub tail : ℕ → ℕ
  pub weight : ℕ → ℕ
  -- The conflict set C, and A, the activated benches.
  pub conflict : ℕ → Bool
  pub activated : ℕ → Bool
  -- The benches that are overloaded, or that a light job of an activated bench may go to.
  pub type_a : ℕ → Bool
  -- The order of activation.
  pub rank : ℕ → ℕ
  -- What a bench carries besides rocks: dedicated load and light jobs.
  pub own : ℕ → ℕ

-- t: the time that is asked for.
abbrev pub target : Exploration → ℕ
target x = x.R + x.d

-- B: a bench that carries more is overloaded.
abbrev pub bound : Exploration → ℕ
bound x = target x + x.R

-- P: a light job is moved to a bench that carries no more than this.
abbrev pub push_limit : Exploration → ℕ
push_limit x = target x + 2 * x.d

abbrev pub inside : Exploration → ℕ → Bool
inside x e = x.rock e && x.conflict (x.head e) && x.conflict (x.tail e)

-- The children of a bench, D(v), are the rocks inside with head v; its fathers, F(v), those with tail v.
abbrev pub children : Exploration → ℕ → ℕ
children x v = number x.jobs (inside x) x.head v

abbrev pub fathers : Exploration → ℕ → ℕ
fathers x v = number x.jobs (inside x) x.tail v

abbrev pub over_children : Exploration → (ℕ → ℕ) → ℕ → ℕ
over_children x f v = gathered x.jobs (inside x) x.head f v

abbrev pub over_fathers : Exploration → (ℕ → ℕ) → ℕ → ℕ
over_fathers x f v = gathered x.jobs (inside x) x.tail f v

abbrev pub into : Exploration → ℕ → ℕ
into x v = over_children x x.weight v

pub record FatherAbove (x : Exploration) (b z v : ℕ) : Type 0 where
  pub father : ℕ
  pub below : father < x.jobs
  pub within : inside x father ≡ true
  pub leaves : x.tail father ≡ v
  pub above : b < z + x.weight father

pub record EarlierNeighbour (x : Exploration) (v : ℕ) : Type 0 where
  pub joining : ℕ
  pub below : joining < x.jobs
  pub within : inside x joining ≡ true
  pub small : x.weight joining < x.R
  pub earlier : ((x.head joining ≡ v) × (x.rank (x.tail joining) < x.rank v)) ⊎ ((x.tail joining ≡ v)
      × (x.rank (x.head joining) < x.rank v))

pub record NoMoveLeft (x : Exploration) : Type 0 where
  -- H1: the share is at least 4/7; P + h = B; a rock is heavy, and no heavier than the target; its ends are benches.
  pub share_limit : 6 * x.d ≤ x.R
  pub heavy_limit : push_limit x + x.h ≡ bound x
  pub rock_heavy : (e : ℕ) → e < x.jobs → x.rock e ≡ true → x.h < x.weight e
  pub rock_fits : (e : ℕ) → e < x.jobs → x.rock e ≡ true → x.weight e ≤ target x
  pub head_below : (e : ℕ) → e < x.jobs → inside x e ≡ true → x.head e < x.benches
  pub tail_below : (e : ℕ) → e < x.jobs → inside x e ≡ true → x.tail e < x.benches
  -- H2: Type A benches are activated, and activated benches are in the conflict set.
  pub type_a_activated : (v : ℕ) → v < x.benches → x.type_a v ≡ true → x.activated v ≡ true
  pub activated_conflict : (v : ℕ) → v < x.benches → x.activated v ≡ true → x.conflict v ≡ true
  -- H3: no light job can be moved to a Type A bench: its load is above P, or it has a child, and its own load with a
  -- father is above P.
  pub type_a_full : (v : ℕ) → v < x.benches → x.type_a v ≡ true
      → (push_limit x < x.own v + into x v) ⊎ ((0 < children x v) × FatherAbove x (push_limit x) (x.own v) v)
  -- H4: a bench of the conflict set is of Type A, or its load with a father, which was forced from it, is above B.
  pub conflict_cause : (v : ℕ) → v < x.benches → x.conflict v ≡ true → (x.type_a v ≡ true)
      ⊎ FatherAbove x (bound x) (x.own v + into x v) v
  -- H5: Rule 1, a bench of the conflict set whose own load with a father is above B is activated; Rule 2, with one
  -- end of a rock below R the other is activated.
  pub rule_one_applied : (v : ℕ) → v < x.benches → x.conflict v ≡ true → FatherAbove x (bound x) (x.own v) v
      → x.activated v ≡ true
  pub rule_two_applied : (e : ℕ) → e < x.jobs → inside x e ≡ true → x.weight e < x.R
      → x.activated (x.head e) ≡ x.activated (x.tail e)
  -- H6: a bench is activated as one of Type A, by Rule 1, or by Rule 2 after the other end of the rock.
  pub activated_cause : (v : ℕ) → v < x.benches → x.activated v ≡ true
      → (x.type_a v ≡ true) ⊎ (FatherAbove x (bound x) (x.own v) v ⊎ EarlierNeighbour x v)

pub record InsidePlacement (x : Exploration) (place : ℕ → ℕ) : Type 0 where
  pub on_an_end : (e : ℕ) → e < x.jobs → inside x e ≡ true → (place e ≡ x.head e) ⊎ (place e ≡ x.tail e)
  pub one_to_a_bench : (e f : ℕ) → e < x.jobs → f < x.jobs → inside x e ≡ true → inside x f ≡ true
      → place e ≡ place f → e ≡ f
