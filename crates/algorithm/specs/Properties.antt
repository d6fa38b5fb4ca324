-- What the theorems about explorations speak of.
--     Limits b               how the limits of a board hang together, with d = (q − p)T: R = small, B = 2R + d,
--                            P = R + 3d, t = R + d
--     SoundBoard b           rocks have two different ends and weigh more than B − P and at most t; pebbles weigh at
--                            most B − P and lie on allowed benches
--     Pointed b dir          only rocks are directed, each towards one of its ends
--     ForcedSteps b dir dir'     forced orientations one after another lead from dir to dir'
--     Stable b dir           no rock is forced from either end
--     Received, Chain        rocks directed one after another, each but the first away from a bench that received one
--                            of them
--     OneEach b              no bench receives two rocks of a chain
--     Orientation b o        o gives each rock one of its ends
--     oriented_load b o v    the weight of the rocks that o gives to v
--     Safe b U o             o directs every rock with exactly one end in U into U, and keeps the benches of U within
--                            the bound
--     Spread b o             no bench is given two rocks
--     Opened, ForcedFather, JoinedBy     how a bench came into the conflict set
--     Facts b x              the properties E1 to E9 that an exploration leaves behind
use Rattle.std.specs.Prelude.{ℕ, suc, ◌+◌, ◌*◌, ◌≤◌, ◌<◌, ◌≡◌, ◌⊎◌, Bool, true, false, ◌&&◌, length, get_or, eqb}
use Rattle.sums.specs.Sum.{on, sum}
use Rattle.algorithm.specs.Board.{Board, Directions, touches, other, neutral, towards, away, load}
use Rattle.algorithm.specs.Forced.{forces, direct, forcing}
use Rattle.algorithm.specs.Explore.{Explored, never, round_of}

-- ── boards ──

pub record Limits (b : Board) : Type 0 where
  pub d : ℕ
  pub bound_is : b.bound ≡ b.small + b.small + d
  pub limit_is : b.limit ≡ b.small + 3 * d
  pub share : 6 * d ≤ b.small

pub record SoundBoard (b : Board) : Type 0 where
  pub limits : Limits b
  pub ends_differ : (j : ℕ) → j < b.jobs → b.rock j ≡ true → b.low j < b.high j
  pub ends_below : (j : ℕ) → j < b.jobs → b.rock j ≡ true → b.high j < b.benches
  pub rock_heavy : (j : ℕ) → j < b.jobs → b.rock j ≡ true → b.bound < b.limit + b.weight j
  pub rock_fits : (j : ℕ) → j < b.jobs → b.rock j ≡ true → b.weight j ≤ b.small + limits.d
  pub pebble_light : (j : ℕ) → j < b.jobs → b.pebble j ≡ true → b.limit + b.weight j ≤ b.bound
  pub pebble_allowed : (j : ℕ) → j < b.jobs → b.pebble j ≡ true → b.allows j (b.place j) ≡ true
  pub allowed_below : (j v : ℕ) → j < b.jobs → b.allows j v ≡ true → v < b.benches

-- ── orientations in steps ──

pub record Pointed (b : Board) (dir : Directions) : Type 0 where
  pub one_to_a_job : length dir ≡ b.jobs
  pub no_rock : (j : ℕ) → j < b.jobs → b.rock j ≡ false → get_or dir j 0 ≡ 0
  pub to_an_end : (j : ℕ) → j < b.jobs → b.rock j ≡ true → (get_or dir j 0 ≡ 0) ⊎ ((get_or dir j 0 ≡ suc (b.low j))
      ⊎ (get_or dir j 0 ≡ suc (b.high j)))

pub data ForcedSteps (b : Board) : Directions → Directions → Type 0 where
  no_step : {dir : Directions} → ForcedSteps b dir dir
  a_step : {dir last : Directions} (v j : ℕ) → v < b.benches → j < b.jobs → forces b dir v j ≡ true
      → ForcedSteps b (direct b dir v j) last → ForcedSteps b dir last

abbrev pub Stable : Board → Directions → Type 0
Stable b dir = (v : ℕ) → v < b.benches → forcing b dir v ≡ false

-- Bench v received a rock between first and dir.
abbrev pub Received : Board → Directions → Directions → ℕ → ℕ → Type 0
Received b first dir v e = (e < b.jobs) × (touches b e v ≡ true) × (neutral first e ≡ true) × (towards dir e v ≡ true)

pub data Chain (b : Board) (first : Directions) : Directions → Type 0 where
  begins : (v j : ℕ) → v < b.benches → j < b.jobs → touches b j v ≡ true → neutral first j ≡ true
      → Chain b first (direct b first v j)
  goes_on : {dir : Directions} → Chain b first dir → (v j e : ℕ) → v < b.benches → j < b.jobs
      → touches b j v ≡ true → neutral dir j ≡ true
      → Received b first dir v e → Chain b first (direct b dir v j)

abbrev pub OneEach : Board → Type 0
OneEach b = (first dir : Directions) → Pointed b first → Chain b first dir
    → (v e f : ℕ) → v < b.benches → Received b first dir v e → Received b first dir v f → e ≡ f

-- ── orientations of all rocks ──

abbrev pub Orientation : Board → (ℕ → ℕ) → Type 0
Orientation b o = (j : ℕ) → j < b.jobs → b.rock j ≡ true → (o j ≡ b.low j) ⊎ (o j ≡ b.high j)

abbrev pub oriented_load : Board → (ℕ → ℕ) → ℕ → ℕ
oriented_load b o v = sum b.jobs (λ j. on (b.rock j && eqb (o j) v) (b.weight j))

pub record Safe (b : Board) (U : ℕ → Bool) (o : ℕ → ℕ) : Type 0 where
  pub orientation : Orientation b o
  pub into : (j v : ℕ) → j < b.jobs → v < b.benches → touches b j v ≡ true → U v ≡ true
      → U (other b j v) ≡ false → o j ≡ v
  pub kept : (v : ℕ) → v < b.benches → U v ≡ true → b.own v + oriented_load b o v ≤ b.bound

pub record Spread (b : Board) (o : ℕ → ℕ) : Type 0 where
  pub orientation : Orientation b o
  pub one_each : (e f : ℕ) → e < b.jobs → f < b.jobs → b.rock e ≡ true → b.rock f ≡ true → o e ≡ o f → e ≡ f

-- ── what one exploration leaves behind ──

module _ (b : Board) (x : Explored) where
  -- The round in which a bench joined the conflict set, and its level: one more than the benches where there is none.
  abbrev pub rnd : ℕ → ℕ
  rnd v = round_of b x.joined v

  abbrev pub lev : ℕ → ℕ
  lev v = round_of b x.level v

-- The bench opened the round of its level: it is overloaded, or a pebble of a lower level may go to it.
abbrev pub Opened : Board → Explored → ℕ → Type 0
Opened b x v =
    ((lev b x v ≡ 0) × (b.bound < load b x.dir v))
    ⊎ ((j : ℕ) × (j < b.jobs) × (b.pebble j ≡ true) × (b.allows j v ≡ true) × (lev b x (b.place j) < lev b x v))

-- A rock leads from the bench to one that joined the conflict set no later, and with it its load is above the bound.
abbrev pub ForcedFather : Board → Explored → ℕ → Type 0
ForcedFather b x v =
    (e : ℕ) × (e < b.jobs) × (away b x.dir e v ≡ true) × (rnd b x (other b e v) ≤ rnd b x v)
    × (b.bound < load b x.dir v + b.weight e)

abbrev pub JoinedBy : Board → Explored → Type 0
JoinedBy b x = (v : ℕ) → v < b.benches → rnd b x v ≤ b.benches → Opened b x v ⊎ ForcedFather b x v

pub record Facts (b : Board) (x : Explored) : Type 0 where
  pub pointed : Pointed b x.dir
  pub joined_length : length x.joined ≡ b.benches
  pub level_length : length x.level ≡ b.benches
  -- E1
  pub border : (e v : ℕ) → e < b.jobs → v < b.benches → touches b e v ≡ true → rnd b x (other b e v) < rnd b x v
      → towards x.dir e v ≡ true
  pub conflict_directed : (e v : ℕ) → e < b.jobs → v < b.benches → touches b e v ≡ true → rnd b x v ≤ b.benches
      → neutral x.dir e ≡ false
  -- E2
  pub overloaded_level : (v : ℕ) → v < b.benches → b.bound < load b x.dir v → lev b x v ≡ 0
  pub overloaded_cause : (v : ℕ) → v < b.benches → b.bound < load b x.dir v
      → (b.bound < b.own v) ⊎ ((e : ℕ) × (e < b.jobs) × (touches b e v ≡ true) × (towards x.dir e v ≡ true)
      × (b.bound < b.own v + b.weight e))
  -- E3
  pub neutral_unforced : (e v : ℕ) → e < b.jobs → v < b.benches → touches b e v ≡ true → neutral x.dir e ≡ true
      → load b x.dir v + b.weight e ≤ b.bound
  -- E4
  pub safe_outside : (i : ℕ) (U : ℕ → Bool) (o : ℕ → ℕ) → i ≤ b.benches → Safe b U o
      → ((j v : ℕ) → j < b.jobs → b.pebble j ≡ true → lev b x (b.place j) < i → b.allows j v ≡ true → U v ≡ false)
      → (v : ℕ) → v < b.benches → U v ≡ true → i < rnd b x v
  -- E5
  pub joined_cause : (v : ℕ) → v < b.benches → rnd b x v ≤ b.benches → (lev b x v ≤ rnd b x v) ⊎ ForcedFather b x v
  -- the same, with the reason why a bench of the first kind opened its round
  pub joined_by : JoinedBy b x
  -- E6
  pub rule_one : (i e v : ℕ) → i ≤ b.benches → e < b.jobs → v < b.benches → away b x.dir e v ≡ true
      → rnd b x v ≤ i
      → rnd b x (other b e v) ≤ i → b.bound < b.own v + b.weight e → lev b x v ≤ i
  pub rule_two : (i e v : ℕ) → i ≤ b.benches → e < b.jobs → v < b.benches → touches b e v ≡ true
      → b.weight e < b.small → rnd b x v ≤ i
      → lev b x (other b e v) ≤ i → lev b x v ≤ i
  -- E7
  pub rank : ℕ → ℕ
  pub level_cause : (v : ℕ) → v < b.benches → lev b x v ≤ b.benches
      → ((lev b x v ≡ 0) × (b.bound < load b x.dir v))
      ⊎ (((j : ℕ) × (j < b.jobs) × (b.pebble j ≡ true) × (b.allows j v ≡ true) × (lev b x (b.place j) < lev b x v))
      ⊎ (((e : ℕ) × (e < b.jobs) × (away b x.dir e v ≡ true) × (rnd b x (other b e v) ≤ lev b x v)
      × (b.bound < b.own v + b.weight e))
      ⊎ ((e : ℕ) × (e < b.jobs) × (touches b e v ≡ true) × (b.weight e < b.small)
      × (lev b x (other b e v) ≤ lev b x v) × (rank (other b e v) < rank v))))
  -- E8
  pub next_level : (j v : ℕ) → j < b.jobs → b.pebble j ≡ true → b.allows j v ≡ true
      → lev b x (b.place j) ≤ b.benches
      → lev b x v ≤ suc (lev b x (b.place j))
  -- E9
  pub joined_first : (v : ℕ) → v < b.benches → rnd b x v ≤ lev b x v
  pub joined_bound : (v : ℕ) → v < b.benches → rnd b x v ≤ never b
  pub level_bound : (v : ℕ) → v < b.benches → lev b x v ≤ never b
  pub level_below : (v : ℕ) → v < b.benches → lev b x v ≤ b.benches → lev b x v < b.benches
