-- PUSH (Definition 4.4.3).
--     leaf, light_fathers     bench v has no child in the conflict set; its fathers are light
--     can_push b x j v        pebble j may be pushed to v
--     push_job, push_bench    the first such pair
use Rattle.std.specs.Prelude.{ℕ, suc, ◌+◌, Bool, not, ◌&&◌, ◌||◌, eqb, leb}
use Rattle.sums.specs.Search.{any, all, least}
use Rattle.algorithm.specs.Board.{Board, load}
use Rattle.algorithm.specs.Explore.{Explored, round_of, in_conflict, activated, father, child}

-- "D(v*) = ∅"
abbrev pub leaf : Board → Explored → ℕ → Bool
leaf b x v = not (any b.jobs (child b x.dir (in_conflict b x) v))

-- "dl(v*) + pl(v*) + w_{v*u} ≤ (5/3 − 2/3 · β)t for all u ∈ F(v*)"
abbrev pub light_fathers : Board → Explored → ℕ → Bool
light_fathers b x v =
    all b.jobs (λ j. not (father b x.dir (in_conflict b x) v j) || leb (b.own v + b.weight j) b.limit)

-- Pushing the pebble j to bench v is allowed: it is one level up, within the limit, and a leaf or with light fathers.
abbrev pub can_push : Board → Explored → ℕ → ℕ → Bool
can_push b x j v =
    b.pebble j && b.allows j v
    && activated b x v && eqb (round_of b x.level v) (suc (round_of b x.level (b.place j)))
    && leb (load b x.dir v) b.limit
    && (leaf b x v || light_fathers b x v)

-- "The move taken is the first that the definition allows, by job number, then by bench number."
abbrev pub push_job : Board → Explored → ℕ
push_job b x = least b.jobs (λ j. any b.benches (can_push b x j))

abbrev pub push_bench : Board → Explored → ℕ
push_bench b x = least b.benches (can_push b x (push_job b x))
