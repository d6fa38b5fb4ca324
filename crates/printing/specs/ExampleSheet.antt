-- The sheet of example 2 of document 01, on which both programs are run: one bench, one job of 5 minutes on it, T = 5.
--     one_job     its bytes
use Rattle.std.specs.Prelude.{ℕ, List, [], ◌∷◌}

-- Its frames: head, job and end.
abbrev pub one_job : List ℕ
one_job =
    17 ∷ 0 ∷ 7 ∷ 2 ∷ 16 ∷ 56 ∷ 0 ∷ 0 ∷ 0 ∷ 160
    ∷ 18 ∷ 0 ∷ 11 ∷ 0 ∷ 0 ∷ 88 ∷ 0 ∷ 0 ∷ 0 ∷ 0 ∷ 0 ∷ 0 ∷ 0 ∷ 0
    ∷ 19 ∷ 0 ∷ 0 ∷ []
