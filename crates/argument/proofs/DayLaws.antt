-- The benches of a day's jobs.
--     one_choice              a job with one bench has one
use Prim.Native.Nat.{ℕ, ◌≤◌}
use mathlib.Core.Path.{◌≡◌}
use mathlib.Core.Bool.{true}
use Rattle.sums.proofs.CountLaws.{count-unique}
use Rattle.day.specs.Day.{Day, choices}
use Rattle.algorithm.specs.SoundDay.{SoundDay}

pub one_choice : (d : Day) → SoundDay d → (j u v : ℕ) → choices d j ≤ 1 → d.allows j u ≡ true → d.allows j v ≡ true → u ≡ v
one_choice d sound j u v one p q = count-unique d.benches (d.allows j) one u v (sound.allowed_below j u p) (sound.allowed_below j v q) p q
