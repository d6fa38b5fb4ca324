-- The entries of the table of places that a call wrote.
--     front-taken, front-within       the first n entries of a table after n numbers were put at its front
--     written_places, written_fit     what planning wrote are the places of the reply, and they lie within the table
--     best_places, best_fit           so with the search for the best target
use Prim.Native.Nat.{ℕ, ◌≤◌}
use native.Mathlib.Omega.{arith}
use mathlib.Core.Path.{◌≡◌, sym, ap, ◌∙◌}
use mathlib.Core.List.{List}
use lib.ListN.{length, take, drop, length-append}
use lib.Seq.{take_at}
use Rattle.answers.specs.declared.answer.Filled.{Filled}
use Rattle.answers.specs.declared.best.BestFilled.{BestFilled}
use Rattle.answers.specs.Answers.{Reply, Answered, front}
use Rattle.answers.specs.BestAnswers.{BestReply, BestAnswered}

module _ {n : ℕ} (xs before : List ℕ) {after : List ℕ} (count : n ≡ length xs) (new : after ≡ front xs before) where
  pub front-taken : take n after ≡ xs
  front-taken = ap (take n) new ∙ take_at xs (drop (length xs) before) n (sym count)

  pub front-within : n ≤ length after
  front-within = omega (arith, ap length new, length-append xs (drop (length xs) before))

module _ {a : Reply} {r : Filled} {places loads places' loads' : List ℕ}
    (A : Answered a r places loads places' loads') where
  pub written_places : take r.places places' ≡ a.places
  written_places = front-taken a.places places A.places_written A.new_places

  pub written_fit : r.places ≤ length places'
  written_fit = front-within a.places places A.places_written A.new_places

module _ {a : BestReply} {r : BestFilled} {places loads places' loads' : List ℕ}
    (A : BestAnswered a r places loads places' loads') where
  pub best_places : take r.places places' ≡ a.places
  best_places = front-taken a.places places A.places_written A.new_places

  pub best_fit : r.places ≤ length places'
  best_fit = front-within a.places places A.places_written A.new_places
