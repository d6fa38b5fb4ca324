-- E1: rocks at the border of the conflict set lead out of it.
--     Border b x              rocks lead to the end that joined later
--     between_border          between two rounds, a rock from a bench of the conflict set to a bench outside leads to that bench
--     round_border            and a round keeps this for the benches that joined earlier
--     explored_border         a rock whose ends joined in different rounds leads to the end that joined later
--     explored_between        the end of the exploration is a state between two rounds
--     explored_directed       a rock with an end in the conflict set is directed
use Prim.Native.Nat.{ℕ, suc, ◌≤◌, ◌<◌}
use mathlib.Core.Path.{◌≡◌}
use mathlib.Core.Logic.{⊎_elim}
use mathlib.Core.Bool.{true, false}
use native.Mathlib.Omega.{arith}
use Rattle.algorithm.specs.Board.{Board, touches, other, neutral, towards}
use Rattle.algorithm.specs.Explore.{Explored, explore}
use Rattle.algorithm.specs.Properties.{SoundBoard, rnd}
use Rattle.algorithm.proofs.ConflictLaws.{directed_ends}
use Rattle.algorithm.proofs.BoardLaws.{other-touches, other-below}
use Rattle.algorithm.proofs.ForcedInterface.{ForcedLaws}
use Rattle.algorithm.proofs.RoundLaws.{Between, Round, round_keeps, round_marks_joined}
use Rattle.algorithm.proofs.ExploreRounds.{rounds-induction, unexplored-joined, unexplored-between, explore-rounds}

abbrev pub Border : Board → Explored → Type 0
Border b x = (e v : ℕ) → e < b.jobs → v < b.benches → touches b e v ≡ true → rnd b x (other b e v) < rnd b x v → towards x.dir e v ≡ true

module _ (b : Board) (ok : SoundBoard b) where
  pub between_border : (k : ℕ) (x : Explored) → Between b k x → (e v : ℕ) → e < b.jobs → touches b e v ≡ true
      → rnd b x (other b e v) ≤ b.benches → b.benches < rnd b x v → towards x.dir e v ≡ true
  between_border k x between e v h t inside outside =
      ⊎_elim (λ p. p) (λ a. absurd (omega (arith, between.tail_joined e v h a inside)))
      (directed_ends b ok x.dir between.pointed e v h t (between.directed e (other b e v) h (other-touches b ok e v h t) inside))

  module _ (laws : ForcedLaws b) where
    -- An end that joined before this round joined before the other end already then; an end that joined in this round leaves the other end outside.
    pub round_border : (k : ℕ) (x z : Explored) → k < b.benches → Between b k x → Round b k x z → Between b (suc k) z → Border b x → Border b z
    round_border k x z hk between round after border e v h hv t less =
        let u = other b e v in
        let hu : u < b.benches = other-below b ok e v h t in
        let marks = round_marks_joined b ok laws k x between z round in
        let here : (rnd b z u ≤ b.benches) → (b.benches < rnd b z v) → towards z.dir e v ≡ true = between_border (suc k) z after e v h t in
        ⊎_elim
        (λ old-u. ⊎_elim
        (λ old-v. (round_keeps b ok laws k x between z round).keeps e v (border e v h hv t (omega arith)))
        (λ new-v. ⊎_elim
        (λ q. (round_keeps b ok laws k x between z round).keeps e v (border e v h hv t (omega arith)))
        (λ q. absurd (omega arith))
        (between.joined_before.before u hu))
        (marks.mark v hv))
        (λ new-u. ⊎_elim (λ q. absurd (omega arith)) (λ q. here (omega arith) (omega arith)) (after.joined_before.before v hv))
        (marks.mark u hu)

    pub explored_border : Border b (explore b)
    explored_border =
        (rounds-induction b ok laws (λ k x. Border b x) (explore b)
        (λ k x z hk between round after rest border. round_border k x z hk between round after border)
        (explore-rounds b ok laws) (unexplored-between b ok laws)
        (λ e v h hv t less. absurd (omega (arith, unexplored-joined b ok laws v hv, unexplored-joined b ok laws (other b e v) (other-below b ok e v h t))))
        ).kept

    pub explored_between : (k : ℕ) × Between b k (explore b)
    explored_between =
        let ended = rounds-induction b ok laws (λ k x. Unit {0}) (explore b) (λ k x z hk between round after rest p. tt)
        (explore-rounds b ok laws) (unexplored-between b ok laws) tt
        in
        (ended.rounds_done, ended.between)

    pub explored_directed : (e v : ℕ) → e < b.jobs → v < b.benches → touches b e v ≡ true → rnd b (explore b) v ≤ b.benches → neutral (explore b).dir e ≡ false
    explored_directed e v h hv t f = explored_between.1.directed e v h t f
