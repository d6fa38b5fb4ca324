-- A read puts what it consumes behind what was read before.
use Rattle.std.proofs.Common.{◌≡◌, ℕ, ◌+◌, ◌-◌, ◌≤◌, List, ◌++◌, rules, length, take, sym, ap, ap₂, ◌∙◌, subst, le_refl, drop_at, length-take-le}
use Rattle.std.proofs.lemmas.Slice.{take-put_mid_below}
use Rattle.std.specs.Io.KnownBytes.{Consumes}
use Rattle.std.proofs.KnownBytes.{Consumes-trans}
use borrow.Rule.Slice.PartMut.{put_mid, post_of}
use lib.Seq.{take-add, take-append-le}
use Rattle.input.proofs.read_full.Goals as goal

take-read : (a k n : ℕ) (xs ys : List ℕ) → a ≤ length xs → n ≤ length ys
    → take (a + n) (put_mid a k xs ys) ≡ take a xs ++ take n ys
take-read a k n xs ys within fits =
    let after = post_of a k xs in
    let behind = drop_at (take a xs) (ys ++ after) a (length-take-le a xs within) in
    take-add a n (put_mid a k xs ys)
    ∙ ap₂ (λ l m. l ++ m) (take-put_mid_below a k xs ys a (le_refl a) within) (ap (take n) behind ∙ take-append-le n ys after fits)

pub loop-filled-preserved : goal.loop-filled-preserved
loop-filled-preserved g c =
    let from = c.loop-filled.filled in
    let old = c.loop-filled.buffer in
    let read = take-read from (length old - from) c.in_ok-n.n old c.read.new.buf c.loop-filled.invariant.0 c.in_ok-n.ensures.bound.0 in
    (search rules, search rules, subst (Consumes _ _) (sym read) (Consumes-trans _ _ _ _ _ c.loop-filled.invariant.2 c.in_ok-n.ensures.bytes.0))
