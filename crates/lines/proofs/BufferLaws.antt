-- Laws of bytes put into a buffer.
--     sets_append     two runs of stores, the second where the first ends, are one
--     sets_out        stores behind the end change nothing
--     sets_front      a run of stores from place 0 on
--     puts-length     the buffer keeps its length
--     puts_none       no bytes
--     puts_byte, puts_cut     one byte, where it fits and where it does not
--     puts_then       bytes, and then others behind them
--     puts_as         the same bytes, said in another way
--     puts_moved      the same buffer and place, under other names
--     puts_text       bytes from place 0 on
--     front_whole     bytes that fit are put whole
--     whole_as        the same bytes, said in another way
use Prim.Native.Nat.{ℕ, suc, ◌+◌, ◌≤◌, ◌<◌, min}
use native.Mathlib.Omega.{arith}
use mathlib.Core.Path.{◌≡◌, refl, sym, ap, ◌∙◌}
use mathlib.Core.List.{List, [], ◌∷◌, ◌++◌, append-nil}
use mathlib.Core.Logic.{inl, inr}
use lib.ListN.{length, take, drop, set, length-append, length-drop, take-append-drop}
use lib.Seq.{sets, sets-eq, set_out, length-sets, take_all, take_at, take-append-le, drop_at, drop-length}
use lib.Seq.{length-take-le}
use Rattle.bools.proofs.OrderLaws.{lt-or-le}
use Rattle.lines.specs.Buffer.{Puts, Front, Whole}

-- ── runs of stores ──

pub sets_append : (xs ys t : List ℕ) (at : ℕ) → sets t at (xs ++ ys) ≡ sets (sets t at xs) (at + length xs) ys
sets_append [] ys t at = let e : at ≡ at + 0 = omega arith in ap (λ (k : ℕ). sets t k ys) e
sets_append (x ∷ xs) ys t at =
    let e : suc at + length xs ≡ at + suc (length xs) = omega arith in
    sets_append xs ys (set t at x) (suc at) ∙ ap (λ (k : ℕ). sets (sets (set t at x) (suc at) xs) k ys) e

pub sets_out : (xs t : List ℕ) (at : ℕ) → length t ≤ at → sets t at xs ≡ t
sets_out [] t at h = refl
sets_out (x ∷ xs) t at h = ap (λ (u : List ℕ). sets u (suc at) xs) (set_out t at x h) ∙ sets_out xs t (suc at) (omega arith)

-- A place behind the buffer's end is as good as the end.
sets-min : (xs t : List ℕ) (at : ℕ) → sets t (min (length t) at) xs ≡ sets t at xs
sets-min xs t at = elim (lt-or-le at (length t)) [
  | inl l ↦ let e : min (length t) at ≡ at = omega arith in ap (λ (k : ℕ). sets t k xs) e
  | inr l ↦ sets_out xs t (min (length t) at) (omega arith) ∙ sym (sets_out xs t at l)
]

-- Bytes that fit.
front_fits : (xs t : List ℕ) → length xs ≤ length t → sets t 0 xs ≡ xs ++ drop (length xs) t
front_fits xs t h =
    let e : 0 + length xs ≡ length xs = omega arith in
    sets-eq xs t 0 (omega arith) ∙ ap (λ (k : ℕ). xs ++ drop k t) e

pub sets_front : (xs t : List ℕ) → sets t 0 xs ≡ take (length t) (xs ++ drop (length xs) t)
sets_front xs t = elim (lt-or-le (length xs) (length t)) [
  | inl l ↦ front_fits xs t (omega arith)
      ∙ sym (take_all (length t) (xs ++ drop (length xs) t) (omega (arith, length-append xs (drop (length xs) t), length-drop (length xs) t)))
  | inr l ↦ let first : List ℕ = take (length t) xs in
      let n : length first ≡ length t = length-take-le (length t) xs l in
      let whole : sets t 0 first ≡ first = front_fits first t (omega arith) ∙ ap (λ (k : ℕ). first ++ drop k t) n ∙ ap (λ (u : List ℕ). first ++ u) (drop-length t) ∙ append-nil first in
      ap (sets t 0) (sym (take-append-drop (length t) xs))
      ∙ sets_append first (drop (length t) xs) t 0
      ∙ sets_out (drop (length t) xs) (sets t 0 first) (0 + length first) (omega (arith, length-sets t 0 first))
      ∙ whole
      ∙ sym (take-append-le (length t) xs (drop (length xs) t) l)
]

-- ── bytes put ──

pub puts-length : {out : List ℕ} {at : ℕ} {xs after : List ℕ} {r : ℕ} → Puts out at xs after r → length after ≡ length out
puts-length {out} {at} {xs} p = ap length p.bytes ∙ length-sets out at xs

pub puts_none : (out : List ℕ) (at : ℕ) {r : ℕ} → r ≡ min (length out) at → Puts out at [] out r
puts_none out at e = record { bytes = refl; end = omega arith }

pub puts_byte : (out : List ℕ) (at b : ℕ) → at < length out → Puts out at (b ∷ []) (set out at b) (at + 1)
puts_byte out at b h = record { bytes = refl; end = omega arith }

pub puts_cut : (out : List ℕ) (at b : ℕ) → length out ≤ at → Puts out at (b ∷ []) out (length out)
puts_cut out at b h = record { bytes = sym (sets_out (b ∷ []) out at h); end = omega arith }

pub puts_then : {out : List ℕ} {at : ℕ} {xs mid : List ℕ} {m : ℕ} {ys after : List ℕ} {r : ℕ}
    → Puts out at xs mid m → Puts mid m ys after r → Puts out at (xs ++ ys) after r
puts_then {out} {at} {xs} {mid} {m} {ys} {after} {r} p q =
    let l : length mid ≡ length out = puts-length p in
    let e : m ≡ min (length mid) (at + length xs) = p.end ∙ ap (λ (n : ℕ). min n (at + length xs)) (sym l) in
    record {
      bytes = q.bytes
          ∙ ap (λ (k : ℕ). sets mid k ys) e
          ∙ sets-min ys mid (at + length xs)
          ∙ ap (λ (u : List ℕ). sets u (at + length xs) ys) p.bytes
          ∙ sym (sets_append xs ys out at);
      end = omega (arith, q.end, length-append xs ys);
    }

pub puts_as : {out : List ℕ} {at : ℕ} {xs ys after : List ℕ} {r : ℕ} → xs ≡ ys → Puts out at xs after r → Puts out at ys after r
puts_as {out} {at} {xs} {ys} {after} {r} e p = rw e at p

pub puts_moved : {out : List ℕ} {at : ℕ} {xs after after' : List ℕ} {r r' : ℕ} → after' ≡ after → r' ≡ r → Puts out at xs after r → Puts out at xs after' r'
puts_moved e f p = record { bytes = e ∙ p.bytes; end = f ∙ p.end }

pub puts_text : {out xs after : List ℕ} {r : ℕ} → Puts out 0 xs after r → Front out xs after r
puts_text {out} {xs} p = record { bytes = p.bytes ∙ sets_front xs out; end = omega (arith, p.end) }

-- ── bytes put whole ──

pub front_whole : {out xs after : List ℕ} {r : ℕ} → Front out xs after r → length xs ≤ length out → Whole xs out after r
front_whole {out} {xs} {after} {r} f fits =
    let kept = drop (length xs) out in
    let end : r ≡ length xs = omega (arith, f.end) in
    let room : length (xs ++ kept) ≤ length out = omega (arith, length-append xs kept, length-drop (length xs) out) in
    let whole : after ≡ xs ++ kept = f.bytes ∙ take_all (length out) (xs ++ kept) room in
    record {
      end = end;
      bytes = ap (take r) whole ∙ take_at xs kept r (sym end);
      behind = ap (drop r) whole ∙ drop_at xs kept r (sym end) ∙ ap (λ (k : ℕ). drop k out) (sym end);
    }

pub whole_as : {xs ys out after : List ℕ} {r : ℕ} → xs ≡ ys → Whole xs out after r → Whole ys out after r
whole_as e w = record { end = w.end ∙ ap length e; bytes = w.bytes ∙ e; behind = w.behind }
