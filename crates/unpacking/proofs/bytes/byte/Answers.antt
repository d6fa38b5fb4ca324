-- `byte`: an element of the slice is below 256, and past its end the list reads 0.
use native.Mathlib.Omega.{arith}
use mathlib.Core.Path.{refl, sym}
use lib.ListN.{get_or-eq_default}
use borrow.Author.Rules.{rules}
use Rattle.unpacking.proofs.bytes.byte.Goals as goal

pub returns-then-i-s : goal.returns-then-i-s
returns-then-i-s c = (refl, omega (arith, c.shared_slice_known-1.given c.args.i))

pub returns-else-i-s : goal.returns-else-i-s
returns-else-i-s c = (sym (get_or-eq_default c.args.s.now 0 c.if-i-s.false), search rules)
