-- What is known of an input only where its bytes are.
--     known_input     what follows from a fact about the bytes holds where the fact does
use Prim.Native.Nat.{ℕ}
use mathlib.Core.List.{List}
use Rattle.std.specs.Prelude.{Option, None, Some, IfSome}

pub known_input : {P Q : List ℕ → Type 0} (input : Option (List ℕ)) → ((s : List ℕ) → P s → Q s)
    → IfSome input P → IfSome input Q
known_input None follows p = tt
known_input (Some s) follows p = follows s p
