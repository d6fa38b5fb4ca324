-- The numbers of a balance, for tables of numbers.
--     tree_balance, cycle_balance, crowded_balance, unknown_balance  the four numbers
--     number_of b     the number of a balance
--     numbered k      the balance with the number k; any number but these four stands for a tree
use Rattle.std.specs.Prelude.{ℕ, cond, eqb}
use Rattle.rocks.specs.declared.balancing.Balance.{Balance}
use Rattle.rocks.specs.declared.balancing.Balance.TheVariants.{Tree, OneCycle, Crowded, Unknown}

abbrev pub tree_balance : ℕ
tree_balance = 0

abbrev pub cycle_balance : ℕ
cycle_balance = 1

abbrev pub crowded_balance : ℕ
crowded_balance = 2

-- Of a bench that was not looked at yet.
abbrev pub unknown_balance : ℕ
unknown_balance = 3

abbrev pub number_of : Balance → ℕ
number_of Tree = tree_balance
number_of OneCycle = cycle_balance
number_of Crowded = crowded_balance
number_of Unknown = unknown_balance

abbrev pub numbered : ℕ → Balance
numbered k =
    cond (eqb k cycle_balance) OneCycle
    (cond (eqb k crowded_balance) Crowded (cond (eqb k unknown_balance) Unknown Tree))
