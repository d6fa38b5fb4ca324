-- The numbers of faults end at 13, so the word fits.
use native.Mathlib.Omega.{arith}
use Rattle.fields.proofs.NumberLaws.{number_small}
use Rattle.tables.proofs.words.fault_word.Goals as goal

pub overflow_mul-result : goal.overflow_mul-result
overflow_mul-result c = omega (arith, number_small c.args.f)

pub overflow_add-result : goal.overflow_add-result
overflow_add-result c = omega (arith, number_small c.args.f)
