-- What was read of a sheet, as a table of numbers, for tests: what the C door gives of it (read_door's ReadDoor).
--     head_numbers h        benches, p, q and target
--     job_numbers js        minutes and benches allowed of each job
--     numbers_read c        those of the head, then the minutes booked on each of 64 benches, then those of the jobs
--     size_read c           the bytes that they take
--     inspect_word r room   the number of jobs, or the fault; 13 where the numbers do not fit
--     inspect_table r t     the table afterwards
use Rattle.std.specs.Prelude.{ℕ, List}
use Rattle.fields.specs.Contents.{Contents}
use Rattle.frame.specs.Reading.{Read}
use Rattle.read_door.specs.ReadDoor.{contents_numbers, contents_bytes, read_word, contents_table}
pub use Rattle.read_door.specs.ReadDoor.{head_numbers}
unfoldable pub use Rattle.read_door.specs.ReadDoor.{job_numbers}

abbrev pub numbers_read : Contents → List ℕ
numbers_read = contents_numbers

abbrev pub size_read : Contents → ℕ
size_read = contents_bytes

abbrev pub inspect_word : Read → ℕ → ℕ
inspect_word = read_word

abbrev pub inspect_table : Read → List ℕ → List ℕ
inspect_table = contents_table
