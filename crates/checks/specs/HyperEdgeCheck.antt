-- Fault 12, whatever the numbers.
--     too_wide h js               a share's part or a job's minutes that do not fit their field (that is fault 8 or 10)
--     hyper_edges_checked h js    12 where no number is too wide; else nothing is found here
use Rattle.std.specs.Prelude.{◌^◌, Bool, cond, ◌||◌, List, leb, Ok}
use Rattle.fields.specs.declared.sheet.Head.{Head}
use Rattle.fields.specs.declared.sheet.Job.{Job}
use Rattle.fields.specs.Tests.{Verdict, longest, hyper_edge_verdict}

abbrev pub too_wide : Head → List Job → Bool
too_wide h js = leb (2 ^ 7) h.p || leb (2 ^ 7) h.q || leb (2 ^ 20) (longest js)

unfoldable pub hyper_edges_checked : Head → List Job → Verdict
hyper_edges_checked h js = cond (too_wide h js) (Ok tt) (hyper_edge_verdict h js)
