-- The entries that are not 0 are the bookings.
use mathlib.Core.Path.{◌≡◌, ◌∙◌}
use mathlib.Core.Bool.{not}
use Rattle.std.proofs.Common.{rules, ◌==◌, count_by}
use Rattle.bookings.proofs.BookingLaws.{count-bookings}
use Rattle.bookings.proofs.table.count_bookings.Goals as goal

pub returns : goal.returns
returns c =
    let bs = c.args.booked.now in
    let counted : c.count.result ≡ count_by (λ n. not (n == 0)) bs = search rules in
    counted ∙ count-bookings 0 bs
