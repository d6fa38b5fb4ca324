-- The text lies within its buffer.
use Rattle.std.proofs.Common.{sym}
use Rattle.std.proofs.lemmas.List.{length-take-le}
use Rattle.printing.proofs.InputText.{text_within}
use Rattle.bay.specs.Printed.{printed_lines}
use Rattle.bay.proofs.reply.Goals as goal

pub slice_bounds-out-end : goal.slice_bounds-out-end
slice_bounds-out-end g c = text_within printed_lines _ _ c.printed-end.ensures

pub slice_bounds-write_all-end : goal.slice_bounds-write_all-end
slice_bounds-write_all-end g c =
    let within = text_within printed_lines _ _ c.printed-end.ensures in
    sym (length-take-le c.printed-end.result c.printed-end.new.out within)
