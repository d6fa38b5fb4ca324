-- The last k of the eight bytes of v are its k bytes.
use Rattle.packing.proofs.PutLaws.{number_put}
use Rattle.packing.proofs.put.put.Goals as goal

pub returns : goal.returns
returns c =
    let a = c.args in
    number_put a.out.now a.at a.k a.v _ _ c.requires.0 c.to_be_bytes.ensures c.copy_from_slice.ensures.after
