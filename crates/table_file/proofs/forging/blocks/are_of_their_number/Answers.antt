use Rattle.std.proofs.Common.{refl, arith}
use Rattle.table_file.proofs.Laying.{bytes_of_number}
use Rattle.table_file.proofs.forging.blocks.are_of_their_number.Goals as goal

pub returns : goal.returns
returns c = bytes_of_number c.args.bytes.now _ (λ i. omega (arith, c.type_inv.bytes i)) refl
