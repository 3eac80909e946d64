use Rattle.std.proofs.Common.{subst, w32}
use Rattle.std.proofs.lemmas.Int.{to_z-of_z}
use Rattle.std.specs.Fmt.{signed_decimal}
use Rattle.std.specs.Io.KnownBytes.{Appends}
use Rattle.json_lines.proofs.Pieces.{writes_number}
use Rattle.json_lines.proofs.members.put_number.Goals as goal

pub returns-in-Ok : goal.returns-in-Ok
returns-in-Ok g c = writes_number c.args.number _ _ c.ranges.number.sfits (subst (λ z. Appends (g.W.Write.contents c.args.out.now) (g.W.Write.contents c.write.new.self) (signed_decimal z)) (to_z-of_z w32 c.args.number c.ranges.number) c.in-Ok.ensures.bytes)
