use Rattle.std.proofs.Common.{◌<◌, ◌∙◌, length, sym, ap, subst, arith}
use Rattle.table_file.specs.Tables.{Contents, part_for, part_place}
use Rattle.table_file.specs.Inside.KeptPart.{StandsInTable}
use Rattle.table_file.specs.Inside.OpenedParts.{plain_parts}
use Rattle.table_file.proofs.Views.{whole_at, stands_at}
use Rattle.table_file.proofs.table.Table.part.Goals as goal

pub invariant_of-result : goal.invariant_of-result
invariant_of-result c =
    let a = c.self.inside in
    let k = c.place-k.result in
    let o = c.index.result.now in
    let lt : k < length (plain_parts a.parts.items) = omega (arith, c.place-k.ensures.known, ap (λ (t : Contents). length t.parts) c.self.view_is) in
    let at = c.place-k.ensures.is ∙ ap (λ (t : Contents). part_place (part_for t c.args.side c.args.file)) (sym c.self.view_is) in
    record {
      whole = whole_at a k o c.self.invariant lt c.index.ensures;
      stands = subst (λ (t : Contents). StandsInTable (part_for t c.args.side c.args.file) o) c.self.view_is (stands_at a c.args.side c.args.file k o c.self.invariant lt c.index.ensures at);
    }
