use Rattle.std.proofs.Common.{◌<◌, ◌∙◌, length, cond, sym, ap, subst}
use Rattle.table_file.specs.Tables.{Contents, part_for, part_place}
use Rattle.table_file.specs.Inside.Opened.{contents_of}
use Rattle.table_file.proofs.PartPlaces.{within_parts, place_in_one, place_in_two}
use Rattle.table_file.proofs.table.Table.place.Goals as goal

pub returns-in-One-clause-known : goal.returns-in-One-clause-known
returns-in-One-clause-known c =
    let a = c.self.inside in
    let p = part_for (contents_of a) c.args.side c.args.file in
    let own = c.own_file-file.ensures.is ∙ ap (λ b. cond b c.args.file 0) c.self.invariant.has_pawns in
    let here = place_in_one p c.own_file-file.result (rw c.in-One.is at c.self.invariant.sides) own in
    let count = sym (ap (λ (t : Contents). length t.parts) c.self.view_is) ∙ c.self.invariant.parts in
    subst (λ n. n < length c.args.self.now.parts) (sym here) (subst (λ n. part_place p < n) (sym count) (within_parts p c.own_file-file.ensures.left))

pub returns-in-Two-clause-known : goal.returns-in-Two-clause-known
returns-in-Two-clause-known c =
    let a = c.self.inside in
    let p = part_for (contents_of a) c.args.side c.args.file in
    let own = c.own_file-file.ensures.is ∙ ap (λ b. cond b c.args.file 0) c.self.invariant.has_pawns in
    let here = place_in_two p c.own_file-file.result c.side_number.result (rw c.in-Two.is at c.self.invariant.sides) own c.side_number.ensures.is c.side_number.ensures.few in
    let count = sym (ap (λ (t : Contents). length t.parts) c.self.view_is) ∙ c.self.invariant.parts in
    subst (λ n. n < length c.args.self.now.parts) (sym here) (subst (λ n. part_place p < n) (sym count) (within_parts p c.own_file-file.ensures.left))
