use Rattle.std.proofs.Common.{◌∙◌, sym, ap}
use Rattle.std.specs.Prelude.{slice_get}
use Rattle.table_file.specs.Tables.{PartAt, flags_in}
use Rattle.table_file.specs.Distances.{flags_or_none, file_flags}
use Rattle.table_file.specs.Inside.KeptPart.{part_of_table}
use Rattle.table_file.proofs.PartPlaces.{one_side}
use Rattle.table_file.proofs.table_part.TablePart.flags.Goals as goal

pub returns-clause-dtz : goal.returns-clause-dtz
returns-clause-dtz c = λ kind.
    let p = part_of_table c.self.inside in
    let dtz = ap (λ (q : PartAt). q.table.kind) c.self.view_is ∙ kind in
    sym (ap (λ o. flags_or_none (flags_in o)) c.self.invariant.stands.found)
    ∙ ap (λ k. flags_or_none (flags_in (slice_get p.table.parts k))) (one_side p dtz)
    ∙ ap (λ (q : PartAt). file_flags q) c.self.view_is
