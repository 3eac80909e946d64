use Rattle.std.proofs.Common.{◌≡◌, map, sym, ap, ◌∙◌}
use Rattle.move_msg.specs.Files.{table_file_of}
use Rattle.relay_world.specs.declared.fault.WorldFault.TheVariants.{BadTable, DuplicateTable, OutOfMemory}
use Rattle.relay_world.specs.Gathering.{file_as, tables_of}
use Rattle.answer_commands.proofs.ScheduleLaws.{in_files, no_duplicate, the_fault}
use Rattle.answer_commands.proofs.run.world_of.Goals as goal

pub refused_table-requires-clause-within : goal.refused_table-requires-clause-within
refused_table-requires-clause-within c =
    let bad = c.in-Err-BadTable in
    let same = ap (map (λ f. file_as f.0.now f.1.now)) c.deref.ensures.value ∙ c.in_ok-named.ensures in
    let first = the_fault _ bad.field-0 (BadTable bad.place bad.fault) (λ (e : BadTable bad.place bad.fault ≡ OutOfMemory). cc) (cc) bad.ensures.faults in
    in_files table_file_of c.args.files.now bad.place bad.fault (ap tables_of (sym same) ∙ first)

pub unreachable-requires : goal.unreachable-requires
unreachable-requires c =
    let bad = c.in-Err-DuplicateTable in
    let same = ap (map (λ f. file_as f.0.now f.1.now)) c.deref.ensures.value ∙ c.in_ok-named.ensures in
    let first = the_fault _ bad.field-0 (DuplicateTable bad.field-0-0) (λ (e : DuplicateTable bad.field-0-0 ≡ OutOfMemory). cc) bad.field-0-is bad.ensures.faults in
    no_duplicate c.reads_what_is_laid_out.ensures (map table_file_of c.args.files.now) bad.field-0-0 c.requires.1 (ap tables_of (sym same) ∙ first)
