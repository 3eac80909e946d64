use Rattle.std.proofs.Common.{◌∙◌, List, ap, length, sym}
use Rattle.std.proofs.lemmas.List.{length-map}
use Rattle.std.specs.Prelude.{Err}
use Rattle.answer_parts.specs.Lines.{refusal_words}
use Rattle.arbiter_server.specs.Games.{common_with}
use Rattle.host_commands.proofs.HostLaws.{noted_so}
use Rattle.host_commands.proofs.OutlivingLaws.{after_text, goes_on, is_refused, text_lost}
use Rattle.host_commands.proofs.QuietLaws.{start_quiet}
use Rattle.host_commands.specs.Hosts.{NotesAndRuns, StartsHost}
use Rattle.host_commands.specs.Inside.HostParts.{host_view}
use Rattle.host_commands.specs.Steps.{AfterText}
use Rattle.move_msg.specs.Files.{File, table_file_of}
use Rattle.host_commands.proofs.hosting.host_by.Goals as goal

pub returns-in-Err-clause-made : goal.returns-in-Err-clause-made
returns-in-Err-clause-made g c =
    let o = g.S.System.outside c.args.system.now in
    let h = c.args.task.now in
    let given = c.args.sources.now in
    is_refused o h _ _ _ (StartsHost o h given) (λ at. AfterText at.line (NotesAndRuns o h (length given.files) at)) (refusal_words c.in-Err.refusal) c.print_refusal.result (start_quiet o h given) c.in-Err.ensures c.print_refusal.ensures.made

pub returns-in-Err-print_out-clause-made : goal.returns-in-Err-print_out-clause-made
returns-in-Err-print_out-clause-made g c =
    let o = g.S.System.outside c.args.system.now in
    let h = c.args.task.now in
    let given = c.args.sources.now in
    let at = host_view h c.in-Ok.opened in
    goes_on o h _ _ _ (StartsHost o h given) (λ at. AfterText at.line (NotesAndRuns o h (length given.files) at)) at (Err c.in-Err-print_out.fault) (start_quiet o h given) c.in-Ok.ensures
    (text_lost o h _ _ at.line (NotesAndRuns o h (length given.files) at) c.in-Err-print_out.fault (rw c.as_str.ensures.value at c.in-Err-print_out.ensures.made))

pub returns-clause-made : goal.returns-clause-made
returns-clause-made g c =
    let o = g.S.System.outside c.args.system.now in
    let h = c.args.task.now in
    let given = c.args.sources.now in
    let at = host_view h c.in-Ok.opened in
    let common = common_with c.config_for.result c.in-Ok.opened.tables in
    let files = sym (length-map c.files.result.now table_file_of) ∙ ap (λ (fs : List File). length fs) c.files.ensures.files in
    let ran = noted_so o h common at _ (length given.files) _ _ _ c.serve_kept.result (rw c.deref.ensures.value at c.config_for.ensures c.in-Ok.opened.tables) files c.note_tables.ensures c.serve_kept.ensures.made in
    goes_on o h _ _ _ (StartsHost o h given) (λ at. AfterText at.line (NotesAndRuns o h (length given.files) at)) at c.serve_kept.result (start_quiet o h given) c.in-Ok.ensures
    (after_text o h _ _ _ at.line (NotesAndRuns o h (length given.files) at) tt c.serve_kept.result (rw c.as_str.ensures.value at c.in-Ok-print_out.ensures.made) ran)
