use Rattle.std.proofs.Common.{◌∷◌, [], map, refl}
use Rattle.std.specs.Prelude.{Ok, Err}
use Rattle.line_teller.specs.ToldLines.{cut_words}
use Rattle.move_msg.specs.Files.{table_file_of}
use Rattle.timeline.specs.Events.{InputRead}
use Rattle.answer_commands.specs.Inside.Answering.{PrintsAnswered}
use Rattle.answer_commands.specs.Inside.Running.{RunsRead}
use Rattle.answer_commands.specs.Run.{NoSchedule}
use Rattle.answer_commands.proofs.EndLaws.{unread_by}
use Rattle.answer_parts.proofs.PrintLaws.{then_does, then_prints}
use Rattle.answer_commands.proofs.RunLaws.{prints_run}
use Rattle.answer_commands.proofs.run.run_input.Goals as goal

pub returns-in-Ok-clause-made : goal.returns-in-Ok-clause-made
returns-in-Ok-clause-made g c =
    let o = g.S.System.outside c.args.system.now in
    let text = c.in-Ok.text.items in
    let files = map table_file_of c.args.files.now in
    let answered = rw c.deref.ensures.value at c.answer_text.ensures in
    then_does o _ _ _ (InputRead (Ok text) ∷ []) (PrintsAnswered c.answer_text.result) (RunsRead o c.args.task.now c.args.files.now) c.print_answered.result (prints_run o.input c.args.task.now files text c.answer_text.result (c.in-Ok.ensures.bytes, c.in-Ok.ensures.short) answered) c.in-Ok.ensures.made c.print_answered.ensures.made

pub returns-in-Err-clause-made : goal.returns-in-Err-clause-made
returns-in-Err-clause-made g c =
    let o = g.S.System.outside c.args.system.now in
    let fault = c.in-Err.fault in
    then_prints o _ _ _ (InputRead (Err fault) ∷ []) (RunsRead o c.args.task.now c.args.files.now) (cut_words fault ∷ []) 1 c.print_unread.result (NoSchedule fault (unread_by o.input _ fault refl c.in-Err.ensures.cause c.in-Err.ensures.memory) refl refl) c.in-Err.ensures.made c.print_unread.ensures.made
