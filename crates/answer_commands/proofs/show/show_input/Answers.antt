use Rattle.std.proofs.Common.{◌∷◌, [], refl}
use Rattle.std.specs.Prelude.{Ok, Err}
use Rattle.line_teller.specs.ToldLines.{cut_words}
use Rattle.timeline.specs.Events.{InputRead}
use Rattle.answer_commands.specs.Inside.Streaming.{ShowsStream}
use Rattle.answer_commands.specs.Show.{NotShown, ShowsMessages}
use Rattle.answer_commands.proofs.EndLaws.{unread_by}
use Rattle.answer_parts.proofs.PrintLaws.{then_does, then_prints}
use Rattle.answer_commands.proofs.ShowLaws.{shows_input}
use Rattle.answer_commands.proofs.show.show_input.Goals as goal

pub returns-in-Ok-clause-made : goal.returns-in-Ok-clause-made
returns-in-Ok-clause-made g c =
    let o = g.S.System.outside c.args.system.now in
    let bytes = c.in-Ok.stream.items in
    let shown = rw c.deref.ensures.value at c.show_messages.ensures.made in
    then_does o _ _ _ (InputRead (Ok bytes) ∷ []) (ShowsStream bytes) (ShowsMessages o.input) c.show_messages.result (shows_input o.input bytes (c.in-Ok.ensures.bytes, c.in-Ok.ensures.short)) c.in-Ok.ensures.made shown

pub returns-in-Err-clause-made : goal.returns-in-Err-clause-made
returns-in-Err-clause-made g c =
    let o = g.S.System.outside c.args.system.now in
    let fault = c.in-Err.fault in
    then_prints o _ _ _ (InputRead (Err fault) ∷ []) (ShowsMessages o.input) (cut_words fault ∷ []) 1 c.print_unread.result (NotShown fault (unread_by o.input _ fault refl c.in-Err.ensures.cause c.in-Err.ensures.memory) refl refl) c.in-Err.ensures.made c.print_unread.ensures.made
