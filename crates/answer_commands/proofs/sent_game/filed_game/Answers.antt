use Rattle.std.proofs.Common.{◌∷◌, ◌∙◌, [], ap, refl}
use Rattle.std.specs.Prelude.{Ok, Err}
use Rattle.answer_parts.specs.Lines.{refused_line}
use Rattle.answer_commands.specs.SentGames.{BadLine, IsGame, NotRead}
use Rattle.timeline.specs.Events.{FileRead}
use Rattle.answer_commands.proofs.sent_game.filed_game.Goals as goal

pub returns-in-Err : goal.returns-in-Err
returns-in-Err g c =
    let path = c.args.file.now.path.now in
    let fault = c.in-Err.fault in
    (FileRead path (Err fault) ∷ [], c.in-Err.ensures.made, NotRead fault (λ is. c.in-Err.ensures.cause (ap Err is)) (ap Err c.unread.ensures.words) refl)

pub returns-in-Ok-read_game : goal.returns-in-Ok-read_game
returns-in-Ok-read_game g c =
    let path = c.args.file.now.path.now in
    let text = c.in-Ok.bytes.items in
    (FileRead path (Ok text) ∷ [], c.in-Ok.ensures.made, IsGame text _ c.in-Ok.ensures.bytes (rw c.deref.ensures.value at c.in-Ok-read_game.ensures.ok) refl refl)

pub returns : goal.returns
returns g c =
    let path = c.args.file.now.path.now in
    let text = c.in-Ok.bytes.items in
    (FileRead path (Ok text) ∷ [], c.in-Ok.ensures.made, BadLine text _ c.in-Ok.ensures.bytes (rw c.deref.ensures.value at c.in-Err-read_game.ensures.err) (ap (λ n. Err (refused_line n)) (c.from.ensures ∙ c.line.ensures)) refl)
