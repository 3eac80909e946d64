use Rattle.std.proofs.Common.{[], refl}
use Rattle.timeline.proofs.EventLaws.{adds_none}
use Rattle.answer_commands.specs.SentGames.{BadStart}
use Rattle.answer_commands.proofs.sent_game.told_game.Goals as goal

pub returns-in-Err : goal.returns-in-Err
returns-in-Err g c =
    let fault = rw c.as_bytes.ensures.value at c.in-Err.ensures.err in
    ([], adds_none (g.S.System.outside c.args.system.now) _, BadStart c.in-Err.fault fault refl refl)
