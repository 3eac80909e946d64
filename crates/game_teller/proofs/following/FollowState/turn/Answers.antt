use Rattle.std.proofs.Common.{[], refl}
use Rattle.timeline.proofs.EventLaws.{adds_none}
use Rattle.game_teller.specs.Inside.Steps.{GivesNone, IsRefused, NoRoom}
use Rattle.game_teller.proofs.FollowLaws.{later_same}
use Rattle.game_teller.proofs.following.FollowState.turn.Goals as goal

pub returns-in-Err-clause-made : goal.returns-in-Err-clause-made
returns-in-Err-clause-made g c =
    let none = rw c.position.ensures at c.in-Err.ensures.err in
    ([], adds_none (g.S.System.outside c.args.system.now) _, GivesNone none refl)

pub returns-in-Err-clause-later : goal.returns-in-Err-clause-later
returns-in-Err-clause-later g c = later_same (g.J.PlyJudge.facts c.args.judge.now)

pub returns-in-Ok-Ok-clause-made : goal.returns-in-Ok-Ok-clause-made
returns-in-Ok-Ok-clause-made g c =
    let spelled = rw c.position.ensures at c.in-Ok.ensures.ok in
    let made = rw c.in-Ok-Ok.field-0-is at c.in-Ok-Ok.ensures.made in
    let on = rw c.in-Ok-Ok.field-0-is at c.in-Ok-Ok.ensures.on in
    (made.0, made.1, record { position = c.in-Ok.position; spelled = spelled; reads = made.2; on = on; ply = refl; notation = refl; delay = refl })

pub returns-in-Ok-Err-clause-made : goal.returns-in-Ok-Err-clause-made
returns-in-Ok-Err-clause-made g c =
    let spelled = rw c.position.ensures at c.in-Ok.ensures.ok in
    let made = rw c.in-Ok-Err.field-0-is at c.in-Ok-Err.ensures.made in
    let refused = rw c.in-Ok-Err.field-0-is at c.in-Ok-Err.ensures.refused in
    (made.0, made.1, IsRefused c.in-Ok.position c.in-Ok-Err.refusal spelled made.2 refused refl)

pub returns-in-Err-move_on-clause-made : goal.returns-in-Err-move_on-clause-made
returns-in-Err-move_on-clause-made g c =
    let spelled = rw c.position.ensures at c.in-Ok.ensures.ok in
    let made = c.in-Err-move_on.ensures.made in
    (made.0, made.1, NoRoom c.in-Ok.position _ spelled made.2 c.in-Err-move_on.ensures.memory refl)
