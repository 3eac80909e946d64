use Rattle.std.proofs.Common.{refl}
use Rattle.game_teller.specs.Followings.{StartNeedsBadFile, StartNeedsMemory}
use Rattle.game_teller.proofs.following.begun.Goals as goal

pub returns-in-Ok-Ok-clause-made : goal.returns-in-Ok-Ok-clause-made
returns-in-Ok-Ok-clause-made g c =
    let made = rw c.in-Ok-Ok.field-0-is at c.in-Ok-Ok.ensures.made in
    let stands = rw c.in-Ok-Ok.field-0-is at c.in-Ok-Ok.ensures.begun in
    (made.0, made.1, record { reads = made.2; stands = stands; ply = refl; notation = refl; delay = refl })

pub returns-in-Ok-Err-clause-made : goal.returns-in-Ok-Err-clause-made
returns-in-Ok-Err-clause-made g c =
    let made = rw c.in-Ok-Err.field-0-is at c.in-Ok-Err.ensures.made in
    let refused = rw c.in-Ok-Err.field-0-is at c.in-Ok-Err.ensures.refused in
    (made.0, made.1, StartNeedsBadFile _ c.in-Ok-Err.refusal made.2 refused refl)

pub returns-in-Err-clause-made : goal.returns-in-Err-clause-made
returns-in-Err-clause-made g c =
    let made = c.in-Err.ensures.made in
    (made.0, made.1, StartNeedsMemory _ _ made.2 c.in-Err.ensures.memory refl)
