use Rattle.std.proofs.Common.{refl, [], arith}
use Rattle.judge_core.specs.Games.{Rules}
use Rattle.probe_api.proofs.game.begin_at.Goals as goal

pub returns-in-Ok-clause-game : goal.returns-in-Ok-clause-game
returns-in-Ok-clause-game c =
    let rules : Rules = record { start = c.args.start.now; tables = c.args.set.now.tables; delay = c.args.delay } in
    c.at.ensures rules [] refl (c.in-Ok.ensures.at rules refl refl) (λ j low. absurd (omega (arith, low)))
