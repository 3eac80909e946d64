use Rattle.std.proofs.Common.{subst}
use Rattle.judge_core.specs.Tables.{Holding}
use Rattle.json_lines.specs.ApiTold.{IsPrecisionAfter}
use Rattle.json_lines.proofs.Precise.{first_move, first_playable}
use Rattle.json_lines.proofs.api_told.ApiMove.first_of.Goals as goal

pub move_told-requires : goal.move_told-requires
move_told-requires c =
    first_playable c.args.set.now.tables c.args.position.now c.args.moves.now c.in-Some.m.now c.in-Some.field-0-1.now c.requires c.in-Some.ensures.cases.0

pub returns-in_ok-first-in-Some-clause-told : goal.returns-in_ok-first-in-Some-clause-told
returns-in_ok-first-in-Some-clause-told c =
    let precise = subst (λ (s : Holding). IsPrecisionAfter s.tables c.in_ok-first-in-Some.first) c.in_ok-told-in-Some.ensures.unchanged c.in_ok-first-in-Some.ensures.precise in
    first_move c.args.set.now.tables c.args.position.now c.args.moves.now c.in-Some.m.now c.in-Some.field-0-1.now c.in_ok-first-in-Some.first c.in_ok-told-in-Some.told
    c.requires c.in-Some.ensures.cases.0 c.in_ok-told-in-Some.ensures.told c.in_ok-first-in-Some.ensures.told precise
