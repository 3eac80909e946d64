use Rattle.std.proofs.Common.{◌≡◌, ◌∙◌, ap, sym, subst, Some}
use Rattle.board_core.specs.declared.parts.Parts.{Parts}
use Rattle.board_core.specs.ComputedMoves.{position_after}
use Rattle.probe_api.specs.Plays.{Play, IsPlayed, TellsMove}
use Rattle.probe_api.specs.contracts.game.Game.{the_view}
use Rattle.probe_api.proofs.Playing.{told_on}
use Rattle.probe_api.proofs.game.tell.Goals as goal

pub returns-clause-is : goal.returns-clause-is
returns-clause-is c =
    let old : Play = the_view c.game.inside in let new : Play = the_view c.game-2.inside in
    let legal : position_after old.standing.position c.args.m.now ≡ Some c.in-Some.position =
    ap (λ (p : Parts). position_after p c.args.m.now) (sym c.position.ensures) ∙ sym c.play.ensures.computed ∙ c.in-Some.is in
    subst (λ (g : Play). TellsMove c.args.set.now.tables c.args.m.now g c.verdict.result new) c.game.view_is
    (told_on c.args.set.now.tables c.args.m.now old new c.verdict.result c.in-Some.position c.in-Ok.standing (sym c.is_some.ensures ∙ c.if-is_some.false) legal c.in-Ok.ensures.at
    (λ rules moves delay at before. subst (IsPlayed rules moves) (sym c.game-2.view_is) (c.at.ensures rules moves delay at before)) c.verdict.ensures)
