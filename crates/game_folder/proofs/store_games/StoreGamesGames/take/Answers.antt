use Rattle.std.proofs.Common.{[], refl, true, false, sym, ◌∙◌, ◌≡◌}
use Rattle.timeline.proofs.EventLaws.{adds_none}
use Rattle.game_folder.specs.StoreGames.{HadNoRoom, WasRefused}
use Rattle.game_folder.proofs.StoreLaws.{takes_stored}
use Rattle.game_folder.proofs.store_games.StoreGamesGames.take.Goals as goal

pub returns-then-not-may_give-clause-made : goal.returns-then-not-may_give-clause-made
returns-then-not-may_give-clause-made g c =
    let o = g.S.System.outside c.args.system.now in
    ([], adds_none o c.args.timeline.now, takes_stored o c.args.self.now c.args.stamp _ [] (WasRefused (λ may. let wrong : false ≡ true = sym c.if-not-may_give.true ∙ c.may_give.ensures.1 may in cc) refl refl) tt tt)

pub returns-in_default-clause-made : goal.returns-in_default-clause-made
returns-in_default-clause-made g c =
    let o = g.S.System.outside c.args.system.now in
    ([], adds_none o c.args.timeline.now, takes_stored o c.args.self.now c.args.stamp _ [] (HadNoRoom (c.may_give.ensures.0 c.if-not-may_give.false) refl refl) tt tt)

pub returns-clause-made : goal.returns-clause-made
returns-clause-made g c =
    let o = g.S.System.outside c.args.system.now in
    let h = c.look_up.ensures in
    (h.0, h.1, takes_stored o c.args.self.now c.args.stamp c.look_up.result h.0 h.2.taken h.2.ok h.2.gives)
