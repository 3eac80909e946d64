use Rattle.std.proofs.Common.{◌≡◌, [], ◌∷◌, ◌++◌, sym, ap, subst, ◌∙◌}
use Rattle.board_core.specs.declared.parts.Parts.{Parts}
use Rattle.board_core.specs.ComputedMoves.{position_after}
use Rattle.judge_core.specs.Games.{position_after_all}
use Rattle.arbiter_core.specs.Inside.Playing.{IsPlayedFrom}
use Rattle.arbiter_core.specs.Resting.{Rest}
use Rattle.arbiter_core.proofs.PlanLaws.{next_from}
use Rattle.arbiter_core.proofs.state.ArbiterState.position_after.Goals as goal

pub returns : goal.returns
returns c =
    let at : IsPlayedFrom c.self.inside.terms.start c.self.inside.played.record.moves c.self.inside.played.standing = subst (λ (r : Rest). IsPlayedFrom r.start r.kept.moves r.standing) (sym c.self.view_is) c.requires in
    subst (λ (r : Rest). c.play.result ≡ position_after_all r.start (r.kept.moves ++ c.args.m ∷ [])) c.self.view_is
    (c.play.ensures.computed ∙ ap (λ (p : Parts). position_after p c.args.m) c.position.ensures
    ∙ sym (next_from c.self.inside.terms.start c.self.inside.played.record.moves c.self.inside.played.standing c.args.m at))
