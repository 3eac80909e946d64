use Rattle.std.proofs.Common.{◌≡◌, [], ◌∷◌, ◌++◌, ℕ, sym, ap, subst, ◌∙◌}
use Rattle.board_core.specs.ComputedMoves.{position_after}
use Rattle.judge_core.specs.Tables.{Tables}
use Rattle.judge_core.specs.Ruling.{ruling}
use Rattle.judge_core.specs.Standings.{Reached, IsAt}
use Rattle.judge_core.proofs.StoodPlies.{moves_on}
use Rattle.judge_core.proofs.set.Set.move_on.Goals as goal

pub returns-clause-at : goal.returns-clause-at
returns-clause-at c = λ rules moves m tables h legal.
    let s : Reached = record { position = c.standing.inside.position; judged = c.standing.inside.judged; plies = c.standing.inside.plies } in
    let same : s ≡ c.args.standing.now = c.standing.view_is in
    subst (λ (n : ℕ). IsAt rules (moves ++ m ∷ []) (record { position = c.args.position; judged = c.in_ok-judged.judged; plies = n })) (sym c.plies_by-plies.ensures.is)
    (moves_on rules moves m s c.args.position c.in_ok-judged.judged (subst (IsAt rules moves) (sym same) h) (ap (λ (x : Reached). position_after x.position m) same ∙ legal)
    (c.in_ok-judged.ensures.value ∙ ap (λ (t : Tables). ruling t c.args.position) (sym tables)))
