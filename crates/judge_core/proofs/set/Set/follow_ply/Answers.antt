use Rattle.std.proofs.Common.{◌∙◌, sym, ap, subst, arith, take, List, [], ◌∷◌, ◌++◌, ◌+◌}
use Rattle.board_core.specs.declared.parts.Parts.{Parts}
use Rattle.board_core.specs.declared.moves.Move.{Move}
use Rattle.board_core.specs.ComputedMoves.{position_after}
use Rattle.judge_core.specs.Standings.{IsAt}
use Rattle.judge_core.proofs.WholeGames.{is_first, still_none, one_on, is_illegal}
use Rattle.std.specs.Option.{option_and_then}
use Rattle.std.proofs.lemmas.List.{take_more}
use Rattle.judge_core.specs.Answers.{ListsMovesForVerdict}
use Rattle.judge_core.specs.Games.{position_after_all}
use Rattle.judge_core.specs.Tables.{Tables}
use Rattle.judge_core.proofs.Plies.{goes_on}
use Rattle.judge_core.proofs.Rule.{always_err}
use Rattle.judge_core.proofs.set.Set.follow_ply.Goals as goal

pub returns-in-Some-clause-value : goal.returns-in-Some-clause-value
returns-in-Some-clause-value c = λ rules tables delay at before. (
  is_first rules c.args.moves.now c.args.ply c.args.standing.now at before c.in-Some.verdict (omega (arith, c.requires)) (sym (c.verdict.ensures rules (take c.args.ply c.args.moves.now) delay at) ∙ c.in-Some.is),
  at,
)

pub returns-in_default-play-clause-value : goal.returns-in_default-play-clause-value
returns-in_default-play-clause-value c = λ rules tables delay at before. (
  is_illegal rules c.args.moves.now c.args.ply c.args.standing.now at before c.index-moves-ply.result c.requires
      (sym (c.verdict.ensures rules (take c.args.ply c.args.moves.now) delay at) ∙ c.in_default.is) c.index-moves-ply.is
      (ap (λ (p : Parts). position_after p c.index-moves-ply.result) (sym c.position.ensures) ∙ sym c.play.ensures.computed ∙ c.in_default-play.is),
  at,
)

pub returns-clause-value : goal.returns-clause-value
returns-clause-value c = λ rules tables delay at before.
    let m : Move = c.index-moves-ply.result in
    let none = sym (c.verdict.ensures rules (take c.args.ply c.args.moves.now) delay at) ∙ c.in_default.is in
    let legal = ap (λ (p : Parts). position_after p m) (sym c.position.ensures) ∙ sym c.play.ensures.computed ∙ c.in-Some-play.is in (
      subst (λ (ms : List Move). IsAt rules ms c.in_ok-standing.field-0) (one_on rules c.args.moves.now c.args.ply c.args.standing.now at before m c.requires c.index-moves-ply.is)
          (c.in_ok-standing.ensures.at rules (take c.args.ply c.args.moves.now) m tables at legal),
      still_none rules c.args.moves.now c.args.ply c.args.standing.now at before none,
    )

pub returns-in_err-standing-clause-memory : goal.returns-in_err-standing-clause-memory
returns-in_err-standing-clause-memory c = λ rules tables at.
    let m : Move = c.index-moves-ply.result in
    let legal = ap (λ (p : Parts). position_after p m) (sym c.position.ensures) ∙ sym c.play.ensures.computed ∙ c.in-Some-play.is in
    let on = goes_on rules.start (take c.args.ply c.args.moves.now) m ∙ ap (option_and_then (λ x. position_after x m)) at.position ∙ legal in
    let ms : List Move = take c.args.ply c.args.moves.now in
    let there = ap (position_after_all rules.start) (take_more c.args.moves.now c.args.ply m c.requires ∙ ap (λ (x : Move). ms ++ x ∷ []) (sym c.index-moves-ply.is)) ∙ on in
    always_err c.from_residual.result (c.args.ply + 1, c.in-Some-play.position, there, subst (λ (t : Tables). ListsMovesForVerdict t c.in-Some-play.position) (sym tables) c.in_err-standing.ensures.memory)
