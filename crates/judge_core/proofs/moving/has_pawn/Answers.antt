use Rattle.std.proofs.Common.{◌∙◌, sym}
use Rattle.judge_core.proofs.Quiet.{all_men, pawnless, one_less, not_there, not_false}
use Rattle.judge_core.proofs.moving.has_pawn.Goals as goal

pub loop-init : goal.loop-init
loop-init c = all_men c.args.position.now _ c.occupied-rest.ensures

pub returns-then-is_empty : goal.returns-then-is_empty
returns-then-is_empty c = λ none. pawnless c.args.position.now _ c.loop.invariant (c.is_empty.ensures.0 c.if-is_empty.true)

pub loop-preserved : goal.loop-preserved
loop-preserved c = one_less c.args.position.now _ _ _ c.loop.invariant (not_there c.args.position.now _ _ _ c.side.ensures c.piece_at.ensures (sym c.is_pawn_of.ensures ∙ c.if-is_pawn_of.false)) c.without-rest.ensures.kept

pub returns : goal.returns
returns c = λ none. pawnless c.args.position.now _ c.loop.invariant (c.is_empty-2.ensures.0 (not_false _ none))
