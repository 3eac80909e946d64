use Rattle.std.proofs.Common.{arith, rules, ℕ, ◌<◌, ◌+◌, sym, ◌∙◌}
use Rattle.board_core.specs.Moves.{Stands, IsTaken}
use Rattle.board_core.specs.declared.piece.Kind.TheVariants.{King}
use Rattle.board_core.proofs.Sweep.{Rests, Rests-without}
use Rattle.board_core.proofs.SideSets.{Rests-all, no_king_below, king_to_come}
use Rattle.board_core.proofs.SoleKing.{the_king}
use Rattle.board_core.proofs.king.king_of.Goals as goal

pub lowest-square-requires : goal.lowest-square-requires
lowest-square-requires c =
    let king = the_king c.args.men.now c.args.side c.requires.one in
    rw c.requires.own (king_to_come c.args.men.now c.args.side 0 _ king.square (Rests-all c.args.men.now c.args.side) (λ s lt. absurd (omega arith)) (omega (arith, king.on_board)) king.stands)

pub loop-next-init : goal.loop-next-init
loop-next-init c = record {
  rests = rw c.requires.own (Rests-all c.args.men.now c.args.side);
  below = λ s lt. absurd (omega arith);
  here = c.lowest-square.ensures.here;
  first = c.lowest-square.ensures.first;
}

-- the lowest square that is left has no king
not_here : (c : goal.After-number-next) → Stands c.args.men.now c.loop-next.square c.args.side King → ⊥
not_here c st = let x = c.stands.ensures.1 st in search rules

swept : (c : goal.After-number-next) → Rests (IsTaken c.args.men.now c.args.side) (c.loop-next.square + 1) c.without-rest.result
swept c = Rests-without _ _ _ _ _ (omega arith) c.loop-next.invariant.rests c.loop-next.invariant.first c.loop-next.invariant.here c.without-rest.ensures.gone c.without-rest.ensures.kept

bare : (c : goal.After-number-next) → (s : ℕ) → s < c.loop-next.square + 1 → Stands c.args.men.now s c.args.side King → ⊥
bare c = no_king_below _ _ _ _ _ c.loop-next.invariant.rests c.loop-next.invariant.first (omega arith) c.loop-next.invariant.below (not_here c)

pub lowest-square-requires-in-loop-next : goal.lowest-square-requires-in-loop-next
lowest-square-requires-in-loop-next c =
    let king = the_king c.args.men.now c.args.side c.requires.one in
    king_to_come c.args.men.now c.args.side _ _ king.square (swept c) (bare c) (omega (arith, king.on_board)) king.stands

pub loop-next-preserved : goal.loop-next-preserved
loop-next-preserved c = record {
  rests = rw c.number-next.ensures.value (swept c.before);
  below = rw c.number-next.ensures.value (bare c.before);
  here = c.lowest-square-in-loop-next.ensures.here;
  first = c.lowest-square-in-loop-next.ensures.first;
}

pub returns-clause-only : goal.returns-clause-only
returns-clause-only c = λ s b st.
    let king = the_king c.args.men.now c.args.side c.requires.one in
    let here = king.only c.loop-next.square (c.stands.ensures.0 c.loop-next-test.false) in
    king.only s st ∙ sym here
