use Rattle.std.proofs.Common.{arith, ap, sym, ◌∙◌, Some}
use Rattle.std.proofs.lemmas.Bool.{false≢true}
use Rattle.board_core.proofs.Safety.{men_of}
use Rattle.board_core.proofs.Preserved.{IsPosition-play}
use Rattle.board_core.proofs.position.Position.played.Goals as goal

pub invariant_of-result : goal.invariant_of-result
invariant_of-result c = (
  IsPosition-play c.self.inside.parts c.args.m.now c.play.new.copy c.self.invariant.0 (record {
    case = c.args.case;
    from_board = omega arith;
    to_board = omega arith;
    rule = rw c.self.view_is c.requires;
    becomes = c.play.ensures.made;
    safe = c.play.ensures.safe.0 c.if-not-play.false;
  }),
  c.play.ensures.sides,
)

pub returns-then-not-play-clause-only : goal.returns-then-not-play-clause-only
returns-then-not-play-clause-only c = λ safe.
    let t = c.play.ensures.safe.1 (rw (men_of c.self.inside.parts c.play.new.copy c.args.m.now c.args.case c.play.ensures.made, c.self.view_is) safe) in
    absurd (false≢true (sym c.if-not-play.true ∙ t))

pub returns-clause-only : goal.returns-clause-only
returns-clause-only c = λ _. ap Some (rw c.self.view_is at c.play.ensures.made)

pub returns-clause-safe : goal.returns-clause-safe
returns-clause-safe c = (rw c.self.view_is at c.play.ensures.made, rw c.self.view_is at (c.play.ensures.safe.0 c.if-not-play.false))
