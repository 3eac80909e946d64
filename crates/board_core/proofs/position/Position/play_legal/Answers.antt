use Rattle.board_core.proofs.ComputedMoves.{legal_as, legal_position}
use Rattle.board_core.proofs.Preserved.{IsPosition-play}
use Rattle.board_core.specs.Moves.{Legal}
use Rattle.board_core.proofs.position.Position.play_legal.Goals as goal

made : (c : goal.After-play_safe) → Legal c.self.inside.parts c.args.m.now c.play_safe.new.copy
made c = legal_as c.self.inside.parts c.args.m.now c.play_safe.new.copy c.case_of_legal-case.result (rw c.self.view_is c.requires.legal) c.case_of_legal-case.ensures c.play_safe.ensures.made

pub invariant_of-after : goal.invariant_of-after
invariant_of-after c = (IsPosition-play c.self.inside.parts c.args.m.now c.play_safe.new.copy c.self.invariant.0 (made c), c.play_safe.ensures.sides)

pub returns-clause-legal : goal.returns-clause-legal
returns-clause-legal c = rw c.self.view_is at (made c)

pub returns-clause-computed : goal.returns-clause-computed
returns-clause-computed c = legal_position c.args.self.now c.args.m.now c.play_safe.new.copy (returns-clause-legal c)
