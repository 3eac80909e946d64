use Rattle.std.proofs.Common.{arith}
use Rattle.board_core.proofs.Safety.{legal_of_case, only_of_case, no_case}
use Rattle.board_core.proofs.ComputedMoves.{computed_none, computed}
use Rattle.board_core.proofs.position.Position.after.Goals as goal

pub returns-in-Some-clause-legal : goal.returns-in-Some-clause-legal
returns-in-Some-clause-legal c = legal_of_case c.args.self.now c.args.m.now c.in-Some.case c.played.result (omega arith) (omega arith) (rw c.self.view_is at c.in-Some.ensures.found) c.played.ensures.safe

pub returns-in-Some-clause-only : goal.returns-in-Some-clause-only
returns-in-Some-clause-only c = λ q l. only_of_case c.args.self.now q c.args.m.now c.in-Some.case c.case_of.result c.played.result (rw c.self.view_is at c.case_of.ensures.only) c.in-Some.is c.played.ensures.only l

pub returns-in-Some-clause-computed : goal.returns-in-Some-clause-computed
returns-in-Some-clause-computed c = computed c.args.self.now c.args.m.now c.played.result (λ q e. rw e at (returns-in-Some-clause-legal c)) (returns-in-Some-clause-only c)

pub returns-in-None-clause-only : goal.returns-in-None-clause-only
returns-in-None-clause-only c = λ q l. absurd (no_case c.args.self.now c.args.m.now c.case_of.result (rw c.self.view_is at c.case_of.ensures.only) c.in-None.is (q, l))

pub returns-in-None-clause-computed : goal.returns-in-None-clause-computed
returns-in-None-clause-computed c = computed_none _ _ (returns-in-None-clause-only c)
