use Rattle.board_core.proofs.Steps.{takes_step, takes_whole, attacks_to_step, attacks_to_whole}
use Rattle.board_core.proofs.generation.steps.Goals as goal

pub returns-else-len-le-FEW-clause-steps : goal.returns-else-len-le-FEW-clause-steps
returns-else-len-le-FEW-clause-steps c = λ s bit.
    takes_step _ _ c.args.v.now _ _ _ s c.in-Captures.is c.requires.survey (rw c.bitand.ensures at bit) (c.plain_targets-set.ensures.only s)

pub returns-else-len-le-FEW-clause-whole : goal.returns-else-len-le-FEW-clause-whole
returns-else-len-le-FEW-clause-whole c = λ m l here. rw c.bitand.ensures (
    takes_whole _ _ c.args.v.now m c.args.kind _ _ c.in-Captures.is c.requires.survey c.requires.stands c.requires.piece.0 c.requires.piece.1 l here c.plain_targets-set.ensures.reached)

pub returns-then-len-le-FEW-clause-steps : goal.returns-then-len-le-FEW-clause-steps
returns-then-len-le-FEW-clause-steps c = λ s bit.
    let h = c.reached_of.ensures.only s bit in
    attacks_to_step _ _ c.args.v.now _ _ s c.in-Captures.is c.requires.survey h.0 h.1

pub returns-then-len-le-FEW-clause-whole : goal.returns-then-len-le-FEW-clause-whole
returns-then-len-le-FEW-clause-whole c = λ m l here.
    attacks_to_whole _ _ c.args.v.now m c.args.kind _ _ c.in-Captures.is c.requires.survey c.requires.stands c.requires.piece.0 c.requires.piece.1 l here c.reached_of.ensures.reached
