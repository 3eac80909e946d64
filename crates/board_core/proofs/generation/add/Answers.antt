use Rattle.std.proofs.Common.{arith, rules}
use Rattle.board_core.specs.declared.moves.Move.{Move}
use Rattle.board_core.specs.Inside.Search.{IsListed}
use Rattle.board_core.proofs.Listing.{HasListedBelow-push, HasListedBelow-skip, same_place}
use Rattle.board_core.proofs.generation.add.Goals as goal

pub returns-in_err-push-clause-memory : goal.returns-in_err-push-clause-memory
returns-in_err-push-clause-memory c =
    let l : (m : Move) × IsListed c.args.which c.args.p.now m = (c.args.m.now, c.is_listed.ensures.0 c.if-is_listed.true) in search rules

pub returns-in_ok-push-clause-added : goal.returns-in_ok-push-clause-added
returns-in_ok-push-clause-added c = rw c.in_ok-push.ensures.items (HasListedBelow-push _ _ _ _ c.requires.below (c.is_listed.ensures.0 c.if-is_listed.true))

pub returns-else-is_listed-clause-added : goal.returns-else-is_listed-clause-added
returns-else-is_listed-clause-added c =
    HasListedBelow-skip _ _ _ _ _ c.requires.below (omega arith) (λ m l low high.
    let e = same_place m c.args.m.now l.0.1.to_board (omega arith) (omega arith) in
    let t = c.is_listed.ensures.1 (rw e at l) in search rules)
