use Rattle.std.proofs.Common.{◌≡◌, IfErr, subst, sym}
use Rattle.board_core.specs.declared.parts.Parts.{Parts}
use Rattle.board_core.specs.Position.{IsFirstFault}
use Rattle.board_core.specs.Sets.{parts_of}
use Rattle.probe_api.specs.Boards.{shown}
use Rattle.probe_api.proofs.board.position_on.Goals as goal

pub returns-clause-err : goal.returns-clause-err
returns-clause-err c =
    let same : parts_of c.sets_on.result c.state_on.result ≡ shown c.args.board.now = λ i. parts_of (c.sets_on.ensures i) (c.state_on.ensures i) in
    subst (λ (p : Parts). IfErr c.from_sets.result (IsFirstFault p)) same c.from_sets.ensures.err

pub returns-clause-only_fault : goal.returns-clause-only_fault
returns-clause-only_fault c =
    let same : parts_of c.sets_on.result c.state_on.result ≡ shown c.args.board.now = λ i. parts_of (c.sets_on.ensures i) (c.state_on.ensures i) in
    λ fault first. c.from_sets.ensures.only_fault fault (subst (λ (p : Parts). IsFirstFault p fault) (sym same) first)
