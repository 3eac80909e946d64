use Rattle.std.proofs.Common.{◌≡◌, []}
use Rattle.sealed_port.proofs.KeyLines.{none_left, spells_one, spells_two}
use Rattle.sealed_port.proofs.seal_port.Keys.read.Goals as goal

pub returns-then-is_empty-clause-ok : goal.returns-then-is_empty-clause-ok
returns-then-is_empty-clause-ok c =
    let none : c.first_line.result.1.now ≡ [] = none_left _ c.if-is_empty.ensures in
    let key = c.in-Some.ensures.some in
    spells_one c.args.text.now c.first_line.result.0.now c.first_line.result.1.now c.in-Some.first c.first_line.ensures.line c.first_line.ensures.rest key.0 key.1 none

pub returns-clause-ok : goal.returns-clause-ok
returns-clause-ok c =
    let none : c.first_line-2.result.1.now ≡ [] = none_left _ c.if-not-is_empty.ensures in
    let first = c.in-Some.ensures.some in
    let second = c.in-Some-key_in.ensures.some in
    spells_two c.args.text.now c.first_line.result.0.now c.first_line.result.1.now c.first_line-2.result.0.now c.first_line-2.result.1.now c.in-Some.first c.in-Some-key_in.second
    c.first_line.ensures.line c.first_line.ensures.rest c.first_line-2.ensures.line c.first_line-2.ensures.rest first.0 first.1 second.0 second.1 none
