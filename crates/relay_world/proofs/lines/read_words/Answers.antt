use Rattle.std.proofs.Common.{rules, ◌≤◌, length}
use Rattle.relay_world.proofs.Reading.{too_many}
use Rattle.relay_world.proofs.lines.read_words.Goals as goal

pub returns-then-len-ge4095-clause-none : goal.returns-then-len-ge4095-clause-none
returns-then-len-ge4095-clause-none c = λ moves are few.
    let held : 4095 ≤ length c.loop-word.moves.items = search rules in
    too_many c.args.text.now c.loop-word.rest.now c.in-Some.tail.now c.in-Some.word.now c.loop-word.moves.items moves c.loop-word.invariant.0 c.in-Some.ensures.some held are few
