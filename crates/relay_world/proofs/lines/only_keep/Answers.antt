use Rattle.relay_world.specs.Texts.{keep_word}
use Rattle.relay_world.proofs.Reading.{not_last}
use Rattle.relay_world.proofs.lines.only_keep.Goals as goal

pub returns-in-Some-clause-none : goal.returns-in-Some-clause-none
returns-in-Some-clause-none c = λ keep e. not_last 32 c.in-Some.field-0.0.now c.in-Some.field-0.1.now c.args.text.now (keep_word keep) c.in-Some.ensures.some e
