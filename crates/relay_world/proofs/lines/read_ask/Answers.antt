use Rattle.fen_text.specs.Cuts.{cut_at}
use Rattle.relay_world.specs.Texts.{who_word}
use Rattle.relay_world.proofs.Reading.{not_last, ask_words}
use Rattle.relay_world.proofs.lines.read_ask.Goals as goal

pub returns-in-Some-clause-none : goal.returns-in-Some-clause-none
returns-in-Some-clause-none c = λ event h.
    let w = ask_words (cut_at 32 c.args.text.now) event h in
    not_last 32 c.in-Some.field-0.0.now c.in-Some.field-0.1.now c.args.text.now (who_word w.0) c.in-Some.ensures.some w.1
