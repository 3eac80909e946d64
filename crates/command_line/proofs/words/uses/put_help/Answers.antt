use Rattle.command_line.proofs.words.uses.put_help.Goals as goal

pub returns-in-Some : goal.returns-in-Some
returns-in-Some g c =
    let written = rw (c.as_bytes.ensures.value, c.word.ensures) at c.put_texts.ensures in
    rw c.in-Some.is written
