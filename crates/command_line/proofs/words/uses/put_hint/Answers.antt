use Rattle.command_line.proofs.words.uses.put_hint.Goals as goal

pub returns-in-Command : goal.returns-in-Command
returns-in-Command g c =
    let written = rw c.as_bytes.ensures.value at c.put_texts.ensures in
    rw c.in-Command.is written

pub returns-in-Option : goal.returns-in-Option
returns-in-Option g c =
    let written = rw c.as_bytes-in-Option.ensures.value at c.put_texts-in-Option.ensures in
    rw c.in-Option.is written
