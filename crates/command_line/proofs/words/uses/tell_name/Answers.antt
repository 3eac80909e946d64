use Rattle.command_line.proofs.words.uses.tell_name.Goals as goal

pub returns : goal.returns
returns g c = rw (c.as_bytes.ensures.value, c.help_of.ensures) at c.tell_line.ensures
