use Rattle.std.proofs.Common.{refl}
use Rattle.answer_commands.specs.Inside.Answering.{MovesListed, NoRoom, NotText}
use Rattle.answer_commands.proofs.moves.answer_moves.Goals as goal

pub returns-in-Err : goal.returns-in-Err
returns-in-Err c = NotText c.in-Err.fault (rw c.as_bytes.ensures.value at c.in-Err.ensures.err) refl

pub returns-in-Ok-move_lines : goal.returns-in-Ok-move_lines
returns-in-Ok-move_lines c =
    let spells = rw c.as_bytes.ensures.value at c.in-Ok.ensures.ok in
    MovesListed c.in-Ok.position c.in-Ok-move_lines.lines spells c.in-Ok.ensures.position refl c.in-Ok-move_lines.ensures

pub returns-in-Err-move_lines : goal.returns-in-Err-move_lines
returns-in-Err-move_lines c =
    let spells = rw c.as_bytes.ensures.value at c.in-Ok.ensures.ok in
    NoRoom c.in-Ok.position c.in-Err-move_lines.refused spells c.in-Ok.ensures.position refl
