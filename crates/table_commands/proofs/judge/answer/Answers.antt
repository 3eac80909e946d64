use Rattle.std.proofs.Common.{refl}
use Rattle.table_commands.specs.FolderReads.{fen_refusal}
use Rattle.table_commands.proofs.FolderReadLaws.{makes_for_none, makes_for_text}
use Rattle.table_commands.proofs.judge.answer.Goals as goal

pub returns-in-Err : goal.returns-in-Err
returns-in-Err g c = makes_for_none _ _ fen_refusal _ c.in-Err.fault _ _ c.as_bytes.ensures.value c.in-Err.ensures.err refl

pub returns-in-Ok : goal.returns-in-Ok
returns-in-Ok g c = makes_for_text _ _ fen_refusal _ c.in-Ok.position _ _ _ c.as_bytes.ensures.value c.in-Ok.ensures.ok c.in-Ok.ensures.position c.answer_position.ensures
