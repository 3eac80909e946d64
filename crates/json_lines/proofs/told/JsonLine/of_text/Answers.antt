use Rattle.std.proofs.Common.{refl}
use Rattle.std.proofs.lemmas.Result.{IfOk-weaker, on_err_weaker}
use Rattle.json_lines.specs.Told.{ForNone, ForPosition, MayLackLine}
use Rattle.json_lines.proofs.Playing.{of_the_text}
use Rattle.json_lines.proofs.told.JsonLine.of_text.Goals as goal

pub returns-in-Ok-clause-told : goal.returns-in-Ok-clause-told
returns-in-Ok-clause-told c = IfOk-weaker c.of_position.result _ _ (λ l h. ForPosition c.in-Ok.position c.in-Ok.ensures.ok c.in-Ok.ensures.position h) c.of_position.ensures.told

pub returns-in-Ok-clause-memory : goal.returns-in-Ok-clause-memory
returns-in-Ok-clause-memory c = on_err_weaker c.of_position.result (λ h. (c.in-Ok.position, c.in-Ok.ensures.ok, c.in-Ok.ensures.position)) c.of_position.ensures.memory

pub returns-in-Ok-clause-lack : goal.returns-in-Ok-clause-lack
returns-in-Ok-clause-lack c = on_err_weaker c.of_position.result (λ h. of_the_text (MayLackLine c.args.ask c.args.with_moves c.args.set.now.tables) c.args.text.now c.read.result c.in-Ok.position c.in-Ok.is c.read.ensures.only h) c.of_position.ensures.memory

pub returns-in-Err-clause-told : goal.returns-in-Err-clause-told
returns-in-Err-clause-told c = ForNone c.in-Err.fault c.in-Err.ensures.err refl
