use Rattle.task_files.specs.Inside.Readings.{held_by, texts_by}
use Rattle.task_files.specs.Sources.{named_by}
use Rattle.task_files.proofs.InputReadLaws.{given_read, given_unheld, given_unread}
use Rattle.task_files.proofs.input_reading.read_inputs.Goals as goal

pub returns-in-Err : goal.returns-in-Err
returns-in-Err g c = given_unheld (g.S.System.outside c.args.system.now) _ _ (named_by c.args.places.now) c.in-Err.fault c.in-Err.ensures.reads

pub returns-in-Ok-read_texts : goal.returns-in-Ok-read_texts
returns-in-Ok-read_texts g c = given_read (g.S.System.outside c.args.system.now) _ _ _ (named_by c.args.places.now) (held_by c.in-Ok.tables) (texts_by c.in-Ok-read_texts.texts) c.in-Ok.ensures.reads c.in-Ok-read_texts.ensures

pub returns-in-Err-read_texts : goal.returns-in-Err-read_texts
returns-in-Err-read_texts g c = given_unread (g.S.System.outside c.args.system.now) _ _ _ (named_by c.args.places.now) (held_by c.in-Ok.tables) c.in-Err-read_texts.fault c.in-Ok.ensures.reads c.in-Err-read_texts.ensures
