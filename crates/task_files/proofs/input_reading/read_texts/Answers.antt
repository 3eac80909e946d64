use Rattle.task_files.specs.Sources.{named_by}
use Rattle.task_files.proofs.InputReadLaws.{texts_read, texts_unkept, texts_unlast, texts_unread}
use Rattle.task_files.proofs.input_reading.read_texts.Goals as goal

pub returns-in-Err : goal.returns-in-Err
returns-in-Err g c = texts_unread (g.S.System.outside c.args.system.now) _ _ (named_by c.args.places.now) c.in-Err.fault c.in-Err.ensures

pub returns-in-Err-read_kept : goal.returns-in-Err-read_kept
returns-in-Err-read_kept g c = texts_unkept (g.S.System.outside c.args.system.now) _ _ _ (named_by c.args.places.now) c.in-Ok.input.items c.in-Err-read_kept.fault c.in-Ok.ensures c.in-Err-read_kept.ensures

pub returns-in-Ok-read_kept-2 : goal.returns-in-Ok-read_kept-2
returns-in-Ok-read_kept-2 g c =
    texts_read (g.S.System.outside c.args.system.now) _ _ _ _ (named_by c.args.places.now) c.in-Ok.input.items c.in-Ok-read_kept.kept.items c.in-Ok-read_kept-2.other_kept.items c.in-Ok.ensures c.in-Ok-read_kept.ensures c.in-Ok-read_kept-2.ensures

pub returns-in-Err-read_kept-2 : goal.returns-in-Err-read_kept-2
returns-in-Err-read_kept-2 g c =
    texts_unlast (g.S.System.outside c.args.system.now) _ _ _ _ (named_by c.args.places.now) c.in-Ok.input.items c.in-Ok-read_kept.kept.items c.in-Err-read_kept-2.fault c.in-Ok.ensures c.in-Ok-read_kept.ensures c.in-Err-read_kept-2.ensures
