use Rattle.source_core.proofs.WatchLaws.{notes_more}
use Rattle.source_core.proofs.watching.Watch.note_silent_arbiters.Goals as goal

pub returns : goal.returns
returns g c = notes_more (g.S.System.outside c.args.system.now) _ _ _ c.note_if.ensures c.note_if-2.ensures
