use Rattle.timeline_fakes.proofs.FeedLaws.{feed_is}
use Rattle.timeline_fakes.proofs.memory_system.had_come.Goals as goal

pub returns : goal.returns
returns c = feed_is c.args.lines.now.left.now c.has_line.result c.has_line.ensures
