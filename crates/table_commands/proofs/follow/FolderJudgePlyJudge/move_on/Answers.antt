use Rattle.table_commands.proofs.FollowLaws.{over_system}
use Rattle.table_commands.proofs.follow.FolderJudgePlyJudge.move_on.Goals as goal

pub returns-clause-made : goal.returns-clause-made
returns-clause-made g c =
    let from = rw (← c.self.view_is) at c.requires in
    rw (← c.self.view_is) (over_system g.S.System.outside c.self.inside.folder.disk.system.now c.args._system.now c.args.timeline.now c.move_on.new.log _ from c.move_on.ensures.made)
