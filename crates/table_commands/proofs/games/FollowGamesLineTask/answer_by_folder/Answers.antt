use Rattle.table_commands.specs.Games.{game_lines_in}
use Rattle.table_commands.proofs.LineLaws.{answers_over}
use Rattle.table_commands.proofs.games.FollowGamesLineTask.answer_by_folder.Goals as goal

pub returns-clause-made : goal.returns-clause-made
returns-clause-made g c =
    let folder = c.args.folder in
    let task = c.args.self.now in
    answers_over g.S.System.outside (λ disk. game_lines_in task.delay disk folder.on.folder) _ _ _ task.progress c.answer_lines.result _ _ c.requires.from c.requires.empty c.answer_lines.ensures.made
