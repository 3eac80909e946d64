use Rattle.table_commands.proofs.games.FollowGamesLineTask.answer_by_tables.Goals as goal

pub returns-clause-made : goal.returns-clause-made
returns-clause-made g c = c.answer_lines.ensures.made
