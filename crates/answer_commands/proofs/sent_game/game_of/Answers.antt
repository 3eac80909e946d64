use Rattle.answer_commands.proofs.sent_game.game_of.Goals as goal

pub returns-in-Told : goal.returns-in-Told
returns-in-Told g c = rw c.in-Told.is c.told_game.ensures

pub returns-in-InFile : goal.returns-in-InFile
returns-in-InFile g c = rw c.in-InFile.is c.filed_game.ensures
