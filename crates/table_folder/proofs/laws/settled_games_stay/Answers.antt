use Rattle.table_folder.proofs.WholeMoves.{games_stay}
use Rattle.table_folder.proofs.laws.settled_games_stay.Goals as goal

pub returns : goal.returns
returns g c = games_stay c.games_depend_on_rulings.ensures c.more_tables_answer_the_same.ensures c.what_is_missing_stays_missing.ensures _
