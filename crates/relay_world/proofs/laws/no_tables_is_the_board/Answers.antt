use Rattle.relay_world.proofs.laws.no_tables_is_the_board.Goals as goal
use Rattle.relay_world.proofs.OnBoard.{first_end, no_files}

pub returns : goal.returns
returns c = record { board = first_end c.first_verdict_in_words.ensures c.few_men_have_tables.ensures; files = no_files }
