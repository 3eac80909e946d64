use Rattle.std.proofs.Common.{◌≡◌, drop}
use Rattle.move_msg.specs.TableNames.{are_men_from}
use Rattle.move_msg.proofs.table_name.are_men.Given as goal

abbrev pub invariant-loop-letter : goal.invariant-loop-letter
invariant-loop-letter l = are_men_from l.least (drop l.letter-index l.letters) ≡ are_men_from 0 l.letters
