-- A game that a call is lent, as a value; cited by private functions alone.
use Rattle.table_commands.specs.Courses.{GameAsked}
use Rattle.table_commands.specs.declared.judging.Course.{Course}

abbrev pub course_of : Course → GameAsked
course_of g = record { start = g.start.now; moves = g.moves.now; delay = g.delay }
