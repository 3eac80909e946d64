use Rattle.relay_world.proofs.laws.one_list_of_worlds.Goals as goal
use Rattle.relay_world.specs.Worlds.{first_world}
use Rattle.relay_world.proofs.Faithful.{one_list, at_of, last_of}

pub returns-clause-list : goal.returns-clause-list
returns-clause-list c = one_list

pub returns-clause-each : goal.returns-clause-each
returns-clause-each c game early late = at_of game (first_world game) early late

pub returns-clause-last : goal.returns-clause-last
returns-clause-last c game events = last_of game (first_world game) events
