use Rattle.relay_world.specs.Worlds.{first_world}
use Rattle.relay_world.proofs.OneSchedule.{one_schedule, same_worlds}
use Rattle.relay_world.proofs.laws.one_schedule.Goals as goal

pub returns-clause-one : goal.returns-clause-one
returns-clause-one c = one_schedule c.one_position.ensures c.one_move.ensures

pub returns-clause-worlds : goal.returns-clause-worlds
returns-clause-worlds c game s t h = same_worlds game (first_world game) s t h
