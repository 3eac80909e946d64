use Rattle.std.proofs.Common.{refl, ◌∙◌}
use Rattle.arbiter_server.specs.Told.{unopened_words}
use Rattle.arbiter_server.specs.declared.fault.OpenGameError.TheVariants.{BadGame, Keeper, NoGame, NotOpen, OtherGame, OutOfMemory}
use Rattle.arbiter_server.proofs.line.unopened_line.Goals as goal

pub returns-in-NotOpen : goal.returns-in-NotOpen
returns-in-NotOpen c = rw c.in-NotOpen.is (c.stamped.ensures (unopened_words NotOpen) refl)

pub returns-in-NoGame : goal.returns-in-NoGame
returns-in-NoGame c = rw c.in-NoGame.is (c.stamped-in-NoGame.ensures (unopened_words NoGame) refl)

pub returns-in-OtherGame : goal.returns-in-OtherGame
returns-in-OtherGame c = rw c.in-OtherGame.is (c.stamped-in-OtherGame.ensures (unopened_words OtherGame) refl)

pub returns-in-BadGame : goal.returns-in-BadGame
returns-in-BadGame c = rw c.in-BadGame.is (c.stamped-in-BadGame.ensures (unopened_words (BadGame c.in-BadGame.number)) (c.deref.ensures.0 ∙ c.bad_game.ensures.is))

pub returns-in-Keeper : goal.returns-in-Keeper
returns-in-Keeper c = rw c.in-Keeper.is (c.stamped-in-Keeper.ensures (unopened_words Keeper) refl)

pub returns-in-OutOfMemory : goal.returns-in-OutOfMemory
returns-in-OutOfMemory c = rw c.in-OutOfMemory.is (c.stamped-in-OutOfMemory.ensures (unopened_words OutOfMemory) refl)
