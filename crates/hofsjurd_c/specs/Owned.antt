-- What handles own.
use Rattle.std.specs.Prelude.{Option, None, Some}
use Rattle.std.specs.Global.{Global, Box}
use base.Fml.{Fml, ftrue}
use denote.RawPtr.{Ptr}
use Rattle.std.specs.Box.Ownership.{box_owns}
use Rattle.std.below.std_heap.specs.contracts.GlobalAllocator.TheImpl.{ghosts}
use Rattle.hofsjurd_c.specs.declared.held.Held.{Held}
use Rattle.hofsjurd_c.specs.declared.held.HeldGame.{HeldGame}
use Rattle.hofsjurd_c.specs.contracts.held.Held as held
use Rattle.hofsjurd_c.specs.contracts.held.HeldGame as held_game

-- a taken seat owns the box at its pointer, and an empty one nothing
abbrev pub seat_owns : Global → Ptr → Option Held → Fml
seat_owns h p (Some x) = box_owns (ghosts.dealloc_token h) held.the_row p x
seat_owns h p None = ftrue

-- the same of a game's seat
abbrev pub game_seat_owns : Global → Ptr → Option HeldGame → Fml
game_seat_owns h p (Some x) = box_owns (ghosts.dealloc_token h) held_game.the_row p x
game_seat_owns h p None = ftrue

-- what is in a box, if there is one
abbrev pub boxed : Option (Box Held) → Option Held
boxed (Some b) = Some b.value
boxed None = None

abbrev pub boxed_game : Option (Box HeldGame) → Option HeldGame
boxed_game (Some b) = Some b.value
boxed_game None = None
