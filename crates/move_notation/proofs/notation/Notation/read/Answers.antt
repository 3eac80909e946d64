use Rattle.std.proofs.Common.{◌≡◌}
use Rattle.std.specs.Prelude.{Option, Some, Result, Ok, Err}
use Rattle.board_core.specs.declared.moves.Move.{Move as Moves}
use Rattle.san_text.specs.declared.fault.SanFault.{SanFault}
use Rattle.move_notation.proofs.notation.Notation.read.Goals as goal

some_of_ok : (a b : Moves) → ◌≡◌ {A = Result Moves SanFault} (Ok a) (Ok b) → ◌≡◌ {A = Option Moves} (Some a) (Some b)
some_of_ok a b e = let f = e in cc

none_of_err : (a : SanFault) (b : Moves) → ◌≡◌ {A = Result Moves SanFault} (Err a) (Ok b) → ⊥
none_of_err a b e = let f = e in absurd cc

pub returns-in-Coordinates-clause-some : goal.returns-in-Coordinates-clause-some
returns-in-Coordinates-clause-some c = rw c.in-Coordinates.is c.read_move.ensures.some

pub returns-in-Coordinates-clause-only : goal.returns-in-Coordinates-clause-only
returns-in-Coordinates-clause-only c = rw c.in-Coordinates.is c.read_move.ensures.only

pub returns-in-Ok-clause-some : goal.returns-in-Ok-clause-some
returns-in-Ok-clause-some c = rw c.in-San.is c.in-Ok.ensures.ok

pub returns-in-Ok-clause-only : goal.returns-in-Ok-clause-only
returns-in-Ok-clause-only c = rw c.in-San.is (λ m reads. some_of_ok c.in-Ok.m m (c.in-Ok.ensures.only m reads))

pub returns-in-Err-clause-only : goal.returns-in-Err-clause-only
returns-in-Err-clause-only c = rw c.in-San.is (λ m reads. absurd (none_of_err c.in-Err.field-0 m (c.in-Err.ensures.only m reads)))
