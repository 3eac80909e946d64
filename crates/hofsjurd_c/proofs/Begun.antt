-- A game that is begun, or that memory was refused for, has a start.
use Rattle.std.proofs.Common.{◌≡◌, ◌<◌, ◌≤◌, ◌⊎◌, ℕ, List, Result, Ok, Err, IfErr, inl, inr, ap, subst, arith}
use Rattle.std.proofs.lemmas.Bool.{cases_lt}
use Rattle.board_core.specs.declared.parts.Parts.{Parts}
use Rattle.board_core.specs.declared.position.PositionFault.TheVariants.{BadKings, TooManyMen, PawnOnEdge, BadCastling, BadEnPassant, OpponentInCheck, BadCounter}
use Rattle.board_core.specs.Delays.{most_delay}
use Rattle.board_core.specs.Position.{IsPosition}
use Rattle.fen_text.specs.Fen.{SpellsPosition, IsFirstFenFault}
use Rattle.fen_text.specs.declared.fault.FenFault.{FenFault}
use Rattle.fen_text.specs.declared.fault.FenFault.TheVariants.{FieldCount, BadPlacement, BadSide, BadCastlingText, BadSquare, BadNumber, BadPosition}
use Rattle.judge_core.specs.Tables.{Tables}
use Rattle.probe_api.specs.Plays.{Play, Begins}
use Rattle.probe_api.specs.Replies.{fen_status, refused}
use Rattle.probe_api.specs.declared.reply.Reply.{Reply}
use Rattle.hofsjurd_c.specs.Beginning.{CanBegin}

-- no fault of a text has the status of refused memory
no_memory : (fault : FenFault) → fen_status fault ≡ 5 → ⊥
no_memory FieldCount is = omega (arith, is)
no_memory BadPlacement is = omega (arith, is)
no_memory BadSide is = omega (arith, is)
no_memory BadCastlingText is = omega (arith, is)
no_memory BadSquare is = omega (arith, is)
no_memory BadNumber is = omega (arith, is)
no_memory (BadPosition BadKings) is = omega (arith, is)
no_memory (BadPosition TooManyMen) is = omega (arith, is)
no_memory (BadPosition PawnOnEdge) is = omega (arith, is)
no_memory (BadPosition BadCastling) is = omega (arith, is)
no_memory (BadPosition BadEnPassant) is = omega (arith, is)
no_memory (BadPosition OpponentInCheck) is = omega (arith, is)
no_memory (BadPosition BadCounter) is = omega (arith, is)

-- what beginning comes to is a game, or status 5 where memory is refused
abbrev Goes : Result Play ℕ → Type 0
Goes begun = IfErr begun (λ status. status ≡ 5)

module _ (tables : Tables) (text : List ℕ) (delay : ℕ) (begun : Result Play ℕ) (goes : Goes begun) (begins : Begins tables text delay begun) where
  with_text : delay ≤ most_delay → (((p : Parts) × IsPosition p × SpellsPosition text p) ⊎ ((fault : FenFault) × IsFirstFenFault text fault)) → CanBegin text delay
  with_text le (inl start) = record { soon = le; start = start.0; position = start.1; spelled = start.2 }
  with_text le (inr fault) = absurd (no_memory fault.0 (subst Goes (begins.fault fault.0 le fault.1) goes))

  with_delay : ((most_delay < delay) ⊎ (delay ≤ most_delay)) → CanBegin text delay
  with_delay (inl late) = let other : 87 ≡ 5 = subst Goes (begins.late late) goes in absurd (omega (arith, other))
  with_delay (inr le) = with_text le (begins.one le)

  can_begin : CanBegin text delay
  can_begin = with_delay (cases_lt most_delay delay)

-- a game that is begun
pub from_game : (tables : Tables) (text : List ℕ) (delay : ℕ) (game : Play) → Begins tables text delay (Ok game) → CanBegin text delay
from_game tables text delay game begins = can_begin tables text delay (Ok game) tt begins

-- a refusal that is told as refused memory
pub from_refusal : (tables : Tables) (text : List ℕ) (delay status : ℕ) (reply : Reply) → Begins tables text delay (Err status) → reply ≡ refused status → reply ≡ refused 5 → CanBegin text delay
from_refusal tables text delay status reply begins told five =
    can_begin tables text delay (Err status) (ap (λ (r : Reply). r.status) (subst (λ (r : Reply). r ≡ refused 5) told five)) begins
