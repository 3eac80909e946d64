-- The source's own board: a reported mate is believed only where the board shows it (FIDE articles 5.1.1 and 5.2.1).
use Rattle.std.specs.Prelude.{◌≡◌, ◌⊎◌, ◌<◌, ℕ, List, IfSome, Some}
use Rattle.board_core.specs.declared.parts.Parts.{Parts}
use Rattle.board_core.specs.declared.piece.Side.TheVariants.{White, Black}
use Rattle.board_core.specs.declared.verdict.Verdict.{Verdict}
use Rattle.board_core.specs.declared.verdict.Verdict.TheVariants.{WhiteMates, BlackMates, Stalemate, TableDraw, TableWhite, TableBlack, Stopped}
use Rattle.board_core.specs.Ends.{IsCheckmate, IsStalemate}
use Rattle.move_msg.specs.declared.stamp.Stamp.{Stamp}
use Rattle.move_msg.specs.declared.arbiter_id.ArbiterId.{ArbiterId}
use Rattle.system_io.specs.Ports.{Passing}
use Rattle.source_core.specs.declared.report.Ruling.{Ruling}
use Rattle.source_core.specs.declared.known.Known.{Known}
use Rattle.source_core.specs.Reports.{HasRuled, IsRuled}

-- ---- a position

-- the position is as the verdict says; of a verdict by tables, or of damaged ones, it shows nothing
abbrev pub IsShown : Parts → Verdict → Type 0
IsShown p WhiteMates = IsCheckmate p × (p.side ≡ Black)
IsShown p BlackMates = IsCheckmate p × (p.side ≡ White)
IsShown p Stalemate = IsStalemate p
IsShown p TableDraw = Unit {0}
IsShown p TableWhite = Unit {0}
IsShown p TableBlack = Unit {0}
IsShown p Stopped = Unit {0}

-- the verdict ends the game on the board, by a mate or a stalemate
abbrev pub IsMate : Verdict → Type 0
IsMate WhiteMates = Unit {0}
IsMate BlackMates = Unit {0}
IsMate Stalemate = Unit {0}
IsMate TableDraw = ⊥
IsMate TableWhite = ⊥
IsMate TableBlack = ⊥
IsMate Stopped = ⊥

-- ---- what is believed

-- A reported mate or stalemate is believed only where the position at its ply of the moves sent is so. After an earlier ply a legal
-- move followed, so that ply is the last, and the position the one after all moves. A later ply is not on this board yet: an
-- arbiter may know more moves from an earlier run of the source.
abbrev pub IsBelieved : ℕ → Parts → Ruling → Type 0
IsBelieved plies position r = (r.ply < plies → IsMate r.verdict → ⊥) × (r.ply ≡ plies → IsShown position r.verdict)

-- each verdict that is known is believed
abbrev pub AreBelieved : ℕ → Parts → Known → Type 0
AreBelieved plies position known = IfSome known.a.ruling (IsBelieved plies position) × IfSome known.b.ruling (IsBelieved plies position)

-- this verdict is known, and isn't believed
abbrev pub IsKnownBelied : ℕ → Parts → Known → Ruling → Type 0
IsKnownBelied plies position known r = ((known.a.ruling ≡ Some r) ⊎ (known.b.ruling ≡ Some r)) × (IsBelieved plies position r → ⊥)

-- both have reported this verdict, and no other was reported; and it is believed
abbrev pub IsBelievedRuling : Stamp → ℕ → Parts → Ruling → List Passing → Type 0
IsBelievedRuling stamp plies position r all = IsRuled stamp r all × IsBelieved plies position r

-- an arbiter has reported a verdict that isn't
pub record IsBelied (stamp : Stamp) (plies : ℕ) (position : Parts) (r : Ruling) (all : List Passing) : Type 0 where
  pub who : ArbiterId
  pub reported : HasRuled stamp who r all
  pub belied : IsBelieved plies position r → ⊥
