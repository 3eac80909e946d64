-- What the board says of verdicts that are known.
use Rattle.std.proofs.Common.{◌≡◌, ◌⊎◌, ℕ, List, Some, IfSome, subst, inl, inr}
use Rattle.board_core.specs.declared.parts.Parts.{Parts}
use Rattle.move_msg.specs.declared.stamp.Stamp.{Stamp}
use Rattle.move_msg.specs.declared.arbiter_id.ArbiterId.TheVariants.{A, B}
use Rattle.system_io.specs.Ports.{Passing}
use Rattle.source_core.specs.declared.report.Ruling.{Ruling}
use Rattle.source_core.specs.declared.known.Known.{Known}
use Rattle.source_core.specs.Boards.{AreBelieved, IsBelied, IsBelieved}
use Rattle.source_core.specs.Reports.{Knows}
use Rattle.source_core.proofs.ReportLaws.{ruled_by}

pub believed_first : (plies : ℕ) (position : Parts) (known : Known) (r : Ruling) → AreBelieved plies position known → known.a.ruling ≡ Some r → IsBelieved plies position r
believed_first plies position known r are is = subst (λ o. IfSome o (IsBelieved plies position)) is are.0

pub is_belied : (stamp : Stamp) (plies : ℕ) (position : Parts) (all : List Passing) (known : Known) (r : Ruling) → Knows stamp all known → (known.a.ruling ≡ Some r) ⊎ (known.b.ruling ≡ Some r) → (IsBelieved plies position r → ⊥) → IsBelied stamp plies position r all
is_belied stamp plies position all known r h (inl is) not_so = record { who = A; reported = ruled_by stamp A all known.a.ruling r h.a.ruled is; belied = not_so }
is_belied stamp plies position all known r h (inr is) not_so = record { who = B; reported = ruled_by stamp B all known.b.ruling r h.b.ruled is; belied = not_so }
