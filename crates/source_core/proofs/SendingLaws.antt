-- How a run ends, and its list of moves.
use Rattle.std.proofs.Common.{◌≡◌, ◌⊎◌, true, false, ℕ, zero, suc, ◌-◌, List, [], ◌∷◌, ◌++◌, length, Some, refl, sym, ap, subst, ◌∙◌, length-append, arith, inl, inr}
use Rattle.std.specs.Prelude.{slice_get}
use Rattle.board_core.specs.declared.moves.Move.{Move as Moves}
use Rattle.board_core.specs.declared.parts.Parts.{Parts}
use Rattle.move_msg.specs.declared.stamp.Stamp.{Stamp}
use Rattle.system_io.specs.declared.reading.ReadFault.{ReadFault}
use Rattle.system_io.specs.declared.reading.ReadFault.TheVariants as fault
use Rattle.move_notation.specs.declared.notation.Notation.{Notation}
use Rattle.source_core.specs.declared.known.Known.{Known}
use Rattle.source_core.specs.declared.origin.Origin.{Origin}
use Rattle.source_core.specs.declared.origin.Origin.TheVariants.{New}
use Rattle.source_core.specs.declared.origin.Started.{Started}
use Rattle.source_core.specs.declared.lines.End.{End}
use Rattle.source_core.specs.declared.known.Standing.TheVariants as standing
use Rattle.source_core.specs.declared.report.Ruling.{Ruling}
use Rattle.move_msg.specs.declared.arbiter_id.ArbiterId.TheVariants.{A}
use Rattle.source_core.specs.declared.lines.End.TheVariants as at_end
use Rattle.system_io.specs.Ports.{Passing}
use Rattle.source_core.specs.Reports.{StandsSo}
use Rattle.source_core.specs.Turns.{HasWaited}
use Rattle.source_core.specs.Boards.{AreBelieved, IsBelieved}
use Rattle.source_core.proofs.BoardLaws.{believed_first, is_belied}
use Rattle.source_core.specs.Sendings.{ClosesSo, IsRefusedLine, causes, last_of}
use Rattle.source_core.specs.Inside.Steps.{IsBeyond, IsWithin, StandsAtInputEnd, is_ruled}
use Rattle.source_core.proofs.OriginLaws.{is_own, is_started}
use Rattle.source_core.proofs.ReportLaws.{all_agreed, is_acked, is_ruled_so, is_unsettled, not_both}

-- ---- which ends say no silence

-- no line is refused as an arbiter that doesn't answer
pub not_refused : (notation : Notation) (position : Parts) (number : ℕ) (line : List ℕ) (end : End) → IsRefusedLine notation position number line end → end ≡ at_end.Lost → ⊥
not_refused notation position number line end h is = subst (IsRefusedLine notation position number line) is h

-- after the input's end no arbiter counts as silent
pub not_closed : (origin : Origin) (stamp : Stamp) (number : ℕ) (position : Parts) (all : List Passing) (end : End) → ClosesSo origin stamp number position all end → end ≡ at_end.Lost → ⊥
not_closed origin stamp number position all end h is = subst (ClosesSo origin stamp number position all) is h

-- ---- the input can't be read

pub still_causes : (F G M N : Type 0) → (F → G) → (M → N) → (fault : ReadFault) → causes F M fault → causes G N fault
still_causes F G M N f m fault.Unreadable h = f h
still_causes F G M N f m fault.OutOfMemory h = m h

-- ---- after the input's end

pub has_waited : (came : List Passing) (known : Known) → is_ruled known ≡ false → HasWaited came ⊎ (is_ruled known ≡ true) → HasWaited came
has_waited came known open_yet (inl w) = w
has_waited came known open_yet (inr ruled) = absurd cc

-- ---- how a game stands at the input's end

pub open_acked : (origin : Origin) (number : ℕ) (position : Parts) (known : Known) → IsWithin origin number known → StandsSo known number standing.Acked → StandsAtInputEnd origin number position known (at_end.Open number)
open_acked origin number position known le (lt_a, lt_b, none_a, none_b) =
    (λ count is. not_both known.a.ruling known.b.ruling (λ r s e f. absurd cc), λ stamp all k. let acked = is_acked stamp number all known k (lt_a, lt_b, none_a, none_b) in (refl, λ r ruled. acked.open_yet A r ruled.a, all_agreed stamp all known k, is_own origin stamp number all known k le))

pub open_yet : (origin : Origin) (number : ℕ) (position : Parts) (known : Known) → IsWithin origin number known → StandsSo known number standing.Open → StandsAtInputEnd origin number position known (at_end.Open number)
open_yet origin number position known le h = (λ count is. not_both known.a.ruling known.b.ruling h.1, λ stamp all k. let u = is_unsettled stamp number all known k h in (refl, u.not_ruled, u.agreed, is_own origin stamp number all known k le))

pub ruled_at : (origin : Origin) (number : ℕ) (position : Parts) (known : Known) (r : Ruling) → IsWithin origin number known → AreBelieved number position known → StandsSo known number (standing.Ruled r) → StandsAtInputEnd origin number position known (at_end.Ruled r)
ruled_at origin number position known r le are h = (λ count is. cc, λ stamp all k. ((is_ruled_so stamp number all known r k h, believed_first number position known r are h.0), is_own origin stamp number all known k le))

pub belied_at : (origin : Origin) (number : ℕ) (position : Parts) (known : Known) (r : Ruling) → IsWithin origin number known → (known.a.ruling ≡ Some r) ⊎ (known.b.ruling ≡ Some r) → (IsBelieved number position r → ⊥) → StandsAtInputEnd origin number position known (at_end.Belied r)
belied_at origin number position known r le is not_so = (λ count e. cc, λ stamp all k. (is_belied stamp number position all known r k is not_so, is_own origin stamp number all known k le))

pub started_at : (origin : Origin) (number : ℕ) (position : Parts) (known : Known) (s : Started) → origin ≡ New → IsBeyond number known s → StandsAtInputEnd origin number position known (at_end.Started s)
started_at origin number position known s new beyond = (λ count e. cc, λ stamp all k. (new, is_started stamp number all known s k beyond))

-- ---- one list of moves

pub get_front : (xs ys : List Moves) (n : ℕ) (m : Moves) → slice_get xs n ≡ Some m → slice_get (xs ++ ys) n ≡ Some m
get_front [] ys n m e = absurd cc
get_front (x ∷ xs) ys zero m e = e
get_front (x ∷ xs) ys (suc n) m e = get_front xs ys n m e

pub get_last : (xs : List Moves) (m : Moves) → slice_get (xs ++ m ∷ []) (length xs) ≡ Some m
get_last [] m = refl
get_last (x ∷ xs) m = get_last xs m

pub last_now : (moves : List Moves) (m : Moves) → Some m ≡ last_of (moves ++ m ∷ [])
last_now moves m =
    let counted : length (moves ++ m ∷ []) - 1 ≡ length moves = omega (arith, length-append moves (m ∷ [])) in
    sym (ap (slice_get (moves ++ m ∷ [])) counted ∙ get_last moves m)
