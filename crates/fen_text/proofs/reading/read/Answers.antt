use Rattle.std.proofs.Common.{◌≡◌, ℕ, List, Ok, Err, ap, subst, sym, ◌∙◌}
use Rattle.board_core.specs.declared.parts.Parts.{Parts}
use Rattle.board_core.specs.Position.{IsPosition}
use Rattle.fen_text.specs.declared.fault.FenFault.{FenFault}
use Rattle.fen_text.specs.declared.fault.FenFault.TheVariants.{BadPosition}
use Rattle.fen_text.specs.Fen.{SpellsPosition}
use Rattle.fen_text.specs.Written.{fen_of}
use Rattle.fen_text.proofs.FenLaws.{spells_one, fault_only}
use Rattle.fen_text.proofs.FaultLaws.{fault_one}
use Rattle.fen_text.proofs.SpellingLaws.{position_one}
use Rattle.fen_text.proofs.WrittenLaws.{position_spelled}
use Rattle.fen_text.proofs.reading.read.Goals as goal

-- what is written for a position spells it
spelled : (t : List ℕ) (p : Parts) → IsPosition p → t ≡ fen_of p → SpellsPosition t p
spelled t p position e = subst (λ (s : List ℕ). SpellsPosition s p) (sym e) (position_spelled p position)

pub returns-in-Err-clause-only : goal.returns-in-Err-clause-only
returns-in-Err-clause-only c = λ p position h. absurd (fault_only c.args.text.now c.in-Err.fault p c.in-Err.ensures.err position h)

pub returns-in-Err-clause-written : goal.returns-in-Err-clause-written
returns-in-Err-clause-written c = λ p position e.
    absurd (fault_only c.args.text.now c.in-Err.fault p c.in-Err.ensures.err position (spelled c.args.text.now p position e))

pub returns-in-Ok-new-clause-only : goal.returns-in-Ok-new-clause-only
returns-in-Ok-new-clause-only c = λ p position h.
    ap (λ (q : Parts). Ok q) (c.in-Ok-new.ensures.ok.0 ∙ spells_one c.args.text.now c.in-Ok.parts p c.in-Ok.ensures.ok h)

pub returns-in-Ok-new-clause-written : goal.returns-in-Ok-new-clause-written
returns-in-Ok-new-clause-written c = λ p position e.
    ap (λ (q : Parts). Ok q) (c.in-Ok-new.ensures.ok.0 ∙ spells_one c.args.text.now c.in-Ok.parts p c.in-Ok.ensures.ok (spelled c.args.text.now p position e))

pub returns-in-Ok-new-clause-one_text : goal.returns-in-Ok-new-clause-one_text
returns-in-Ok-new-clause-one_text c = position_one c.args.text.now c.in-Ok.parts c.in-Ok.ensures.ok ∙ ap fen_of (sym c.in-Ok-new.ensures.ok.0)

pub returns-in-Err-new-clause-only : goal.returns-in-Err-new-clause-only
returns-in-Err-new-clause-only c = λ p position h.
    absurd (fault_only c.args.text.now (BadPosition c.in-Err-new.fault) p (c.in-Ok.parts, c.in-Ok.ensures.ok, c.in-Err-new.ensures.err) position h)

pub returns-in-Err-new-clause-written : goal.returns-in-Err-new-clause-written
returns-in-Err-new-clause-written c = λ p position e.
    absurd (fault_only c.args.text.now (BadPosition c.in-Err-new.fault) p (c.in-Ok.parts, c.in-Ok.ensures.ok, c.in-Err-new.ensures.err) position (spelled c.args.text.now p position e))

pub returns-in-Err-clause-only_fault : goal.returns-in-Err-clause-only_fault
returns-in-Err-clause-only_fault c = λ fault h.
    ap (λ (f : FenFault). Err f) (fault_one c.args.text.now c.in-Err.fault fault c.in-Err.ensures.err h)

pub returns-in-Ok-new-clause-only_fault : goal.returns-in-Ok-new-clause-only_fault
returns-in-Ok-new-clause-only_fault c = λ fault h.
    absurd (fault_only c.args.text.now fault c.in-Ok.parts h c.in-Ok-new.ensures.ok.1 c.in-Ok.ensures.ok)

pub returns-in-Err-new-clause-only_fault : goal.returns-in-Err-new-clause-only_fault
returns-in-Err-new-clause-only_fault c = λ fault h.
    ap (λ (f : FenFault). Err f) (c.from.ensures ∙ fault_one c.args.text.now (BadPosition c.in-Err-new.fault) fault (c.in-Ok.parts, c.in-Ok.ensures.ok, c.in-Err-new.ensures.err) h)
