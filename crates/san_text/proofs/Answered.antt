-- What reading answers, where the text tells this.
use Rattle.std.proofs.Common.{◌≡◌, ℕ, List, None, Ok, Err, refl, sym, ap, subst, ◌∙◌}
use Rattle.std.specs.Prelude.{Result, IfOk, IfErr}
use Rattle.board_core.specs.declared.parts.Parts.{Parts}
use Rattle.board_core.specs.declared.moves.Move.{Move}
use Rattle.board_core.specs.Moves.{IsLegal}
use Rattle.san_text.specs.declared.fault.SanFault.{SanFault}
use Rattle.san_text.specs.declared.fault.SanFault.TheVariants.{BadText, NoMove, Ambiguous}
use Rattle.san_text.specs.declared.told.Told.{Told}
use Rattle.san_text.specs.Told.{SpellsTold}
use Rattle.san_text.specs.San.{IsMeant, ReadsSan, IsFirstSanFault}
use Rattle.san_text.specs.Written.{san_of}
use Rattle.san_text.specs.Inside.Movers.{IsToldFault}
use Rattle.san_text.specs.Inside.Scan.{told_by_text}
use Rattle.san_text.proofs.ReadingLaws.{spelled_read}
use Rattle.san_text.proofs.WrittenLaws.{one_reading, read_back}

-- ---- a text that tells nothing

pub bad_text : (t : List ℕ) → told_by_text t ≡ None → (told : Told) → SpellsTold t told → ⊥
bad_text t none told h = let e = sym none ∙ spelled_read t told h in cc

pub bad_fault : (p : Parts) (t : List ℕ) → told_by_text t ≡ None → (fault : SanFault) → IsFirstSanFault p t fault → BadText ≡ fault
bad_fault p t none BadText h = refl
bad_fault p t none NoMove h = absurd (bad_text t none h.0 h.1)
bad_fault p t none Ambiguous h = absurd (bad_text t none h.0 h.1)

-- ---- one that tells something

pub record Answered (p : Parts) (t : List ℕ) (told : Told) (r : Result Move SanFault) : Type 0 where
  pub spells : SpellsTold t told
  pub ok : IfOk r (IsMeant p told)
  pub only : IfOk r (λ m. (n : Move) → IsMeant p told n → n ≡ m)
  pub err : IfErr r (IsToldFault p told)

same_told : (t : List ℕ) (a b : Told) → SpellsTold t a → SpellsTold t b → a ≡ b
same_told t a b h k = let e = sym (spelled_read t a h) ∙ spelled_read t b k in cc

-- what is meant by what another reading tells
meant_too : (p : Parts) (t : List ℕ) (a b : Told) (m : Move) → SpellsTold t a → SpellsTold t b → IsMeant p a m → IsMeant p b m
meant_too p t a b m h k meant = subst (λ told. IsMeant p told m) (same_told t a b h k) meant

pub ok_clause : (p : Parts) (t : List ℕ) (told : Told) (r : Result Move SanFault) → Answered p t told r → IfOk r (ReadsSan p t)
ok_clause p t told (Ok m) h = record { told = told; spells = h.spells; meant = h.ok; only = h.only }
ok_clause p t told (Err fault) h = tt

first_fault : (p : Parts) (t : List ℕ) (told : Told) (fault : SanFault) → SpellsTold t told → IsToldFault p told fault → IsFirstSanFault p t fault
first_fault p t told BadText spells h = absurd h
first_fault p t told NoMove spells h = (told, spells, h)
first_fault p t told Ambiguous spells h = (told, spells, h.0, h.1, h.2, h.3, h.4)

pub err_clause : (p : Parts) (t : List ℕ) (told : Told) (r : Result Move SanFault) → Answered p t told r → IfErr r (IsFirstSanFault p t)
err_clause p t told (Ok m) h = tt
err_clause p t told (Err fault) h = first_fault p t told fault h.spells h.err

-- a fault and one move that is meant
no_fault : (p : Parts) (t : List ℕ) (fault : SanFault) (m : Move) → IsFirstSanFault p t fault → ReadsSan p t m → ⊥
no_fault p t BadText m h r = h r.told r.spells
no_fault p t NoMove m h r = h.2 m (meant_too p t r.told h.0 m r.spells h.1 r.meant)
no_fault p t Ambiguous m h r =
    let first = r.only h.2 (meant_too p t h.0 r.told h.2 h.1 r.spells h.4) in
    let second = r.only h.3 (meant_too p t h.0 r.told h.3 h.1 r.spells h.5) in
    h.6 (first ∙ sym second)

one_fault : (p : Parts) (t : List ℕ) (a b : SanFault) → IsFirstSanFault p t a → IsFirstSanFault p t b → a ≡ b
one_fault p t BadText BadText h k = refl
one_fault p t BadText NoMove h k = absurd (h k.0 k.1)
one_fault p t BadText Ambiguous h k = absurd (h k.0 k.1)
one_fault p t NoMove BadText h k = absurd (k h.0 h.1)
one_fault p t NoMove NoMove h k = refl
one_fault p t NoMove Ambiguous h k = absurd (h.2 k.2 (meant_too p t k.0 h.0 k.2 k.1 h.1 k.4))
one_fault p t Ambiguous BadText h k = absurd (k h.0 h.1)
one_fault p t Ambiguous NoMove h k = absurd (k.2 h.2 (meant_too p t h.0 k.0 h.2 h.1 k.1 h.4))
one_fault p t Ambiguous Ambiguous h k = refl

pub only_clause : (p : Parts) (t : List ℕ) (told : Told) (r : Result Move SanFault) → Answered p t told r → (m : Move) → ReadsSan p t m → r ≡ Ok m
only_clause p t told (Ok n) h m reads = ap (λ (x : Move). Ok x) (one_reading p t n m (ok_clause p t told (Ok n) h) reads)
only_clause p t told (Err fault) h m reads = absurd (no_fault p t fault m (err_clause p t told (Err fault) h) reads)

pub only_fault_clause : (p : Parts) (t : List ℕ) (told : Told) (r : Result Move SanFault) → Answered p t told r → (fault : SanFault) → IsFirstSanFault p t fault → r ≡ Err fault
only_fault_clause p t told (Ok n) h fault first = absurd (no_fault p t fault n first (ok_clause p t told (Ok n) h))
only_fault_clause p t told (Err other) h fault first = ap (λ (x : SanFault). Err x) (one_fault p t other fault (err_clause p t told (Err other) h) first)

-- the text that is written for a legal move
pub written_reads : (p : Parts) (t : List ℕ) (m : Move) → IsLegal p m → t ≡ san_of p m → ReadsSan p t m
written_reads p t m l e = subst (λ (s : List ℕ). ReadsSan p s m) (sym e) (read_back p m l)
