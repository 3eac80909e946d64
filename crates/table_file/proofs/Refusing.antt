-- A file that is refused has no parts.
use Rattle.std.proofs.Common.{◌≡◌, ◌≢◌, ℕ, List, Result, Ok, Err, refl, ◌∙◌, inl, inr}
use Rattle.std.specs.Prelude.{IfErr}
use Rattle.table_file.specs.declared.fault.TableFault.{TableFault}
use Rattle.table_file.specs.declared.fault.TableFault.TheVariants.{OutOfMemory}
use Rattle.table_file.specs.declared.kind.TableKind.{TableKind}
use Rattle.table_file.specs.Reading.{Gives, Fails}
use Rattle.table_file.specs.Tables.{Contents, contents_at, head_at, parts_at}
use Rattle.table_file.specs.Layouts.{IsLayout, ReadsWhatIsLaidOut}
use Rattle.table_file.proofs.Loops.{fault_is}

other_result : {A : Type 0} (x : A) (e : TableFault) (r : Result A TableFault) → r ≡ Err e → r ≡ Ok x → ⊥
other_result x e r bad good = cc

-- where the head of a file reads, its parts decide
after_head : (name file : List ℕ) (kind : TableKind) (m : ℕ) (rest : List ℕ) → head_at name file ≡ Ok ((kind, m), rest) → contents_at name file ≡ parts_at kind m rest
unfolding contents_at
after_head name file kind m rest e = rw e refl

pub bad_head : (name file : List ℕ) (e : TableFault) → head_at name file ≡ Err e → contents_at name file ≡ Err e
unfolding contents_at
bad_head name file e bad = rw bad refl

pub refused_head : ReadsWhatIsLaidOut → (name file : List ℕ) (e : TableFault) → Fails e (head_at name file) → e ≢ OutOfMemory → (t : Contents) → IsLayout name file t → ⊥
refused_head law name file e fails ne t laid =
    elim (fault_is e (head_at name file) fails) [
      | inl memory ↦ absurd (ne memory)
      | inr bad ↦ other_result t e (contents_at name file) (bad_head name file e bad) ((law name file t).1 laid)
    ]

pub refused_parts : ReadsWhatIsLaidOut → (name file : List ℕ) (kind : TableKind) (m : ℕ) (rest : List ℕ) (r : Result Contents TableFault) → head_at name file ≡ Ok ((kind, m), rest) → Gives {X = Contents} {Y = Contents} (λ x. x) r (parts_at kind m rest)
    → IfErr r (λ e. e ≢ OutOfMemory → (t : Contents) → IsLayout name file t → ⊥)
refused_parts law name file kind m rest (Ok x) head gives = tt
refused_parts law name file kind m rest (Err e) head fails = λ ne t laid.
    elim (fault_is e (parts_at kind m rest) fails) [
      | inl memory ↦ absurd (ne memory)
      | inr bad ↦ other_result t e (contents_at name file) (after_head name file kind m rest head ∙ bad) ((law name file t).1 laid)
    ]
