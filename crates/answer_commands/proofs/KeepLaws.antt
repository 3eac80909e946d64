-- The text of a game in its file, one event after another.
use Rattle.std.proofs.Common.{◌≡◌, ◌∙◌, ◌∷◌, ◌++◌, [], ℕ, Bool, true, false, List, Option, ap, refl, subst, sym}
use Rattle.std.specs.Prelude.{Result, Ok, Err, IfErr, IfOk}
use Rattle.system_io.specs.KeptFiles.{CannotStart, IsOneOfFound}
use Rattle.system_io.specs.declared.reading.ReadFault.{ReadFault}
use Rattle.timeline.proofs.EventLaws.{adds_more}
use Rattle.timeline.specs.Events.{FileOpened, Found}
use Rattle.timeline.specs.Outsides.{Adds, AddsSome, Outside}
use Rattle.answer_commands.specs.Keeping.{Finds, IsSameFile, KeepsOver, KeepsText, NotOpened, NotStarted, Over, start_fault}
use Rattle.answer_commands.specs.declared.keeping.GameText.{GameText}
use Rattle.answer_commands.specs.declared.keeping.KeepFault.{KeepFault}
use Rattle.answer_commands.specs.declared.keeping.KeepFault.TheVariants.{OutOfMemory}

module _ {T P F K S L : Type 0} (o : Outside T P F K S L) (is_new : Bool) (path text : List ℕ) where
  pub kept_over : (a b c d : T) (opened started after : F) (found : Option (List ℕ)) (r : Result GameText KeepFault) → o.path opened ≡ path → o.path started ≡ o.path opened
      → ((x y : Option (List ℕ)) → (o.file opened).finds x y → (o.file started).finds x y) → IsOneOfFound (o.file opened) found → (o.file started).finds found found → (o.file started).faults ≡ (o.file opened).faults
      → Adds o a b (FileOpened path true ∷ []) → Adds o b c (Found (o.path opened) (Ok found) ∷ []) → AddsSome o c d (KeepsOver o is_new started after found text r) → AddsSome o a d (KeepsText o is_new path text r)
  kept_over a b c d opened started after found r at stays same one lasts count p q k = (
    FileOpened path true ∷ Found path (Ok found) ∷ k.0,
    adds_more o a c d (FileOpened path true ∷ Found path (Ok found) ∷ []) k.0 (adds_more o a b c (FileOpened path true ∷ []) (Found path (Ok found) ∷ []) p (subst (λ (x : List ℕ). Adds o b c (Found x (Ok found) ∷ [])) at q)) k.1,
    Over opened started after found k.0 (record { at = at; stays = stays ∙ at; same = same }) (record { one = one; lasts = lasts; count = count }) k.2 refl,
  )

  pub not_started : (a b c : T) (opened : F) (x fault : ReadFault) → x ≡ fault → o.path opened ≡ path → CannotStart (o.file opened) x
      → Adds o a b (FileOpened path true ∷ []) → Adds o b c (Found (o.path opened) (Err x) ∷ []) → AddsSome o a c (KeepsText o is_new path text (Err (start_fault fault)))
  not_started a b c opened x fault is at cause p q = (
    FileOpened path true ∷ Found path (Err x) ∷ [],
    adds_more o a b c (FileOpened path true ∷ []) (Found path (Err x) ∷ []) p (subst (λ (w : List ℕ). Adds o b c (Found w (Err x) ∷ [])) at q),
    NotStarted opened x at cause (ap (λ (f : ReadFault). Err (start_fault f)) (sym is)) refl,
  )
