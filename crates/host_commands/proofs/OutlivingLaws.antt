-- One step after another of a host that may outlive its log.
use Rattle.std.proofs.Common.{◌≡◌, ◌++◌, ◌∷◌, [], ℕ, false, List, Option, Some, None, ap, refl, subst, sym}
use Rattle.std.specs.Prelude.{Result, Ok, Err, IsOk, OnErr}
use Rattle.answer_parts.proofs.PrintLaws.{cut_behind}
use Rattle.answer_parts.specs.Printing.{Performs, Prints}
use Rattle.command_line.specs.declared.commands.host.HostGames.{HostGames}
use Rattle.host_commands.proofs.QuietLaws.{IsQuietStep, both_quiet, cut_quiet, printed_quiet}
use Rattle.host_commands.specs.Inside.Parts.{GoesOut}
use Rattle.host_commands.specs.Outliving.{PerformsOutliving, ReceivesNothing}
use Rattle.host_commands.specs.Steps.{AfterText, Doing, GoesOn, IsRefused, Step, TextFirst, ThenOrRefused, ThenRest}
use Rattle.system_io.specs.declared.output.WriteFault.{WriteFault}
use Rattle.timeline.proofs.EventLaws.{adds_more}
use Rattle.timeline.specs.Events.{Event}
use Rattle.timeline.specs.Outsides.{Adds, AddsSome, Outside}

module _ {T P F K S L : Type 0} (o : Outside T P F K S L) (h : HostGames) where
  -- events by which nothing is received, and then what is done after them
  pub then_outlives : (a b c : T) (first : List Event) (A B : Doing) (r : Result ℕ WriteFault) → ((events : List Event) (status : Option ℕ) → A events status → B (first ++ events) status) → ReceivesNothing first
      → Adds o a b first → AddsSome o b c (PerformsOutliving h A r) → AddsSome o a c (PerformsOutliving h B r)
  then_outlives a b c first A B (Ok status) step quiet p q = (first ++ q.0, adds_more o a b c first q.0 p q.1, (step q.0 (Some status) q.2.0, λ outlives. tt))
  then_outlives a b c first A B (Err fault) step quiet p q =
      let done = q.2.0 in
      (first ++ q.0, adds_more o a b c first q.0 p q.1, ((first ++ done.0, done.1, step done.0 done.1 done.2, cut_behind first done.0 q.0 done.3), λ outlives. both_quiet first q.0 quiet (q.2.1 outlives)))

  -- the same under another name
  pub outlives_so : (a b : T) (A B : Doing) (r : Result ℕ WriteFault) → ((events : List Event) (status : Option ℕ) → A events status → B events status) → AddsSome o a b (PerformsOutliving h A r) → AddsSome o a b (PerformsOutliving h B r)
  outlives_so a b A B (Ok status) step q = (q.0, q.1, (step q.0 (Some status) q.2.0, λ outlives. tt))
  outlives_so a b A B (Err fault) step q = let done = q.2.0 in (q.0, q.1, ((done.0, done.1, step done.0 done.1 done.2, done.3), q.2.1))

  -- lines that are written, or a front of them
  prints_outlives : (a b : T) (lines : List (List ℕ)) (r : Result ℕ WriteFault) → AddsSome o a b (Performs (Prints lines 1) r) → AddsSome o a b (PerformsOutliving h (Prints lines 1) r)
  prints_outlives a b lines (Ok status) q = (q.0, q.1, (q.2, λ outlives. tt))
  prints_outlives a b lines (Err fault) q = (q.0, q.1, (q.2, λ outlives. cut_quiet q.2.0 q.0 (subst ReceivesNothing (sym q.2.2.0) (printed_quiet lines)) q.2.3))

  pub goes_on : {A : Type 0} (a b c : T) (First : Step A) (Rest : A → Doing) (x : A) (r : Result ℕ WriteFault) → IsQuietStep First → AddsSome o a b (First (Ok x)) → AddsSome o b c (PerformsOutliving h (Rest x) r)
      → AddsSome o a c (PerformsOutliving h (ThenOrRefused First Rest) r)
  goes_on a b c First Rest x r quiet p q = then_outlives a b c p.0 (Rest x) (ThenOrRefused First Rest) r (λ events status d. GoesOn x p.0 events p.2 d refl) (quiet (Ok x) p.0 p.2) p.1 q

  pub is_refused : {A : Type 0} (a b c : T) (First : Step A) (Rest : A → Doing) (words : List ℕ) (r : Result ℕ WriteFault) → IsQuietStep First → AddsSome o a b (First (Err words)) → AddsSome o b c (Performs (Prints (words ∷ []) 1) r)
      → AddsSome o a c (PerformsOutliving h (ThenOrRefused First Rest) r)
  is_refused a b c First Rest words r quiet p q = then_outlives a b c p.0 (Prints (words ∷ []) 1) (ThenOrRefused First Rest) r so (quiet (Err words) p.0 p.2) p.1 (prints_outlives b c (words ∷ []) r q)
    where
      so : (events : List Event) (status : Option ℕ) → Prints (words ∷ []) 1 events status → ThenOrRefused First Rest (p.0 ++ events) status
      so events status d = IsRefused words p.0 p.2 (ap (λ (e : List Event). p.0 ++ e) d.0) d.1

  -- where nothing happens for the first one
  pub goes_on_so : {A : Type 0} (a b : T) (First : Step A) (Rest : A → Doing) (x : A) (r : Result ℕ WriteFault) → First (Ok x) [] → AddsSome o a b (PerformsOutliving h (Rest x) r) → AddsSome o a b (PerformsOutliving h (ThenOrRefused First Rest) r)
  goes_on_so a b First Rest x r first q = outlives_so a b (Rest x) (ThenOrRefused First Rest) r (λ events status d. GoesOn x [] events first d refl) q

  pub is_refused_so : {A : Type 0} (a b : T) (First : Step A) (Rest : A → Doing) (words : List ℕ) (r : Result ℕ WriteFault) → First (Err words) [] → AddsSome o a b (Performs (Prints (words ∷ []) 1) r) → AddsSome o a b (PerformsOutliving h (ThenOrRefused First Rest) r)
  is_refused_so a b First Rest words r first q = outlives_so a b (Prints (words ∷ []) 1) (ThenOrRefused First Rest) r (λ events status d. IsRefused words [] first d.0 d.1) (prints_outlives a b (words ∷ []) r q)

  -- a text went out, or that failed
  pub after_text : (a b c : T) (text : List ℕ) (Rest : Doing) (x : Unit {0}) (r : Result ℕ WriteFault) → AddsSome o a b (Performs (GoesOut text) (Ok x)) → AddsSome o b c (PerformsOutliving h Rest r) → AddsSome o a c (PerformsOutliving h (AfterText text Rest) r)
  after_text a b c text Rest x r p q =
      then_outlives a b c p.0 Rest (AfterText text Rest) r (λ events status d. ThenRest events d (ap (λ (l : List Event). l ++ events) p.2.0)) (subst ReceivesNothing (sym p.2.0) (refl, (refl, tt))) p.1 q

  pub text_lost : (a b : T) (text : List ℕ) (Rest : Doing) (fault : WriteFault) → AddsSome o a b (Performs (GoesOut text) (Err fault)) → AddsSome o a b (PerformsOutliving h (AfterText text Rest) (Err fault))
  text_lost a b text Rest fault p = (p.0, p.1, ((p.2.0, None, TextFirst p.2.2.0 refl, p.2.3), λ outlives. cut_quiet p.2.0 p.0 (subst ReceivesNothing (sym p.2.2.0) (refl, (refl, tt))) p.2.3))

  -- what doesn't fail, and what does for a log that isn't outlived
  pub done_outlives : (a b : T) (Does : Doing) (r : Result ℕ WriteFault) → IsOk r → AddsSome o a b (Performs Does r) → AddsSome o a b (PerformsOutliving h Does r)
  done_outlives a b Does (Ok status) is p = (p.0, p.1, (p.2, λ outlives. tt))
  done_outlives a b Does (Err fault) is p = absurd (cc)

  pub not_outlived : (a b : T) (Does : Doing) (r : Result ℕ WriteFault) → h.outlives_log ≡ false → AddsSome o a b (Performs Does r) → AddsSome o a b (PerformsOutliving h Does r)
  not_outlived a b Does r isnt p = (p.0, p.1, (p.2, λ outlives. absurd (cc)))

-- where there is no error, any cause is had
pub isnt_error : (r : Result ℕ WriteFault) (Cause : Type 0) → IsOk r → OnErr r Cause
isnt_error (Ok status) Cause is = tt
isnt_error (Err fault) Cause is = absurd (cc)
