-- What the calls that were made say, one call after another.
use Rattle.std.proofs.Common.{◌≡◌, inl, inr, ⊎_elim, ◌++◌, ◌∷◌, ℕ, [], List, Option, Some, None, true, refl, sym, ap, subst, ◌∙◌, append_assoc}
use Rattle.std.specs.Prelude.{◌==◌, IfSome, Vec, vec_len}
use Rattle.std.specs.declared.alloc.Global.{Global}
use Rattle.std.specs.List.{AllByRecursion}
use Rattle.std.proofs.lemmas.Bool.{eqb-true}
use Rattle.std.proofs.lemmas.List.{nil_from_length}
use Rattle.system_io.specs.FileCalls.{Call, CallFacts, FindsBy, AtStart, Kept, Named, Replaced, IsEither, LeavesTheName, Read, Wrote, SyncedFile, Renamed, SyncedFolder}
use Rattle.system_io.specs.Histories.{EndsWith, Passes}
use Rattle.system_io.specs.KeptFiles.{bytes_of}
use Rattle.system_io.specs.Traces.{AreOneOf, Bytes, HasTheseBytes, IsOneOf, SaysOneOf}
use Rattle.system_io.specs.declared.call_log.CallLog.{CallLog}

abbrev pub Told : Type 0
Told = Option (List Call)

abbrev pub Found : Type 0
Found = Option (List ℕ)

-- of a call that leaves the name
pub kept : (a b : Found) (old new : Told) (call : Call) → LeavesTheName call → Passes old new (call ∷ []) → IfSome old (FindsBy a b) → IfSome new (FindsBy a b)
kept a b None None call leaves p h = tt
kept a b None (Some n) call leaves p h = absurd p
kept a b (Some o) None call leaves p h = tt
kept a b (Some o) (Some n) call leaves p h = Kept n o call p leaves h

either_wider : (a b c d x : Found) → IsEither c d a → IsEither c d b → IsEither a b x → IsEither c d x
either_wider a b c d x p q h =
    ⊎_elim
    (λ (e : x ≡ a). subst (IsEither c d) (sym e) p)
    (λ (e : x ≡ b). subst (IsEither c d) (sym e) q)
    h

finds_wider : (a b c d : Found) → IsEither c d a → IsEither c d b → (made : List Call) → FindsBy a b made → FindsBy c d made
finds_wider a b c d p q _ (AtStart made before got is h) = AtStart made before got is (either_wider a b c d got p q h)
finds_wider a b c d p q _ (Replaced made before bytes is h) = Replaced made before bytes is (either_wider a b c d (Some bytes) p q h)
finds_wider a b c d p q _ (Kept made old call is leaves h) = Kept made old call is leaves (finds_wider a b c d p q old h)
finds_wider a b c d p q _ (Named made old before bytes call is at e h) = Named made old before bytes call is at (either_wider a b c d (Some bytes) p q e) (finds_wider a b c d p q old h)

pub wider : (old : Found) (bytes : List ℕ) (made : Told) → IfSome made (FindsBy old old) → IfSome made (FindsBy old (Some bytes))
wider old bytes None h = tt
wider old bytes (Some made) h = finds_wider old old old (Some bytes) (inl refl) (inl refl) made h

-- the last call
pub ends : (old new : Told) (call : Call) → Passes old new (call ∷ []) → EndsWith new (call ∷ [])
ends None None call p = tt
ends None (Some n) call p = absurd p
ends (Some o) None call p = tt
ends (Some o) (Some n) call p = (o, p)

pub ends_more : (old new : Told) (last : List Call) (call : Call) → EndsWith old last → Passes old new (call ∷ []) → EndsWith new (last ++ call ∷ [])
ends_more None None last call e p = tt
ends_more None (Some n) last call e p = absurd p
ends_more (Some o) None last call e p = tt
ends_more (Some o) (Some n) last call (before, is) p = (before, p ∙ ap (λ (l : List Call). l ++ call ∷ []) is ∙ append_assoc before last (call ∷ []))

-- the file was read, and then the folder was synced
pub at_start : (a b got : Found) (was mid new : Told) → Passes was mid (Read got ∷ []) → Passes mid new (SyncedFolder ∷ []) → IsEither a b got → IfSome new (FindsBy a b)
at_start a b got was mid new p q e = over new (ends_more mid new (Read got ∷ []) SyncedFolder (ends was mid (Read got) p) q)
  where
    over : (new : Told) → EndsWith new (Read got ∷ SyncedFolder ∷ []) → IfSome new (FindsBy a b)
    over None h = tt
    over (Some n) (before, is) = AtStart n before got is e

-- a file with these bytes took the name, or may have
pub named : (old : Found) (bytes : List ℕ) (was new : Told) (call : Call) → EndsWith was (Wrote bytes ∷ SyncedFile ∷ []) → Passes was new (call ∷ []) → IfSome was (FindsBy old old) → IfSome new (FindsBy old (Some bytes))
named old bytes None None call e p h = tt
named old bytes None (Some n) call e p h = absurd p
named old bytes (Some w) None call e p h = tt
named old bytes (Some w) (Some n) call (before, is) p h = Named n w before bytes call p is (inr refl) (wider old bytes (Some w) h)

-- and then the folder was synced
pub replaced : (bytes : List ℕ) (was new : Told) → EndsWith was (Wrote bytes ∷ SyncedFile ∷ Renamed ∷ []) → Passes was new (SyncedFolder ∷ []) → IfSome new (FindsBy (Some bytes) (Some bytes))
replaced bytes was new e p = over new (ends_more was new (Wrote bytes ∷ SyncedFile ∷ Renamed ∷ []) SyncedFolder e p)
  where
    over : (new : Told) → EndsWith new (Wrote bytes ∷ SyncedFile ∷ Renamed ∷ SyncedFolder ∷ []) → IfSome new (FindsBy (Some bytes) (Some bytes))
    over None h = tt
    over (Some n) (before, is) = Replaced n before bytes is (inl refl)

-- ---- of the whole file

pub names_so : (a b : Found) (stands stands' : Option Bytes) (earlier earlier' : List (Option Bytes)) → stands' ≡ stands → earlier' ≡ earlier → AreOneOf a b stands earlier → AreOneOf a b stands' earlier'
names_so a b stands stands' earlier earlier' p q h = record { now = subst (λ (o : Option Bytes). IsOneOf a b o) (sym p) h.now; before = subst (λ (os : List (Option Bytes)). AllByRecursion (IsOneOf a b) os) (sym q) h.before }

-- what may stand under the name stays
pub still_says : {C : Type 0} (facts : C → CallFacts) (t u : CallLog C) (after : C) (a b : Found) → u.is_known ≡ t.is_known → u.stands ≡ t.stands → u.earlier ≡ t.earlier → u.calls ≡ after → (IfSome (facts t.calls).made (FindsBy a b) → IfSome (facts after).made (FindsBy a b)) → SaysOneOf facts t a b → SaysOneOf facts u a b
still_says {C} facts t u after a b known stands earlier calls step h = record {
  known = known ∙ h.known;
  names = names_so a b t.stands u.stands t.earlier.items u.earlier.items stands (λ i. (earlier i).items) h.names;
  by_calls = subst (λ (x : C). IfSome (facts x).made (FindsBy a b)) (sym calls) (step h.by_calls);
}

-- a file with these bytes may have the name from now on
pub named_says : {C : Type 0} (facts : C → CallFacts) (t u : CallLog C) (before after : C) (old : Found) (bytes : List ℕ) → u.is_known ≡ t.is_known → AreOneOf old (Some bytes) u.stands u.earlier.items → before ≡ t.calls → u.calls ≡ after → (IfSome (facts before).made (FindsBy old old) → IfSome (facts after).made (FindsBy old (Some bytes))) → SaysOneOf facts t old old → SaysOneOf facts u old (Some bytes)
named_says {C} facts t u before after old bytes known names was calls step h = record {
  known = known ∙ h.known;
  names = names;
  by_calls = subst (λ (x : C). IfSome (facts x).made (FindsBy old (Some bytes))) (sym calls) (step (subst (λ (x : C). IfSome (facts x).made (FindsBy old old)) (sym was) h.by_calls));
}

-- nothing else may have the name
pub only : (stands : Option Bytes) (earlier : List (Option Bytes)) (found : Found) → bytes_of stands ≡ found → earlier ≡ [] → AreOneOf found found stands earlier
only stands earlier found is none = record { now = inl is; before = subst (λ (os : List (Option Bytes)). AllByRecursion (IsOneOf found found) os) (sym none) tt }

pub has_bytes : (o : Option Bytes) (bytes : List ℕ) → HasTheseBytes o bytes → bytes_of o ≡ Some bytes
has_bytes o bytes h = ap bytes_of h.is ∙ ap Some h.items

-- the same was read again
pub read_again : (a b : Found) (got known : Option Bytes) (earlier : List (Option Bytes)) → bytes_of got ≡ bytes_of known → AreOneOf a b known earlier → AreOneOf a b got earlier
read_again a b got known earlier same h = record { now = subst (IsEither a b) (sym same) h.now; before = h.before }

pub ends_so : {C : Type 0} (facts : C → CallFacts) (before after : C) (last : List Call) → after ≡ before → EndsWith (facts before).made last → EndsWith (facts after).made last
ends_so {C} facts before after last same e = subst (λ (x : C). EndsWith (facts x).made last) (sym same) e

pub is_none : (v : Vec (Option Bytes) Global) → true ≡ (vec_len v == 0) → v.items ≡ []
is_none v e = nil_from_length v.items (sym v.ok.0 ∙ eqb-true v.len 0 (sym e))
