-- What the map of the games has once a game is put in it.
use Rattle.std.proofs.Common.{get_or, ◌≡◌, ◌⊎◌, inl, inr, ◌<◌, ◌≤◌, ℕ, List, Bool, true, false, cond, Option, Some, None, option_map, option_and_then, IsSome, is_some, ◌∷◌, [], refl, sym, ap, ◌∙◌, subst, arith}
use Rattle.std.specs.Ordering.{nat_cmp, is_eq}
use Rattle.std.specs.Cmp.Lexicographic.{slice_cmp}
use Rattle.std.specs.Str.{bytes_eq}
use Rattle.std.specs.BTreeMap.{is_at}
use Rattle.std.proofs.lemmas.Bool.{cases_Bool}
use Rattle.std.proofs.lemmas.Bool.Decides.{nat_tests}
use Rattle.std.proofs.lemmas.Cmp.{same_from_slice_cmp}
use Rattle.std.proofs.lemmas.Slice.Eq.{bytes_eq-Decides}
use Rattle.system_io.specs.declared.record_store.Entry.{Entry}
use Rattle.game_store.specs.declared.memory.Slot.{Slot}
use Rattle.system_io.specs.Records.{Records, entry_record, with_entry, with_all}
use Rattle.game_store.specs.Rows.{Numbers, AreApart}
use Rattle.game_store.specs.Slots.{Slots, slot_at, number_at, game_at, game_of_text, KeepsNumbers, HasSame, HaveNumbers}

pub is_at_same : (a b : List ℕ) → is_at (slice_cmp nat_cmp a) b ≡ bytes_eq a b
is_at_same a b = same_from_slice_cmp nat_cmp is_eq bytes_eq refl (λ _ _. refl) (λ _ _. refl) (λ x y xs ys o h. grind (arith, nat_tests)) a b (slice_cmp nat_cmp a b) refl

-- equal stamps are one, and a stamp is equal to itself
pub one_stamp : (a b : List ℕ) → bytes_eq a b ≡ true → a ≡ b
one_stamp a b = (bytes_eq-Decides a b).0

pub own_stamp : (a : List ℕ) → bytes_eq a a ≡ true
own_stamp a = (bytes_eq-Decides a a).1 refl

map_cond : {A B : Type 0} (f : A → B) (b : Bool) (x y : Option A) → option_map f (cond b x y) ≡ cond b (option_map f x) (option_map f y)
map_cond f true x y = refl
map_cond f false x y = refl

then_cond : {A B : Type 0} (f : A → Option B) (b : Bool) (x y : Option A) → option_and_then f (cond b x y) ≡ cond b (option_and_then f x) (option_and_then f y)
then_cond f true x y = refl
then_cond f false x y = refl

module _ (old new : Slots) (k : List ℕ) (s : Slot) (put : (q : List ℕ) → slot_at new q ≡ cond (is_at (slice_cmp nat_cmp k) q) (Some s) (slot_at old q)) where
  here : (q : List ℕ) → slot_at new q ≡ cond (bytes_eq k q) (Some s) (slot_at old q)
  here q = put q ∙ ap (λ b. cond b (Some s) (slot_at old q)) (is_at_same k q)

  pub number_here : (q : List ℕ) → number_at new q ≡ cond (bytes_eq k q) (Some s.number) (number_at old q)
  number_here q = ap (option_map (λ (t : Slot). t.number)) (here q) ∙ map_cond (λ (t : Slot). t.number) (bytes_eq k q) (Some s) (slot_at old q)

  pub game_here : (q : List ℕ) → game_at new q ≡ cond (bytes_eq k q) (option_map game_of_text s.text) (game_at old q)
  game_here q = ap (option_and_then (λ (t : Slot). option_map game_of_text t.text)) (here q) ∙ then_cond (λ (t : Slot). option_map game_of_text t.text) (bytes_eq k q) (Some s) (slot_at old q)

  -- a game that was in no slot has no record yet
  pub none_here : slot_at old k ≡ None → s.text ≡ None → HasSame old new
  none_here absent bare q = elim (cases_Bool (bytes_eq k q)) [
    | inl is ↦ game_here q ∙ rw is (ap (option_map game_of_text) bare)
        ∙ sym (ap (option_and_then (λ (t : Slot). option_map game_of_text t.text)) (subst (λ a. slot_at old a ≡ None) (one_stamp k q is) absent))
    | inr other ↦ game_here q ∙ rw other refl
  ]

  pub numbers_stay : slot_at old k ≡ None → KeepsNumbers old new
  numbers_stay absent q n has = elim (cases_Bool (bytes_eq k q)) [
    | inl is ↦ absurd (let e : None ≡ Some n = sym (ap (option_map (λ (t : Slot). t.number)) (subst (λ a. slot_at old a ≡ None) (one_stamp k q is) absent)) ∙ has in cc)
    | inr other ↦ number_here q ∙ rw other has
  ]

-- a number above all others makes no two games have one
module _ (old new : Numbers) (k : List ℕ) (last number : ℕ) (put : (q : List ℕ) → new q ≡ cond (bytes_eq k q) (Some number) (old q))
    (above : last < number) (most : (q : List ℕ) (n : ℕ) → old q ≡ Some n → n ≤ last) where
  either : (q : List ℕ) (n : ℕ) → new q ≡ Some n → ((k ≡ q) × (n ≡ number)) ⊎ (old q ≡ Some n)
  either q n has = elim (cases_Bool (bytes_eq k q)) [
    | inl is ↦ inl (one_stamp k q is, let e : Some number ≡ Some n = sym (put q ∙ rw is refl) ∙ has in cc)
    | inr other ↦ inr (sym (put q ∙ rw other refl) ∙ has)
  ]

  pub most_now : (q : List ℕ) (n : ℕ) → new q ≡ Some n → n ≤ number
  most_now q n has = elim (either q n has) [ inl is ↦ omega (arith, is.1) | inr was ↦ omega (arith, most q n was, above) ]

  pub apart_now : AreApart old → AreApart new
  apart_now apart a b n x y = elim (either a n x) [
    | inl p ↦ elim (either b n y) [ inl q ↦ sym p.0 ∙ q.0 | inr q ↦ absurd (omega (arith, most b n q, above, p.1)) ]
    | inr p ↦ elim (either b n y) [ inl q ↦ absurd (omega (arith, most a n p, above, q.1)) | inr q ↦ apart a b n p q ]
  ]

-- a list of entries, put in turn, makes the same of games that are the same
pub with_all_same : (a b : Records) (entries : List Entry) → ((q : List ℕ) → a q ≡ b q) → (q : List ℕ) → with_all a entries q ≡ with_all b entries q
with_all_same a b [] same q = same q
with_all_same a b (e ∷ more) same q = with_all_same (with_entry a e) (with_entry b e) more (λ p. ap (λ g. cond (bytes_eq e.stamp p) (Some (entry_record e)) g) (same p)) q

pub no_slot : (o : Option Slot) → false ≡ is_some o → o ≡ None
no_slot None e = refl
no_slot (Some s) e = absurd cc

-- a game that has a number keeps it
pub some_stays : (old new : Slots) → KeepsNumbers old new → (k : List ℕ) (o : Option ℕ) → number_at old k ≡ o → IsSome o → IsSome (number_at new k)
some_stays old new keeps k None is some = absurd (let e = some in cc)
some_stays old new keeps k (Some n) is some = rw (keeps k n is) refl

pub all_stay : (old new : Slots) → KeepsNumbers old new → (entries : List Entry) → HaveNumbers old entries → HaveNumbers new entries
all_stay old new keeps entries all k d low = some_stays old new keeps (get_or entries k d).stamp _ refl (all k d low)

-- a number that is put again changes nothing
pub number_kept : (old new : Numbers) (k : List ℕ) (number : ℕ) → ((q : List ℕ) → new q ≡ cond (bytes_eq k q) (Some number) (old q)) → old k ≡ Some number → (q : List ℕ) → new q ≡ old q
number_kept old new k number put has q = elim (cases_Bool (bytes_eq k q)) [
  | inl is ↦ put q ∙ rw is (sym (subst (λ a. old a ≡ Some number) (one_stamp k q is) has))
  | inr other ↦ put q ∙ rw other refl
]
