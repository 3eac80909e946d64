-- The games that memory lists.
use Rattle.std.proofs.Common.{◌≡◌, ℕ, List, [], ◌∷◌, ◌++◌, map, Bool, true, false, cond, Option, Some, None, option_map, option_and_then, refl, sym, ap, ◌∙◌, Less, Equal}
use Rattle.std.specs.List.{AllByRecursion}
use Rattle.std.specs.List.Sorted.{IsStrictlySortedBy}
use Rattle.std.specs.Map.{lookup, keys_of}
use Rattle.std.specs.BTreeMap.{is_at}
use Rattle.std.specs.Ordering.{nat_cmp}
use Rattle.std.specs.Cmp.Lexicographic.{slice_cmp}
use Rattle.std.specs.Str.{bytes_eq}
use Rattle.std.proofs.lemmas.Cmp.{nat_list_cmp_total, tied_itself}
use Rattle.game_store.specs.declared.memory.Slot.{Slot}
use Rattle.game_store.specs.declared.memory.Text.{Text}
use Rattle.game_store.specs.Slots.{Slots, game_at, game_of_text}
use Rattle.game_store.specs.Listing.{Listed, ListsGames, listed_games, listed_if}
use Rattle.game_store.proofs.SlotLemmas.{is_at_same, one_stamp}

abbrev stamps : List Listed → List (List ℕ)
stamps = map (λ (e : Listed). e.0)

pub unlike : (k q : List ℕ) → slice_cmp nat_cmp k q ≡ Less → (b : Bool) → bytes_eq k q ≡ b → b ≡ false
unlike k q less false is = refl
unlike k q less true is =
    let tied : Less ≡ Equal = sym less ∙ ap (slice_cmp nat_cmp k) (sym (one_stamp k q is)) ∙ tied_itself nat_list_cmp_total k in
    absurd cc

-- a stamp below all others is not among them
absent_if : (k q : List ℕ) (o : Option Text) (es : Slots) → slice_cmp nat_cmp k q ≡ Less → lookup (bytes_eq k) (listed_games es) ≡ None → lookup (bytes_eq k) (listed_if q o ++ listed_games es) ≡ None
absent_if k q None es less rest = rest
absent_if k q (Some t) es less rest = rw (unlike k q less (bytes_eq k q) refl) rest

absent : (k : List ℕ) (es : Slots) → AllByRecursion (λ q. slice_cmp nat_cmp k q ≡ Less) (keys_of es) → lookup (bytes_eq k) (listed_games es) ≡ None
absent k [] all = refl
absent k (e ∷ es) all = absent_if k e.0 e.1.text es all.0 (absent k es all.1)

found_if : (stamp k : List ℕ) (o : Option Text) (es : Slots) → AllByRecursion (λ q. slice_cmp nat_cmp k q ≡ Less) (keys_of es) → lookup (bytes_eq stamp) (listed_games es) ≡ game_at es stamp
    → (b : Bool) → bytes_eq stamp k ≡ b → lookup (bytes_eq stamp) (listed_if k o ++ listed_games es) ≡ cond b (option_map game_of_text o) (game_at es stamp)
found_if stamp k None es above rest true is = ap (λ a. lookup (bytes_eq a) (listed_games es)) (one_stamp stamp k is) ∙ absent k es above
found_if stamp k (Some t) es above rest true is = rw is refl
found_if stamp k None es above rest false is = rest
found_if stamp k (Some t) es above rest false is = rw is rest

push : (b : Bool) (s : Slot) (o : Option Slot) → option_and_then (λ (x : Slot). option_map game_of_text x.text) (cond b (Some s) o)
    ≡ cond b (option_map game_of_text s.text) (option_and_then (λ (x : Slot). option_map game_of_text x.text) o)
push true s o = refl
push false s o = refl

found : (es : Slots) → IsStrictlySortedBy (slice_cmp nat_cmp) (keys_of es) → (stamp : List ℕ) → lookup (bytes_eq stamp) (listed_games es) ≡ game_at es stamp
unfolding IsStrictlySortedBy
found [] sorted stamp = refl
found (e ∷ es) sorted stamp =
    found_if stamp e.0 e.1.text es sorted.0 (found es sorted.1 stamp) (bytes_eq stamp e.0) refl
    ∙ sym (ap (λ b. option_and_then (λ (x : Slot). option_map game_of_text x.text) (cond b (Some e.1) (lookup (λ q. is_at (slice_cmp nat_cmp stamp) q) es))) (is_at_same stamp e.0)
    ∙ push (bytes_eq stamp e.0) e.1 (lookup (λ q. is_at (slice_cmp nat_cmp stamp) q) es))

below_if : (k q : List ℕ) (o : Option Text) (es : Slots) → slice_cmp nat_cmp k q ≡ Less → AllByRecursion (λ p. slice_cmp nat_cmp k p ≡ Less) (stamps (listed_games es))
    → AllByRecursion (λ p. slice_cmp nat_cmp k p ≡ Less) (stamps (listed_if q o ++ listed_games es))
below_if k q None es less rest = rest
below_if k q (Some t) es less rest = (less, rest)

below : (k : List ℕ) (es : Slots) → AllByRecursion (λ q. slice_cmp nat_cmp k q ≡ Less) (keys_of es) → AllByRecursion (λ q. slice_cmp nat_cmp k q ≡ Less) (stamps (listed_games es))
below k [] all = tt
below k (e ∷ es) all = below_if k e.0 e.1.text es all.0 (below k es all.1)

rising_if : (k : List ℕ) (o : Option Text) (es : Slots) → AllByRecursion (λ q. slice_cmp nat_cmp k q ≡ Less) (stamps (listed_games es)) → IsStrictlySortedBy (slice_cmp nat_cmp) (stamps (listed_games es))
    → IsStrictlySortedBy (slice_cmp nat_cmp) (stamps (listed_if k o ++ listed_games es))
unfolding IsStrictlySortedBy
rising_if k None es above rest = rest
rising_if k (Some t) es above rest = (above, rest)

rising : (es : Slots) → IsStrictlySortedBy (slice_cmp nat_cmp) (keys_of es) → IsStrictlySortedBy (slice_cmp nat_cmp) (stamps (listed_games es))
unfolding IsStrictlySortedBy
rising [] sorted = tt
rising (e ∷ es) sorted = rising_if e.0 e.1.text es (below e.0 es sorted.0) (rising es sorted.1)

pub lists : (es : Slots) → IsStrictlySortedBy (slice_cmp nat_cmp) (keys_of es) → ListsGames (listed_games es) (game_at es)
lists es sorted = record { found = found es sorted; rising = rising es sorted }
