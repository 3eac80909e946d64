-- Fronts of texts, and records that are put.
use Rattle.std.proofs.Common.{Global, ◌≡◌, ◌≢◌, ◌∙◌, ◌++◌, ℕ, Bool, true, false, cond, List, Option, Some, None, option_map, refl, ap, subst, Vec, arith}
use Rattle.std.specs.Borrow.{Bor}
use Rattle.std.specs.Option.{MatchOption}
use Rattle.std.specs.Ordering.{nat_cmp, is_eq}
use Rattle.std.specs.Cmp.Lexicographic.{slice_cmp}
use Rattle.std.specs.Str.{bytes_eq}
use Rattle.std.specs.BTreeMap.{BTreeMap, get, is_at}
use Rattle.std.proofs.lemmas.Bool.Decides.{nat_tests}
use Rattle.std.proofs.lemmas.Cmp.{same_from_slice_cmp}
use Rattle.system_io.specs.declared.record_store.Entry.{Entry}
use Rattle.game_status.specs.StoredDisks.{bytes_in}
use Rattle.game_status.specs.Inside.StoreReading.{PutsRecord}

-- ---- texts that begin with others

pub after_front : (text front : List ℕ) (r : Option (Bor (List ℕ))) (x : Bor (List ℕ)) → r ≡ Some x → MatchOption r ((rest : List ℕ) → text ≢ front ++ rest) (λ x. text ≡ front ++ x.now) → text ≡ front ++ x.now
after_front text front r x is h = subst (λ o. MatchOption o ((rest : List ℕ) → text ≢ front ++ rest) (λ x. text ≡ front ++ x.now)) is h

pub not_after : (text front : List ℕ) (r : Option (Bor (List ℕ))) → r ≡ None → MatchOption r ((rest : List ℕ) → text ≢ front ++ rest) (λ x. text ≡ front ++ x.now) → (rest : List ℕ) → text ≢ front ++ rest
not_after text front r is h = subst (λ o. MatchOption o ((rest : List ℕ) → text ≢ front ++ rest) (λ x. text ≡ front ++ x.now)) is h

-- ---- a record that is put

is_at_same : (a b : List ℕ) → is_at (slice_cmp nat_cmp a) b ≡ bytes_eq a b
is_at_same a b = same_from_slice_cmp nat_cmp is_eq bytes_eq refl (λ _ _. refl) (λ _ _. refl) (λ x y xs ys o h. grind (arith, nat_tests)) a b (slice_cmp nat_cmp a b) refl

map_cond : {A B : Type 0} (f : A → B) (b : Bool) (x y : Option A) → option_map f (cond b x y) ≡ cond b (option_map f x) (option_map f y)
map_cond f true x y = refl
map_cond f false x y = refl

abbrev items_of : Vec ℕ Global → List ℕ
items_of v = v.items

pub puts : (old new : BTreeMap (List ℕ) (Vec ℕ Global)) (e : Entry) → ((q : List ℕ) → get (slice_cmp nat_cmp) new q ≡ cond (is_at (slice_cmp nat_cmp e.stamp) q) (Some e.record) (get (slice_cmp nat_cmp) old q)) → PutsRecord e (bytes_in old) (bytes_in new)
puts old new e put q =
    ap (option_map items_of) (put q ∙ ap (λ b. cond b (Some e.record) (get (slice_cmp nat_cmp) old q)) (is_at_same e.stamp q))
    ∙ map_cond items_of (bytes_eq e.stamp q) (Some e.record) (get (slice_cmp nat_cmp) old q)
