-- What is done for each of some, one after the other.
use Rattle.std.proofs.Common.{◌≡◌, ◌∙◌, ◌+◌, ◌<◌, ◌++◌, ◌∷◌, [], ℕ, List, append-nil, append_assoc, ap, arith, drop, drop-cons, get_or, length, refl, subst, suc, sym, take, take-append-drop}
use Rattle.std.proofs.lemmas.List.{take_more}
use Rattle.timeline.specs.Events.{Event}
use Rattle.game_reports.specs.Writing.{DoesEach}

-- a list is parted at one of its items
pub parted : {A : Type 0} (xs : List A) (i : ℕ) (x d : A) → i < length xs → x ≡ get_or xs i d → xs ≡ take i xs ++ x ∷ drop (suc i) xs
parted {A} xs i x d lt is = sym (take-append-drop i xs) ∙ ap (λ (l : List A). take i xs ++ l) (drop-cons xs i d lt ∙ ap (λ (y : A). y ∷ drop (suc i) xs) (sym is))

pub halved : {A : Type 0} (xs : List A) (i : ℕ) → xs ≡ take i xs ++ drop i xs
halved xs i = sym (take-append-drop i xs)

module _ {A B : Type 0} (Does : A → B → List Event → Type 0) where
  -- for one more
  pub each_more : (xs : List A) (ys : List B) (x : A) (y : B) (first last : List Event) → DoesEach Does xs ys first → Does x y last → DoesEach Does (xs ++ x ∷ []) (ys ++ y ∷ []) (first ++ last)
  each_more [] [] x y first last h d = (last, [], d, refl, ap (λ (e : List Event). e ++ last) h ∙ sym (append-nil last))
  each_more [] (b ∷ ys) x y first last h d = absurd h
  each_more (a ∷ xs) [] x y first last h d = absurd h
  each_more (a ∷ xs) (b ∷ ys) x y first last (one, rest, does, each, is) d = (one, rest ++ last, does, each_more xs ys x y rest last each d, ap (λ (e : List Event). e ++ last) is ∙ append_assoc one rest last)

  pub each_long : (xs : List A) (ys : List B) (events : List Event) → DoesEach Does xs ys events → length ys ≡ length xs
  each_long [] [] events h = refl
  each_long [] (b ∷ ys) events h = absurd h
  each_long (a ∷ xs) [] events h = absurd h
  each_long (a ∷ xs) (b ∷ ys) events (one, rest, does, each, is) = let long = each_long xs ys rest each in omega (arith, long)

  -- for the next of some
  pub each_next : (xs : List A) (i : ℕ) (x d : A) (ys : List B) (y : B) (first last : List Event) → i < length xs → x ≡ get_or xs i d → DoesEach Does (take i xs) ys first → Does x y last → DoesEach Does (take (i + 1) xs) (ys ++ y ∷ []) (first ++ last)
  each_next xs i x d ys y first last lt is h does =
      let front : take (i + 1) xs ≡ take i xs ++ x ∷ [] = take_more xs i d lt ∙ ap (λ (z : A). take i xs ++ z ∷ []) (sym is) in
      subst (λ (l : List A). DoesEach Does l (ys ++ y ∷ []) (first ++ last)) (sym front) (each_more (take i xs) ys x y first last h does)
