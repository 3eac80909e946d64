-- Items of a list that are put, each as something else, one after the other at the front of another list.
use Rattle.std.proofs.Common.{◌≡◌, ◌∙◌, ◌<◌, ◌+◌, ◌++◌, ◌∷◌, [], ℕ, List, length, map, take, drop, set, get_or, sym, ap, refl, arith}
use Rattle.std.proofs.lemmas.List.{length-set, take_more, take_more_set, take_all, take-append-drop, drop-drop, drop-set-lt, map-append}

-- so many are put, and what stood behind them stands there still
pub record ArePut {A B : Type 0} (f : A → B) (xs : List A) (old new : List B) (n : ℕ) : Type 0 where
  pub long : length new ≡ length old
  pub front : take n new ≡ map f (take n xs)
  pub rest : drop n new ≡ drop n old

pub none_put : {A B : Type 0} (f : A → B) (xs : List A) (old : List B) → ArePut f xs old old 0
none_put f xs old = record { long = refl; front = refl; rest = refl }

drop_next : {B : Type 0} (n : ℕ) (xs ys : List B) → drop n xs ≡ drop n ys → drop (n + 1) xs ≡ drop (n + 1) ys
drop_next n xs ys same = sym (drop-drop 1 n xs) ∙ ap (drop 1) same ∙ drop-drop 1 n ys

pub one_put : {A B : Type 0} (f : A → B) (xs : List A) (old new : List B) (n : ℕ) (x : A) → n < length xs → n < length new → ((d : A) → get_or xs n d ≡ x) → ArePut f xs old new n → ArePut f xs old (set new n (f x)) (n + 1)
one_put f xs old new n x low room is so = record {
  long = length-set new n (f x) ∙ so.long;
  front = take_more_set new n (f x) room ∙ ap (λ l. l ++ f x ∷ []) so.front ∙ sym (map-append f (take n xs) (x ∷ [])) ∙ ap (map f) (ap (λ y. take n xs ++ y ∷ []) (sym (is x)) ∙ sym (take_more xs n x low));
  rest = drop-set-lt (n + 1) new n (f x) (omega arith) ∙ drop_next n new old so.rest;
}

pub all_put : {A B : Type 0} (f : A → B) (xs : List A) (old new : List B) → ArePut f xs old new (length xs) → new ≡ map f xs ++ drop (length xs) old
all_put f xs old new so =
    sym (take-append-drop (length xs) new) ∙ ap (λ l. l ++ drop (length xs) new) (so.front ∙ ap (map f) (take_all (length xs) xs (omega arith))) ∙ ap (λ l. map f xs ++ l) so.rest
