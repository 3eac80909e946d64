-- Loops that append something for each element of a list.
use Rattle.std.proofs.Common.{◌≡◌, ℕ, ◌+◌, ◌≤◌, ◌<◌, List, [], ◌∷◌, ◌++◌, length, get_or, take, sym, ap, ◌∙◌, append_assoc}
use Rattle.std.specs.List.{flat_map}
use Rattle.std.proofs.lemmas.List.{take_more, take_all, flat_map_more}

-- one element more
pub adds_next : {X A : Type 0} (f : X → List A) (xs : List X) (i : ℕ) (d x : X) (old now new : List A) → i < length xs → x ≡ get_or xs i d
    → now ≡ old ++ flat_map f (take i xs) → new ≡ now ++ f x → new ≡ old ++ flat_map f (take (i + 1) xs)
adds_next f xs i d x old now new lt is before one =
    let more : take (i + 1) xs ≡ take i xs ++ x ∷ [] = take_more xs i d lt ∙ ap (λ y. take i xs ++ y ∷ []) (sym is) in
    one ∙ ap (λ ys. ys ++ f x) before ∙ flat_map_more f old (take i xs) x ∙ ap (λ ys. old ++ flat_map f ys) (sym more)

-- none is left
pub added_all : {X A : Type 0} (f : X → List A) (xs : List X) (i : ℕ) (old now : List A) → length xs ≤ i
    → now ≡ old ++ flat_map f (take i xs) → now ≡ old ++ flat_map f xs
added_all f xs i old now le before = before ∙ ap (λ ys. old ++ flat_map f ys) (take_all i xs le)

-- four pieces, one after the other
pub four_put : {A : Type 0} (old one two three four a b c d : List A) → one ≡ old ++ a → two ≡ one ++ b → three ≡ two ++ c → four ≡ three ++ d → four ≡ old ++ (a ++ b ++ c ++ d)
four_put old one two three four a b c d e f g h = rw (h, g, f, e) (simp append_assoc)
