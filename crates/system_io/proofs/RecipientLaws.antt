-- The words of a port, one after another.
use Rattle.std.proofs.Common.{◌≡◌, ◌∙◌, ◌<◌, ◌+◌, ◌++◌, ◌∷◌, [], ℕ, List, ap, get_or, length, map, sym, take}
use Rattle.std.proofs.lemmas.List.{map-append, take_more}

-- one more is there, and shows the next one
pub one_more : {A B X : Type 0} (f : A → X) (h : B → X) (all all' : List A) (words : List B) (n : ℕ) (one : A) (d : B) → all' ≡ all ++ one ∷ [] → n < length words → f one ≡ h (get_or words n d) → map f all ≡ map h (take n words) → map f all' ≡ map h (take (n + 1) words)
one_more {A} {B} {X} f h all all' words n one d is some same before =
    ap (map f) is ∙ map-append f all (one ∷ []) ∙ ap (λ (l : List X). l ++ f one ∷ []) before ∙ ap (λ (x : X). map h (take n words) ++ x ∷ []) same
    ∙ sym (ap (map h) (take_more words n d some) ∙ map-append h (take n words) (get_or words n d ∷ []))
