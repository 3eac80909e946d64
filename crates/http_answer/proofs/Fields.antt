-- Fields of a response, one behind the other.
use Rattle.std.proofs.Common.{◌≡◌, ◌∙◌, List, [], ◌∷◌, ◌++◌, ap, append_assoc}

pub three_more : {X : Type 0} (a b c d : List X) (x y z : X) → b ≡ a ++ x ∷ [] → c ≡ b ++ y ∷ [] → d ≡ c ++ z ∷ [] → d ≡ a ++ (x ∷ y ∷ z ∷ [])
three_more {X} a b c d x y z p q r =
    r
    ∙ ap (λ (l : List X). l ++ z ∷ []) (q ∙ ap (λ (l : List X). l ++ y ∷ []) p ∙ append_assoc a (x ∷ []) (y ∷ []))
    ∙ append_assoc a (x ∷ y ∷ []) (z ∷ [])
