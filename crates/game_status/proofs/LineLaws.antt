-- Words of the lines of games.
use Rattle.std.proofs.Common.{◌≡◌, ◌∙◌, ◌++◌, List, ℕ, ap, append_assoc}

-- two parts, one behind the other
pub added_two : (old mid new a b words : List ℕ) → mid ≡ old ++ a → new ≡ mid ++ b → b ≡ words → new ≡ old ++ (a ++ words)
added_two old mid new a b words p q is = q ∙ ap (λ l. l ++ b) p ∙ append_assoc old a b ∙ ap (λ l. old ++ (a ++ l)) is
