-- Lines that are laid out word by word.
use Rattle.std.proofs.Common.{◌≡◌, ◌∙◌, ◌++◌, ap, ℕ, List, append_assoc}

-- words, and then a name
pub added_two : (old mid new words name is : List ℕ) → mid ≡ old ++ words → new ≡ mid ++ name → name ≡ is → new ≡ old ++ (words ++ is)
added_two old mid new words name is a b e = b ∙ ap (λ t. t ++ name) a ∙ append_assoc old words name ∙ ap (λ t. old ++ (words ++ t)) e
