-- A line with its line feed.
use Rattle.std.proofs.Common.{◌≡◌, ◌∙◌, ℕ, List, [], ◌∷◌, ◌++◌, sym, ap, append_assoc}
use Rattle.move_msg.specs.TextLines.{ended}

pub ends_behind : (a b line words : List ℕ) → words ≡ ended line → (a ++ b) ++ words ≡ ended (a ++ b ++ line)
ends_behind a b line words is =
    ap (λ (l : List ℕ). (a ++ b) ++ l) is ∙ sym (append_assoc (a ++ b) line (10 ∷ []))
