-- The parts of a line, one after another.
use Rattle.std.proofs.Common.{◌≡◌, ◌++◌, ◌∷◌, [], ℕ, List, ap, flat_map, map, refl, sym}
use Rattle.std.proofs.lemmas.List.{append-nil}
use Rattle.std.specs.Borrow.{Bor}
use Rattle.timeline.specs.Events.{line_of}

-- what is joined without a separator is the line
pub is_line_of : (parts : List (Bor (List ℕ))) → flat_map (λ s. s.now) parts ≡ line_of (map (λ s. s.now) parts)
is_line_of [] = refl
is_line_of (part ∷ []) = append-nil part.now
is_line_of (part ∷ next ∷ parts) = ap (λ more. part.now ++ more) (is_line_of (next ∷ parts))
