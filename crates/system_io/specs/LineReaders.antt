-- An input that is read line by line as it comes (this project's own).
use Rattle.std.specs.Prelude.{◌≡◌, ◌≢◌, ◌<◌, ◌⊎◌, ◌++◌, ℕ, Bool, true, false, List, [], ◌∷◌, length, Option, IfSome}
use Rattle.std.specs.List.{All}
use Rattle.std.specs.Io.KnownBytes.{Consumes, IsAtEnd}

-- what is known of an input that is read line by line
pub record LineFacts : Type 1 where
  -- the bytes that are left, where they are known
  pub left : Option (List ℕ)
  -- the bytes that have come already
  pub ahead : List ℕ
  -- it can't be read to its end
  pub fails : Type 0
  -- reading on may take memory, which may be refused
  pub takes_memory : Type 0

-- One more line was read. It has no line feed. It stood before the first line feed; or it was all that was left, and the input ended
-- without one. Nothing after the line feed was taken.
pub record ReadsLine (old new : Option (List ℕ)) (line : List ℕ) : Type 0 where
  pub piece : List ℕ
  pub taken : Consumes old new piece
  pub one : All (λ b. b ≢ 10) line
  pub is : (piece ≡ line ++ 10 ∷ []) ⊎ ((piece ≡ line) × (0 < length line) × IfSome old (λ bytes. IsAtEnd new))

-- a line was read, or there is none
abbrev pub ReadsIfAny : Option (List ℕ) → Option (List ℕ) → List ℕ → Bool → Type 0
ReadsIfAny old new line true = ReadsLine old new line
ReadsIfAny old new line false = IsAtEnd old × Consumes old new []
