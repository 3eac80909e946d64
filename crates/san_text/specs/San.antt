-- A text as the text of a move in a position (PGN standard, section 8.2.3).
use Rattle.std.specs.Prelude.{◌≡◌, ◌≢◌, ℕ, List, codes}
use Rattle.board_core.specs.declared.parts.Parts.{Parts}
use Rattle.board_core.specs.declared.moves.Move.{Move}
use Rattle.board_core.specs.Moves.{IsLegal}
use Rattle.san_text.specs.declared.fault.SanFault.{SanFault}
use Rattle.san_text.specs.declared.fault.SanFault.TheVariants.{BadText, NoMove, Ambiguous}
use Rattle.san_text.specs.declared.told.Told.{Told}
use Rattle.san_text.specs.Told.{SpellsTold}
use Rattle.san_text.specs.Agrees.{Agrees}

-- a legal move that agrees with what is told
abbrev pub IsMeant : Parts → Told → Move → Type 0
IsMeant p told m = IsLegal p m × Agrees p told m

-- what the text tells is so of this legal move, and of no other one
pub record ReadsSan (p : Parts) (t : List ℕ) (m : Move) : Type 0 where
  pub told : Told
  pub spells : SpellsTold t told
  pub meant : IsMeant p told m
  pub only : (n : Move) → IsMeant p told n → n ≡ m

-- the first thing that is wrong: the text tells nothing, no legal move agrees with what it tells, or two do
abbrev pub IsFirstSanFault : Parts → List ℕ → SanFault → Type 0
IsFirstSanFault p t BadText = (told : Told) → SpellsTold t told → ⊥
IsFirstSanFault p t NoMove = (told : Told) × SpellsTold t told × ((m : Move) → IsMeant p told m → ⊥)
IsFirstSanFault p t Ambiguous =
    (told : Told) × SpellsTold t told × (m : Move) × (n : Move) × IsMeant p told m × IsMeant p told n × (m ≢ n)

-- the names of the faults
abbrev pub san_fault_name : SanFault → List ℕ
san_fault_name BadText = codes "BadText"
san_fault_name NoMove = codes "NoMove"
san_fault_name Ambiguous = codes "Ambiguous"
