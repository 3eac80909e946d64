-- A position as FEN text (PGN standard, section 16.1), in the strict form of this project: six
-- fields with one space between, and each position has one text.
use Rattle.std.specs.Prelude.{◌≡◌, ◌≢◌, ℕ, List, [], ◌∷◌, length, codes}
use Rattle.board_core.specs.declared.parts.Parts.{Parts}
use Rattle.board_core.specs.Position.{IsFirstFault}
use Rattle.fen_text.specs.declared.fault.FenFault.{FenFault}
use Rattle.fen_text.specs.declared.fault.FenFault.TheVariants.{FieldCount, BadPlacement, BadSide, BadCastlingText, BadSquare, BadNumber, BadPosition}
use Rattle.fen_text.specs.Cuts.{cut_at}
use Rattle.fen_text.specs.Placement.{SpellsPlacement}
use Rattle.fen_text.specs.Fields.{SpellsSide, SpellsCastling, SpellsEnPassant, SpellsCounter}

-- the six pieces of a text that is cut at each space
pub record SixFields (t : List ℕ) : Type 0 where
  pub placement : List ℕ
  pub side : List ℕ
  pub castling : List ℕ
  pub en_passant : List ℕ
  pub halfmove : List ℕ
  pub fullmove : List ℕ
  pub cut : cut_at 32 t ≡ placement ∷ side ∷ castling ∷ en_passant ∷ halfmove ∷ fullmove ∷ []

-- each of the six pieces of the text spells its part of the position
pub record SpellsPosition (t : List ℕ) (p : Parts) : Type 0 where
  pub fields : SixFields t
  pub men : SpellsPlacement fields.placement p.men
  pub side : SpellsSide fields.side p.side
  pub rights : SpellsCastling fields.castling p.rights
  pub en_passant : SpellsEnPassant fields.en_passant p.en_passant
  pub halfmove : SpellsCounter fields.halfmove p.halfmove
  pub fullmove : SpellsCounter fields.fullmove p.fullmove

-- there is something that a text spells
abbrev pub IsSpelling : {A : Type 0} → (List ℕ → A → Type 0) → List ℕ → Type 0
IsSpelling {A} Spells t = (x : A) × Spells t x

abbrev pub HasPlacement : {t : List ℕ} → SixFields t → Type 0
HasPlacement f = IsSpelling SpellsPlacement f.placement

abbrev pub HasSide : {t : List ℕ} → SixFields t → Type 0
HasSide f = IsSpelling SpellsSide f.side

abbrev pub HasCastling : {t : List ℕ} → SixFields t → Type 0
HasCastling f = IsSpelling SpellsCastling f.castling

abbrev pub HasSquare : {t : List ℕ} → SixFields t → Type 0
HasSquare f = IsSpelling SpellsEnPassant f.en_passant

abbrev pub HasNumbers : {t : List ℕ} → SixFields t → Type 0
HasNumbers f = IsSpelling SpellsCounter f.halfmove × IsSpelling SpellsCounter f.fullmove

-- the first thing that a text lacks: six fields, each of them in turn, and last that what they spell
-- is a position
abbrev pub IsFirstFenFault : List ℕ → FenFault → Type 0
IsFirstFenFault t FieldCount = length (cut_at 32 t) ≢ 6
IsFirstFenFault t BadPlacement = (f : SixFields t) × (HasPlacement f → ⊥)
IsFirstFenFault t BadSide = (f : SixFields t) × HasPlacement f × (HasSide f → ⊥)
IsFirstFenFault t BadCastlingText = (f : SixFields t) × HasPlacement f × HasSide f × (HasCastling f → ⊥)
IsFirstFenFault t BadSquare =
    (f : SixFields t) × HasPlacement f × HasSide f × HasCastling f × (HasSquare f → ⊥)
IsFirstFenFault t BadNumber =
    (f : SixFields t) × HasPlacement f × HasSide f × HasCastling f × HasSquare f × (HasNumbers f → ⊥)
IsFirstFenFault t (BadPosition fault) = (p : Parts) × SpellsPosition t p × IsFirstFault p fault

-- the names of the faults
abbrev pub fen_fault_name : FenFault → List ℕ
fen_fault_name FieldCount = codes "FieldCount"
fen_fault_name BadPlacement = codes "BadPlacement"
fen_fault_name BadSide = codes "BadSide"
fen_fault_name BadCastlingText = codes "BadCastlingText"
fen_fault_name BadSquare = codes "BadSquare"
fen_fault_name BadNumber = codes "BadNumber"
fen_fault_name (BadPosition fault) = codes "BadPosition"
