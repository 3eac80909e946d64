-- The leading men on the squares to which they go.
use Rattle.std.specs.Prelude.{◌≡◌, ℕ, ◌-◌, ◌≤◌, List, [], ◌∷◌, map}
use Rattle.place_index.specs.Square.{file, rank}
use Rattle.place_index.specs.Index.{lead_codes, lead_number, lead_pawns_number, squares_of_all}
use Rattle.place_index.specs.Kings.{AreTurnedKings, kings_number}
use Rattle.place_index.specs.Pawns.{pawn_square, pawns_before}
use Rattle.place_index.specs.Three.{three_number}
use Rattle.place_index.specs.Inside.Groups.{ArePawnsAt, CountLike}
use Rattle.place_index.specs.Inside.TurnedMen.{TurnedMen}
use Rattle.place_index.specs.declared.leading.Leading.{Leading}
use Rattle.place_index.specs.declared.leading.Leading.TheVariants.{Pawn, Pawns, Three, Kings}

abbrev pub leading_number : Leading → ℕ
leading_number (Pawn s) = pawns_before (file s) 0 (rank s - 1)
leading_number (Pawns numbers) = lead_pawns_number numbers
leading_number (Three a b c) = three_number a b c
leading_number (Kings a b) = kings_number a b

abbrev pub leading_squares : Leading → List ℕ
leading_squares (Pawn s) = s ∷ []
leading_squares (Pawns numbers) = map pawn_square numbers
leading_squares (Three a b c) = a ∷ b ∷ c ∷ []
leading_squares (Kings a b) = a ∷ b ∷ []

-- they stand as their number wants, pawns with the leading one on this file
abbrev pub StandAsWanted : ℕ → Leading → Type 0
StandAsWanted f (Pawn s) = (1 ≤ rank s) × (rank s ≤ 6) × (file s ≡ f)
StandAsWanted f (Pawns numbers) = ArePawnsAt f numbers
StandAsWanted f (Three a b c) = Unit {0}
StandAsWanted f (Kings a b) = AreTurnedKings a b

-- these are the men who lead
pub record AreLeading (t : TurnedMen) (leading : Leading) : Type 0 where
  pub wanted : StandAsWanted t.shape.file leading
  pub number : leading_number leading ≡ lead_number t.shape t.men
  pub squares : CountLike (leading_squares leading) (squares_of_all t.men (lead_codes t.shape))
