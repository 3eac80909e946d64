-- The places of parts, as functions find them.
use Rattle.std.specs.Prelude.{◌≡◌, ℕ, ◌+◌, ◌/◌, ◌%◌, ◌==◌}
use Rattle.table_file.specs.declared.places.Sides.{Sides}
use Rattle.table_file.specs.declared.places.Sides.TheVariants.{One, Two}
use Rattle.table_file.specs.declared.places.PartPlace.{PartPlace}
use Rattle.table_file.specs.Files.{side_of}

abbrev pub sides_count : Sides → ℕ
sides_count One = 1
sides_count Two = 2

-- the place of part k, where each file of the leading pawn has so many sides
pub record IsPlace (sides k : ℕ) (place : PartPlace) : Type 0 where
  pub side : place.side ≡ side_of (k % sides)
  pub file : place.file ≡ k / sides
  pub last : place.is_last ≡ (k % sides + 1 == sides)
