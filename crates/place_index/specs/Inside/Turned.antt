-- A placement as it is turned for a shape.
use Rattle.std.specs.Prelude.{◌≤◌}
use Rattle.place_index.specs.Index.{IsShape, IsPlacement, numbers_of, sum_of_products}
use Rattle.place_index.specs.Shape.{factors_of, greatest_size}
use Rattle.place_index.specs.Inside.Groups.{AreLoneSquares, IsLeadTurned}
use Rattle.place_index.specs.Inside.Turns.{turned_by}
use Rattle.place_index.specs.Inside.TurnedMen.{TurnedMen}
use Rattle.place_index.specs.declared.indexing.Turned.TheInside.{Inside}

abbrev pub turned_men : Inside → TurnedMen
turned_men a = record { shape = a.shape.now; men = turned_by a.turn a.men.now }

-- The turned men are a placement of the shape's material, whose leading group stands as its number wants.
pub record IsTurned (t : TurnedMen) : Type 0 where
  pub shape : IsShape t.shape
  pub men : IsPlacement t.shape.material t.men
  pub lead : IsLeadTurned t.shape t.men
  pub fits : sum_of_products (numbers_of t.shape t.men) (factors_of t.shape) ≤ greatest_size

-- what a value of this type keeps
pub record KeepsTurned (a : Inside) : Type 0 where
  pub turned : IsTurned (turned_men a)
  pub men : IsPlacement a.shape.now.material a.men.now
  pub lone_squares : AreLoneSquares a.men.now a.lone_squares.now
