-- Men after the turning, and those of them who are numbered before a group.
use Rattle.std.specs.Prelude.{ℕ, zero, suc, List, [], ◌∷◌}
use Rattle.place_index.specs.Index.{lead_codes, squares_of_all}
use Rattle.place_index.specs.Shape.{Layout, other_groups}
use Rattle.place_index.specs.Inside.Groups.{CountLike}
use Rattle.place_index.specs.declared.group.Group.{Group}
use Rattle.place_index.specs.declared.man.Man.{Man}

-- a shape, and the men where they stand after the turning
pub record TurnedMen : Type 0 where
  pub shape : Layout
  pub men : List Man

-- some codes, and those of the first groups
abbrev pub codes_with : List ℕ → List Group → ℕ → List ℕ
codes_with codes gs zero = codes
codes_with codes [] (suc n) = codes
codes_with codes (g ∷ gs) (suc n) = codes_with (g.code ∷ codes) gs n

-- the codes of the groups before one
abbrev pub codes_before : Layout → ℕ → List ℕ
codes_before l zero = []
codes_before l (suc n) = codes_with (lead_codes l) (other_groups l.material l.pieces) n

-- earlier men stand like those of the groups before one
abbrev pub AreBefore : TurnedMen → ℕ → List ℕ → Type 0
AreBefore t place earlier = CountLike earlier (squares_of_all t.men (codes_before t.shape place))
