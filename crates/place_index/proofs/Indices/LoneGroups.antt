-- Men who are the only ones of their kind, whose squares need no search.
use Rattle.std.proofs.Common.{◌≡◌, ℕ, ◌<◌, List, [], ◌∷◌, slice_index, sym, ap, ◌∙◌}
use Rattle.place_index.specs.Material.{pieces_of, count_of}
use Rattle.place_index.specs.Men.{squares_of, square_of}
use Rattle.place_index.specs.Others.{free_number, free_set_number}
use Rattle.place_index.specs.Inside.Turns.{turn_square, turned_by}
use Rattle.place_index.specs.Inside.Groups.{AreLoneSquares}
use Rattle.place_index.specs.Index.{IsPlacement}
use Rattle.place_index.specs.declared.man.Man.{Man}
use Rattle.place_index.specs.declared.turn.Turn.{Turn}
use Rattle.place_index.proofs.Turns.Mirrorings.{once_small, lone_squares, only_once, free_alone}

-- where a man that occurs once goes
pub lone_found : (key : ℕ) (men : List Man) (t : Turn) (squares : List ℕ) (c from to : ℕ) → key < 145 → IsPlacement key men → AreLoneSquares men squares → count_of (pieces_of key) c ≡ 1
    → from ≡ slice_index squares c → to ≡ turn_square t from → squares_of (turned_by t men) c ≡ to ∷ []
lone_found key men t squares c from to lt p at one f e =
    let is : from ≡ square_of men c = f ∙ at.is c (square_of men c) (once_small key c lt one) (only_once key men c p one) in
    lone_squares key men t c lt p one ∙ ap (λ s. s ∷ []) (sym (e ∙ ap (turn_square t) is))

pub lone_number : (first : ℕ) (earlier squares : List ℕ) (s : ℕ) → squares ≡ s ∷ [] → free_number first earlier s ≡ free_set_number first earlier squares
lone_number first earlier squares s e = sym (free_alone first earlier s) ∙ ap (free_set_number first earlier) (sym e)
