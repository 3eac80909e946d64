-- Squares by the difference of their numbers.
use Rattle.std.proofs.Common.{ℕ, ◌≡◌, ◌<◌, ◌+◌, ◌-◌, ◌*◌, true, false, arith}
use Rattle.std.proofs.lemmas.Bool.{false≢true}
use Rattle.board_core.specs.declared.attack.Direction.{Direction}
use Rattle.board_core.specs.declared.attack.Direction.TheVariants.{North, South, East, West, NorthEast, NorthWest, SouthEast, SouthWest}
use Rattle.board_core.specs.Attack.{Along}
use Rattle.board_core.specs.Inside.Search.{IsInside, stride, rises}

pub up_along : (d : Direction) (k from : ℕ) → rises d ≡ true → from < 64 → IsInside d k from → Along d k from (from + stride d * k)
up_along North k from up b i = (omega arith, omega arith)
up_along South k from up b i = absurd (false≢true up)
up_along East k from up b i = (omega arith, omega arith)
up_along West k from up b i = absurd (false≢true up)
up_along NorthEast k from up b i = (omega (arith, i.0, i.1), omega (arith, i.0, i.1))
up_along NorthWest k from up b i = (omega (arith, i.0, i.1), omega (arith, i.0, i.1))
up_along SouthEast k from up b i = absurd (false≢true up)
up_along SouthWest k from up b i = absurd (false≢true up)

pub down_along : (d : Direction) (k from : ℕ) → rises d ≡ false → from < 64 → IsInside d k from → Along d k from (from - stride d * k)
down_along North k from down b i = absurd (let f = down in cc)
down_along South k from down b i = (omega arith, omega arith)
down_along East k from down b i = absurd (let f = down in cc)
down_along West k from down b i = (omega arith, omega arith)
down_along NorthEast k from down b i = absurd (let f = down in cc)
down_along NorthWest k from down b i = absurd (let f = down in cc)
down_along SouthEast k from down b i = (omega (arith, i.0, i.1), omega (arith, i.0, i.1))
down_along SouthWest k from down b i = (omega (arith, i.0, i.1), omega (arith, i.0, i.1))
