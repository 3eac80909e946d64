-- The moves that may be meant, and the faults of a text.
use Rattle.std.proofs.Common.{◌≡◌, refl, ap, subst}
use Rattle.board_core.specs.declared.parts.Parts.{Parts}
use Rattle.board_core.specs.declared.moves.Move.{Move}
use Rattle.board_core.specs.Moves.{IsLegal}
use Rattle.san_text.specs.declared.fault.SanFault.{SanFault}
use Rattle.san_text.specs.declared.fault.SanFault.TheVariants.{BadText, NoMove, Ambiguous}
use Rattle.san_text.specs.declared.told.ManTold.{ManTold}
use Rattle.san_text.specs.declared.told.Told.TheVariants.{Goes}
use Rattle.san_text.specs.Agrees.{AgreesMan}
use Rattle.san_text.specs.Inside.Movers.{told_move, MayBeMeant, IsMoverFault, IsToldFault}

-- what agrees is the move that is told, from its square
pub told_whole : (p : Parts) (man : ManTold) (m : Move) → AgreesMan p man m → m ≡ told_move man m.from
told_whole p man m h = rw (← h.square, ← h.promotion) refl

pub meant_from : (p : Parts) (man : ManTold) (m : Move) → IsLegal p m → AgreesMan p man m → MayBeMeant p man m.from
meant_from p man m l h =
    let e = told_whole p man m h in
    (subst (λ n. IsLegal p n) e l, subst (λ n. AgreesMan p man n) e h)

pub mover_fault : (p : Parts) (man : ManTold) (fault : SanFault) → IsMoverFault p man fault → IsToldFault p (Goes man) fault
mover_fault p man BadText h = h
mover_fault p man NoMove h = λ m q. h m.from (meant_from p man m q.0 q.1)
mover_fault p man Ambiguous h = (told_move man h.0, told_move man h.1, h.2, h.3, λ e. h.4 (ap (λ (m : Move). m.from) e))
