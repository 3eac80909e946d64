-- A law of outputs.
use Rattle.std.specs.Prelude.{◌≡◌, Bool, true, false}
use Rattle.std.proofs.Common.{◌∙◌, sym}
use Rattle.std.proofs.lemmas.Bool.{false≢true}

pub not_both : (is_stuck : Bool) → is_stuck ≡ false → is_stuck ≡ true → ⊥
not_both is_stuck out stuck = false≢true (sym out ∙ stuck)

-- where nothing is claimed, nothing is owed
pub untold : {P : Type 0} → false ≡ true → P
untold told = absurd (false≢true told)
