-- Why a manifest is refused.
use Rattle.std.proofs.Common.{◌≡◌, ◌⊎◌, ℕ, List, inl, inr, sym, ap, ◌∙◌, subst}
use Rattle.move_msg.specs.declared.manifest.ManifestFault.{ManifestFault}
use Rattle.move_msg.specs.declared.manifest.ManifestFault.TheVariants.{BadLine, OutOfMemory}
use Rattle.move_msg.specs.Manifests.{IsFirstBadLine}

abbrev number_of : ManifestFault → ℕ
number_of (BadLine k) = k
number_of OutOfMemory = 0

-- the line that is told is the first at fault
pub bad_line : (text : List ℕ) (fault : ManifestFault) (number : ℕ) → fault ≡ BadLine number → (fault ≡ OutOfMemory) ⊎ ((k : ℕ) × (fault ≡ BadLine k) × IsFirstBadLine text k) → IsFirstBadLine text number
bad_line text fault number is (inl e) = absurd (let f = sym is ∙ e in cc)
bad_line text fault number is (inr h) = subst (IsFirstBadLine text) (ap number_of (sym h.1 ∙ is)) h.2
