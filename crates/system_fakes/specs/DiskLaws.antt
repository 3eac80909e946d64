-- A law of disks that lose power.
use Rattle.std.specs.Prelude.{◌≡◌, ◌⊎◌, ℕ, List, [], Option}
use Rattle.std.proofs.Common.{◌∙◌, inl, inr, ⊎_elim, sym}
use Rattle.system_fakes.specs.declared.disk_file.DiskFile.{DiskFile}
use Rattle.system_fakes.specs.PowerLosses.{LeavesOneOf, after_stop}

-- what every loss of power leaves is one of any two of which each leaves the one or the other
pub either_is : (d : DiskFile) (a b c : Option (List ℕ)) → LeavesOneOf d a b → LeavesOneOf d c c → (c ≡ a) ⊎ (c ≡ b)
either_is d a b c h k =
    let here : after_stop d 0 [] ≡ c = ⊎_elim (λ e. e) (λ e. e) (k 0 []) in
    ⊎_elim (λ e. inl (sym here ∙ e)) (λ e. inr (sym here ∙ e)) (h 0 [])
