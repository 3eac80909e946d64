-- Lines that were written.
use Rattle.std.proofs.Common.{List, [], ◌∷◌, ◌++◌, ℕ, Option, ap, sym, append-nil, subst, ◌∙◌}
use Rattle.std.specs.Io.KnownBytes.{Appends}
use Rattle.std.proofs.KnownBytes.{Appends-trans}
use Rattle.std.proofs.lemmas.List.Concat.{flat_map-append}
use Rattle.move_msg.specs.TextLines.{ended, text_of}

-- one more line after others
pub more_lines : (old mid new : Option (List ℕ)) (first : List (List ℕ)) (last : List ℕ) → Appends old mid (text_of first) → Appends mid new (ended last) → Appends old new (text_of (first ++ last ∷ []))
more_lines old mid new first last p q =
    let joined = flat_map-append ended first (last ∷ []) ∙ ap (λ (t : List ℕ). text_of first ++ t) (append-nil (ended last)) in
    subst (Appends old new) (sym joined) (Appends-trans old mid new _ _ p q)
