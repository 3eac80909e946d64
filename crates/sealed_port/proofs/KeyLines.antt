-- Lines of keys.
use Rattle.std.specs.Prelude.{◌==◌}
use Rattle.std.proofs.Common.{true, ◌≡◌, ◌++◌, ◌∷◌, [], ℕ, List, length, take, drop, ap, sym, arith, ◌∙◌, refl}
use Rattle.std.proofs.lemmas.Bool.{eqb-true}
use Rattle.std.proofs.lemmas.List.{append-nil, length-append, take-append-drop}
use Rattle.hex.specs.Hex.{encode_lower}
use Rattle.sealed_port.specs.KeyFiles.{IsKey, SpellsKeys, One, Two, key_line}
use Rattle.sealed_port.specs.declared.seal_port.Keys.{Keys}
use Rattle.sealed_port.proofs.HexDigits.{digits_long}

pub length-key_line : (key : List ℕ) → IsKey key → length (key_line key) ≡ 65
length-key_line key is = let h = digits_long key is.long in omega (arith, length-append (encode_lower key) (10 ∷ []))

abbrev of : List ℕ → List ℕ → Keys
of first second = record { first = first; second = second }

-- what has no bytes is empty
pub none_left : (xs : List ℕ) → true ≡ (length xs == 0) → xs ≡ []
none_left [] e = refl
none_left (x ∷ xs) e = let zero : length (x ∷ xs) ≡ 0 = eqb-true _ _ (sym e) in absurd (omega arith)

-- one line, behind which nothing stands
pub spells_one : (text line rest key : List ℕ) → line ≡ take 65 text → rest ≡ drop 65 text → IsKey key → line ≡ key_line key → rest ≡ [] → SpellsKeys text (of key key)
spells_one text line rest key front behind is e none =
    One is (sym (take-append-drop 65 text) ∙ ap (λ (xs : List ℕ). xs ++ drop 65 text) (sym front ∙ e) ∙ ap (λ (xs : List ℕ). key_line key ++ xs) (sym behind ∙ none) ∙ append-nil (key_line key)) refl

-- two lines, behind which nothing stands
pub spells_two : (text line rest line' rest' key key' : List ℕ) → line ≡ take 65 text → rest ≡ drop 65 text → line' ≡ take 65 rest → rest' ≡ drop 65 rest → IsKey key → line ≡ key_line key → IsKey key' → line' ≡ key_line key' → rest' ≡ [] → SpellsKeys text (of key key')
spells_two text line rest line' rest' key key' front behind front' behind' is e is' e' none =
    Two is is' (sym (take-append-drop 65 text) ∙ ap (λ (xs : List ℕ). xs ++ drop 65 text) (sym front ∙ e) ∙ ap (λ (xs : List ℕ). key_line key ++ xs) (sym behind ∙ whole))
  where
    whole : rest ≡ key_line key'
    whole = sym (take-append-drop 65 rest) ∙ ap (λ (xs : List ℕ). xs ++ drop 65 rest) (sym front' ∙ e') ∙ ap (λ (xs : List ℕ). key_line key' ++ xs) (sym behind' ∙ none) ∙ append-nil (key_line key')
