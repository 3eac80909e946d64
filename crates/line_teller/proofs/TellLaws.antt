-- Lines of an input that were read.
use Rattle.std.proofs.Common.{◌≡◌, ◌≢◌, ℕ, ◌+◌, ◌-◌, ◌≤◌, ◌<◌, All, List, [], ◌∷◌, ◌++◌, cond, length, ne_eqb, Option, Some, None, refl, sym, ap, subst, ◌∙◌, append_assoc, append-nil, inl, inr, arith}
use Rattle.std.specs.Prelude.{◌==◌}
use Rattle.std.specs.List.{AllByRecursion, onto_first, slice_split}
use Rattle.std.proofs.lemmas.List.Elements.{recursion_from_All}
use Rattle.std.proofs.lemmas.List.Splits.{length-slice_split}
use Rattle.std.specs.Io.KnownBytes.{IsAtEnd}
use Rattle.move_msg.specs.TextLines.{lines_in, whole_lines}
use Rattle.system_io.specs.LineReaders.{ReadsLine}
use Rattle.line_teller.specs.ToldLines.{AreRead}

pub are_read_more : (a b c : Option (List ℕ)) (lines : List (List ℕ)) (line : List ℕ) → AreRead a lines b → ReadsLine b c line → AreRead a (lines ++ line ∷ []) c
unfolding AreRead
are_read_more a b c [] line h k = (c, subst (λ o. ReadsLine o c line) h k, refl)
are_read_more a b c (l ∷ lines) line (mid, first, rest) k = (mid, first, are_read_more mid b c lines line rest k)

-- ---- over a whole text

split_line : (line rest : List ℕ) → AllByRecursion (λ b. b ≢ 10) line → slice_split (λ b. b == 10) (line ++ 10 ∷ rest) ≡ line ∷ slice_split (λ b. b == 10) rest
split_line [] rest none = refl
split_line (x ∷ line) rest none =
    ap (λ b. cond b ([] ∷ slice_split (λ b. b == 10) (line ++ 10 ∷ rest)) (onto_first x (slice_split (λ b. b == 10) (line ++ 10 ∷ rest)))) (ne_eqb x 10 none.0)
    ∙ ap (onto_first x) (split_line line rest none.1)

split_last : (line : List ℕ) → AllByRecursion (λ b. b ≢ 10) line → slice_split (λ b. b == 10) line ≡ line ∷ []
split_last [] none = refl
split_last (x ∷ line) none =
    ap (λ b. cond b ([] ∷ slice_split (λ b. b == 10) line) (onto_first x (slice_split (λ b. b == 10) line))) (ne_eqb x 10 none.0)
    ∙ ap (onto_first x) (split_last line none.1)

whole_after : (line : List ℕ) (lines : List (List ℕ)) → 1 ≤ length lines → whole_lines (line ∷ lines) ≡ line ∷ whole_lines lines
whole_after line [] some = absurd (omega (arith, some))
whole_after line (next ∷ lines) some = refl

front_line : (line rest : List ℕ) → All (λ b. b ≢ 10) line → lines_in (line ++ 10 ∷ rest) ≡ line ∷ lines_in rest
unfolding lines_in
front_line line rest none =
    ap whole_lines (split_line line rest (recursion_from_All (λ b. b ≢ 10) line none))
    ∙ whole_after line (slice_split (λ b. b == 10) rest) (omega (arith, length-slice_split (λ b. b == 10) rest))

last_line : (line : List ℕ) → All (λ b. b ≢ 10) line → 0 < length line → lines_in line ≡ line ∷ []
unfolding lines_in
last_line [] none some = absurd (omega arith)
last_line (x ∷ line) none some = ap whole_lines (split_last (x ∷ line) (recursion_from_All (λ b. b ≢ 10) (x ∷ line) none))

no_lines : lines_in [] ≡ []
unfolding lines_in
no_lines = refl

-- one line of a text was read
pub read_one : (text : List ℕ) (mid : Option (List ℕ)) (line : List ℕ) → ReadsLine (Some text) mid line → (rest : List ℕ) × (mid ≡ Some rest) × (lines_in text ≡ line ∷ lines_in rest)
read_one text None line h = absurd h.taken
read_one text (Some rest) line h = (
  rest,
  refl,
  elim h.is [
    | inl ended' ↦ ap lines_in (h.taken ∙ ap (λ p. p ++ rest) ended' ∙ append_assoc line (10 ∷ []) rest) ∙ front_line line rest h.one
    | inr (is, some, end) ↦ ap lines_in (h.taken ∙ ap (λ p. p ++ rest) is ∙ ap (λ r. line ++ r) end ∙ append-nil line) ∙ last_line line h.one some ∙ ap (λ ls. line ∷ ls) (sym no_lines) ∙ ap (λ r. line ∷ lines_in r) (sym end)
  ],
)

-- the first lines of a text were read
pub read_front : (text : List ℕ) (lines : List (List ℕ)) (now : Option (List ℕ)) → AreRead (Some text) lines now → (rest : List ℕ) × (now ≡ Some rest) × (lines_in text ≡ lines ++ lines_in rest)
unfolding AreRead
read_front text [] now h = (text, h, refl)
read_front text (line ∷ lines) now (mid, first, others) =
    let one = read_one text mid line first in
    let more = read_front one.0 lines now (subst (λ o. AreRead o lines now) one.1 others) in
    (more.0, more.1, one.2 ∙ ap (λ ls. line ∷ ls) more.2)

at_end : (now : Option (List ℕ)) (rest : List ℕ) → now ≡ Some rest → IsAtEnd now → rest ≡ []
at_end None rest e end = absurd cc
at_end (Some x) rest e end = let same : x ≡ rest = cc in sym same ∙ end

pub reads_the_text : (text : List ℕ) (lines : List (List ℕ)) (now : Option (List ℕ)) → AreRead (Some text) lines now → IsAtEnd now → lines ≡ lines_in text
reads_the_text text lines now h end =
    let front = read_front text lines now h in
    sym (front.2 ∙ ap (λ r. lines ++ lines_in r) (at_end now front.0 front.1 end) ∙ ap (λ ls. lines ++ ls) no_lines ∙ append-nil lines)
