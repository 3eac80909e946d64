-- A text is cut at its first line feed in one way.
use Rattle.std.proofs.Common.{◌≡◌, ◌≤◌, ℕ, true, List, [], ◌∷◌, ◌++◌, length, refl, sym, ap, ◌∙◌, arith, append_assoc}
use Rattle.std.specs.Prelude.{◌==◌}
use Rattle.std.specs.List.{join_with_byte, onto_first}
use Rattle.std.proofs.lemmas.List.{append_cancel_left}
use Rattle.std.proofs.lemmas.List.Splits.{join_with_byte-slice_split, length-slice_split, slice_split-cons_yes, slice_split-cons_no}
use Rattle.fen_text.specs.Cuts.{cut_at}
use Rattle.fen_text.proofs.RankLaws.{both, affirmed}
use Rattle.move_msg.specs.TextLines.{ended}
use Rattle.arbiter_server.specs.Inside.ValueLines.{StartsLine, is_no_feed, is_one_line}
use Rattle.arbiter_server.proofs.OneLines.{both_one}

-- joined with what follows
joined : (line : List ℕ) (more : List (List ℕ)) → 1 ≤ length more → join_with_byte 10 (line ∷ more) ≡ line ++ 10 ∷ join_with_byte 10 more
joined line [] some = absurd (omega arith)
joined line (next ∷ more) some = refl

-- the text of a cut
pub cut_text : (text line rest : List ℕ) → cut_at 10 text ≡ line ∷ cut_at 10 rest → text ≡ ended line ++ rest
cut_text text line rest e =
    sym (join_with_byte-slice_split 10 text)
    ∙ ap (join_with_byte 10) e
    ∙ joined line (cut_at 10 rest) (omega (arith, length-slice_split (λ b. b == 10) rest))
    ∙ ap (λ (t : List ℕ). line ++ 10 ∷ t) (join_with_byte-slice_split 10 rest)
    ∙ sym (append_assoc line (10 ∷ []) rest)

line_cut : (line rest : List ℕ) → is_one_line line ≡ true → cut_at 10 (line ++ 10 ∷ rest) ≡ line ∷ cut_at 10 rest
line_cut [] rest h = slice_split-cons_yes (λ b. b == 10) 10 rest refl
line_cut (b ∷ line) rest h =
    let parts = both (is_no_feed b) (is_one_line line) h in
    slice_split-cons_no (λ x. x == 10) b (line ++ 10 ∷ rest) (affirmed (b == 10) parts.0)
    ∙ ap (onto_first b) (line_cut line rest parts.1)

pub heads_same : (x y : List ℕ) (xs ys : List (List ℕ)) → x ∷ xs ≡ y ∷ ys → x ≡ y
heads_same x y xs ys e = cc

pub tails_same : (x y : List ℕ) (xs ys : List (List ℕ)) → x ∷ xs ≡ y ∷ ys → xs ≡ ys
tails_same x y xs ys e = cc

pub rests_same : (a b : List ℕ) → cut_at 10 a ≡ cut_at 10 b → a ≡ b
rests_same a b e = sym (join_with_byte-slice_split 10 a) ∙ ap (join_with_byte 10) e ∙ join_with_byte-slice_split 10 b

-- a line with a value is what a cut gives
pub cut_value : (word text value rest : List ℕ) → is_one_line word ≡ true → StartsLine word text value rest → cut_at 10 text ≡ (word ++ value) ∷ cut_at 10 rest
cut_value word text value rest plain h =
    ap (cut_at 10) (h.has ∙ append_assoc (word ++ value) (10 ∷ []) rest) ∙ line_cut (word ++ value) rest (both_one word value plain h.one)

pub not_uncut : (word text value rest : List ℕ) → is_one_line word ≡ true → StartsLine word text value rest → cut_at 10 text ≡ text ∷ [] → ⊥
not_uncut word text value rest plain h e =
    let same = tails_same _ _ _ _ (sym (cut_value word text value rest plain h) ∙ e) in
    absurd (omega (arith, length-slice_split (λ b. b == 10) rest, ap length same))

pub same_line : (word text value rest line more : List ℕ) → is_one_line word ≡ true → StartsLine word text value rest → cut_at 10 text ≡ line ∷ cut_at 10 more → (line ≡ word ++ value) × (rest ≡ more)
same_line word text value rest line more plain h e =
    let both = sym (cut_value word text value rest plain h) ∙ e in
    (sym (heads_same _ _ _ _ both), rests_same rest more (tails_same _ _ _ _ both))

pub same_value : (word value found line : List ℕ) → line ≡ word ++ value → line ≡ word ++ found → value ≡ found
same_value word value found line a b = append_cancel_left word value found (sym a ∙ b)
