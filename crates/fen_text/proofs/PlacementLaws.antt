-- The ranks of a board, written from the last one.
use Rattle.std.proofs.Common.{◌≡◌, ℕ, zero, suc, ◌+◌, ◌-◌, ◌*◌, ◌<◌, ◌≤◌, List, [], ◌∷◌, ◌++◌, Option, None, length, take, drop, get_or, refl, sym, ap, ◌∙◌, arith, append_assoc, add-one, drop-cons, length-drop}
use Rattle.std.specs.Prelude.{map}
use Rattle.std.proofs.lemmas.List.{get_or-take, get_or-drop, length-take}
use Rattle.std.specs.List.{join_with_byte}
use Rattle.board_core.specs.declared.piece.Piece.{Piece}
use Rattle.board_core.specs.Attack.{man_at}
use Rattle.fen_text.specs.Placement.{rank_men, ranks_down}
use Rattle.fen_text.specs.Written.{rank_text, placement_text}

-- the text of the lowest n ranks
pub left_text : List (Option Piece) → ℕ → List ℕ
left_text men n = join_with_byte 47 (map (rank_text 0) (ranks_down men n))

pub left_all : (men : List (Option Piece)) → left_text men 8 ≡ placement_text men
unfolding left_text placement_text
left_all men = refl

more : (men : List (Option Piece)) (n : ℕ) → 0 < n → left_text men (suc n) ≡ rank_text 0 (rank_men men n) ++ (47 ∷ left_text men n)
unfolding left_text ranks_down
more men zero lt = absurd (omega arith)
more men (suc n) lt = refl

-- a rank and a slash before others
pub left_more : (men : List (Option Piece)) (above : ℕ) (bytes : List ℕ) → above < 7 → ((bytes ++ rank_text 0 (rank_men men (7 - above))) ++ 47 ∷ []) ++ left_text men (7 - above) ≡ bytes ++ left_text men (8 - above)
left_more men above bytes lt =
    append_assoc (bytes ++ rank_text 0 (rank_men men (7 - above))) (47 ∷ []) (left_text men (7 - above))
    ∙ append_assoc bytes (rank_text 0 (rank_men men (7 - above))) (47 ∷ left_text men (7 - above))
    ∙ ap (λ (t : List ℕ). bytes ++ t) (sym (more men (7 - above) (omega arith)))
    ∙ ap (λ (n : ℕ). bytes ++ left_text men n) {x = suc (7 - above)} {y = 8 - above} (omega arith)

-- the first rank
pub left_last : (men : List (Option Piece)) → left_text men 1 ≡ rank_text 0 (rank_men men 0)
unfolding left_text ranks_down
left_last men = refl

-- the squares of a rank from a file on, that file's first
pub rank_cells : (men : List (Option Piece)) (rank file square : ℕ) → length men ≡ 64 → rank < 8 → file < 8 → square ≡ 8 * rank + file → drop file (rank_men men rank) ≡ man_at men square ∷ drop (file + 1) (rank_men men rank)
unfolding rank_men
rank_cells men rank file square long low left here =
    let squares = drop (8 * rank) men in
    let room : file < length (take 8 squares) = omega (arith, length-take 8 squares, length-drop (8 * rank) men) in
    let cell : get_or (take 8 squares) file None ≡ man_at men square =
    get_or-take 8 squares file None left ∙ get_or-drop (8 * rank) men file None ∙ ap (λ s. man_at men s) (sym here) in
    rw (add-one) (drop-cons (take 8 squares) file None room ∙ ap (λ o. o ∷ drop (suc file) (take 8 squares)) cell)

-- no square is on a file past h
pub rank_ends : (men : List (Option Piece)) (rank file : ℕ) → 8 ≤ file → length (rank_men men rank) ≤ file
unfolding rank_men
rank_ends men rank file past = omega (arith, length-take 8 (drop (8 * rank) men))
