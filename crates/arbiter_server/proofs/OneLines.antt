-- Names, FEN texts and digits have no line feed.
use Rattle.std.proofs.Common.{◌≡◌, ℕ, zero, suc, ◌+◌, ◌*◌, ◌%◌, ◌<◌, ◌≤◌, Bool, true, false, eqb, List, [], ◌∷◌, ◌++◌, length, Option, Some, None, refl, ◌∙◌, arith, length-drop}
use Rattle.std.specs.Prelude.{◌&&◌, map, drop}
use Rattle.std.specs.List.{list_all, join_with_byte}
use Rattle.std.specs.Fmt.{decimal}
use Rattle.std.proofs.lemmas.Bool.{ne_eqb}
use Rattle.std.proofs.lemmas.Fmt.{decimal_by_steps}
use Rattle.std.proofs.lemmas.List.{length-take-le}
use Rattle.std.proofs.lemmas.List.Folds.{list_all-append}
use Rattle.board_core.specs.declared.piece.Piece.{Piece}
use Rattle.board_core.specs.declared.piece.Side.{Side}
use Rattle.board_core.specs.declared.piece.Side.TheVariants.{White, Black}
use Rattle.board_core.specs.declared.parts.Parts.{Parts}
use Rattle.board_core.specs.Position.{IsPosition}
use Rattle.board_core.specs.Square.{file_of, rank_of}
use Rattle.fen_text.specs.Placement.{is_rank_byte, rank_men, ranks_down}
use Rattle.fen_text.specs.Fields.{side_text, castling_text, en_passant_text}
use Rattle.fen_text.specs.Written.{rank_text, placement_text, fen_of}
use Rattle.fen_text.proofs.RankLaws.{byte_from, both, join, negated}
use Rattle.fen_text.proofs.WritingLaws.{rank_text_spells}
use Rattle.move_msg.specs.Stamps.{is_printable}
use Rattle.arbiter_server.specs.Inside.ValueLines.{is_no_feed, is_one_line}

no_feed : (b : ℕ) → 10 < b → is_no_feed b ≡ true
no_feed b lt = negated (eqb b 10) (ne_eqb b 10 (λ same. omega (arith, lt, same)))

-- two texts
pub both_one : (a b : List ℕ) → is_one_line a ≡ true → is_one_line b ≡ true → is_one_line (a ++ b) ≡ true
both_one a b x y = list_all-append is_no_feed a b ∙ join (is_one_line a) (is_one_line b) x y

joined_one : (sep : ℕ) (xs : List (List ℕ)) → is_no_feed sep ≡ true → list_all is_one_line xs ≡ true → is_one_line (join_with_byte sep xs) ≡ true
joined_one sep [] s e = refl
joined_one sep (x ∷ []) s e = (both (is_one_line x) true e).0
joined_one sep (x ∷ y ∷ ys) s e =
    let parts = both (is_one_line x) (list_all is_one_line (y ∷ ys)) e in
    both_one x (sep ∷ join_with_byte sep (y ∷ ys)) parts.0 (join (is_no_feed sep) (is_one_line (join_with_byte sep (y ∷ ys))) s (joined_one sep (y ∷ ys) s parts.1))

rank_one : (t : List ℕ) → list_all is_rank_byte t ≡ true → is_one_line t ≡ true
rank_one [] e = refl
rank_one (b ∷ bs) e =
    let parts = both (is_rank_byte b) (list_all is_rank_byte bs) e in
    let low = byte_from b parts.0 in
    join (is_no_feed b) (is_one_line bs) (no_feed b (omega arith)) (rank_one bs parts.1)

rank_eight : (men : List (Option Piece)) (n : ℕ) → 8 * suc n ≤ length men → length (rank_men men n) ≡ 8
unfolding rank_men
rank_eight men n le = length-take-le 8 (drop (8 * n) men) (omega (arith, length-drop (8 * n) men))

ranks_one : (men : List (Option Piece)) (n : ℕ) → 8 * n ≤ length men → list_all is_one_line (map (rank_text 0) (ranks_down men n)) ≡ true
unfolding ranks_down
ranks_one men zero le = refl
ranks_one men (suc n) le =
    join (is_one_line (rank_text 0 (rank_men men n))) (list_all is_one_line (map (rank_text 0) (ranks_down men n)))
    (rank_one (rank_text 0 (rank_men men n)) (rank_text_spells (rank_men men n) (rank_eight men n le)).bytes)
    (ranks_one men n (omega arith))

placement_one : (men : List (Option Piece)) → length men ≡ 64 → is_one_line (placement_text men) ≡ true
unfolding placement_text
placement_one men long = joined_one 47 (map (rank_text 0) (ranks_down men 8)) refl (ranks_one men 8 (omega (arith, long)))

side_one : (side : Side) → is_one_line (side_text side) ≡ true
side_one White = refl
side_one Black = refl

rights_one : (white_king white_queen black_king black_queen : Bool) → is_one_line (castling_text (record { white_king = white_king; white_queen = white_queen; black_king = black_king; black_queen = black_queen })) ≡ true
rights_one true true true true = refl
rights_one true true true false = refl
rights_one true true false true = refl
rights_one true true false false = refl
rights_one true false true true = refl
rights_one true false true false = refl
rights_one true false false true = refl
rights_one true false false false = refl
rights_one false true true true = refl
rights_one false true true false = refl
rights_one false true false true = refl
rights_one false true false false = refl
rights_one false false true true = refl
rights_one false false true false = refl
rights_one false false false true = refl
rights_one false false false false = refl

square_one : (square : Option ℕ) → is_one_line (en_passant_text square) ≡ true
square_one None = refl
square_one (Some s) =
    join (is_no_feed (97 + file_of s)) (is_no_feed (49 + rank_of s) && true) (no_feed (97 + file_of s) (omega arith))
    (join (is_no_feed (49 + rank_of s)) true (no_feed (49 + rank_of s) (omega arith)) refl)

digit_one : (d : ℕ) → is_one_line ((48 + d) ∷ []) ≡ true
digit_one d = join (is_no_feed (48 + d)) true (no_feed (48 + d) (omega arith)) refl

-- digits
pub number_one : (n : ℕ) → n ≤ 9999 → is_one_line (decimal n) ≡ true
number_one n le = decimal_by_steps (λ _ ds. is_one_line ds ≡ true) (λ k _. digit_one k)
    (λ k ds _ e. both_one ds ((48 + k % 10) ∷ []) e (digit_one (k % 10)))
    n (omega arith)

-- the text of a position
pub fen_one : (p : Parts) → IsPosition p → is_one_line (fen_of p) ≡ true
unfolding fen_of
fen_one p h =
    let rights = rights_one p.rights.white_king p.rights.white_queen p.rights.black_king p.rights.black_queen in
    let all : list_all is_one_line (placement_text p.men ∷ side_text p.side ∷ castling_text p.rights ∷ en_passant_text p.en_passant ∷ decimal p.halfmove ∷ decimal p.fullmove ∷ []) ≡ true =
    rw (placement_one p.men h.squares, side_one p.side, rights, square_one p.en_passant, number_one p.halfmove h.counters.0, number_one p.fullmove h.counters.1) refl in
    joined_one 32 (placement_text p.men ∷ side_text p.side ∷ castling_text p.rights ∷ en_passant_text p.en_passant ∷ decimal p.halfmove ∷ decimal p.fullmove ∷ []) refl all

printable_above : (b : ℕ) → is_printable b ≡ true → 10 < b
printable_above b e = grind arith

-- a name
pub name_one : (name : List ℕ) → list_all is_printable name ≡ true → is_one_line name ≡ true
name_one [] e = refl
name_one (b ∷ bs) e =
    let parts = both (is_printable b) (list_all is_printable bs) e in
    join (is_no_feed b) (is_one_line bs) (no_feed b (printable_above b parts.0)) (name_one bs parts.1)
