-- The text that is written for a position spells it.
use Rattle.std.proofs.Common.{◌≡◌, ℕ, zero, suc, ◌+◌, ◌*◌, ◌%◌, ◌<◌, ◌≤◌, Bool, true, false, eqb, List, [], ◌∷◌, ◌++◌, length, drop, Option, Some, None, refl, sym, ap, ap₂, subst, ◌∙◌, arith, append_assoc, lit<}
use Rattle.std.specs.Prelude.{◌&&◌, ◌==◌, not, map}
use Rattle.std.specs.List.{list_all, All, AllZip, join_with_byte}
use Rattle.std.specs.Fmt.{decimal}
use Rattle.std.proofs.lemmas.Bool.{eq-eqb, ne_eqb}
use Rattle.std.proofs.lemmas.Fmt.{decimal_by_steps}
use Rattle.std.proofs.lemmas.List.{length-drop, length-take-le}
use Rattle.std.proofs.lemmas.List.Folds.{list_all-append}
use Rattle.std.proofs.lemmas.List.Sums.{AllPass-from_list_all}
use Rattle.std.proofs.lemmas.List.Splits.{slice_split_none, slice_split_at}
use Rattle.board_core.specs.declared.piece.Piece.{Piece}
use Rattle.board_core.specs.declared.piece.Side.{Side}
use Rattle.board_core.specs.declared.piece.Side.TheVariants.{White, Black}
use Rattle.board_core.specs.declared.parts.Parts.{Parts}
use Rattle.board_core.specs.Position.{IsPosition, passed_rank}
use Rattle.board_core.specs.Square.{file_of, rank_of}
use Rattle.fen_text.specs.Cuts.{cut_at}
use Rattle.fen_text.specs.Placement.{is_rank_byte, rank_men, ranks_down, SpellsRank, SpellsPlacement}
use Rattle.fen_text.specs.Fields.{side_text, castling_text, en_passant_text}
use Rattle.fen_text.specs.Written.{rank_text, placement_text, fen_of}
use Rattle.fen_text.specs.Fen.{SpellsPosition}
use Rattle.fen_text.proofs.RankLaws.{byte_from, both, join, negated, affirmed}
use Rattle.fen_text.proofs.WritingLaws.{rank_text_spells}
use Rattle.fen_text.proofs.FenLaws.{six}

-- three fields and three others, with a space between
pub halves_joined : (a b c d e f : List ℕ) → (join_with_byte 32 (a ∷ b ∷ c ∷ []) ++ 32 ∷ []) ++ join_with_byte 32 (d ∷ e ∷ f ∷ []) ≡ join_with_byte 32 (a ∷ b ∷ c ∷ d ∷ e ∷ f ∷ [])
halves_joined a b c d e f = simp append_assoc

-- a text that has grown by another
pub grown : (new old more a b : List ℕ) → new ≡ old ++ more → old ≡ a → more ≡ b → new ≡ a ++ b
grown new old more a b e f g = e ∙ ap₂ (λ (s t : List ℕ). s ++ t) f g

-- a text without a byte
abbrev free : ℕ → List ℕ → Bool
free c t = list_all (λ b. not (b == c)) t

other : (b c : ℕ) → (b ≡ c → ⊥) → not (eqb b c) ≡ true
other b c ne = negated (eqb b c) (ne_eqb b c ne)

free_all : (c : ℕ) (t : List ℕ) → free c t ≡ true → All (λ b. (b == c) ≡ false) t
free_all c t e = λ k d lt. affirmed _ (AllPass-from_list_all (λ b. not (b == c)) t e k d lt)

-- pieces without the byte, joined by it, are the pieces of the cut
cut_join : (c : ℕ) (x : List ℕ) (xs : List (List ℕ)) → list_all (free c) (x ∷ xs) ≡ true → cut_at c (join_with_byte c (x ∷ xs)) ≡ x ∷ xs
cut_join c x [] e = slice_split_none (λ b. b == c) x (free_all c x (both (free c x) true e).0)
cut_join c x (y ∷ ys) e =
    let parts = both (free c x) (list_all (free c) (y ∷ ys)) e in
    slice_split_at (λ b. b == c) x c (join_with_byte c (y ∷ ys)) (free_all c x parts.0) (eq-eqb c c refl)
    ∙ ap (λ (ts : List (List ℕ)). x ∷ ts) (cut_join c y ys parts.1)

free_joined : (c sep : ℕ) (xs : List (List ℕ)) → not (eqb sep c) ≡ true → list_all (free c) xs ≡ true → free c (join_with_byte sep xs) ≡ true
free_joined c sep [] s e = refl
free_joined c sep (x ∷ []) s e = (both (free c x) true e).0
free_joined c sep (x ∷ y ∷ ys) s e =
    let parts = both (free c x) (list_all (free c) (y ∷ ys)) e in
    list_all-append (λ b. not (b == c)) x (sep ∷ join_with_byte sep (y ∷ ys))
    ∙ join (free c x) (not (eqb sep c) && free c (join_with_byte sep (y ∷ ys))) parts.0 (join (not (eqb sep c)) (free c (join_with_byte sep (y ∷ ys))) s (free_joined c sep (y ∷ ys) s parts.1))

free_rank : (c : ℕ) → c < 49 → (t : List ℕ) → list_all is_rank_byte t ≡ true → free c t ≡ true
free_rank c lt [] e = refl
free_rank c lt (b ∷ bs) e =
    let parts = both (is_rank_byte b) (list_all is_rank_byte bs) e in
    let low = byte_from b parts.0 in
    join (not (eqb b c)) (free c bs) (other b c (λ same. omega arith)) (free_rank c lt bs parts.1)

rank_eight : (men : List (Option Piece)) (n : ℕ) → 8 * suc n ≤ length men → length (rank_men men n) ≡ 8
unfolding rank_men
rank_eight men n le = length-take-le 8 (drop (8 * n) men) (omega (arith, length-drop (8 * n) men))

ranks_spelled : (men : List (Option Piece)) (n : ℕ) → 8 * n ≤ length men → AllZip SpellsRank (map (rank_text 0) (ranks_down men n)) (ranks_down men n)
unfolding ranks_down
ranks_spelled men zero le = tt
ranks_spelled men (suc n) le = (rank_text_spells (rank_men men n) (rank_eight men n le), ranks_spelled men n (omega arith))

ranks_free : (c : ℕ) → c < 49 → (men : List (Option Piece)) (n : ℕ) → 8 * n ≤ length men → list_all (free c) (map (rank_text 0) (ranks_down men n)) ≡ true
unfolding ranks_down
ranks_free c lt men zero le = refl
ranks_free c lt men (suc n) le =
    join (free c (rank_text 0 (rank_men men n))) (list_all (free c) (map (rank_text 0) (ranks_down men n)))
    (free_rank c lt (rank_text 0 (rank_men men n)) (rank_text_spells (rank_men men n) (rank_eight men n le)).bytes)
    (ranks_free c lt men n (omega arith))

placement_spelled : (men : List (Option Piece)) → length men ≡ 64 → SpellsPlacement (placement_text men) men
unfolding placement_text ranks_down
placement_spelled men long =
    let cut = cut_join 47 (rank_text 0 (rank_men men 7)) (map (rank_text 0) (ranks_down men 7)) (ranks_free 47 (lit< tt) men 8 (omega (arith, long))) in
    record {
      squares = long;
      ranks = subst (λ (ts : List (List ℕ)). AllZip SpellsRank ts (ranks_down men 8)) (sym cut) (ranks_spelled men 8 (omega (arith, long)));
    }

placement_free : (men : List (Option Piece)) → length men ≡ 64 → free 32 (placement_text men) ≡ true
unfolding placement_text
placement_free men long = free_joined 32 47 (map (rank_text 0) (ranks_down men 8)) refl (ranks_free 32 (lit< tt) men 8 (omega (arith, long)))

side_free : (side : Side) → free 32 (side_text side) ≡ true
side_free White = refl
side_free Black = refl

rights_free : (white_king white_queen black_king black_queen : Bool) → free 32 (castling_text (record { white_king = white_king; white_queen = white_queen; black_king = black_king; black_queen = black_queen })) ≡ true
rights_free true true true true = refl
rights_free true true true false = refl
rights_free true true false true = refl
rights_free true true false false = refl
rights_free true false true true = refl
rights_free true false true false = refl
rights_free true false false true = refl
rights_free true false false false = refl
rights_free false true true true = refl
rights_free false true true false = refl
rights_free false true false true = refl
rights_free false true false false = refl
rights_free false false true true = refl
rights_free false false true false = refl
rights_free false false false true = refl
rights_free false false false false = refl

square_free : (square : Option ℕ) → free 32 (en_passant_text square) ≡ true
square_free None = refl
square_free (Some s) =
    join (not (eqb (97 + file_of s) 32)) (not (eqb (49 + rank_of s) 32) && true) (other (97 + file_of s) 32 (λ same. omega arith))
    (join (not (eqb (49 + rank_of s) 32)) true (other (49 + rank_of s) 32 (λ same. omega arith)) refl)

digit_free : (d : ℕ) → free 32 ((48 + d) ∷ []) ≡ true
digit_free d = join (not (eqb (48 + d) 32)) true (other (48 + d) 32 (λ same. omega arith)) refl

counter_free : (n : ℕ) → n ≤ 9999 → free 32 (decimal n) ≡ true
counter_free n le = decimal_by_steps (λ _ ds. free 32 ds ≡ true) (λ k _. digit_free k)
    (λ k ds _ e. list_all-append (λ b. not (b == 32)) ds ((48 + k % 10) ∷ []) ∙ join (free 32 ds) (free 32 ((48 + k % 10) ∷ [])) e (digit_free (k % 10)))
    n (omega arith)

passed_on_board : (side : Side) (s : ℕ) → rank_of s ≡ passed_rank side → s < 64
passed_on_board White s e = omega (arith, e)
passed_on_board Black s e = omega (arith, e)

-- what is written for a position spells it
pub position_spelled : (p : Parts) → IsPosition p → SpellsPosition (fen_of p) p
unfolding fen_of
position_spelled p h =
    let rights = rights_free p.rights.white_king p.rights.white_queen p.rights.black_king p.rights.black_queen in
    let spaces : list_all (free 32) (placement_text p.men ∷ side_text p.side ∷ castling_text p.rights ∷ en_passant_text p.en_passant ∷ decimal p.halfmove ∷ decimal p.fullmove ∷ []) ≡ true =
    rw (placement_free p.men h.squares, side_free p.side, rights, square_free p.en_passant, counter_free p.halfmove h.counters.0, counter_free p.fullmove h.counters.1) refl in
    record {
      fields = six (fen_of p) (placement_text p.men) (side_text p.side) (castling_text p.rights) (en_passant_text p.en_passant) (decimal p.halfmove) (decimal p.fullmove)
          (cut_join 32 (placement_text p.men) (side_text p.side ∷ castling_text p.rights ∷ en_passant_text p.en_passant ∷ decimal p.halfmove ∷ decimal p.fullmove ∷ []) spaces);
      men = placement_spelled p.men h.squares;
      side = refl;
      rights = refl;
      en_passant = record { on_board = λ s e. passed_on_board p.side s (h.en_passant s e).rank; text = refl };
      halfmove = record { small = h.counters.0; text = refl };
      fullmove = record { small = h.counters.1; text = refl };
    }
