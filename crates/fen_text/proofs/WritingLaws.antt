-- What is written for a rank spells it.
use Rattle.std.proofs.Common.{◌≡◌, ℕ, zero, suc, ◌+◌, ◌<◌, ◌≤◌, true, false, List, [], ◌∷◌, ◌++◌, length, drop, Option, Some, None, refl, sym, ap, ap₂, subst, ◌∙◌, arith, append-nil, add-one}
use Rattle.std.specs.Prelude.{replicate}
use Rattle.std.specs.List.{list_all, flat_map}
use Rattle.std.proofs.Math.ListN.{drop_of_length-le}
use Rattle.std.proofs.lemmas.List.Concat.{flat_map-cons}
use Rattle.board_core.specs.declared.piece.Piece.{Piece}
use Rattle.board_core.specs.declared.piece.Side.{Side}
use Rattle.board_core.specs.declared.piece.Side.TheVariants.{White, Black}
use Rattle.board_core.specs.declared.piece.Kind.{Kind}
use Rattle.board_core.specs.declared.piece.Kind.TheVariants.{Pawn, Knight, Bishop, Rook, Queen, King}
use Rattle.fen_text.specs.Placement.{fen_letter, man_of, letter_of, is_run, is_rank_byte, cells_of, runs_apart, SpellsRank}
use Rattle.fen_text.specs.Written.{run_text, rank_text}

letter_back_of : (side : Side) (kind : Kind) → man_of (fen_letter side kind) ≡ Some (record { side = side; kind = kind })
unfolding man_of
letter_back_of White Pawn = refl
letter_back_of White Knight = refl
letter_back_of White Bishop = refl
letter_back_of White Rook = refl
letter_back_of White Queen = refl
letter_back_of White King = refl
letter_back_of Black Pawn = refl
letter_back_of Black Knight = refl
letter_back_of Black Bishop = refl
letter_back_of Black Rook = refl
letter_back_of Black Queen = refl
letter_back_of Black King = refl

letter_is_no_run_of : (side : Side) (kind : Kind) → is_run (fen_letter side kind) ≡ false
letter_is_no_run_of White Pawn = refl
letter_is_no_run_of White Knight = refl
letter_is_no_run_of White Bishop = refl
letter_is_no_run_of White Rook = refl
letter_is_no_run_of White Queen = refl
letter_is_no_run_of White King = refl
letter_is_no_run_of Black Pawn = refl
letter_is_no_run_of Black Knight = refl
letter_is_no_run_of Black Bishop = refl
letter_is_no_run_of Black Rook = refl
letter_is_no_run_of Black Queen = refl
letter_is_no_run_of Black King = refl

-- the letter of each man, and back
pub letter_back : (m : Piece) → man_of (letter_of m) ≡ Some m
letter_back m = letter_back_of m.side m.kind

pub letter_is_no_run : (m : Piece) → is_run (letter_of m) ≡ false
letter_is_no_run m = letter_is_no_run_of m.side m.kind

pub letter_cells : (m : Piece) → cells_of (letter_of m) ≡ Some m ∷ []
letter_cells m = rw (letter_is_no_run m, letter_back m) refl

letter_byte : (m : Piece) → is_rank_byte (letter_of m) ≡ true
letter_byte m = rw (letter_is_no_run m, letter_back m) refl

letter_apart : (m : Piece) (t : List ℕ) → runs_apart (letter_of m ∷ t) ≡ runs_apart t
unfolding runs_apart
letter_apart m [] = refl
letter_apart m (c ∷ cs) = rw (letter_is_no_run m) refl

-- a run of 1 to 8, by its digit
digit_run : (n : ℕ) → n < 8 → (is_run (49 + n) ≡ true) × (cells_of (49 + n) ≡ replicate (suc n) None)
digit_run zero a = (refl, refl)
digit_run (suc zero) a = (refl, refl)
digit_run (suc (suc zero)) a = (refl, refl)
digit_run (suc (suc (suc zero))) a = (refl, refl)
digit_run (suc (suc (suc (suc zero)))) a = (refl, refl)
digit_run (suc (suc (suc (suc (suc zero))))) a = (refl, refl)
digit_run (suc (suc (suc (suc (suc (suc zero)))))) a = (refl, refl)
digit_run (suc (suc (suc (suc (suc (suc (suc zero))))))) a = (refl, refl)
digit_run (suc (suc (suc (suc (suc (suc (suc (suc n)))))))) a = absurd (omega arith)

record Writes (t : List ℕ) (cells : List (Option Piece)) : Type 0 where
  bytes : list_all is_rank_byte t ≡ true
  apart : runs_apart t ≡ true
  squares : flat_map cells_of t ≡ cells

writes_letter : (m : Piece) (t : List ℕ) (cells : List (Option Piece)) → Writes t cells → Writes (letter_of m ∷ t) (Some m ∷ cells)
writes_letter m t cells h = record {
  bytes = rw (letter_byte m) h.bytes;
  apart = letter_apart m t ∙ h.apart;
  squares = flat_map-cons cells_of (letter_of m) t ∙ ap₂ (λ (a b : List (Option Piece)). a ++ b) (letter_cells m) h.squares;
}

-- a run before a letter, or at the end
writes_run : (n : ℕ) (m : Piece) (t : List ℕ) (cells : List (Option Piece)) → n ≤ 8 → Writes (letter_of m ∷ t) cells → Writes (run_text n ++ letter_of m ∷ t) (replicate n None ++ cells)
unfolding runs_apart
writes_run zero m t cells le h = h
writes_run (suc n) m t cells le h =
    let d = digit_run n (omega arith) in record {
      bytes = rw d.0 h.bytes;
      apart = rw (letter_is_no_run m, d.0) h.apart;
      squares = flat_map-cons cells_of (49 + n) (letter_of m ∷ t) ∙ ap₂ (λ (a b : List (Option Piece)). a ++ b) d.1 h.squares;
    }

writes_end : (n : ℕ) → n ≤ 8 → Writes (run_text n) (replicate n None)
unfolding runs_apart
writes_end zero le = record { bytes = refl; apart = refl; squares = refl }
writes_end (suc n) le =
    let d = digit_run n (omega arith) in record {
      bytes = rw d.0 refl;
      apart = refl;
      squares = flat_map-cons cells_of (49 + n) [] ∙ ap (λ (a : List (Option Piece)). a ++ []) d.1 ∙ append-nil (replicate (suc n) None);
    }

replicate_next : (n : ℕ) (cells : List (Option Piece)) → replicate (suc n) None ++ cells ≡ replicate n None ++ (None ∷ cells)
replicate_next zero cells = refl
replicate_next (suc n) cells = ap (λ (t : List (Option Piece)). None ∷ t) (replicate_next n cells)

replicate_more : (n : ℕ) (cells : List (Option Piece)) → replicate (n + 1) None ++ cells ≡ replicate n None ++ (None ∷ cells)
replicate_more n cells = ap (λ (k : ℕ). replicate k None ++ cells) (add-one n) ∙ replicate_next n cells

pub rank_text_end : (n : ℕ) (i : ℕ) (cells : List (Option Piece)) → length cells ≤ i → rank_text n (drop i cells) ≡ run_text n
unfolding rank_text
rank_text_end n i cells le = ap (rank_text n) (drop_of_length-le cells le)

writes : (cells : List (Option Piece)) (n : ℕ) → n + length cells ≤ 8 → Writes (rank_text n cells) (replicate n None ++ cells)
unfolding rank_text
writes [] n le = subst (Writes (run_text n)) (sym (append-nil (replicate n None))) (writes_end n (omega arith))
writes (None ∷ cells) n le = subst (Writes (rank_text (n + 1) cells)) (replicate_more n cells) (writes cells (n + 1) (omega arith))
writes (Some m ∷ cells) n le = writes_run n m (rank_text 0 cells) (Some m ∷ cells) (omega arith) (writes_letter m (rank_text 0 cells) cells (writes cells 0 (omega arith)))

pub rank_text_spells : (cells : List (Option Piece)) → length cells ≡ 8 → SpellsRank (rank_text 0 cells) cells
rank_text_spells cells eight =
    let w = writes cells 0 (omega arith) in
    record { bytes = w.bytes; apart = w.apart; squares = w.squares; eight = eight }
