-- A board that is filled rank by rank from the last one, each from its first square.
use Rattle.std.proofs.Common.{◌≡◌, ℕ, suc, ◌+◌, ◌-◌, ◌<◌, ◌≤◌, List, [], ◌∷◌, ◌++◌, length, Option, Some, None, sym, ap, ◌∙◌, arith, append_assoc}
use Rattle.std.specs.Prelude.{replicate, slice_set}
use Rattle.std.proofs.lemmas.List.{length-append, length-replicate, replicate-append-replicate}
use Rattle.std.proofs.Math.Seq.{set-append_seam}
use Rattle.board_core.specs.declared.piece.Piece.{Piece}
use Rattle.fen_text.specs.Inside.Scan.{IsFilled}

length-empty : (n : ℕ) → length (replicate {A = Option Piece} n None) ≡ n
length-empty n = length-replicate n None

-- squares that are left empty
pub fill_run : (men before : List (Option Piece)) (square left run : ℕ) (tail : List (Option Piece)) → run ≤ left → IsFilled men before square left tail → IsFilled men (before ++ replicate run None) (square + run) (left - run) tail
fill_run men before square left run tail le h =
    let empty : replicate left None ≡ replicate run None ++ replicate (left - run) None =
    ap (λ (n : ℕ). replicate n None) (omega arith) ∙ sym (replicate-append-replicate run (left - run) None) in
    let inner : replicate left None ++ tail ≡ replicate run None ++ (replicate (left - run) None ++ tail) =
    ap (λ (t : List (Option Piece)). t ++ tail) empty ∙ append_assoc (replicate run None) (replicate (left - run) None) tail in
    record {
      board = h.board ∙ ap (λ (t : List (Option Piece)). before ++ t) inner ∙ sym (append_assoc before (replicate run None) (replicate (left - run) None ++ tail));
      place = omega (arith, length-append before (replicate run None), length-empty run, h.place);
    }

-- a square that is given a man
pub fill_man : (men before : List (Option Piece)) (square left : ℕ) (man : Piece) (tail : List (Option Piece)) → 0 < left → IsFilled men before square left tail → IsFilled (slice_set men square (Some man)) (before ++ Some man ∷ []) (square + 1) (left - 1) tail
fill_man men before square left man tail lt h =
    let empty : replicate left None ++ tail ≡ None ∷ (replicate (left - 1) None ++ tail) =
    ap (λ (n : ℕ). replicate n None ++ tail) {x = left} {y = suc (left - 1)} (omega arith) in
    let board : men ≡ before ++ (None ∷ (replicate (left - 1) None ++ tail)) = h.board ∙ ap (λ (t : List (Option Piece)). before ++ t) empty in
    record {
      board = ap (λ (t : List (Option Piece)). slice_set t square (Some man)) board
          ∙ ap (λ (n : ℕ). slice_set (before ++ (None ∷ (replicate (left - 1) None ++ tail))) n (Some man)) (sym h.place)
          ∙ set-append_seam before None (replicate (left - 1) None ++ tail) (Some man)
          ∙ sym (append_assoc before (Some man ∷ []) (replicate (left - 1) None ++ tail));
      place = omega (arith, length-append before (Some man ∷ []), h.place);
    }
