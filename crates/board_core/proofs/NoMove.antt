-- No legal move, with and without check.
use Rattle.std.proofs.Common.{◌≡◌, ◌∙◌, sym, ap, refl, Bool, true, false, not, ◌&&◌, List, [], ◌∷◌, Decides}
use Rattle.std.proofs.lemmas.Bool.Decides.{Decides-not}
use Rattle.board_core.specs.declared.parts.Parts.{Parts}
use Rattle.board_core.specs.declared.moves.Move.{Move}
use Rattle.board_core.specs.Moves.{IsLegal}
use Rattle.board_core.specs.Computed.{is_in_check}
use Rattle.board_core.specs.ComputedMoves.{legal_moves, has_some, has_legal_move}
use Rattle.board_core.specs.Ends.{HasNoMove, has_no_move, is_checkmate, is_stalemate}

pub none_legal : (p : Parts) (some : Bool) → Decides some ((m : Move) × IsLegal p m) → Decides (not some) (HasNoMove p)
none_legal p some h = let d = Decides-not _ h in (λ none m legal. d.0 none (m, legal), λ none. d.1 (λ a. none a.0 a.1))

none_in : (moves : List Move) → not (has_some moves) ≡ has_no_move moves
none_in [] = refl
none_in (m ∷ moves) = refl

no_move : (p : Parts) → not (has_legal_move p) ≡ has_no_move (legal_moves p)
unfolding has_legal_move
no_move p = none_in (legal_moves p)

-- in check, and out of it
pub mated : (p : Parts) (check some : Bool) → check ≡ true → check ≡ is_in_check p.men p.side → some ≡ has_legal_move p → not some ≡ is_checkmate p
mated p check some here is left = ap not left ∙ no_move p ∙ ap (λ b. b && has_no_move (legal_moves p)) (sym here ∙ is)

pub stale : (p : Parts) (check some : Bool) → check ≡ false → check ≡ is_in_check p.men p.side → some ≡ has_legal_move p → not some ≡ is_stalemate p
stale p check some here is left = ap not left ∙ no_move p ∙ ap (λ b. not b && has_no_move (legal_moves p)) (sym here ∙ is)
