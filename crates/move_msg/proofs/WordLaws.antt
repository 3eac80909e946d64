-- A word stands for one move at most.
use Rattle.std.proofs.Common.{◌≡◌, ℕ, zero, suc, ◌≤◌, Option, Some, None, refl, sym, ap, ◌∙◌, arith}
use Rattle.board_core.specs.declared.piece.Promotion.{Promotion}
use Rattle.board_core.specs.declared.piece.Promotion.TheVariants.{Queen, Rook, Bishop, Knight}
use Rattle.board_core.specs.declared.moves.Move.{Move}
use Rattle.move_msg.specs.Words.{SpellsWord, promotion_number, greatest_word}

abbrev promotion_at : ℕ → Option Promotion
promotion_at zero = None
promotion_at (suc zero) = Some Queen
promotion_at (suc (suc zero)) = Some Rook
promotion_at (suc (suc (suc zero))) = Some Bishop
promotion_at (suc (suc (suc (suc n)))) = Some Knight

promotion_back : (p : Option Promotion) → promotion_at (promotion_number p) ≡ p
promotion_back None = refl
promotion_back (Some Queen) = refl
promotion_back (Some Rook) = refl
promotion_back (Some Bishop) = refl
promotion_back (Some Knight) = refl

few : (p : Option Promotion) → promotion_number p ≤ 4
few None = omega arith
few (Some Queen) = omega arith
few (Some Rook) = omega arith
few (Some Bishop) = omega arith
few (Some Knight) = omega arith

abbrev made : ℕ → ℕ → Option Promotion → Move
made from to promotion = record { from = from; to = to; promotion = promotion }

same_move : (f g t u : ℕ) (p q : Option Promotion) → f ≡ g → t ≡ u → p ≡ q → made f t p ≡ made g u q
same_move f g t u p q ef et ep = cc

pub one_word : (w : ℕ) (m n : Move) → SpellsWord w m → SpellsWord w n → m ≡ n
one_word w m n p q =
    let from_is : m.from ≡ n.from = omega arith in
    let to_is : m.to ≡ n.to = omega arith in
    let number_is : promotion_number m.promotion ≡ promotion_number n.promotion = omega arith in
    same_move _ _ _ _ _ _ from_is to_is (sym (promotion_back m.promotion) ∙ ap promotion_at number_is ∙ promotion_back n.promotion)

pub word_below : (w : ℕ) (m : Move) → SpellsWord w m → w ≤ greatest_word
word_below w m p = let four = few m.promotion in omega arith
