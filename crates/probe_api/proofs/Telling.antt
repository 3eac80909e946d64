-- What holds of the one move that was read holds of each that it can be.
use Rattle.std.proofs.Common.{◌≡◌, Option, Some, None, IfSome, subst, sym}
use Rattle.board_core.specs.declared.moves.Move.{Move}

pub of_move : (Is Holds : Move → Type 0) (read : Option Move) (m : Move) → read ≡ Some m → ((x : Move) → Is x → read ≡ Some x) → Holds m → (x : Move) → Is x → Holds x
of_move Is Holds read m is only holds x h = subst (λ r. IfSome r Holds) (only x h) (subst (λ r. IfSome r Holds) (sym is) holds)

pub of_none : (Is Holds : Move → Type 0) (read : Option Move) → read ≡ None → ((x : Move) → Is x → read ≡ Some x) → (x : Move) → Is x → Holds x
of_none Is Holds read is only x h = absurd (subst (λ r. IfSome r (λ _. ⊥)) (only x h) (subst (λ r. IfSome r (λ _. ⊥)) (sym is) tt))
