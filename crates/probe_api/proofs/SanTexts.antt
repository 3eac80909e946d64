-- What holds of a text of a move, by what reading it comes to.
use Rattle.std.proofs.Common.{◌≡◌, Result, Ok, Err, IfOk, IfErr, subst, sym}
use Rattle.board_core.specs.declared.moves.Move.{Move}
use Rattle.san_text.specs.declared.fault.SanFault.{SanFault}

abbrev pub ReadsAs : (Move → Type 0) → (SanFault → Type 0) → Result Move SanFault → Type 0
ReadsAs Is Faults read = ((x : Move) → Is x → read ≡ Ok x) × ((f : SanFault) → Faults f → read ≡ Err f)

module _ (Is : Move → Type 0) (Faults : SanFault → Type 0) (read : Result Move SanFault) (reads : ReadsAs Is Faults read) where
  -- a text that is read tells this move alone, and has no fault
  pub each_move : (Holds : Move → Type 0) (m : Move) → read ≡ Ok m → Holds m → (x : Move) → Is x → Holds x
  each_move Holds m is holds x h = subst (λ r. IfOk r Holds) (reads.0 x h) (subst (λ r. IfOk r Holds) (sym is) holds)

  pub no_san_fault : (Holds : SanFault → Type 0) (m : Move) → read ≡ Ok m → (f : SanFault) → Faults f → Holds f
  no_san_fault Holds m is f first = absurd (subst (λ r. IfErr r (λ _. ⊥)) (reads.1 f first) (subst (λ r. IfErr r (λ _. ⊥)) (sym is) tt))

  -- one that is refused has this first fault alone, and tells no move
  pub each_san_fault : (Holds : SanFault → Type 0) (f : SanFault) → read ≡ Err f → Holds f → (g : SanFault) → Faults g → Holds g
  each_san_fault Holds f is holds g first = subst (λ r. IfErr r Holds) (reads.1 g first) (subst (λ r. IfErr r Holds) (sym is) holds)

  pub no_move : (Holds : Move → Type 0) (f : SanFault) → read ≡ Err f → (x : Move) → Is x → Holds x
  no_move Holds f is x h = absurd (subst (λ r. IfOk r (λ _. ⊥)) (reads.0 x h) (subst (λ r. IfOk r (λ _. ⊥)) (sym is) tt))
