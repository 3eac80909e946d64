-- Empty squares in a direction, one more at a time.
use Rattle.std.proofs.Common.{ℕ, ◌≡◌, ◌+◌, false, true, List, Option, Some, None, refl, sym, ap, ◌∙◌, subst, inl, inr, arith}
use Rattle.std.specs.Option.{is_some}
use Rattle.std.proofs.lemmas.Bool.{cases_lt, false≢true}
use Rattle.board_core.specs.declared.piece.Piece.{Piece}
use Rattle.board_core.specs.declared.attack.Direction.{Direction}
use Rattle.board_core.specs.Attack.{man_at, Along, IsClear}
use Rattle.board_core.proofs.Outward.{along_unique}

pub nobody : (o : Option Piece) → is_some o ≡ false → o ≡ None
nobody None e = refl
nobody (Some man) e = absurd (false≢true (sym e))

pub somebody : (o : Option Piece) → is_some o ≡ true → o ≡ None → ⊥
somebody o e none = false≢true (sym (ap is_some none) ∙ e)

pub clear_more : (men : List (Option Piece)) (d : Direction) (k from s : ℕ) → IsClear men d k from → Along d k from s → man_at men s ≡ None → IsClear men d (k + 1) from
clear_more men d k from s clear along empty = λ n t away below there. elim (cases_lt n k) [
  | inl lt ↦ clear n t away lt there
  | inr ge ↦
      let e : n ≡ k = omega arith in
      subst (λ x. man_at men x ≡ None) (along_unique d k from s t along (rw e at there)) empty
]
