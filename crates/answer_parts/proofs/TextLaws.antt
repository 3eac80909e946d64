-- What is answered to a text of a position.
use Rattle.std.proofs.Common.{◌≡◌, ℕ, List, refl, subst}
use Rattle.std.specs.Prelude.{Result, Ok, Err, IfOk, OnErr}
use Rattle.board_core.specs.declared.parts.Parts.{Parts}
use Rattle.board_core.specs.Position.{IsPosition}
use Rattle.fen_text.specs.declared.fault.FenFault.{FenFault}
use Rattle.fen_text.specs.Fen.{IsFirstFenFault, SpellsPosition}
use Rattle.answer_parts.specs.Lines.{refused_fen}
use Rattle.answer_parts.specs.Reply.{ForNone, ForPosition, IsForText, IsText, Reply, refusal_reply}

-- that of a text that is none, by its bytes
pub for_none : (bytes text : List ℕ) (IsAnswer : Parts → Reply → Type 0) (fault : FenFault) → bytes ≡ text → IsFirstFenFault bytes fault → IsForText text IsAnswer (refusal_reply (refused_fen fault))
for_none bytes text IsAnswer fault same first = ForNone fault (subst (λ t. IsFirstFenFault t fault) same first) refl

module _ {A E : Type 0} (reply : A → Reply) (r : Result A E) (bytes text : List ℕ) (p : Parts) (same : bytes ≡ text) (spells : SpellsPosition bytes p) (legal : IsPosition p) where
  spelled : SpellsPosition text p
  spelled = subst (λ t. SpellsPosition t p) same spells

  -- that of a position
  pub for_position : (IsAnswer : Parts → Reply → Type 0) → IfOk r (λ a. IsAnswer p (reply a)) → IfOk r (λ a. IsForText text IsAnswer (reply a))
  for_position IsAnswer h = by_result r h
    where
      by_result : (q : Result A E) → IfOk q (λ a. IsAnswer p (reply a)) → IfOk q (λ a. IsForText text IsAnswer (reply a))
      by_result (Ok a) is = ForPosition p spelled legal is
      by_result (Err e) is = tt

  -- memory is refused for a position alone
  pub for_memory : OnErr r (IsText text)
  for_memory = by_result r
    where
      by_result : (q : Result A E) → OnErr q (IsText text)
      by_result (Ok a) = tt
      by_result (Err e) = (p, spelled, legal)

-- what holds anyhow holds where there is an error
pub anyhow : {A E X : Type 0} (r : Result A E) → X → OnErr r X
anyhow (Ok a) x = tt
anyhow (Err e) x = x

-- what holds of all holds of an answer
pub however : {A E : Type 0} {P : A → Type 0} (r : Result A E) → ((a : A) → P a) → IfOk r P
however (Ok a) all = all a
however (Err e) all = tt
