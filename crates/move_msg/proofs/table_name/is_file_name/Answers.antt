use Rattle.std.proofs.Common.{sym, ◌≡◌, ◌∙◌, ap, ◌∷◌, ◌++◌, true, false, List, ℕ, inl, inr}
use Rattle.std.specs.Prelude.{codes}
use mathlib.Core.Bool.{true≢false}
use Rattle.move_msg.proofs.CutBytes.{is_there}
use Rattle.move_msg.proofs.TableNameLaws.{filed_by}
use Rattle.move_msg.proofs.table_name.is_file_name.Goals as goal

no_truth : false ≡ true → ⊥
no_truth e = absurd (true≢false (sym e))

pub returns-in_default : goal.returns-in_default
returns-in_default c = (
  λ t. absurd (no_truth t),
  λ h. elim h.ending [
    | inl w ↦ absurd (is_there 46 h.table (codes "rtbw") (rw w at c.in_default.ensures.none))
    | inr z ↦ absurd (is_there 46 h.table (codes "rtbz") (rw z at c.in_default.ensures.none))
  ],
)

pub returns-then-not-is_ending : goal.returns-then-not-is_ending
returns-then-not-is_ending c =
    let cut = c.in-Some.ensures.some in (
      λ t. absurd (no_truth t),
      λ h. absurd (no_truth (sym c.if-not-is_ending.true ∙ c.is_ending.ensures.1 (filed_by _ _ _ cut.0 cut.1 h).1)),
    )

pub returns : goal.returns
returns c =
    let cut = c.in-Some.ensures.some in
    let ending = c.is_ending.ensures.0 c.if-not-is_ending.false in (
      λ t. record {
        table = c.in-Some.table.now;
        is_table = c.is_table_name.ensures.0 t;
        ending = elim ending [
          | inl w ↦ inl (cut.0 ∙ ap (λ (e : List ℕ). c.in-Some.table.now ++ 46 ∷ e) w)
          | inr z ↦ inr (cut.0 ∙ ap (λ (e : List ℕ). c.in-Some.table.now ++ 46 ∷ e) z)
        ];
      },
      λ h. c.is_table_name.ensures.1 (rw (filed_by _ _ _ cut.0 cut.1 h).0 h.is_table),
    )
