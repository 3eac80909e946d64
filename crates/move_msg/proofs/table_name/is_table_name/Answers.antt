use Rattle.std.proofs.Common.{sym, ◌≡◌, ◌∙◌, ap, ◌∷◌, ◌++◌, true, false}
use mathlib.Core.Bool.{true≢false}
use Rattle.move_msg.specs.TableNames.{are_men_from, are_paired}
use Rattle.move_msg.proofs.CutBytes.{is_there, tail_same}
use Rattle.move_msg.proofs.TableNameLaws.{named_by}
use Rattle.move_msg.proofs.table_name.is_table_name.Goals as goal

no_truth : false ≡ true → ⊥
no_truth e = absurd (true≢false (sym e))

pub returns-in_default : goal.returns-in_default
returns-in_default c = (λ t. absurd (no_truth t), λ h. absurd (is_there 118 (75 ∷ h.first) (75 ∷ h.second) (rw h.text at c.in_default.ensures.none)))

pub returns-in_default-after : goal.returns-in_default-after
returns-in_default-after c =
    let cut = c.in-Some.ensures.some in
    (λ t. absurd (no_truth t), λ h. absurd (c.in_default-after.ensures.none h.first (named_by _ _ _ cut.0 cut.1 h).0))

pub returns-in_default-after-2 : goal.returns-in_default-after-2
returns-in_default-after-2 c =
    let cut = c.in-Some.ensures.some in
    (λ t. absurd (no_truth t), λ h. absurd (c.in_default-after-2.ensures.none h.second (named_by _ _ _ cut.0 cut.1 h).1))

pub returns-then-not-are_men : goal.returns-then-not-are_men
returns-then-not-are_men c =
    let cut = c.in-Some.ensures.some in (
      λ t. absurd (no_truth t),
      λ h.
          let same = tail_same _ _ _ _ (sym c.in-Some-after.ensures.some ∙ (named_by _ _ _ cut.0 cut.1 h).0) in
          absurd (no_truth (sym c.if-not-are_men.true ∙ c.are_men.ensures ∙ ap (are_men_from 0) same ∙ h.first_men)),
    )

pub returns-then-not-are_men-2 : goal.returns-then-not-are_men-2
returns-then-not-are_men-2 c =
    let cut = c.in-Some.ensures.some in (
      λ t. absurd (no_truth t),
      λ h.
          let same = tail_same _ _ _ _ (sym c.in-Some-after-2.ensures.some ∙ (named_by _ _ _ cut.0 cut.1 h).1) in
          absurd (no_truth (sym c.if-not-are_men-2.true ∙ c.are_men-2.ensures ∙ ap (are_men_from 0) same ∙ h.second_men)),
    )

pub returns : goal.returns
returns c =
    let cut = c.in-Some.ensures.some in
    let first = c.in-Some-after.ensures.some in
    let second = c.in-Some-after-2.ensures.some in (
      λ t. record {
        first = c.in-Some-after.first.now;
        second = c.in-Some-after-2.second.now;
        first_men = sym c.are_men.ensures ∙ c.if-not-are_men.false;
        second_men = sym c.are_men-2.ensures ∙ c.if-not-are_men-2.false;
        paired = sym c.are_paired.ensures ∙ t;
        text = cut.0 ∙ (λ i. first i ++ 118 ∷ second i);
      },
      λ h.
          let named = named_by _ _ _ cut.0 cut.1 h in
          let first_same = tail_same _ _ _ _ (sym first ∙ named.0) in
          let second_same = tail_same _ _ _ _ (sym second ∙ named.1) in
          c.are_paired.ensures ∙ (λ i. are_paired (first_same i) (second_same i)) ∙ h.paired,
    )
