use Rattle.std.proofs.Common.{◌≡◌, ◌∷◌, ◌++◌, [], take, ap, sym, ◌∙◌, subst, arith}
use Rattle.std.proofs.lemmas.List.{take_all, take_more}
use Rattle.table_folder.specs.Settled.{IsSettled}
use Rattle.table_folder.proofs.Only.{adds_more, adds_none}
use Rattle.table_folder.proofs.Walking.{HasDone, all_done, one_more_done, only_after, only_there}
use Rattle.table_folder.proofs.Reading.{opens_both, opens_for_err, opens_till, passes_so}
use Rattle.table_folder.proofs.folder.TableFolder.settle_moves.Goals as goal

pub loop-m-preserved-in_default-play : goal.loop-m-preserved-in_default-play
loop-m-preserved-in_default-play g c =
    let m = c.m-item.result in
    let done = take_more c.deref-m-items.result.now c.loop-m.m-index m c.loop-m-test.true ∙ ap (λ x. take c.loop-m.m-index c.deref-m-items.result.now ++ x ∷ []) (sym c.m-item.is) in
    let none = sym c.play.ensures.computed ∙ c.in_default-play.is in
    let has = c.loop-m.invariant.0 in (
      subst (HasDone _ _ _ _ _) (sym done) (one_more_done c.more_tables_answer_the_same.ensures c.what_is_missing_stays_missing.ensures _ m has (λ kind key t there. there) (adds_none _ _ _ _) has.opened (λ p plays. let e = sym none ∙ plays in absurd cc)),
      c.loop-m.invariant.1,
      c.loop-m.invariant.2,
    )

pub returns-in_err-refusal-2-clause-kept : goal.returns-in_err-refusal-2-clause-kept
returns-in_err-refusal-2-clause-kept g c = λ kind key t there. c.settle_one-in-loop-m.ensures.kept kind key t (c.loop-m.invariant.0.kept kind key t there)

pub returns-in-Err-2-clause-kept : goal.returns-in-Err-2-clause-kept
returns-in-Err-2-clause-kept g c = λ kind key t there. c.settle_one-in-loop-m.ensures.kept kind key t (c.loop-m.invariant.0.kept kind key t there)

pub loop-m-preserved : goal.loop-m-preserved
loop-m-preserved g c =
    let m = c.m-item.result in
    let done = take_more c.deref-m-items.result.now c.loop-m.m-index m c.loop-m-test.true ∙ ap (λ x. take c.loop-m.m-index c.deref-m-items.result.now ++ x ∷ []) (sym c.m-item.is) in
    let plays = sym c.play.ensures.computed ∙ c.in-Some.is in
    let settled = rw c.in_default-2.is at c.in_ok-refusal-2.ensures.settled in (
      subst (HasDone _ _ _ _ _) (sym done) (one_more_done c.more_tables_answer_the_same.ensures c.what_is_missing_stays_missing.ensures _ m c.loop-m.invariant.0 c.settle_one-in-loop-m.ensures.kept (only_after _ _ _ _ _ _ (c.deref-m-items.ensures.value ∙ c.in_ok-legal.ensures.computed) c.loop-m-test.true c.m-item.is plays c.settle_one-in-loop-m.ensures.only) c.settle_one-in-loop-m.ensures.opened (λ p other. let same = sym plays ∙ other in let one : c.in-Some.next ≡ p = cc in subst (IsSettled c.args.self.now.folder c.settle_one-in-loop-m.new.set.tables) one settled)),
      c.settle_one-in-loop-m.ensures.cache ∙ c.loop-m.invariant.1,
      opens_both _ _ _ _ _ _ _ _ _ c.loop-m.invariant.2 (rw c.in_default-2.is at c.in_ok-refusal-2.ensures.made),
    )

pub returns-in_err-refusal-2-clause-only : goal.returns-in_err-refusal-2-clause-only
returns-in_err-refusal-2-clause-only g c =
    let plays = sym c.play.ensures.computed ∙ c.in-Some.is in
    adds_more _ _ _ c.loop-m.invariant.0.kept c.loop-m.invariant.0.only (only_after _ _ _ _ _ _ (c.deref-m-items.ensures.value ∙ c.in_ok-legal.ensures.computed) c.loop-m-test.true c.m-item.is plays c.settle_one-in-loop-m.ensures.only)

pub returns-in-Err-2-clause-only : goal.returns-in-Err-2-clause-only
returns-in-Err-2-clause-only g c =
    let plays = sym c.play.ensures.computed ∙ c.in-Some.is in
    adds_more _ _ _ c.loop-m.invariant.0.kept c.loop-m.invariant.0.only (only_after _ _ _ _ _ _ (c.deref-m-items.ensures.value ∙ c.in_ok-legal.ensures.computed) c.loop-m-test.true c.m-item.is plays c.settle_one-in-loop-m.ensures.only)

pub returns-clause-settled : goal.returns-clause-settled
returns-clause-settled g c = all_done _ (take_all c.loop-m.m-index _ c.loop-m-test.false ∙ c.deref-m-items.ensures.value ∙ c.in_ok-legal.ensures.computed) c.loop-m.invariant.0

pub returns-in-Err-clause-only : goal.returns-in-Err-clause-only
returns-in-Err-clause-only g c = only_there _ _ c.settle_one.ensures.only

pub returns-in_err-refusal-clause-only : goal.returns-in_err-refusal-clause-only
returns-in_err-refusal-clause-only g c = only_there _ _ c.settle_one.ensures.only

pub returns-in_err-legal-clause-only : goal.returns-in_err-legal-clause-only
returns-in_err-legal-clause-only g c = only_there _ _ c.settle_one.ensures.only

pub loop-m-init : goal.loop-m-init
loop-m-init g c = (
  record {
    opened = c.settle_one.ensures.opened;
    kept = c.settle_one.ensures.kept;
    only = only_there _ _ c.settle_one.ensures.only;
    own = rw c.in_default.is at c.in_ok-refusal.ensures.settled;
    after = λ m p among plays. absurd (omega (arith, among.1));
  },
  c.settle_one.ensures.cache,
  rw c.in_default.is at c.in_ok-refusal.ensures.made,
)

pub returns-in_err-refusal-2-clause-made : goal.returns-in_err-refusal-2-clause-made
returns-in_err-refusal-2-clause-made g c =
    opens_for_err _ _ _ _ c.from_residual-in_err-refusal-2.result c.in_err-refusal-2.field-0.0 _ _ c.from_residual-in_err-refusal-2.ensures.0 (opens_both _ _ _ _ _ _ _ _ _ c.loop-m.invariant.2 c.in_err-refusal-2.ensures.made)

pub returns-in-Err-2-clause-made : goal.returns-in-Err-2-clause-made
returns-in-Err-2-clause-made g c = opens_both _ _ _ _ _ _ _ _ _ c.loop-m.invariant.2 (rw c.in-Err-2.is at c.in_ok-refusal-2.ensures.made)

pub returns-in_err-legal-clause-made : goal.returns-in_err-legal-clause-made
returns-in_err-legal-clause-made g c =
    opens_for_err _ _ _ _ c.from_residual-in_err-legal.result c.in_err-legal.field-0.0 _ _ c.from_residual-in_err-legal.ensures.0 (passes_so _ _ _ _ (opens_till _ _ _ _ _) (rw c.in_default.is at c.in_ok-refusal.ensures.made))
