use Rattle.std.proofs.Common.{◌≡◌, ℕ, List, [], inl, inr}
use Rattle.std.specs.Prelude.{Result, Ok, Err, IfOk, IfErr}
use Rattle.std.proofs.lemmas.Result.{IfErr-weaker, IfOk-weaker}
use Rattle.sqlite.specs.Order.{Row}
use Rattle.sqlite.specs.Held.{state}
use Rattle.sqlite.specs.State.{IsNotRun, IsUnchanged, KeepsCommit, State}
use Rattle.sqlite.specs.declared.error.Error.{Error}
use Rattle.sqlite.proofs.InsideLemmas.{unchanged_keeps}
use Rattle.game_store.proofs.writing.takes_more.Goals as goal

not_run_keeps : (old new : State) (sql : List ℕ) (params : Row) (e : Error) → IsNotRun old new sql params e → KeepsCommit old new
unfolding IsNotRun
not_run_keeps old new sql params e (inl none) = unchanged_keeps old new (inl none.1)
not_run_keeps old new sql params e (inr fails) = unchanged_keeps old new (inr fails.3)

either : {A E : Type 0} (P : Type 0) (r : Result A E) → IfOk r (λ _. P) → IfErr r (λ _. P) → P
either P (Ok a) f g = f
either P (Err e) f g = g

pub returns-clause-kept : goal.returns-clause-kept
returns-clause-kept g c clean =
    let old = state g.S.Store c.args.conn.now in
    let new = state g.S.Store c.prepare.new.self in
    either (KeepsCommit old new) c.prepare.result (IfOk-weaker c.prepare.result _ _ (λ s same. unchanged_keeps old new (inl same.1)) (c.prepare.ensures.ok clean))
    (IfErr-weaker c.prepare.result _ _ (λ e h. not_run_keeps old new [] [] e (h [])) (c.prepare.ensures.err clean))
