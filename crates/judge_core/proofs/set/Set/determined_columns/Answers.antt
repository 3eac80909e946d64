use Rattle.std.proofs.Common.{◌≡◌, inl, subst, IfOk, OnErr}
use Rattle.judge_core.specs.Determined.{AreDetermined, ListsMovesDetermined}
use Rattle.judge_core.specs.Ruling.{ruling}
use Rattle.judge_core.specs.Tables.{Holding}
use Rattle.judge_core.proofs.set.Set.determined_columns.Goals as goal

pub returns-in-Ok-clause-told : goal.returns-in-Ok-clause-told
returns-in-Ok-clause-told c = subst (λ (h : Holding). IfOk c.columns_from.result (λ answers. AreDetermined h.tables c.args.position.now answers.probed)) c.readings.ensures.unchanged c.columns_from.ensures.told

pub returns-in-Ok-clause-verdict : goal.returns-in-Ok-clause-verdict
returns-in-Ok-clause-verdict c = subst (λ (h : Holding). IfOk c.columns_from.result (λ answers. answers.verdict ≡ ruling h.tables c.args.position.now)) c.readings.ensures.unchanged c.columns_from.ensures.verdict

pub returns-in-Ok-clause-memory : goal.returns-in-Ok-clause-memory
returns-in-Ok-clause-memory c = subst (λ (h : Holding). OnErr c.columns_from.result (ListsMovesDetermined h.tables c.args.position.now)) c.readings.ensures.unchanged c.columns_from.ensures.memory

pub returns-in-Err-clause-memory : goal.returns-in-Err-clause-memory
returns-in-Err-clause-memory c = inl c.in-Err.ensures.memory
