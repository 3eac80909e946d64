use Rattle.std.proofs.Common.{◌∙◌, sym, ap}
use Rattle.system_fakes.proofs.RowLaws.{found_past, nowhere_past, other_bytes}
use Rattle.system_fakes.proofs.memory_disk.+found.Goals as goal

pub returns-else-eq-clause-found : goal.returns-else-eq-clause-found
returns-else-eq-clause-found g n c =
    let differs = other_bytes _ _ (sym c.eq.ensures ∙ c.if-eq.false) in
    found_past _ _ c.args.all.now _ c.args.path.now c.found.result c.in-len1-up.len_at_least (λ same. differs (ap (λ r. r.path.now) c.first-item.is ∙ same)) c.found.ensures.found

pub returns-else-eq-clause-nowhere : goal.returns-else-eq-clause-nowhere
returns-else-eq-clause-nowhere g n c =
    let differs = other_bytes _ _ (sym c.eq.ensures ∙ c.if-eq.false) in
    nowhere_past _ c.args.all.now _ c.args.path.now c.found.result c.in-len1-up.len_at_least (λ same. differs (ap (λ r. r.path.now) c.first-item.is ∙ same)) c.found.ensures.nowhere
