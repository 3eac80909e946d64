use Rattle.std.proofs.Common.{◌∙◌, sym}
use Rattle.system_fakes.proofs.RowLaws.{others_past, other_bytes}
use Rattle.system_fakes.proofs.memory_disk.+is_other.Goals as goal

pub returns-else-eq : goal.returns-else-eq
returns-else-eq n c =
    let differs = other_bytes _ _ (sym c.eq.ensures ∙ c.if-eq.false) in
    let past = others_past (λ p. p.now) c.args.paths.now _ c.args.path.now c.in-len1-up.len_at_least differs in
    (λ yes. past.0 (c.is_other.ensures.0 yes), λ h. c.is_other.ensures.1 (past.1 h))
