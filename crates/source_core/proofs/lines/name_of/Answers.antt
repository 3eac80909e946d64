use Rattle.std.proofs.Common.{◌≤◌, List, ℕ, length, subst, sym}
use Rattle.source_core.proofs.LineLaws.{short_name}
use Rattle.source_core.proofs.lines.name_of.Goals as goal

pub returns-clause-short : goal.returns-clause-short
returns-clause-short c = subst (λ (ws : List ℕ). length ws ≤ 10) (sym c.name.ensures) (short_name c.args.verdict)
