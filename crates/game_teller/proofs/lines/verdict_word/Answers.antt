use Rattle.std.proofs.Common.{◌≤◌, List, ℕ, length, subst, sym}
use Rattle.game_teller.proofs.LineLaws.{short_verdict}
use Rattle.game_teller.proofs.lines.verdict_word.Goals as goal

pub returns-clause-short : goal.returns-clause-short
returns-clause-short c = subst (λ (ws : List ℕ). length ws ≤ 10) (sym c.verdict_or_open.ensures) (short_verdict c.args.verdict)
