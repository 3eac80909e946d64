use Rattle.probe_api.proofs.Playing.{at_end}
use Rattle.probe_api.proofs.game.Game.at.Goals as goal

pub returns : goal.returns
returns c = λ rules moves delay at before. record {
  delay = delay;
  at = at;
  outcome = at_end rules moves _ at before c.verdict-verdict.result (c.verdict-verdict.ensures rules moves delay at);
}
