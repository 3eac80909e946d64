use Rattle.move_msg.specs.declared.arbiter_id.ArbiterId.TheVariants.{A, B}
use Rattle.theorems.proofs.Reporting.{first_of, kept_by, no_two}
use Rattle.theorems.proofs.sources.sources_tell_the_truth.Goals as goal

pub returns : goal.returns
returns c = λ game events all comes. record {
  verdict = λ r h. first_of game events all A r comes h.a;
  no_clash = λ clash h. no_two game events all clash comes h;
  kept_a = λ n h. kept_by game events all A n comes h.a;
  kept_b = λ n h. kept_by game events all B n comes h.b;
}
