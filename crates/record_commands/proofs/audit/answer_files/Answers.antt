use Rattle.std.proofs.Common.{refl}
use Rattle.std.proofs.lemmas.Result.{IfOk-weaker}
use Rattle.record_commands.specs.Audits.{One, Two}
use Rattle.record_commands.proofs.audit.answer_files.Goals as goal

pub returns-in-None : goal.returns-in-None
returns-in-None c =
    IfOk-weaker c.answer_one.result _ _ (λ a h. One c.in_ok-one.one.finding (rw c.in-None.is refl) c.in_ok-one.ensures.found h) c.answer_one.ensures

pub returns : goal.returns
returns c =
    let one = c.in_ok-one in
    let other = c.in_ok-other-in-Some in
    let found = rw one.ensures.same at other.ensures.found in
    let compared = c.compare_files.ensures c.args.one.now c.in-Some.other.now (one.ensures.spelled, one.ensures.none) (other.ensures.spelled, other.ensures.none) in
    IfOk-weaker c.answer_two.result _ _ (λ a h. Two c.in-Some.other.now one.one.finding other.other.finding c.compare_files.result (rw c.in-Some.is refl) one.ensures.found found compared h) c.answer_two.ensures
