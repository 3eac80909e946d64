use Rattle.std.proofs.lemmas.Result.{on_ok_weaker}
use Rattle.json_lines.proofs.Whole.{no_error, one_error}
use Rattle.json_lines.proofs.writing.put_error.Goals as goal

pub returns-in-None : goal.returns-in-None
returns-in-None g c = no_error c.args.probed.now _ _ c.first_fault.ensures c.in-None.is

pub returns-in-Some : goal.returns-in-Some
returns-in-Some g c = on_ok_weaker c.put_fault.result (λ h. one_error c.args.probed.now _ c.in-Some.fault _ _ c.first_fault.ensures c.in-Some.is h) c.put_fault.ensures
