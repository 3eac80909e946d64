use Rattle.std.proofs.lemmas.Result.{on_ok_weaker}
use Rattle.json_lines.proofs.Whole.{end_list_written}
use Rattle.json_lines.proofs.writing.put_end_list.Goals as goal

pub returns : goal.returns
returns g c = on_ok_weaker c.put.result (λ h. end_list_written _ _ h) c.put.ensures
