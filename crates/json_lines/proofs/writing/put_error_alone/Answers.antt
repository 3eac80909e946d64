use Rattle.std.proofs.Common.{refl}
use Rattle.std.specs.Prelude.{codes}
use Rattle.std.proofs.lemmas.Result.{on_ok_weaker}
use Rattle.json_lines.proofs.Whole.{alone_written}
use Rattle.json_lines.proofs.writing.put_error_alone.Goals as goal

pub returns : goal.returns
returns g c = on_ok_weaker c.put_end.result (λ h. alone_written (codes "error") _ _ _ _ _ _ refl c.in_ok-put_begin.ensures c.in_ok-put_member.ensures h) c.put_end.ensures
