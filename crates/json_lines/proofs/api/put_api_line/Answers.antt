use Rattle.std.proofs.Common.{List, false, subst, ℕ}
use Rattle.std.specs.Prelude.{OnOk, codes}
use Rattle.std.proofs.lemmas.Result.{on_ok_weaker}
use Rattle.json.specs.Json.{Json, member, no_members, object}
use Rattle.json.specs.Tree.{json_tokens}
use Rattle.json_lines.specs.declared.api_told.ApiLine.TheVariants as line
use Rattle.json_lines.specs.declared.api_told.ApiMove.{ApiMove}
use Rattle.json_lines.specs.Api.{api_values_json, mainline_json}
use Rattle.json_lines.specs.Inside.Members.{Writes}
use Rattle.json_lines.specs.Objects.{error_json}
use Rattle.json_lines.proofs.ApiDepth.{api_reads_back}
use Rattle.json_lines.proofs.api.put_api_line.Goals as goal

pub returns-in-Fault : goal.returns-in-Fault
returns-in-Fault g c =
    let written = subst (λ (j : Json). OnOk c.put_error_alone.result (Writes false (json_tokens (object (member (codes "error") j no_members))) (g.W.Write.contents c.args.out.now) (g.W.Write.contents c.put_error_alone.new.out))) c.fen_error.ensures c.put_error_alone.ensures in
    record {
      written = rw c.in-Fault.is (on_ok_weaker c.put_error_alone.result (λ h. h.text) written);
      reads_back = rw c.in-Fault.is (on_ok_weaker c.put_error_alone.result (λ h. api_reads_back (line.Fault c.in-Fault.fault) _ _ h) written);
    }

pub returns-in-Refused : goal.returns-in-Refused
returns-in-Refused g c =
    let written = subst (λ (t : List ℕ). OnOk c.put_error_alone-in-Refused.result (Writes false (json_tokens (error_json t)) (g.W.Write.contents c.args.out.now) (g.W.Write.contents c.put_error_alone-in-Refused.new.out))) c.as_str.ensures.value c.put_error_alone-in-Refused.ensures in
    record {
      written = rw c.in-Refused.is (on_ok_weaker c.put_error_alone-in-Refused.result (λ h. h.text) written);
      reads_back = rw c.in-Refused.is (on_ok_weaker c.put_error_alone-in-Refused.result (λ h. api_reads_back (line.Refused c.in-Refused.words) _ _ h) written);
    }

pub returns-in-Values : goal.returns-in-Values
returns-in-Values g c =
    let written = subst (λ (ms : List ApiMove). OnOk c.put_api_values.result (Writes false (json_tokens (api_values_json c.in-Values.position ms)) (g.W.Write.contents c.args.out.now) (g.W.Write.contents c.put_api_values.new.out))) c.deref.ensures.value c.put_api_values.ensures in
    record {
      written = rw c.in-Values.is (on_ok_weaker c.put_api_values.result (λ h. h.text) written);
      reads_back = rw c.in-Values.is (on_ok_weaker c.put_api_values.result (λ h. api_reads_back (line.Values c.in-Values.position c.in-Values.moves) _ _ h) written);
    }

pub returns-in-Mainline : goal.returns-in-Mainline
returns-in-Mainline g c =
    let written = subst (λ (ms : List ApiMove). OnOk c.put_mainline.result (Writes false (json_tokens (mainline_json c.in-Mainline.position ms)) (g.W.Write.contents c.args.out.now) (g.W.Write.contents c.put_mainline.new.out))) c.deref-in-Mainline.ensures.value c.put_mainline.ensures in
    record {
      written = rw c.in-Mainline.is (on_ok_weaker c.put_mainline.result (λ h. h.text) written);
      reads_back = rw c.in-Mainline.is (on_ok_weaker c.put_mainline.result (λ h. api_reads_back (line.Mainline c.in-Mainline.position c.in-Mainline.plies) _ _ h) written);
    }
