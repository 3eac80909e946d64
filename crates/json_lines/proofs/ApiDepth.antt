-- How deep an object of the tablebase API nests.
use Rattle.std.proofs.Common.{◌≡◌, ◌≤◌, ℕ, ℤ, Bool, true, false, List, Option, Some, None, refl, arith}
use Rattle.std.specs.Prelude.{Result}
use Rattle.board_core.specs.declared.parts.Parts.{Parts}
use Rattle.board_core.specs.declared.piece.Side.{Side}
use Rattle.board_core.specs.declared.piece.Side.TheVariants.{White, Black}
use Rattle.board_core.specs.declared.verdict.Verdict.{Verdict}
use Rattle.judge_core.specs.declared.fault.ProbeFault.{ProbeFault}
use Rattle.judge_core.specs.declared.probe_result.ProbeResult.{ProbeResult}
use Rattle.json.specs.Json.{document}
use Rattle.json.specs.Tree.{depth, json_tokens, members_depth}
use Rattle.json_lines.specs.declared.api.MoveForm.{MoveForm}
use Rattle.json_lines.specs.declared.api.MoveForm.TheVariants.{Legal, Ply}
use Rattle.json_lines.specs.declared.api_told.ApiLine.{ApiLine}
use Rattle.json_lines.specs.declared.api_told.ApiLine.TheVariants as line
use Rattle.json_lines.specs.declared.api_told.ApiMove.{ApiMove}
use Rattle.json_lines.specs.declared.api_told.ApiPosition.{ApiPosition}
use Rattle.json_lines.specs.Api.{api_json, api_move_members, api_position_members, list_members, mainline_members, values_members, precise_or_null, side_or_null}
use Rattle.json_lines.specs.ApiTold.{winner_of}
use Rattle.json_lines.specs.Inside.Members.{Writes}
use Rattle.json_lines.specs.Objects.{first_probe_fault, json_text}
use Rattle.json_lines.proofs.Pieces.{reads_back}
use Rattle.json_lines.proofs.Whole.{flat_fault, flat_followed, flat_number, flat_verdict, moves_depth}

flat_precise : (precise : Bool) (dtz : Result ℤ ProbeFault) → depth (precise_or_null precise dtz) ≡ 0
flat_precise true dtz = flat_number dtz
flat_precise false dtz = refl

flat_side : (side : Option Side) → depth (side_or_null side) ≡ 0
flat_side None = refl
flat_side (Some White) = refl
flat_side (Some Black) = refl

flat_position : (p : Parts) (probed : ProbeResult) (verdict : Option Verdict) (precise : Bool) → members_depth (values_members p probed verdict precise) ≡ 0
flat_position p probed verdict precise =
    let w = flat_number probed.wdl in
    let d = flat_number probed.dtz in
    let q = flat_precise precise probed.dtz in
    let v = flat_verdict verdict in
    let e = flat_fault (first_probe_fault probed.wdl probed.dtz) in
    omega (arith, w, d, q, v, e)

flat_move : (form : MoveForm) (t : ApiMove) → members_depth (api_move_members form t) ≡ 0
flat_move Legal t =
    let w = flat_number t.told.probed.wdl in
    let d = flat_number t.told.probed.dtz in
    let q = flat_precise t.precise t.told.probed.dtz in
    let e = flat_fault (first_probe_fault t.told.probed.wdl t.told.probed.dtz) in
    omega (arith, w, d, q, e)
flat_move Ply t =
    let d = flat_number t.told.probed.dtz in
    let q = flat_precise t.precise t.told.probed.dtz in
    omega (arith, d, q)

flat_mainline : (t : ApiPosition) → members_depth (mainline_members t) ≡ 0
flat_mainline t =
    let probed = t.told.columns.probed in
    let d = flat_number probed.dtz in
    let q = flat_precise t.precise probed.dtz in
    let s = flat_side (winner_of t.told.position.side probed.dtz) in
    let e = flat_fault (first_probe_fault probed.wdl probed.dtz) in
    omega (arith, d, q, s, e)

shallow : (l : ApiLine) → depth (api_json l) ≤ 3
shallow (line.Fault fault) = omega arith
shallow (line.Refused words) = omega arith
shallow (line.Values t moves) =
    let e = flat_position t.told.position t.told.columns.probed t.told.columns.verdict t.precise in
    let f = flat_followed (api_position_members t) (list_members Legal moves.items) in
    let m = moves_depth (api_move_members Legal) (flat_move Legal) moves.items in
    omega (arith, e, f, m)
shallow (line.Mainline t plies) =
    let e = flat_mainline t in
    let f = flat_followed (mainline_members t) (list_members Ply plies.items) in
    let m = moves_depth (api_move_members Ply) (flat_move Ply) plies.items in
    omega (arith, e, f, m)

pub api_reads_back : (l : ApiLine) (old new : Option (List ℕ)) → Writes false (json_tokens (api_json l)) old new → document (json_text (api_json l)) ≡ Some (api_json l)
api_reads_back l old new w = reads_back (api_json l) old new w (let s = shallow l in omega (arith, s))
