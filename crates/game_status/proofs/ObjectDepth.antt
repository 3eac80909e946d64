-- How deep the object of games nests.
use Rattle.std.proofs.Common.{◌≡◌, ◌≤◌, ℕ, Bool, true, false, List, [], ◌∷◌, Option, Some, None, length, refl, arith}
use Rattle.std.specs.Prelude.{option_map}
use Rattle.board_core.specs.declared.verdict.Verdict.{Verdict}
use Rattle.board_core.specs.Verdicts.{verdict_name}
use Rattle.json.specs.Json.{Members, no_members, max_depth}
use Rattle.json.specs.Tree.{depth, items_depth, members_depth}
use Rattle.move_msg.specs.declared.record_bytes.Record.{Record as Records}
use Rattle.game_status.specs.declared.comparing.Compared.{Compared}
use Rattle.game_status.specs.declared.comparing.Compared.TheVariants.{Agree, Behind, Unopened, Differ}
use Rattle.game_status.specs.declared.entry.EntryFault.{EntryFault}
use Rattle.game_status.specs.declared.side.Side.{Side}
use Rattle.game_status.specs.declared.status_lines.Look.{Look}
use Rattle.game_status.specs.declared.status_lines.Look.TheVariants as look
use Rattle.game_status.specs.declared.totals.Totals.{Totals}
use Rattle.game_status.specs.Entries.{fault_words}
use Rattle.game_status.specs.StatusObjects.{compared_members, comparison_members, count_or_null, first_members, game_json, games_items, kept_members, members_if, record_members, second_members, side_members, status_json, text_or_null, totals_json, truth_or_null, unknown_members}
use Rattle.game_status.specs.Totals.{FoundGame, totals_of}

pub flat_text : (o : Option (List ℕ)) → depth (text_or_null o) ≡ 0
flat_text None = refl
flat_text (Some text) = refl

pub flat_count : (o : Option ℕ) → depth (count_or_null o) ≡ 0
flat_count None = refl
flat_count (Some n) = refl

flat_truth : (o : Option Bool) → depth (truth_or_null o) ≡ 0
flat_truth None = refl
flat_truth (Some b) = refl

-- ---- members that nest no deeper than those behind them

kept_flat : (moves : Option ℕ) (verdict : Option Verdict) (fault : Option EntryFault) (more : Members) → members_depth (kept_members moves verdict fault more) ≡ members_depth more
kept_flat moves verdict fault more =
    let m = flat_count moves in
    let v = flat_text (option_map verdict_name verdict) in
    let f = flat_text (option_map fault_words fault) in
    omega (arith, m, v, f)

record_flat : (kept : Option Records) (more : Members) → members_depth (record_members kept more) ≡ members_depth more
record_flat None more = kept_flat None None None more
record_flat (Some r) more = kept_flat (Some (length r.moves)) r.verdict None more

side_flat : (side : Side) (more : Members) → members_depth (side_members side more) ≡ members_depth more
side_flat side more = let r = record_flat side.kept more in omega (arith, r)

unknown_flat : (fault : Option EntryFault) (more : Members) → members_depth (unknown_members fault more) ≡ members_depth more
unknown_flat fault more = let k = kept_flat None None fault more in omega (arith, k)

pub first_flat : (l : Look) (more : Members) → members_depth (first_members l more) ≡ members_depth more
first_flat (look.One side) more = side_flat side more
first_flat (look.Both side other compared) more = side_flat side more
first_flat (look.AtFault fault) more = unknown_flat (Some fault) more
first_flat (look.OtherAtFault fault) more = unknown_flat None more

comparison_flat : (agree : Option Bool) (behind differ : Option ℕ) (more : Members) → members_depth (comparison_members agree behind differ more) ≡ members_depth more
comparison_flat agree behind differ more =
    let a = flat_truth agree in
    let b = flat_count behind in
    let d = flat_count differ in
    omega (arith, a, b, d)

compared_flat : (compared : Compared) (more : Members) → members_depth (compared_members compared more) ≡ members_depth more
compared_flat Agree more = comparison_flat (Some true) None None more
compared_flat (Behind n) more = comparison_flat (Some false) (Some n) None more
compared_flat Unopened more = comparison_flat (Some false) None None more
compared_flat (Differ ply) more = comparison_flat (Some false) None (Some ply) more

-- ---- games

second_shallow : (l : Look) → members_depth (second_members l no_members) ≤ 1
second_shallow (look.One side) = let c = comparison_flat None None None no_members in omega (arith, c)
second_shallow (look.Both side other compared) =
    let s = side_flat other no_members in
    let c = compared_flat compared no_members in
    omega (arith, s, c)
second_shallow (look.AtFault fault) = let c = comparison_flat None None None no_members in omega (arith, c)
second_shallow (look.OtherAtFault fault) =
    let u = unknown_flat (Some fault) no_members in
    let c = comparison_flat None None None no_members in
    omega (arith, u, c)

pub second_if_shallow : (compares : Bool) (l : Look) → members_depth (members_if compares (second_members l) no_members) ≤ 1
second_if_shallow true l = second_shallow l
second_if_shallow false l = omega arith

game_shallow : (compares : Bool) (f : FoundGame) → depth (game_json compares f) ≤ 2
game_shallow compares f =
    let first = first_flat f.look (members_if compares (second_members f.look) no_members) in
    let second = second_if_shallow compares f.look in
    omega (arith, first, second)

games_shallow : (compares : Bool) (found : List FoundGame) → items_depth (games_items compares found) ≤ 2
games_shallow compares [] = omega arith
games_shallow compares (f ∷ fs) =
    let one = game_shallow compares f in
    let others = games_shallow compares fs in
    omega (arith, one, others)

totals_shallow : (compares : Bool) (t : Totals) → depth (totals_json compares t) ≤ 1
totals_shallow true t = omega arith
totals_shallow false t = omega arith

pub status_shallow : (compares : Bool) (found : List FoundGame) → depth (status_json compares found) ≤ max_depth
status_shallow compares found =
    let games = games_shallow compares found in
    let sums = totals_shallow compares (totals_of found) in
    omega (arith, games, sums)
