use Rattle.std.proofs.Common.{◌≡◌, ◌<◌, ◌≤◌, ◌^◌, get_or, length, rules}
use Rattle.std.specs.Prelude.{is_some}
use Rattle.game_reports.specs.Inside.Opening.{known_folders}
use Rattle.game_reports.specs.Inside.Reporting.{AddsGames}
use Rattle.game_reports.proofs.ReportLaws.{after_one, all_found, can_add, more_added, none_added, none_found, one_more, within}
use Rattle.game_reports.proofs.report.add_games.Goals as goal

pub loop-stamp-init : goal.loop-stamp-init
loop-stamp-init g c =
    let compares = is_some c.args.folders.now.other in
    none_found (g.S.System.outside c.args.system.now) (known_folders c.args.folders.now) _ (AddsGames compares c.args.text.now c.args.text.now) _ (none_added compares c.args.text.now _ c.none-totals.ensures)

pub add_game-requires : goal.add_game-requires
add_game-requires g c = c.in-Ok.ensures.named

pub with-totals-requires : goal.with-totals-requires
with-totals-requires g c =
    let o = g.S.System.outside c.args.system.now in
    let f = known_folders c.args.folders.now in
    let compares = is_some c.args.folders.now.other in
    let value = c.deref-stamp-items.ensures.value in
    let found = c.loop-stamp.invariant in
    let lt : c.loop-stamp.stamp-index < length f.stamps = rw value at c.loop-stamp-test.true in
    let is : c.stamp-item.result ≡ get_or f.stamps c.loop-stamp.stamp-index c.stamp-item.result = rw value at c.stamp-item.is in
    let small : length c.deref-stamp-items.result.now < 2 ^ 63 = search rules in
    can_add o f _ _ (AddsGames compares c.args.text.now c.loop-stamp.text) c.loop-stamp.totals c.loop-stamp.totals c.loop-stamp.stamp-index lt (rw value at small) (λ found is. is.1) found

pub loop-stamp-preserved : goal.loop-stamp-preserved
loop-stamp-preserved g c =
    let o = g.S.System.outside c.args.system.now in
    let f = known_folders c.args.folders.now in
    let compares = is_some c.args.folders.now.other in
    let value = c.deref-stamp-items.ensures.value in
    let found = c.loop-stamp.invariant in
    let lt : c.loop-stamp.stamp-index < length f.stamps = rw value at c.loop-stamp-test.true in
    let is : c.stamp-item.result ≡ get_or f.stamps c.loop-stamp.stamp-index c.stamp-item.result = rw value at c.stamp-item.is in
    let l = c.in-Ok.look in
    one_more o f _ _ _ (AddsGames compares c.args.text.now c.loop-stamp.text) (AddsGames compares c.args.text.now c.add_game.new.text) c.loop-stamp.totals c.with-totals.result c.loop-stamp.stamp-index c.stamp-item.result c.stamp-item.result l lt is
    (λ found h. more_added compares c.stamp-item.result l c.args.text.now c.loop-stamp.text c.add_game.new.text c.loop-stamp.totals c.with-totals.result found h (rw c.is_some.ensures at c.in-Ok-add_game.ensures) c.with-totals.ensures)
    found c.in-Ok.ensures.made

pub returns-in-Err : goal.returns-in-Err
returns-in-Err g c =
    let o = g.S.System.outside c.args.system.now in
    let f = known_folders c.args.folders.now in
    let compares = is_some c.args.folders.now.other in
    let value = c.deref-stamp-items.ensures.value in
    let found = c.loop-stamp.invariant in
    let lt : c.loop-stamp.stamp-index < length f.stamps = rw value at c.loop-stamp-test.true in
    let is : c.stamp-item.result ≡ get_or f.stamps c.loop-stamp.stamp-index c.stamp-item.result = rw value at c.stamp-item.is in
    within o f _ _ _ (AddsGames compares c.args.text.now c.loop-stamp.text) c.loop-stamp.totals c.loop-stamp.stamp-index c.stamp-item.result c.stamp-item.result lt is found c.in-Err.ensures.made

pub returns-in-Err-add_game : goal.returns-in-Err-add_game
returns-in-Err-add_game g c =
    let o = g.S.System.outside c.args.system.now in
    let f = known_folders c.args.folders.now in
    let compares = is_some c.args.folders.now.other in
    let value = c.deref-stamp-items.ensures.value in
    let found = c.loop-stamp.invariant in
    let lt : c.loop-stamp.stamp-index < length f.stamps = rw value at c.loop-stamp-test.true in
    let is : c.stamp-item.result ≡ get_or f.stamps c.loop-stamp.stamp-index c.stamp-item.result = rw value at c.stamp-item.is in
    after_one o f _ _ _ (AddsGames compares c.args.text.now c.loop-stamp.text) c.loop-stamp.totals c.loop-stamp.stamp-index c.stamp-item.result c.stamp-item.result c.in-Ok.look lt is found c.in-Ok.ensures.made

pub returns : goal.returns
returns g c =
    let o = g.S.System.outside c.args.system.now in
    let f = known_folders c.args.folders.now in
    let compares = is_some c.args.folders.now.other in
    let value = c.deref-stamp-items.ensures.value in
    let found = c.loop-stamp.invariant in
    let whole : length f.stamps ≤ c.loop-stamp.stamp-index = rw value at c.loop-stamp-test.false in
    all_found o f _ _ (AddsGames compares c.args.text.now c.loop-stamp.text) c.loop-stamp.totals c.loop-stamp.stamp-index whole found
