use Rattle.std.proofs.Common.{◌≡◌, ◌<◌, ◌≤◌, ◌^◌, get_or, length, rules}
use Rattle.game_status.proofs.TotalLaws.{totals_more}
use Rattle.game_reports.specs.Inside.Opening.{known_folders}
use Rattle.game_reports.specs.Inside.Reporting.{AreCounted}
use Rattle.game_reports.proofs.ReportLaws.{all_found, can_add, none_found, one_found, one_more, within}
use Rattle.game_reports.proofs.report.count_games.Goals as goal

pub loop-stamp-init : goal.loop-stamp-init
loop-stamp-init g c = none_found (g.S.System.outside c.args.system.now) (known_folders c.args.folders.now) _ AreCounted _ c.none-totals.ensures

pub with-totals-requires : goal.with-totals-requires
with-totals-requires g c =
    let o = g.S.System.outside c.args.system.now in
    let f = known_folders c.args.folders.now in
    let value = c.deref-stamp-items.ensures.value in
    let found = c.loop-stamp.invariant in
    let lt : c.loop-stamp.stamp-index < length f.stamps = rw value at c.loop-stamp-test.true in
    let is : c.stamp-item.result ≡ get_or f.stamps c.loop-stamp.stamp-index c.stamp-item.result = rw value at c.stamp-item.is in
    let small : length c.deref-stamp-items.result.now < 2 ^ 63 = search rules in
    can_add o f _ _ AreCounted c.loop-stamp.totals c.loop-stamp.totals c.loop-stamp.stamp-index lt (rw value at small) (λ found is. is) found

pub loop-stamp-preserved : goal.loop-stamp-preserved
loop-stamp-preserved g c =
    let o = g.S.System.outside c.args.system.now in
    let f = known_folders c.args.folders.now in
    let value = c.deref-stamp-items.ensures.value in
    let found = c.loop-stamp.invariant in
    let lt : c.loop-stamp.stamp-index < length f.stamps = rw value at c.loop-stamp-test.true in
    let is : c.stamp-item.result ≡ get_or f.stamps c.loop-stamp.stamp-index c.stamp-item.result = rw value at c.stamp-item.is in
    one_more o f _ _ _ AreCounted AreCounted c.loop-stamp.totals c.with-totals.result c.loop-stamp.stamp-index c.stamp-item.result c.stamp-item.result c.in-Ok.look lt is (λ found is. totals_more found (one_found c.stamp-item.result c.in-Ok.look) c.loop-stamp.totals c.with-totals.result is c.with-totals.ensures) found c.in-Ok.ensures.made

pub returns-in-Err : goal.returns-in-Err
returns-in-Err g c =
    let o = g.S.System.outside c.args.system.now in
    let f = known_folders c.args.folders.now in
    let value = c.deref-stamp-items.ensures.value in
    let found = c.loop-stamp.invariant in
    let lt : c.loop-stamp.stamp-index < length f.stamps = rw value at c.loop-stamp-test.true in
    let is : c.stamp-item.result ≡ get_or f.stamps c.loop-stamp.stamp-index c.stamp-item.result = rw value at c.stamp-item.is in
    within o f _ _ _ AreCounted c.loop-stamp.totals c.loop-stamp.stamp-index c.stamp-item.result c.stamp-item.result lt is found c.in-Err.ensures.made

pub returns : goal.returns
returns g c =
    let o = g.S.System.outside c.args.system.now in
    let f = known_folders c.args.folders.now in
    let value = c.deref-stamp-items.ensures.value in
    let found = c.loop-stamp.invariant in
    let whole : length f.stamps ≤ c.loop-stamp.stamp-index = rw value at c.loop-stamp-test.false in
    all_found o f _ _ AreCounted c.loop-stamp.totals c.loop-stamp.stamp-index whole found
