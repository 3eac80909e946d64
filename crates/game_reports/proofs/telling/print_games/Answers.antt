use Rattle.std.proofs.Common.{◌≡◌, ◌<◌, ◌≤◌, ◌^◌, ◌∙◌, get_or, length, refl, rules}
use Rattle.std.specs.Prelude.{is_some}
use Rattle.game_reports.specs.GameLines.{TellsOf}
use Rattle.game_reports.specs.Inside.Opening.{known_folders}
use Rattle.game_reports.proofs.OpeningLaws.{some_known}
use Rattle.game_reports.proofs.TellLaws.{can_count, cuts, ends, none_told, one_more, stops}
use Rattle.game_reports.proofs.telling.print_games.Goals as goal

pub loop-stamp-init : goal.loop-stamp-init
loop-stamp-init g c =
    let o = g.S.System.outside c.args.system.now in
    let f = known_folders c.args.folders.now in
    let reads = TellsOf o.disk f (g.T.LookTeller.tells c.args.teller.now) in
    let compares = is_some f.other in
    record { told = none_told o reads _ _ c.none-sums.ensures; same = refl }

pub with-sums-requires : goal.with-sums-requires
with-sums-requires g c =
    let o = g.S.System.outside c.args.system.now in
    let f = known_folders c.args.folders.now in
    let reads = TellsOf o.disk f (g.T.LookTeller.tells c.args.teller.now) in
    let compares = is_some f.other in
    let value = c.deref-stamp-items.ensures.value in
    let told = c.loop-stamp.invariant.told in
    let lt : c.loop-stamp.stamp-index < length f.stamps = rw value at c.loop-stamp-test.true in
    let is : c.stamp-item.result ≡ get_or f.stamps c.loop-stamp.stamp-index c.stamp-item.result = rw value at c.stamp-item.is in
    let small : length c.deref-stamp-items.result.now < 2 ^ 63 = search rules in
    can_count o reads f.stamps compares _ _ c.loop-stamp.stamp-index c.loop-stamp.sums lt (rw value at small) told

pub loop-stamp-preserved : goal.loop-stamp-preserved
loop-stamp-preserved g c =
    let o = g.S.System.outside c.args.system.now in
    let f = known_folders c.args.folders.now in
    let reads = TellsOf o.disk f (g.T.LookTeller.tells c.args.teller.now) in
    let compares = is_some f.other in
    let value = c.deref-stamp-items.ensures.value in
    let told = c.loop-stamp.invariant.told in
    let lt : c.loop-stamp.stamp-index < length f.stamps = rw value at c.loop-stamp-test.true in
    let is : c.stamp-item.result ≡ get_or f.stamps c.loop-stamp.stamp-index c.stamp-item.result = rw value at c.stamp-item.is in
    let made = rw (c.in-Ok-Some.field-0-is, c.loop-stamp.invariant.same) at c.in-Ok-Some.ensures.made in
    record {
      told = one_more o reads f.stamps compares _ _ _ c.loop-stamp.stamp-index c.stamp-item.result c.stamp-item.result c.loop-stamp.sums c.with-sums.result c.in-Ok-Some.mark lt is told made c.with-sums.ensures;
      same = c.in-Ok-Some.ensures.same ∙ c.loop-stamp.invariant.same;
    }

pub returns-in-Ok-None-clause-made : goal.returns-in-Ok-None-clause-made
returns-in-Ok-None-clause-made g c =
    let o = g.S.System.outside c.args.system.now in
    let f = known_folders c.args.folders.now in
    let reads = TellsOf o.disk f (g.T.LookTeller.tells c.args.teller.now) in
    let compares = is_some f.other in
    let value = c.deref-stamp-items.ensures.value in
    let told = c.loop-stamp.invariant.told in
    let lt : c.loop-stamp.stamp-index < length f.stamps = rw value at c.loop-stamp-test.true in
    let is : c.stamp-item.result ≡ get_or f.stamps c.loop-stamp.stamp-index c.stamp-item.result = rw value at c.stamp-item.is in
    let made = rw (c.in-Ok-None.field-0-is, c.loop-stamp.invariant.same) at c.in-Ok-None.ensures.made in
    stops o reads f.stamps compares _ _ _ c.loop-stamp.stamp-index c.stamp-item.result c.stamp-item.result c.loop-stamp.sums lt is told made

pub returns-in-Err-clause-made : goal.returns-in-Err-clause-made
returns-in-Err-clause-made g c =
    let o = g.S.System.outside c.args.system.now in
    let f = known_folders c.args.folders.now in
    let reads = TellsOf o.disk f (g.T.LookTeller.tells c.args.teller.now) in
    let compares = is_some f.other in
    let value = c.deref-stamp-items.ensures.value in
    let told = c.loop-stamp.invariant.told in
    let lt : c.loop-stamp.stamp-index < length f.stamps = rw value at c.loop-stamp-test.true in
    let is : c.stamp-item.result ≡ get_or f.stamps c.loop-stamp.stamp-index c.stamp-item.result = rw value at c.stamp-item.is in
    let made = rw c.loop-stamp.invariant.same at c.in-Err.ensures.made in
    cuts o reads f.stamps compares _ _ _ c.loop-stamp.stamp-index c.stamp-item.result c.stamp-item.result c.loop-stamp.sums c.in-Err.fault lt is told made

pub returns-clause-made : goal.returns-clause-made
returns-clause-made g c =
    let o = g.S.System.outside c.args.system.now in
    let f = known_folders c.args.folders.now in
    let reads = TellsOf o.disk f (g.T.LookTeller.tells c.args.teller.now) in
    let compares = is_some f.other in
    let value = c.deref-stamp-items.ensures.value in
    let told = c.loop-stamp.invariant.told in
    let whole : length f.stamps ≤ c.loop-stamp.stamp-index = rw value at c.loop-stamp-test.false in
    ends o reads f.stamps compares _ _ _ c.loop-stamp.stamp-index c.loop-stamp.sums c.print_sums.result whole told (rw (c.is_some.ensures ∙ some_known c.args.folders.now.other) at c.print_sums.ensures.made)
