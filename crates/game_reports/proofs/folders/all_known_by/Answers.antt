use Rattle.std.proofs.Common.{◌++◌}
use Rattle.game_status.specs.Listings.{game_ending}
use Rattle.game_status.proofs.ListingLaws.{adds_both, are_stamps}
use Rattle.game_reports.specs.Folders.{names_in}
use Rattle.game_reports.specs.Inside.Opening.{other_opened}
use Rattle.game_reports.specs.Inside.StoreReading.{opened_of}
use Rattle.game_reports.proofs.folders.all_known_by.Goals as goal

pub returns-in-Ok-rising : goal.returns-in-Ok-rising
returns-in-Ok-rising c =
    let one = c.in-Ok.ensures in
    let two = c.in-Ok-other_known_by.ensures in
    let names = (opened_of c.args.opened.one).names in
    let others = names_in (other_opened c.args.opened.other) in
    record {
      one = one.known;
      other = two.known;
      games = rw c.in-Ok-rising.ensures.all (are_stamps (names ++ others) game_ending c.new-games.result.keys _ c.new-games.ensures.empty (adds_both names others game_ending _ _ _ one.games two.games));
      rising = rw c.in-Ok-rising.ensures.all c.in-Ok-rising.ensures.rising;
    }
