use Rattle.std.proofs.Common.{refl}
use Rattle.game_status.proofs.ListingLaws.{are_stamps}
use Rattle.game_status.specs.Listings.{kept_ending}
use Rattle.game_reports.proofs.folders.known_by.Goals as goal

pub returns-clause-known : goal.returns-clause-known
returns-clause-known c =
    let kept = rw c.deref.ensures.value at c.in_ok-add_stamps.ensures in
    record { is_at = refl; kept = are_stamps _ kept_ending c.new-kept.result.keys _ c.new-kept.ensures.empty kept; records = c.in_ok-records.ensures }

pub returns-clause-games : goal.returns-clause-games
returns-clause-games c = rw c.deref-2.ensures.value at c.in_ok-add_stamps-2.ensures
