use Rattle.game_status.proofs.ListingLaws.{adds_one}
use Rattle.game_status.proofs.listing.add_stamp.Goals as goal

pub returns-in-Ok : goal.returns-in-Ok
returns-in-Ok c =
    let some = c.in-Some.ensures.some in
    adds_one c.args.stamps.now c.insert.new.self c.in-Some.stamp c.in-Ok.ensures.updates c.args.name.now c.args.ending.now some.0 some.1
