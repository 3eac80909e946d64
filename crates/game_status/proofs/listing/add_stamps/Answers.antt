use Rattle.std.proofs.Common.{◌∙◌}
use Rattle.game_status.proofs.ListingLaws.{adds_more}
use Rattle.game_status.proofs.listing.add_stamps.Goals as goal

pub loop-name-preserved : goal.loop-name-preserved
loop-name-preserved c = adds_more c.args.names.now c.loop-name.name-index c.name-item.result c.as_bytes.result.now c.args.ending.now _ _ _ c.loop-name-test.true c.name-item.is (c.as_bytes.ensures.value ∙ c.as_str.ensures.value) c.loop-name.invariant c.in_ok-add_stamp.ensures
