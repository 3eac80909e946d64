use Rattle.std.proofs.Common.{◌<◌, ℕ, sym, subst}
use Rattle.table_file.specs.declared.spots.Spot.{Spot}
use Rattle.table_file.specs.declared.spots.Spot.TheVariants.{At}
use Rattle.table_file.specs.Expansion.{real_blocks, IsRealSpot, IsSpot}
use Rattle.judge_core.proofs.Entries.{an_entry, part_named, single_entry, past_entry}
use Rattle.judge_core.proofs.table_slots.TableSlots.read.Goals as goal

pub index-index-requires : goal.index-index-requires
index-index-requires c = record { fits = c.shape.ensures.fits c.args.placed.now c.requires.part.asked }

pub value_in_block-requires-clause-on : goal.value_in_block-requires-clause-on
value_in_block-requires-clause-on c =
    part_named c.args.self.now.tables c.args.kind c.args.placed.now c.args.part.now c.key_of-key.result c.requires.part c.key_of-key.ensures.slot c.key_of-key.ensures.side c.key_of-key.ensures.file

pub value_in_block-requires-clause-real : goal.value_in_block-requires-clause-real
value_in_block-requires-clause-real c = subst (λ (b : ℕ). b < real_blocks c.args.part.now) (sym c.key_of-key.ensures.block) (subst (λ (spot : Spot). IsRealSpot c.args.part.now spot) c.in-Ok-At.field-0-is c.in-Ok-At.ensures.real).0

pub returns-in-Ok-Single-clause-is : goal.returns-in-Ok-Single-clause-is
returns-in-Ok-Single-clause-is c =
    an_entry _ _ c.requires.part.is _ _ _ c.shape.ensures.is c.index-index.ensures.is
    (single_entry _ _ _ (subst (λ (spot : Spot). IsSpot c.args.part.now c.index-index.result spot) c.in-Ok-Single.field-0-is c.in-Ok-Single.ensures.found))

pub returns-in-Ok-At-clause-is : goal.returns-in-Ok-At-clause-is
returns-in-Ok-At-clause-is c =
    an_entry _ _ c.requires.part.is _ _ _ c.shape.ensures.is c.index-index.ensures.is
    (c.value_in_block.ensures.found c.index-index.result (subst (λ (b : ℕ). IsSpot c.args.part.now c.index-index.result (At b c.in-Ok-At.offset)) (sym c.key_of-key.ensures.block) (subst (λ (spot : Spot). IsSpot c.args.part.now c.index-index.result spot) c.in-Ok-At.field-0-is c.in-Ok-At.ensures.found)))

pub returns-in-Err-clause-is : goal.returns-in-Err-clause-is
returns-in-Err-clause-is c = an_entry _ _ c.requires.part.is _ _ _ c.shape.ensures.is c.index-index.ensures.is (past_entry _ _ c.in-Err.ensures.damaged)
