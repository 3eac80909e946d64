use Rattle.std.proofs.Common.{◌∙◌}
use Rattle.judge_core.proofs.KeptBlocks.{right_kept, cap_kept}
use Rattle.judge_core.proofs.table_slots.TableSlots.keep.Goals as goal

pub returns : goal.returns
returns c = record {
  cap = cap_kept (λ v. v.items) c.args.self.now.tables c.put.result c.args.blocks.now.kept _ c.args.key c.args.values c.put.ensures.entries c.put.ensures.err ∙ c.requires.right.cap;
  places = c.requires.right.places;
  marked = c.requires.right.marked;
  right = right_kept (λ v. v.items) c.args.self.now.tables c.put.result c.args.blocks.now.kept _ c.args.key c.args.values c.requires.these c.requires.right.right c.put.ensures.entries c.put.ensures.err;
}
