use Rattle.std.proofs.Common.{◌∙◌, refl}
use Rattle.table_file.proofs.table_part.TablePart.view.Goals as goal

pub returns-clause-checked : goal.returns-clause-checked
returns-clause-checked c =
    let whole = c.self.invariant.whole in
    record {
      some = c.indices.ensures.some;
      most = c.indices.ensures.most;
      entries_fit = rw (c.indices.ensures.is, c.bytes.ensures) whole.entries_fit;
      lengths_fit = rw (c.indices.ensures.is, c.bytes-2.ensures) whole.lengths_fit;
      blocks_fit = rw (c.indices.ensures.is, c.bytes-3.ensures) whole.blocks_fit;
      right = rw (c.indices.ensures.is, c.bytes.ensures, c.bytes-2.ensures) whole.right;
    }

pub returns-clause-part : goal.returns-clause-part
returns-clause-part c =
    let stands = c.self.invariant.stands in
    rw (← c.self.view_is) (record {
      part = c.self.inside.part.now.head;
      found = stands.found;
      size = c.indices.ensures.is;
      coding = refl;
      lengths = c.bytes-2.ensures ∙ stands.lengths;
      blocks = c.bytes-3.ensures ∙ stands.blocks;
    })
