use Rattle.std.proofs.Common.{◌≡◌, sym, true, false}
use Rattle.table_file.specs.Sparse.{sizes_of, is_entry}
use Rattle.table_file.proofs.Before.{entry_fails, entry_more, no_entries}
use Rattle.table_file.proofs.sparse.are_entries.Goals as goal

pub loop-k-init : goal.loop-k-init
loop-k-init c = no_entries (sizes_of c.args.lengths.now) c.args.span c.args.entries.now

pub returns-then-not-is_entry : goal.returns-then-not-is_entry
returns-then-not-is_entry c =
    let e : is_entry (sizes_of c.args.lengths.now) c.args.span c.args.entries.now c.loop-k.k ≡ false = cc in
    sym (entry_fails (sizes_of c.args.lengths.now) c.args.span c.args.entries.now c.loop-k.k c.args.n e c.loop-k-test.true)

pub loop-k-preserved : goal.loop-k-preserved
loop-k-preserved c =
    let e : is_entry (sizes_of c.args.lengths.now) c.args.span c.args.entries.now c.loop-k.k ≡ true = cc in
    entry_more (sizes_of c.args.lengths.now) c.args.span c.args.entries.now c.loop-k.k e c.loop-k.invariant
