use Rattle.std.proofs.Common.{get_or, refl}
use Rattle.pair_dict.specs.Symbols.{values_of}
use Rattle.table_file.specs.Plan.{symbols_values}
use Rattle.table_file.proofs.Appending.{adds_next, added_all}
use Rattle.table_file.proofs.forging.values.push_block.Goals as goal

pub push_values-requires-clause-known : goal.push_values-requires-clause-known
push_values-requires-clause-known c = c.requires.known c.loop-symbol.symbol-index 0 c.loop-symbol-test.true

pub loop-symbol-preserved : goal.loop-symbol-preserved
unfolding symbols_values
loop-symbol-preserved c =
    let xs = c.args.block.now in
    let i = c.loop-symbol.symbol-index in
    adds_next (values_of c.args.symbols.now) xs i 0 (get_or xs i 0) c.args.values.now.items c.loop-symbol.values.items c.push_values.new.values.items c.loop-symbol-test.true refl c.loop-symbol.invariant c.in_ok-push_values.ensures

pub returns : goal.returns
unfolding symbols_values
returns c = added_all (values_of c.args.symbols.now) c.args.block.now c.loop-symbol.symbol-index c.args.values.now.items c.loop-symbol.values.items c.loop-symbol-test.false c.loop-symbol.invariant
