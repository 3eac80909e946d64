use Rattle.std.proofs.Common.{[], length, get_or, arith, refl, ap}
use Rattle.std.proofs.lemmas.List.{length-append}
use Rattle.table_file.proofs.Appending.{adds_next, added_all}
use Rattle.table_file.proofs.forging.values.symbol_bytes.Goals as goal

pub loop-symbol-init : goal.loop-symbol-init
loop-symbol-init c = (c.new-bytes.ensures.items, ap length c.new-bytes.ensures.items)

pub loop-symbol-preserved : goal.loop-symbol-preserved
loop-symbol-preserved c =
    let xs = c.args.symbols.now in
    let i = c.loop-symbol.symbol-index in
    let x = get_or xs i [] in
    let one = c.in_ok-extend_from_slice.ensures.items in
    let three = c.told-symbols i c.loop-symbol-test.true in (
      adds_next (λ s. s) xs i [] x [] c.loop-symbol.bytes.items c.extend_from_slice.new.self.items c.loop-symbol-test.true refl c.loop-symbol.invariant.0 one,
      omega (arith, ap length one, length-append c.loop-symbol.bytes.items x, three, c.loop-symbol.invariant.1),
    )

pub returns-clause-is : goal.returns-clause-is
returns-clause-is c = added_all (λ s. s) c.args.symbols.now c.loop-symbol.symbol-index [] c.loop-symbol.bytes.items c.loop-symbol-test.false c.loop-symbol.invariant.0

pub returns-clause-long : goal.returns-clause-long
returns-clause-long c = omega (arith, c.loop-symbol.invariant.1, c.loop-symbol-test.false, c.loop-symbol.auto.symbol-index-end)
