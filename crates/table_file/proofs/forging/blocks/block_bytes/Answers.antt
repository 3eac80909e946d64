use Rattle.std.proofs.Common.{◌≡◌, ◌+◌, ◌-◌, ◌*◌, ◌^◌, [], ◌∷◌, length, take, drop, get_or, arith, sym, rules}
use Rattle.std.proofs.lemmas.List.{drop_more, drop_all, take_all}
use Rattle.pair_dict.specs.Codes.{number_of}
use Rattle.table_file.specs.Plan.{code_of, codes_size}
use Rattle.table_file.specs.PlannedFile.{codes_number, block_bytes, big_endian_bytes}
use Rattle.table_file.proofs.Counting.{size_more}
use Rattle.table_file.proofs.forging.blocks.block_bytes.Goals as goal

pub loop-symbol-preserved : goal.loop-symbol-preserved
loop-symbol-preserved c =
    let block = c.args.block.now in
    let i = c.loop-symbol.symbol-index in
    let s = get_or block i 0 in
    let code = code_of c.args.plan.now in
    let is : c.code_of.result ≡ code s = c.code_of.ensures.is in
    let more = size_more code block i s c.loop-symbol-test.true (search rules) in
    let rest : drop i block ≡ s ∷ drop (i + 1) block = drop_more block i 0 c.loop-symbol-test.true in
    let size : 8 * length c.put_code.new.bytes.items + c.in_ok-held.held.count ≡ 8 * length c.loop-symbol.bytes.items + c.loop-symbol.held.count + (code s).length = rw is at c.in_ok-held.ensures.size in
    let number : number_of c.put_code.new.bytes.items * 2 ^ c.in_ok-held.held.count + c.in_ok-held.held.bits ≡ (number_of c.loop-symbol.bytes.items * 2 ^ c.loop-symbol.held.count + c.loop-symbol.held.bits) * 2 ^ (code s).length + (code s).bits = rw is at c.in_ok-held.ensures.number in
    record {
      held = c.in_ok-held.ensures.held;
      size = omega (arith, more, size, c.loop-symbol.invariant.size);
      number = rw number (rw rest at c.loop-symbol.invariant.number);
    }

pub returns : goal.returns
unfolding block_bytes
returns c =
    let block = c.args.block.now in
    let code = code_of c.args.plan.now in
    let i = c.loop-symbol.symbol-index in
    let inv = c.loop-symbol.invariant in
    let all : take i block ≡ block = take_all i block c.loop-symbol-test.false in
    let none : drop i block ≡ [] = drop_all i block c.loop-symbol-test.false in
    let number : number_of c.loop-symbol.bytes.items * 2 ^ c.loop-symbol.held.count + c.loop-symbol.held.bits ≡ codes_number code 0 block = rw none at inv.number in
    let size : 8 * length c.loop-symbol.bytes.items + c.loop-symbol.held.count ≡ codes_size code block = rw all at inv.size in
    let closed : number_of c.close.new.bytes.items ≡ codes_number code 0 block * 2 ^ (8 * c.args.size - codes_size code block) = rw (number, size) at c.in_ok-close.ensures.number in
    let whole : big_endian_bytes (length c.close.new.bytes.items) (number_of c.close.new.bytes.items) ≡ c.close.new.bytes.items = rw c.deref.ensures.value at c.are_of_their_number.ensures in
    sym (rw (c.in_ok-close.ensures.size, closed) at whole)
