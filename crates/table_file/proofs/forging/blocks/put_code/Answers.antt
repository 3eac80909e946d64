use Rattle.std.proofs.Common.{◌≡◌, ◌-◌, ◌*◌, ◌/◌, ◌^◌, [], ◌∷◌, refl, arith, ◌∙◌}
use Rattle.std.specs.Prelude.{◌%◌}
use Rattle.std.proofs.lemmas.Nat.{shl_whole, one_shl}
use Rattle.std.proofs.lemmas.List.{length-append}
use Rattle.pair_dict.specs.Codes.{number_of}
use Rattle.table_file.proofs.Laying.{byte_out, byte_below, bits_below, code_in_bits, code_after}
use Rattle.table_file.proofs.forging.blocks.put_code.Goals as goal

pub loop-count-init : goal.loop-count-init
loop-count-init c =
    let w : c.args.held.bits * 2 ^ c.args.code.length % 18446744073709551616 ≡ c.args.held.bits * 2 ^ c.args.code.length = shl_whole c.args.held.bits c.args.held.count c.args.code.length 64 c.requires.held.bits (omega (arith, c.requires.held.few, c.requires.short)) in
    record {
      bits = rw w (code_in_bits c.args.held.bits c.args.held.count c.args.code.bits c.args.code.length c.requires.held.bits c.requires.bits);
      few = omega (arith, c.requires.held.few, c.requires.short);
      size = refl;
      number = refl;
    }

pub overflow_cast-bits-in-loop-count : goal.overflow_cast-bits-in-loop-count
overflow_cast-bits-in-loop-count c =
    let lt = byte_below c.loop-count.bits c.loop-count.count c.loop-count-test.true c.loop-count.invariant.bits in omega (arith, lt)

pub loop-count-preserved : goal.loop-count-preserved
loop-count-preserved c =
    let k = c.loop-count.count - 8 in
    let w : 1 * 2 ^ k % 18446744073709551616 ≡ 2 ^ k = one_shl k 64 (omega (arith, c.loop-count.invariant.few)) in
    let pushed = c.in_ok-push.ensures.items in
    record {
      bits = rw w (bits_below c.loop-count.bits k);
      few = omega (arith, c.loop-count.invariant.few);
      size = rw pushed (omega (arith, length-append c.loop-count.bytes.items (c.loop-count.bits / 2 ^ k ∷ []), c.loop-count.invariant.size, c.loop-count-test.true));
      number = rw (w, pushed) (byte_out c.loop-count.bytes.items c.loop-count.bits c.loop-count.count c.loop-count-test.true) ∙ c.loop-count.invariant.number;
    }

pub returns-clause-number : goal.returns-clause-number
returns-clause-number c =
    let w : c.args.held.bits * 2 ^ c.args.code.length % 18446744073709551616 ≡ c.args.held.bits * 2 ^ c.args.code.length = shl_whole c.args.held.bits c.args.held.count c.args.code.length 64 c.requires.held.bits (omega (arith, c.requires.held.few, c.requires.short)) in
    (rw w at c.loop-count.invariant.number) ∙ code_after (number_of c.args.bytes.now.items) c.args.held.bits c.args.held.count c.args.code.bits c.args.code.length
