use Rattle.std.proofs.Common.{◌≡◌, ◌+◌, ◌-◌, ◌*◌, ◌^◌, ◌≤◌, [], ◌∷◌, length, arith, ◌∙◌}
use Rattle.std.specs.Prelude.{◌%◌}
use Rattle.std.proofs.lemmas.List.{length-append}
use Rattle.pair_dict.specs.Codes.{number_of}
use Rattle.table_file.proofs.Laying.{zeros_left, zero_more}
use Rattle.table_file.proofs.forging.blocks.close.Goals as goal

pub loop-bytes-init : goal.loop-bytes-init
loop-bytes-init c =
    let e = c.in_ok-put_code.ensures in
    let h = c.in_ok-put_code.field-0 in
    let none : h.count ≡ 0 = omega (arith, e.size, e.held.few, c.requires.held.few) in
    let fits : length c.put_code.new.bytes.items ≤ c.args.size = omega (arith, e.size, e.held.few, none, c.requires.fits, c.requires.held.few) in
    record {
      fits = fits;
      number = zeros_left (number_of c.put_code.new.bytes.items) (number_of c.args.bytes.now.items * 2 ^ c.args.held.count + c.args.held.bits) h.bits c.args.held.count ((8 - c.args.held.count) % 8) h.count
          (length c.args.bytes.now.items) (length c.put_code.new.bytes.items) c.args.size none e.held.bits e.size c.requires.fits fits e.number;
    }

pub loop-bytes-preserved : goal.loop-bytes-preserved
loop-bytes-preserved c =
    let pushed = c.in_ok-push.ensures.items in
    record {
      fits = rw pushed (omega (arith, length-append c.loop-bytes.bytes.items (0 ∷ []), c.loop-bytes-test.true, c.len.ensures));
      number = rw pushed (zero_more c.loop-bytes.bytes.items c.args.size (omega (arith, c.loop-bytes-test.true, c.len.ensures))) ∙ c.loop-bytes.invariant.number;
    }
