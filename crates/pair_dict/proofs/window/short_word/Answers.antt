use Rattle.std.proofs.Common.{◌≡◌, ◌*◌, ◌+◌, ap, sym, ◌∙◌, arith, get_or}
use Rattle.std.proofs.lemmas.List.{take_all}
use Rattle.pair_dict.specs.Codes.{number_of}
use Rattle.pair_dict.proofs.Numbers.{push_fits, number_more, moved_up}
use Rattle.pair_dict.proofs.window.short_word.Goals as goal

pub overflow_mul-word : goal.overflow_mul-word
overflow_mul-word c =
    omega (arith, c.loop-byte.invariant, push_fits c.args.bytes.now c.loop-byte.byte-index 0 (λ i. omega (arith, c.type_inv.bytes i)) c.loop-byte-test.true c.requires (omega arith))

pub overflow_add-word : goal.overflow_add-word
overflow_add-word c =
    omega (arith, c.loop-byte.invariant, push_fits c.args.bytes.now c.loop-byte.byte-index (get_or c.args.bytes.now c.loop-byte.byte-index 0) (λ i. omega (arith, c.type_inv.bytes i)) c.loop-byte-test.true c.requires (omega (arith, c.type_inv.bytes c.loop-byte.byte-index)))

pub loop-byte-preserved : goal.loop-byte-preserved
loop-byte-preserved c =
    ap (λ w. w * 256 + get_or c.args.bytes.now c.loop-byte.byte-index 0) c.loop-byte.invariant ∙ sym (number_more c.args.bytes.now c.loop-byte.byte-index c.loop-byte-test.true)

pub returns : goal.returns
returns c =
    let all : c.loop-byte.word ≡ number_of c.args.bytes.now = c.loop-byte.invariant ∙ ap number_of (take_all c.loop-byte.byte-index c.args.bytes.now c.loop-byte-test.false) in
    rw all (moved_up c.args.bytes.now (λ i. omega (arith, c.type_inv.bytes i)) c.requires)
