use Rattle.std.proofs.Common.{◌≡◌, ◌≤◌, ◌^◌, ◌+◌, ◌*◌, ◌∙◌, ap, arith, rules, length, replicate}
use Rattle.std.proofs.lemmas.List.{length-replicate}
use Rattle.std.proofs.lemmas.Nat.{pow-add}
use Rattle.std.proofs.Math.Nat.{pow-le-pow_right}
use Rattle.pair_dict.specs.Inside.Layouts.{pairing_in}
use Rattle.pair_dict.proofs.RunLemmas.{no_runs}
use Rattle.pair_dict.proofs.runs.joined_runs.Goals as goal

pub join_width-requires-clause-room : goal.join_width-requires-clause-room
join_width-requires-clause-room c =
    let less : 2 ^ c.loop-bits.bits ≤ 2 ^ c.args.width = pow-le-pow_right {n = 2} (omega arith) (omega (arith, c.loop-bits-test.true)) in
    omega (arith, less, c.deref_mut.ensures.value, c.deref_mut.ensures.len, c.loop-bits.invariant.lengths, c.loop-bits.runs.ok.0)

pub loop-bits-init : goal.loop-bits-init
loop-bits-init c =
    let n = c.numbers_of.result in
    let all : c.in_ok-runs.runs.items ≡ replicate n c.none.result = search rules in
    let twice : 2 ^ (c.args.width + 1) ≡ 2 ^ c.args.width * 2 = pow-add 2 c.args.width 1 in
    record {
      joined = no_runs (pairing_in c.args.layout.now).0 c.in_ok-runs.runs.items n c.none.result all c.none.ensures.values c.none.ensures.bits;
      lengths = ap length all ∙ length-replicate n c.none.result ∙ omega (arith, c.numbers_of.ensures, twice);
    }
