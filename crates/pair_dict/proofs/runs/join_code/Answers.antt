use Rattle.std.proofs.Common.{◌-◌, ◌+◌, ◌*◌, ◌^◌, ◌<◌, ◌≤◌, ◌≡◌, refl, arith, length, ◌∙◌}
use Rattle.std.proofs.lemmas.List.{length-set}
use Rattle.std.proofs.lemmas.Nat.{pow_pos}
use Rattle.pair_dict.specs.Inside.Layouts.{pairing_in}
use Rattle.pair_dict.specs.Inside.Runs.{run_bits}
use Rattle.pair_dict.proofs.RunLemmas.{joined_more, run_join, code_place, behind_within, within_put}
use Rattle.pair_dict.proofs.runs.join_code.Goals as goal

pub are_within-all_fit-requires : goal.are_within-all_fit-requires
are_within-all_fit-requires c =
    let spare = c.args.width - c.bits.result in
    let behind = c.numbers_of-behind.result in
    let some : 1 ≤ behind = rw c.numbers_of-behind.ensures (pow_pos spare) in
    let last = behind_within c.args.runs.now c.args.width c.bits.result spare (behind - 1) behind c.numbers_of-behind.ensures (omega (arith, some))
    (omega (arith, c.bits.ensures, c.requires.single.some)) (omega (arith, c.bits.ensures, c.requires.short)) c.requires.room in
    omega (arith, some, last)

pub run_behind-run-requires-clause-known : goal.run_behind-run-requires-clause-known
run_behind-run-requires-clause-known c =
    behind_within c.loop-rest.runs c.args.width c.bits.result (c.args.width - c.bits.result) c.loop-rest.rest c.numbers_of-behind.result c.numbers_of-behind.ensures c.loop-rest-test.true
    (omega (arith, c.bits.ensures, c.requires.single.some)) (omega (arith, c.bits.ensures, c.requires.short)) (omega (arith, c.requires.room, c.loop-rest.invariant.lengths))

pub then-requires-clause-bits : goal.then-requires-clause-bits
then-requires-clause-bits c =
    let spare = c.args.width - c.bits.result in
    let more = c.run_behind-run.ensures.is spare c.loop-rest.rest (omega (arith, c.requires.few)) (rw c.numbers_of-behind.ensures at c.loop-rest-test.true) (rw c.numbers_of-behind.ensures refl) in
    omega (arith, more.short, c.bits.ensures, c.requires.short, c.requires.few)

pub bounds-runs-place : goal.bounds-runs-place
bounds-runs-place c =
    let spare = c.args.width - c.bits.result in
    let lt = code_place c.args.code c.loop-rest.rest c.bits.result spare c.args.width (rw (← c.bits.ensures) at c.requires.code) (rw c.numbers_of-behind.ensures at c.loop-rest-test.true) (omega (arith, c.bits.ensures, c.requires.short)) in
    rw (c.numbers_of-behind.ensures, c.numbers_of.ensures) (omega (arith, lt, c.requires.room, c.loop-rest.invariant.lengths))

pub loop-rest-preserved : goal.loop-rest-preserved
loop-rest-preserved c =
    let d = (pairing_in c.args.layout.now).0 in
    let spare = c.args.width - run_bits c.args.single in
    let behind : c.numbers_of-behind.result ≡ 2 ^ spare = rw c.bits.ensures at c.numbers_of-behind.ensures in
    let sum : run_bits c.args.single + spare ≡ c.args.width = omega (arith, c.requires.short) in
    let rest-lt : c.loop-rest.rest < 2 ^ spare = rw behind at c.loop-rest-test.true in
    let place-lt = code_place c.args.code c.loop-rest.rest (run_bits c.args.single) spare c.args.width c.requires.code rest-lt sum in
    let place-is : c.numbers_of.result + c.args.code * c.numbers_of-behind.result + c.loop-rest.rest ≡ 2 ^ c.args.width + (c.args.code * 2 ^ spare + c.loop-rest.rest) = rw (behind, c.numbers_of.ensures) (omega arith) in
    let room : 2 * 2 ^ c.args.width ≤ length c.loop-rest.runs = omega (arith, c.requires.room, c.loop-rest.invariant.lengths) in
    let more = c.run_behind-run.ensures.is spare c.loop-rest.rest (omega (arith, c.requires.few)) rest-lt (rw behind refl) in
    let next = run_join d c.args.code c.loop-rest.rest spare c.args.single c.run_behind-run.result c.then.result c.requires.single more rest-lt (omega (arith, sum, c.requires.few)) c.then.ensures.values c.then.ensures.bits in
    record {
      joined = joined_more d c.loop-rest.runs c.args.width (c.args.code * 2 ^ spare + c.loop-rest.rest) _ c.then.result c.loop-rest.invariant.joined place-lt place-is (omega (arith, place-is, place-lt, room)) (rw sum at next);
      lengths = length-set c.loop-rest.runs _ c.then.result ∙ c.loop-rest.invariant.lengths;
      fits = λ all. within_put c.loop-rest.runs c.args.width (run_bits c.args.single) spare c.numbers_of-behind.result _ _ c.then.result behind c.requires.single.some sum (omega (arith, place-is)) (c.loop-rest.invariant.fits all);
    }
