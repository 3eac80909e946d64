use Rattle.std.proofs.Common.{◌≤◌, arith}
use Rattle.pair_dict.specs.Inside.Layouts.{pairing_in}
use Rattle.pair_dict.specs.declared.runs.CodeRun.{CodeRun}
use Rattle.pair_dict.proofs.RunLemmas.{half_place, first_place}
use Rattle.pair_dict.proofs.runs.run_within.Goals as goal

abbrev none : CodeRun
none = record { packed = 0 }

pub returns-then-values-most-clause-is : goal.returns-then-values-most-clause-is
returns-then-values-most-clause-is c =
    let i = c.shorter.invariant in
    i.serves _ (λ width front few lt is. rw is (c.requires.joined width front none lt (rw is at i.known)))

pub shorter-preserved : goal.shorter-preserved
shorter-preserved c =
    let i = c.shorter.invariant in
    let d = (pairing_in c.args.layout.now).0 in
    let two : 2 ≤ c.shorter.place = first_place d c.args.runs.now c.shorter.place none c.requires.joined i.known i.some (omega (arith, c.if-values-most.false, c.values.ensures)) in
    record {
      some = omega (arith, two);
      known = omega (arith, i.known);
      serves = λ run of. i.serves run (half_place d c.shorter.place run two of);
    }
