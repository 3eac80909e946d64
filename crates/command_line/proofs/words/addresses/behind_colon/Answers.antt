use Rattle.std.proofs.Common.{◌<◌, length, arith, rules, sym, subst}
use Rattle.std.specs.Prelude.{◌==◌}
use Rattle.command_line.proofs.AddressLaws.{after_less, all_found, cut_more}
use Rattle.command_line.proofs.words.addresses.behind_colon.Goals as goal

pub loop-host-smaller : goal.loop-host-smaller
loop-host-smaller c =
    let cut = c.in-Some.ensures.byte (omega arith) (λ w o h. h) in
    subst (λ more. length more < length c.loop-host.rest.now) (sym cut.1) (after_less (λ b. b == 58) c.loop-host.rest.now cut.2)

pub loop-host-preserved : goal.loop-host-preserved
loop-host-preserved c =
    let cut = c.in-Some.ensures.byte (omega arith) (λ w o h. h) in
    let less : length c.in-Some.more.now < length c.loop-host.rest.now = subst (λ more. length more < length c.loop-host.rest.now) (sym cut.1) (after_less (λ b. b == 58) c.loop-host.rest.now cut.2) in
    let within = c.loop-host.invariant.1 in (
      search rules,
      omega (arith, less, within),
      cut_more c.args.text.now c.loop-host.rest.now c.in-Some.more.now c.loop-host.invariant.2 cut.1 cut.2,
    )

pub returns : goal.returns
returns c =
    let none = (rw c.in_default.is at c.split_once.ensures.byte) (omega arith) (λ w o h. h) in
    let far = c.loop-host.invariant.2 in
    record { within = c.loop-host.invariant.1; front = far.front; parts = sym (all_found 58 c.args.text.now c.loop-host.rest.now far.front far.parts none) }
