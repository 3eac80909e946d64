use Rattle.std.proofs.Common.{◌<◌, length, arith, refl, rules, sym, subst}
use Rattle.std.specs.Prelude.{◌==◌}
use Rattle.command_line.proofs.AddressLaws.{after_less, done_bad, done_last, done_more, done_none, done_not}
use Rattle.command_line.specs.Addresses.{IsRecipient}
use Rattle.command_line.proofs.words.addresses.are_recipients.Goals as goal

pub loop-first-init : goal.loop-first-init
loop-first-init c = (search rules, done_none IsRecipient c.args.word.now)

pub loop-first-smaller : goal.loop-first-smaller
loop-first-smaller c =
    let cut = c.in-Some.ensures.byte (omega arith) (λ w o h. h) in
    subst (λ more. length more < length c.loop-first.rest.now) (sym cut.1) (after_less (λ b. b == 44) c.loop-first.rest.now cut.2)

pub loop-first-preserved : goal.loop-first-preserved
loop-first-preserved c =
    let cut = c.in-Some.ensures.byte (omega arith) (λ w o h. h) in
    (search rules, done_more IsRecipient c.args.word.now c.loop-first.rest.now c.in-Some.first.now c.in-Some.more.now c.loop-first.invariant.1 cut.0 cut.1 cut.2 (search rules))

pub returns-then-not-is_recipient-clause-none : goal.returns-then-not-is_recipient-clause-none
returns-then-not-is_recipient-clause-none c = λ is.
    let cut = c.in-Some.ensures.byte (omega arith) (λ w o h. h) in
    done_bad IsRecipient c.args.word.now c.loop-first.rest.now c.in-Some.first.now c.in-Some.more.now c.loop-first.invariant.1 cut.0 cut.1 cut.2 (c.if-not-is_recipient.ensures.none refl)

pub returns-clause-some : goal.returns-clause-some
returns-clause-some c = λ is.
    let none = (rw c.in_default.is at c.split_once.ensures.byte) (omega arith) (λ w o h. h) in
    done_last IsRecipient c.args.word.now c.loop-first.rest.now c.loop-first.invariant.1 none (c.is_recipient-2.ensures.some is)

pub returns-clause-none : goal.returns-clause-none
returns-clause-none c = λ is.
    let none = (rw c.in_default.is at c.split_once.ensures.byte) (omega arith) (λ w o h. h) in
    done_not IsRecipient c.args.word.now c.loop-first.rest.now c.loop-first.invariant.1 none (c.is_recipient-2.ensures.none is)
