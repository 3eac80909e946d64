use Rattle.std.proofs.Common.{◌<◌, length, ◌∙◌, ◌++◌, ◌∷◌, [], map, ap, arith, rules, sym, subst}
use Rattle.std.specs.Prelude.{◌==◌}
use Rattle.std.proofs.lemmas.List.{map-append}
use Rattle.command_line.specs.Addresses.{addresses_of}
use Rattle.command_line.proofs.AddressLaws.{after_less, all_found, one_found}
use Rattle.command_line.proofs.words.addresses.addresses_in.Goals as goal

pub loop-first-smaller : goal.loop-first-smaller
loop-first-smaller c =
    let cut = c.in-Some.ensures.byte (omega arith) (λ w o h. h) in
    subst (λ more. length more < length c.loop-first.rest.now) (sym cut.1) (after_less (λ b. b == 44) c.loop-first.rest.now cut.2)

pub loop-first-preserved : goal.loop-first-preserved
loop-first-preserved c =
    let cut = c.in-Some.ensures.byte (omega arith) (λ w o h. h) in (
      search rules,
      one_found 44 c.args.word.now c.loop-first.rest.now c.in-Some.first.now c.in-Some.more.now (map (λ s. s.now) c.loop-first.addresses.items) c.loop-first.invariant.1 cut.0 cut.1 cut.2
          ∙ ap (λ l. l ++ addresses_of c.in-Some.more.now) (sym (ap (map (λ s. s.now)) c.in_ok-push.ensures.items ∙ map-append (λ s. s.now) c.loop-first.addresses.items (c.in-Some.first ∷ []))),
    )

pub returns : goal.returns
returns c =
    let none = (rw c.in_default.is at c.split_once.ensures.byte) (omega arith) (λ w o h. h) in
    ap (map (λ s. s.now)) c.in_ok-push-2.ensures.items ∙ map-append (λ s. s.now) c.loop-first.addresses.items (c.loop-first.rest ∷ [])
    ∙ all_found 44 c.args.word.now c.loop-first.rest.now (map (λ s. s.now) c.loop-first.addresses.items) c.loop-first.invariant.1 none
