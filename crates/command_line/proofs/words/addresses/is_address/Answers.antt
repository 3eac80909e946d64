use Rattle.std.proofs.Common.{◌≡◌, false, rules, true}
use Rattle.command_line.proofs.AddressLaws.{address_so, no_port, not_long}
use Rattle.command_line.proofs.words.addresses.is_address.Goals as goal

pub returns-then-text-port-lt2-clause-none : goal.returns-then-text-port-lt2-clause-none
returns-then-text-port-lt2-clause-none c = λ is. not_long c.args.text.now c.behind_colon-port.result.now c.behind_colon-port.ensures (search rules)

pub returns-in-Some-clause-some : goal.returns-in-Some-clause-some
returns-in-Some-clause-some c = λ is. address_so c.args.text.now c.behind_colon-port.result.now c.in-Some.field-0 (λ has. let f : false ≡ true = c.if-has_space.ensures.1 has in absurd cc) c.behind_colon-port.ensures (search rules) c.in-Some.ensures.some.0 c.in-Some.ensures.some.1

pub returns-in-None-clause-none : goal.returns-in-None-clause-none
returns-in-None-clause-none c = λ is. no_port c.args.text.now c.behind_colon-port.result.now c.behind_colon-port.ensures c.in-None.ensures.none
