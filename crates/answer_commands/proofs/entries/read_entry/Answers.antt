use Rattle.std.proofs.Common.{rules, ℕ}
use Rattle.command_line.specs.Numbers.{IsDelayDigit}
use Rattle.answer_commands.proofs.entries.read_entry.Goals as goal

pub returns-in_default-delay_of_digit-clause-err : goal.returns-in_default-delay_of_digit-clause-err
returns-in_default-delay_of_digit-clause-err c =
    let digit : (n : ℕ) → IsDelayDigit c.in-Some.fields.delay.now n → ⊥ = λ n h. c.in_default-delay_of_digit.ensures.none n h.0 h.1 in
    search rules
