use Rattle.std.proofs.Common.{◌++◌, ap, arith, codes, sym}
use Rattle.std.proofs.lemmas.Fmt.{decimal_digit}
use Rattle.game_status.proofs.status_lines.line_words.Goals as goal

pub returns-in-Name-clause-is : goal.returns-in-Name-clause-is
returns-in-Name-clause-is c = rw c.in-Name.is (sym (ap (λ ds. codes "line " ++ ds) (decimal_digit 1 (omega arith))))

pub returns-in-Start-clause-is : goal.returns-in-Start-clause-is
returns-in-Start-clause-is c = rw c.in-Start.is (sym (ap (λ ds. codes "line " ++ ds) (decimal_digit 2 (omega arith))))

pub returns-in-Delay-clause-is : goal.returns-in-Delay-clause-is
returns-in-Delay-clause-is c = rw c.in-Delay.is (sym (ap (λ ds. codes "line " ++ ds) (decimal_digit 3 (omega arith))))

pub returns-in-More-clause-is : goal.returns-in-More-clause-is
returns-in-More-clause-is c = rw c.in-More.is (sym (ap (λ ds. codes "line " ++ ds) (decimal_digit 4 (omega arith))))
