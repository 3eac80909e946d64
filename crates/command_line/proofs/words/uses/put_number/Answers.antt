use Rattle.command_line.proofs.PutLaws.{number_cut, number_so}
use Rattle.command_line.proofs.words.uses.put_number.Goals as goal

pub returns-in-Ok : goal.returns-in-Ok
returns-in-Ok g c = λ plain. number_so (g.S.System.outside c.args.system.now) _ _ _ c.args.byte _ c.put-in-Ok.result plain c.digits_of-digits.ensures c.in-Ok.ensures c.put-in-Ok.ensures

pub returns-in-Err : goal.returns-in-Err
returns-in-Err g c = λ plain. number_cut (g.S.System.outside c.args.system.now) _ _ c.args.byte _ plain c.digits_of-digits.ensures c.in-Err.ensures
