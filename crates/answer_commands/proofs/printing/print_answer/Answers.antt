use Rattle.answer_parts.proofs.PrintLaws.{cut_with}
use Rattle.answer_commands.proofs.printing.print_answer.Goals as goal

pub returns-in-Err-clause-made : goal.returns-in-Err-clause-made
returns-in-Err-clause-made g c =
    let made = rw c.deref.ensures.value at c.in-Err.ensures.made in
    rw c.in-Lines.is (cut_with (g.S.System.outside c.args.system.now) _ _ _ 0 c.in-Err.fault made)
