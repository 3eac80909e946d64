use Rattle.std.proofs.Common.{◌∷◌, []}
use Rattle.answer_commands.proofs.EndLaws.{ends_so}
use Rattle.answer_parts.specs.Printing.{Prints}
use Rattle.line_teller.specs.ToldLines.{refused_memory}
use Rattle.adjudicate_core.proofs.misusing.refuse_task.Goals as goal

pub returns : goal.returns
returns g c =
    let o = g.S.System.outside c.args.system.now in
    ends_so o _ _ _ (Prints (refused_memory ∷ []) 1) c.print_refusal-answered.result c.end.result c.print_refusal-answered.ensures.made c.print_refusal-answered.ensures.cause c.end.ensures
