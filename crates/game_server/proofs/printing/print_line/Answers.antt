use Rattle.std.proofs.Common.{subst}
use Rattle.std.specs.Prelude.{option_map}
use Rattle.game_server.specs.Inside.Running.{IsTextEnd, PicksText}
use Rattle.game_server.proofs.PrintLaws.{line_written}
use Rattle.timeline.specs.Events.{is_done}
use Rattle.timeline.specs.Outsides.{AddsSome}
use Rattle.game_server.proofs.printing.print_line.Goals as goal

pub returns-in-Some-clause-made : goal.returns-in-Some-clause-made
returns-in-Some-clause-made g c = λ before had.
    let o = g.S.System.outside c.args.system.now in
    line_written o before c.args.lines.now c.pick.new.self c.args.line c.in-Some.text.items c.args.timeline.now c.print_text.new.timeline c.print_text.result
    (subst (λ r. PicksText before c.args.lines.now c.pick.new.self c.args.line (option_map (λ t. t.items) r)) c.in-Some.is (c.pick.ensures before had))
    (subst (λ t. AddsSome o c.args.timeline.now c.print_text.new.timeline (IsTextEnd (is_done c.print_text.result) t)) c.as_slice.ensures.value c.print_text.ensures.made)
