use Rattle.std.proofs.Common.{◌∙◌, ◌++◌, ◌∷◌, [], ◌+◌, List, ap, drop, subst, sym, take}
use Rattle.std.specs.Prelude.{Ok, Err}
use Rattle.arbiter_server.specs.declared.line.Line.{Line}
use Rattle.game_server.specs.Inside.Running.{WritesAll, held_lines}
use Rattle.game_server.proofs.PrintLaws.{lines_split, lines_to, written_cut, written_none, written_on}
use Rattle.game_server.proofs.printing.print_lines.Goals as goal

pub loop-one-init : goal.loop-one-init
loop-one-init g c = record { made = λ before had. written_none (g.S.System.outside c.args.system.now) before c.args.lines.now c.args.timeline.now had }

pub loop-one-preserved : goal.loop-one-preserved
loop-one-preserved g c = record {
  made = λ before had.
      let o = g.S.System.outside c.args.system.now in
      let was = c.loop-one.invariant.made before had in
      let first = held_lines c.args.are_sent (take c.loop-one.one-index c.args.held.now) in
      let more = ap (λ (l : Line). first ++ l ∷ []) c.line_of.ensures ∙ sym (lines_to c.args.are_sent c.args.held.now c.loop-one.one-index c.one-item.result c.loop-one-test.true c.one-item.is) in
      subst (λ (ls : List Line). WritesAll o before c.args.lines.now c.print_line.new.lines ls c.args.timeline.now c.print_line.new.timeline (Ok tt)) more
      (written_on o before c.args.lines.now c.loop-one.lines c.print_line.new.lines first (c.line_of.result ∷ []) c.args.timeline.now c.loop-one.timeline c.print_line.new.timeline (Ok tt) was (c.in-Ok.ensures.made _ was.after));
}

pub returns-in-Err-clause-made : goal.returns-in-Err-clause-made
returns-in-Err-clause-made g c = λ before had.
    let o = g.S.System.outside c.args.system.now in
    let was = c.loop-one.invariant.made before had in
    let first = held_lines c.args.are_sent (take c.loop-one.one-index c.args.held.now) in
    let rest = held_lines c.args.are_sent (drop (c.loop-one.one-index + 1) c.args.held.now) in
    let split = lines_split c.args.are_sent c.args.held.now c.loop-one.one-index c.one-item.result c.loop-one-test.true c.one-item.is ∙ ap (λ (l : Line). (first ++ l ∷ []) ++ rest) (sym c.line_of.ensures) in
    subst (λ (ls : List Line). WritesAll o before c.args.lines.now c.print_line.new.lines ls c.args.timeline.now c.print_line.new.timeline (Err c.in-Err.fault)) (sym split)
    (written_cut o before c.args.lines.now c.print_line.new.lines (first ++ c.line_of.result ∷ []) rest c.args.timeline.now c.print_line.new.timeline c.in-Err.fault
    (written_on o before c.args.lines.now c.loop-one.lines c.print_line.new.lines first (c.line_of.result ∷ []) c.args.timeline.now c.loop-one.timeline c.print_line.new.timeline (Err c.in-Err.fault) was (c.in-Err.ensures.made _ was.after)))
