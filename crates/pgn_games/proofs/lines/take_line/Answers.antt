use Rattle.std.proofs.Common.{◌≤◌, arith, length}
use Rattle.pgn_games.proofs.LineLaws.{end_known, line_known, one_if_any}
use Rattle.timeline.specs.Events.{has_line_feed}
use Rattle.pgn_games.proofs.LineReadLaws.{read_fails, read_one}
use Rattle.pgn_games.proofs.lines.take_line.Goals as goal

pub returns-in-Ok-true-clause-text : goal.returns-in-Ok-true-clause-text
returns-in-Ok-true-clause-text g c =
    let old = c.args.cursor.now in
    let past : length old.line.items ≤ old.place = omega (arith, c.requires, old.line.ok.0) in
    line_known _ _ old c.begin_line.new.cursor c.next_line.new.line.items _ c.in-Ok-true.field-0 c.in-Ok-true.field-0-test past c.in-Ok-true.ensures.read c.begin_line.ensures.begins

pub returns-in-Ok-true-clause-one : goal.returns-in-Ok-true-clause-one
returns-in-Ok-true-clause-one g c =
    c.begin_line.ensures.one (one_if_any _ _ c.next_line.new.line.items c.in-Ok-true.field-0 c.in-Ok-true.field-0-test c.in-Ok-true.ensures.read)

pub returns-in-Ok-false-clause-text : goal.returns-in-Ok-false-clause-text
returns-in-Ok-false-clause-text g c =
    let old = c.args.cursor.now in
    let past : length old.line.items ≤ old.place = omega (arith, c.requires, old.line.ok.0) in
    end_known _ _ old c.clear.new.self.items c.in-Ok-false.field-0 _ c.in-Ok-false.field-0-test past c.clear.ensures.items c.in-Ok-false.ensures.read

pub returns-in-Ok-true-clause-made : goal.returns-in-Ok-true-clause-made
returns-in-Ok-true-clause-made g c =
    read_one (g.S.System.outside c.args.system.now) _ _ _ _ c.next_line.new.line.items ((g.S.System.outside c.args.system.now).lines c.args.lines.now).ahead c.in-Ok-true.field-0 c.in-Ok-true.ensures.read c.in-Ok-true.ensures.made

pub returns-in-Ok-false-clause-made : goal.returns-in-Ok-false-clause-made
returns-in-Ok-false-clause-made g c =
    read_one (g.S.System.outside c.args.system.now) _ _ _ _ c.next_line.new.line.items ((g.S.System.outside c.args.system.now).lines c.args.lines.now).ahead c.in-Ok-false.field-0 c.in-Ok-false.ensures.read c.in-Ok-false.ensures.made

pub returns-in-Err-clause-made : goal.returns-in-Err-clause-made
returns-in-Err-clause-made g c = read_fails (g.S.System.outside c.args.system.now) _ _ _ c.in-Err.fault (has_line_feed ((g.S.System.outside c.args.system.now).lines c.args.lines.now).ahead) c.in-Err.ensures.made
