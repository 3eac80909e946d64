use Rattle.std.proofs.Common.{◌∙◌, subst}
use Rattle.arbiter_server.specs.LineLogs.{Remembers, RemembersAll}
use Rattle.arbiter_server.specs.declared.line_log.LineLog.{LineLog}
use Rattle.arbiter_server.specs.Told.{line_words}
use Rattle.arbiter_server.proofs.Remembers.{picks_all, picks_by_change, picks_nothing}
use Rattle.arbiter_server.proofs.line_log.LineLog.pick.Goals as goal

pub returns-in-All : goal.returns-in-All
returns-in-All c = λ before had. picks_all before c.args.self.now (line_words c.args.line) _ c.in-All.is (c.logged.ensures ∙ c.text.ensures)

pub returns-in-Nothing : goal.returns-in-Nothing
returns-in-Nothing c = λ before had. picks_nothing before c.args.self.now (line_words c.args.line) c.in-Nothing.is

pub returns-in-Changes : goal.returns-in-Changes
returns-in-Changes c = λ before had.
    let known : RemembersAll c.in-Changes.lines before = subst (λ (l : LineLog). Remembers l before) c.in-Changes.is had in
    picks_by_change before c.args.self.now c.in-Changes.lines c.pick_change.new.lines (line_words c.args.line) _ c.in-Changes.is (c.pick_change.ensures before known)
