use Rattle.std.proofs.Common.{◌∙◌, ap, inl, inr, sym}
use Rattle.move_msg.specs.TextLines.{ended}
use Rattle.arbiter_server.specs.declared.line.Line.{Line}
use Rattle.arbiter_server.specs.LineLogs.{line_kind}
use Rattle.arbiter_server.specs.ServedLines.{heard_line}
use Rattle.arbiter_server.specs.Told.{line_words, unopened_words}
use Rattle.arbiter_server.proofs.LogKinds.{heard_none, kind_behind}
use Rattle.arbiter_server.proofs.line.Line.kind.Goals as goal

pub returns-in-Answered-clause-is : goal.returns-in-Answered-clause-is
returns-in-Answered-clause-is c =
    ap (λ (l : Line). line_kind (ended (line_words l))) c.in-Answered.is
    ∙ kind_behind c.in-Answered.stamp (heard_line c.in-Answered._heard) c.open_kind.ensures.long
    ∙ heard_none c.in-Answered._heard
    ∙ sym c.open_kind.ensures.none

pub returns-in-Unopened-clause-is : goal.returns-in-Unopened-clause-is
returns-in-Unopened-clause-is c =
    ap (λ (l : Line). line_kind (ended (line_words l))) c.in-Unopened.is
    ∙ kind_behind c.in-Unopened.stamp (unopened_words c.in-Unopened.why) c.unopened_kind.ensures.long
    ∙ c.unopened_kind.ensures.is

pub returns-in-PortLost-clause-is : goal.returns-in-PortLost-clause-is
unfolding line_kind
returns-in-PortLost-clause-is c = elim c.in-PortLost.is [
  | inl is ↦ ap (λ (l : Line). line_kind (ended (line_words l))) is
  | inr other ↦ elim other [
    | inl is ↦ ap (λ (l : Line). line_kind (ended (line_words l))) is
    | inr is ↦ ap (λ (l : Line). line_kind (ended (line_words l))) is
  ]
]
