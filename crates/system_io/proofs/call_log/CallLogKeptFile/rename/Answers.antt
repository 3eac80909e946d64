use Rattle.std.proofs.Common.{◌∙◌, refl}
use Rattle.system_io.specs.FileCalls.{Renamed, RenameFailed}
use Rattle.system_io.proofs.CallSteps.{ends_more, ends_so, named, named_says, names_so, wider}
use Rattle.system_io.proofs.call_log.CallLogKeptFile.rename.Goals as goal

pub returns-in_err-note_name-clause-either : goal.returns-in_err-note_name-clause-either
returns-in_err-note_name-clause-either g c = λ old bytes h s.
    named_says g.C.FileCalls.facts c.args.self.now _ _ _ old bytes c.note_name.ensures.known (c.note_name.ensures.either old bytes h.names s.0) refl c.note_name.ensures.calls (wider old bytes _) h

pub returns-in-Ok-clause-renamed : goal.returns-in-Ok-clause-renamed
returns-in-Ok-clause-renamed g c = λ bytes s.
    (c.in_ok-note_name.ensures.named bytes s.0, refl, c.note_name.ensures.known ∙ c.if-not-self.false, ends_more _ _ _ Renamed (ends_so g.C.FileCalls.facts _ _ _ c.note_name.ensures.calls s.2) c.in-Ok.ensures)

pub returns-in-Ok-clause-either : goal.returns-in-Ok-clause-either
returns-in-Ok-clause-either g c = λ old bytes h s.
    named_says g.C.FileCalls.facts c.args.self.now _ _ _ old bytes c.note_name.ensures.known (c.note_name.ensures.either old bytes h.names s.0) c.note_name.ensures.calls refl (named old bytes _ _ Renamed (ends_so g.C.FileCalls.facts _ _ _ c.note_name.ensures.calls s.2) c.in-Ok.ensures) h

pub returns-in-Err-clause-either : goal.returns-in-Err-clause-either
returns-in-Err-clause-either g c = λ old bytes h s.
    named_says g.C.FileCalls.facts c.args.self.now _ _ _ old bytes (c.fail-in-Err.ensures.known ∙ c.note_name.ensures.known) (names_so old _ _ _ _ _ c.fail-in-Err.ensures.stands (λ i. (c.fail-in-Err.ensures.earlier i).items) (c.note_name.ensures.either old bytes h.names s.0)) c.note_name.ensures.calls c.fail-in-Err.ensures.calls (named old bytes _ _ RenameFailed (ends_so g.C.FileCalls.facts _ _ _ c.note_name.ensures.calls s.2) c.in-Err.ensures) h
