use Rattle.move_msg.proofs.ManifestLaws.{line_by, line_there, line_joined}
use Rattle.move_msg.proofs.manifest.first_line.Goals as goal

pub returns-in_default-clause-none : goal.returns-in_default-clause-none
returns-in_default-clause-none c = λ e rest h line. line_there e c.args.bytes.now rest line c.in_default.ensures.none

pub returns-in_default-line_of-clause-none : goal.returns-in_default-line_of-clause-none
returns-in_default-line_of-clause-none c = λ e rest h line.
    let cut = c.in-Some.ensures.some in
    c.in_default-line_of.ensures.none e h (line_by e h c.args.bytes.now _ _ rest cut.0 cut.1 line).0

pub returns-clause-some : goal.returns-clause-some
returns-clause-some c =
    let line = c.in-Some-line_of.ensures.some in
    (line.0, line_joined _ _ _ _ c.in-Some.ensures.some.0 line.1)
