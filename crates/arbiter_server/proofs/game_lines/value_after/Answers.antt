use Rattle.std.proofs.Common.{◌++◌, ◌∙◌, List, ℕ, ap}
use Rattle.move_msg.specs.TextLines.{ended}
use Rattle.arbiter_server.proofs.CutLines.{cut_text, not_uncut, same_line, same_value}
use Rattle.arbiter_server.proofs.game_lines.value_after.Goals as goal

pub returns-in_default-clause-none : goal.returns-in_default-clause-none
returns-in_default-clause-none c = λ value rest h. not_uncut c.args.word.now c.args.text.now value rest c.requires h c.in_default.ensures.none

pub returns-in_default-after-clause-none : goal.returns-in_default-after-clause-none
returns-in_default-after-clause-none c = λ value rest h.
    c.in_default-after.ensures.none value (same_line c.args.word.now c.args.text.now value rest c.in-Some.line.now c.in-Some.rest.now c.requires h c.in-Some.ensures.some).0

pub returns-clause-some : goal.returns-clause-some
returns-clause-some c =
    cut_text c.args.text.now c.in-Some.line.now c.in-Some.rest.now c.in-Some.ensures.some
    ∙ ap (λ (line : List ℕ). ended line ++ c.in-Some.rest.now) c.in-Some-after.ensures.some

pub returns-clause-only : goal.returns-clause-only
returns-clause-only c = λ value rest h.
    let same = same_line c.args.word.now c.args.text.now value rest c.in-Some.line.now c.in-Some.rest.now c.requires h c.in-Some.ensures.some in
    (same_value c.args.word.now value c.in-Some-after.value.now c.in-Some.line.now same.0 c.in-Some-after.ensures.some, same.1)
