use Rattle.std.proofs.Common.{sym, ◌∙◌}
use Rattle.san_text.proofs.MarkLaws.{mark_of_check, mark_of_mate, mark_of_none}
use Rattle.san_text.proofs.writing.mark.Goals as goal

pub returns-then-not-in_check-clause-mark : goal.returns-then-not-in_check-clause-mark
returns-then-not-in_check-clause-mark c = sym (mark_of_none c.args.after.now (sym c.in_check.ensures.computed ∙ c.if-not-in_check.true))

pub returns-then-has_answer-clause-mark : goal.returns-then-has_answer-clause-mark
returns-then-has_answer-clause-mark c =
    let found = c.has_answer.ensures.0 c.if-has_answer.true in
    sym (mark_of_check c.args.after.now found.0 (sym c.in_check.ensures.computed ∙ c.if-not-in_check.false) found.1)

pub returns-else-has_answer-clause-mark : goal.returns-else-has_answer-clause-mark
returns-else-has_answer-clause-mark c =
    sym (mark_of_mate c.args.after.now (c.in_check.ensures.relation.0 c.if-not-in_check.false) (λ m legal. absurd (let found = c.has_answer.ensures.1 (m, legal) in let f = c.if-has_answer.false in cc)))
