use Rattle.std.proofs.Common.{◌≡◌}
use Rattle.http_answer.specs.Queries.{first_fen}
use Rattle.form_urlencoded.specs.Form.{raw_pairs}
use Rattle.form_urlencoded.specs.Parse.{raw_pairs_left}
use Rattle.http_answer.proofs.query.asked_text.Given as goal

abbrev pub invariant-loop-name : goal.invariant-loop-name
invariant-loop-name l =
    (goal.iterator-loop-name).can_next l.name-iterator ×
    (goal.iterator-loop-name).is_finite l.name-iterator ×
    (first_fen (raw_pairs_left l.name-iterator) ≡ first_fen (raw_pairs l.fn.query))
