use Rattle.std.proofs.Common.{[], refl, ◌∙◌}
use Rattle.arbiter_core.specs.Setups.{rules_at, terms_with}
use Rattle.arbiter_core.specs.Inside.Playing.{played_of}
use Rattle.arbiter_core.proofs.Opened.{first_is}
use Rattle.arbiter_core.proofs.opening.first.Goals as goal

pub returns-clause-ok : goal.returns-clause-ok
returns-clause-ok c =
    let at = c.in_ok-standing.ensures.at (rules_at (terms_with c.args.terms.now c.args.tables.now)) refl refl in
    first_is (terms_with c.args.terms.now c.args.tables.now) c.args.stamp (played_of _ _) refl (c.from_vec.ensures ∙ c.new.ensures.items) at (c.verdict-verdict.ensures (rules_at (terms_with c.args.terms.now c.args.tables.now)) [] refl at) c.plies.ensures.value
