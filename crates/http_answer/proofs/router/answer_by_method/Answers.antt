use Rattle.std.proofs.Common.{◌∙◌, ap, sym}
use Rattle.http_answer.specs.Inside.{action_for}
use Rattle.http_answer.specs.Places.Action.{Reads, ListsMethods, IsRefused, IsUnknown}
use Rattle.http_answer.proofs.ReadLaws.{by_action, nothing_added}
use Rattle.http_answer.proofs.router.answer_by_method.Goals as goal

pub returns-in-Read-clause-made : goal.returns-in-Read-clause-made
returns-in-Read-clause-made g c = by_action g.S.System.outside _ _ _ _ Reads _ (sym (ap action_for c.in-Read.is) ∙ c.verb_at.ensures) c.answer.ensures.made

pub returns-in-ListMethods-clause-made : goal.returns-in-ListMethods-clause-made
returns-in-ListMethods-clause-made g c = by_action g.S.System.outside _ _ _ _ ListsMethods _ (sym (ap action_for c.in-ListMethods.is) ∙ c.verb_at.ensures) (nothing_added g.S.System.outside _ _)

pub returns-in-Refuse-clause-made : goal.returns-in-Refuse-clause-made
returns-in-Refuse-clause-made g c = by_action g.S.System.outside _ _ _ _ IsRefused _ (sym (ap action_for c.in-Refuse.is) ∙ c.verb_at.ensures) (nothing_added g.S.System.outside _ _)

pub returns-in-Unknown-clause-made : goal.returns-in-Unknown-clause-made
returns-in-Unknown-clause-made g c = by_action g.S.System.outside _ _ _ _ IsUnknown _ (sym (ap action_for c.in-Unknown.is) ∙ c.verb_at.ensures) (nothing_added g.S.System.outside _ _)
