use Rattle.std.proofs.Common.{subst, inl, inr}
use Rattle.source_core.specs.Reports.{StandsSo}
use Rattle.source_core.proofs.SendingLaws.{belied_at, open_acked, open_yet, ruled_at, started_at}
use Rattle.source_core.proofs.sending.end_at.Goals as goal

pub returns-in-Some : goal.returns-in-Some
returns-in-Some c = started_at c.args.origin c.args.number c.args.position.now c.args.known.now _ c.in-Some.ensures.some.0 c.in-Some.ensures.some.1

pub returns-in-Some-belied_in : goal.returns-in-Some-belied_in
returns-in-Some-belied_in c = belied_at c.args.origin c.args.number c.args.position.now c.args.known.now _ c.in_default.ensures.none c.in-Some-belied_in.ensures.some.0 c.in-Some-belied_in.ensures.some.1

pub returns-in-Ruled : goal.returns-in-Ruled
returns-in-Ruled c = ruled_at c.args.origin c.args.number c.args.position.now c.args.known.now _ c.in_default.ensures.none c.in_default-belied_in.ensures.none c.in-Ruled.ensures

pub returns-in-Acked : goal.returns-in-Acked
returns-in-Acked c = elim c.in-Acked.is [
  | inl acked ↦ open_acked c.args.origin c.args.number c.args.position.now c.args.known.now c.in_default.ensures.none (subst (StandsSo c.args.known.now c.args.number) acked c.standing.ensures)
  | inr other ↦ open_yet c.args.origin c.args.number c.args.position.now c.args.known.now c.in_default.ensures.none (subst (StandsSo c.args.known.now c.args.number) other c.standing.ensures)
]
