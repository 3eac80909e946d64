use Rattle.source_core.proofs.BoardLaws.{believed_first, is_belied}
use Rattle.source_core.proofs.OriginLaws.{is_own, is_started}
use Rattle.source_core.proofs.ReportLaws.{is_acked, is_ruled_so, is_unsettled, not_both}
use Rattle.source_core.proofs.turn.turn_of.Goals as goal

pub returns-in-Some : goal.returns-in-Some
returns-in-Some c = (λ e. cc, λ stamp all h. (c.in-Some.ensures.some.0, is_started stamp _ all c.args.known.now _ h c.in-Some.ensures.some.1))

pub returns-in-Some-belied_in : goal.returns-in-Some-belied_in
returns-in-Some-belied_in c = (λ e. cc, λ stamp all h. (is_belied stamp _ _ all c.args.known.now _ h c.in-Some-belied_in.ensures.some.0 c.in-Some-belied_in.ensures.some.1, is_own _ stamp _ all c.args.known.now h c.in_default.ensures.none))

pub returns-in-Acked : goal.returns-in-Acked
returns-in-Acked c = (λ e. cc, λ stamp all h. (is_acked stamp c.args.number all _ h c.in-Acked.ensures, h, is_own _ stamp _ all c.args.known.now h c.in_default.ensures.none))

pub returns-in-Ruled : goal.returns-in-Ruled
returns-in-Ruled c = (λ e. cc, λ stamp all h. ((is_ruled_so stamp c.args.number all _ _ h c.in-Ruled.ensures, believed_first _ _ c.args.known.now _ c.in_default-belied_in.ensures.none c.in-Ruled.ensures.0), is_own _ stamp _ all c.args.known.now h c.in_default.ensures.none))

pub returns-in-Open : goal.returns-in-Open
returns-in-Open c = (not_both _ _ c.in-Open.ensures.1, λ stamp all h. (is_unsettled stamp c.args.number all _ h c.in-Open.ensures, is_own _ stamp _ all c.args.known.now h c.in_default.ensures.none))
