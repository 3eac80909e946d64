use Rattle.std.proofs.Common.{sym, subst}
use Rattle.move_msg.specs.Messages.{SpellsMessage}
use Rattle.move_msg.proofs.MessageLaws.{move_spelled, ack_spelled, verdict_spelled, fetch_spelled}
use Rattle.move_msg.proofs.message.Message.encode.Goals as goal

pub returns-in-Move : goal.returns-in-Move
returns-in-Move c =
    subst (SpellsMessage c.frame.result) (sym c.in-Move.is)
    (move_spelled _ c.in-Move.stamp c.in-Move.sender c.kind_by.result _ c.in-Move.number _ c.in-Move.m c.frame.ensures.fits c.kind_by.ensures.version c.kind_by.ensures.kind c.number.ensures c.word.ensures.spells c.frame.ensures.text)

pub returns-in-Ack : goal.returns-in-Ack
returns-in-Ack c =
    subst (SpellsMessage c.frame-in-Ack.result) (sym c.in-Ack.is)
    (ack_spelled _ c.in-Ack.stamp c.in-Ack.who _ c.in-Ack.count _ c.frame-in-Ack.ensures.fits.0 c.number-in-Ack.ensures c.number-in-Ack-2.ensures.value c.number-in-Ack-2.ensures.in_range c.frame-in-Ack.ensures.text)

pub returns-in-Verdict : goal.returns-in-Verdict
returns-in-Verdict c =
    subst (SpellsMessage c.frame-in-Verdict.result) (sym c.in-Verdict.is)
    (verdict_spelled _ c.in-Verdict.stamp c.in-Verdict.who c.in-Verdict.verdict _ c.in-Verdict.ply _ _ c.frame-in-Verdict.ensures.fits.0 c.number-in-Verdict.ensures c.number-in-Verdict-2.ensures.value c.number-in-Verdict-2.ensures.in_range c.code.ensures c.frame-in-Verdict.ensures.text)

pub returns-in-Fetch : goal.returns-in-Fetch
returns-in-Fetch c =
    subst (SpellsMessage c.frame-in-Fetch.result) (sym c.in-Fetch.is)
    (fetch_spelled _ c.in-Fetch.stamp c.in-Fetch.who _ c.in-Fetch.number _ c.in-Fetch.wanted _ c.frame-in-Fetch.ensures.fits.0 c.number-in-Fetch.ensures c.number-in-Fetch-2.ensures.value c.number-in-Fetch-2.ensures.in_range c.number-in-Fetch-3.ensures.value c.number-in-Fetch-3.ensures.some c.number-in-Fetch-3.ensures.few c.frame-in-Fetch.ensures.text)
