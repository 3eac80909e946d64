use Rattle.std.proofs.Common.{◌∙◌, sym, ap, arith, get_or, None}
use Rattle.judge_core.specs.Tables.{Tables, Holding}
use Rattle.judge_core.proofs.Slots.{shared_more, shared_all, shared_kept, slot_count}
use Rattle.judge_core.proofs.table_slots.TableSlots.share.Goals as goal

pub loop-place-preserved : goal.loop-place-preserved
loop-place-preserved c = (
  shared_more c.args.self.now.tables c.loop-place.tables.items c.loop-place.place c.loop-place.invariant.0 _ _ (omega (arith, slot_count c.self.inside c.args.self.now c.self.invariant c.self.view_is, c.loop-place-test.true)) c.in_ok-push.ensures.items
      (c.in_ok-share_slot.ensures.given ∙ ap (λ (h : Holding). get_or h.tables c.loop-place.place None) c.loop-place.invariant.1),
  c.share_slot.ensures.unchanged ∙ c.loop-place.invariant.1,
)

pub invariant_of-result : goal.invariant_of-result
invariant_of-result c =
    let all = shared_all c.args.self.now.tables c.loop-place.tables.items c.loop-place.place c.loop-place.invariant.0 (omega (arith, slot_count c.self.inside c.args.self.now c.self.invariant c.self.view_is, c.loop-place-test.false)) in
    shared_kept c.self.inside _ c.self.invariant (all ∙ sym (ap (λ (h : Holding). h.tables) c.self.view_is)) c.requires.some c.requires.most

pub returns-clause-shared : goal.returns-clause-shared
returns-clause-shared c =
    ap (λ (tables : Tables). record { tables = tables; cache = c.args.cache })
    (shared_all c.args.self.now.tables c.loop-place.tables.items c.loop-place.place c.loop-place.invariant.0 (omega (arith, slot_count c.self.inside c.args.self.now c.self.invariant c.self.view_is, c.loop-place-test.false)))
