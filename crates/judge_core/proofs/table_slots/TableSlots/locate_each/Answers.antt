use Rattle.std.proofs.Common.{◌++◌, ◌∷◌, [], List, sym, subst, ◌∙◌, ap, map, take}
use Rattle.std.specs.Prelude.{All}
use Rattle.std.proofs.lemmas.List.{map-append, take_more}
use Rattle.std.proofs.lemmas.List.Elements.{All-push}
use Rattle.board_core.specs.declared.parts.Parts.{Parts}
use Rattle.judge_core.specs.declared.many.Located.{Located}
use Rattle.judge_core.specs.Inside.Placing.{IsOwnPlace}
use Rattle.judge_core.proofs.table_slots.TableSlots.locate_each.Goals as goal

pub loop-probe-preserved : goal.loop-probe-preserved
loop-probe-preserved c = (
  ap (map (λ (it : Located). it.probe.now)) c.in_ok-push.ensures.items
      ∙ map-append (λ (it : Located). it.probe.now) c.loop-probe.located.items _
      ∙ ap (λ (ps : List Parts). ps ++ c.probe-item.result ∷ []) c.loop-probe.invariant.0
      ∙ sym (take_more c.args.probes.now c.loop-probe.probe-index c.probe-item.result c.loop-probe-test.true ∙ ap (λ (p : Parts). take c.loop-probe.probe-index c.args.probes.now ++ p ∷ []) (sym c.probe-item.is)),
  subst (All (λ (it : Located). IsOwnPlace c.args.self.now.tables it.probe.now it.own)) (sym c.in_ok-push.ensures.items)
      (All-push (λ (it : Located). IsOwnPlace c.args.self.now.tables it.probe.now it.own) c.loop-probe.located.items _ c.loop-probe.invariant.1 c.own_place-own.ensures),
)
