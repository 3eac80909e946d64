-- What a running arbiter has recorded stays what is kept.
use Rattle.std.proofs.Common.{◌≡◌, ◌∙◌, sym, ap, subst, true, false, List, inl, inr}
use Rattle.move_msg.specs.declared.message.Message.{Message}
use Rattle.arbiter_core.specs.Keeping.{KeeperFacts}
use Rattle.arbiter_core.specs.declared.keeper.Keep.{Keep}
use Rattle.arbiter_core.specs.declared.keeper.Keep.TheVariants.{Good, FailsOld, FailsNew}
use Rattle.arbiter_core.specs.Recording.{Recorded, ReorderBuffer}
use Rattle.arbiter_core.specs.Answering.{Answer, Refuses, Sends, Puts}
use Rattle.arbiter_core.specs.Views.{View}
use Rattle.arbiter_core.specs.Delivers.{ReturnsAnswer, IsKept, Told, Lands, RefusesOrSends, PutsIfAny, moment, with_window, with_record, downed}

module _ {K : Type 0} (facts : KeeperFacts K) (old new : View) (before now : K) (told : Told) where
  same_kept : new ≡ old → now ≡ before → IsKept (facts.kept before) old → IsKept (facts.kept now) new
  same_kept e f k = subst (IsKept (facts.kept now)) (sym e) (subst (λ (x : K). IsKept (facts.kept x) old) (sym f) k)

  windowed : (window : ReorderBuffer) → new ≡ with_window old window → now ≡ before → IsKept (facts.kept before) old → IsKept (facts.kept now) new
  windowed window e f k =
      let there : IsKept (facts.kept before) (with_window old window) = k in
      subst (IsKept (facts.kept now)) (sym e) (subst (λ (x : K). IsKept (facts.kept x) (with_window old window)) (sym f) there)

  downed_keeps : new ≡ downed old → IsKept (facts.kept now) new
  downed_keeps e up = absurd (let down : true ≡ false = ap (λ (v : View). v.is_down) (sym e) ∙ up in cc)

  landed : (keep : Keep) (next : Recorded) (outputs : List Message) (window : ReorderBuffer) → Lands keep old next outputs window (facts.kept before) (facts.kept now) new told → IsKept (facts.kept now) new
  landed Good next outputs window h =
      let there : IsKept (facts.kept now) (with_record old next window) = λ up. h.2 in
      subst (IsKept (facts.kept now)) (sym h.1) there
  landed FailsOld next outputs window h = downed_keeps h.1
  landed FailsNew next outputs window h = downed_keeps h.1

  by_answer : (a : Answer) → RefusesOrSends old before now new told a → PutsIfAny facts old before now new told a → IsKept (facts.kept before) old → IsKept (facts.kept now) new
  by_answer (Refuses fault) h p k = same_kept h.arbiter h.keeper k
  by_answer (Sends outputs window) (inl h) p k = windowed window h.arbiter h.keeper k
  by_answer (Sends outputs window) (inr h) p k = let u = h.1 in same_kept u.arbiter u.keeper k
  by_answer (Puts next outputs window) h (inl p) k = same_kept p.arbiter p.keeper k
  by_answer (Puts next outputs window) h (inr p) k = landed p.keep next outputs window p.lands

  landed_setup : (keep : Keep) (next : Recorded) (outputs : List Message) (window : ReorderBuffer) → Lands keep old next outputs window (facts.kept before) (facts.kept now) new told → new.setup ≡ old.setup
  landed_setup Good next outputs window h = ap (λ (v : View). v.setup) h.1
  landed_setup FailsOld next outputs window h = ap (λ (v : View). v.setup) h.1
  landed_setup FailsNew next outputs window h = ap (λ (v : View). v.setup) h.1

  setup_by : (a : Answer) → RefusesOrSends old before now new told a → PutsIfAny facts old before now new told a → new.setup ≡ old.setup
  setup_by (Refuses fault) h p = ap (λ (v : View). v.setup) h.arbiter
  setup_by (Sends outputs window) (inl h) p = ap (λ (v : View). v.setup) h.arbiter
  setup_by (Sends outputs window) (inr h) p = let u = h.1 in ap (λ (v : View). v.setup) u.arbiter
  setup_by (Puts next outputs window) h (inl p) = ap (λ (v : View). v.setup) p.arbiter
  setup_by (Puts next outputs window) h (inr p) = landed_setup p.keep next outputs window p.lands

  -- no answer changes what the arbiter was opened from
  pub same_setup : (a : Answer) → ReturnsAnswer facts (moment old before) a told (moment new now) → new.setup ≡ old.setup
  same_setup a h = setup_by a h.answered h.put

  pub still_kept : (a : Answer) → ReturnsAnswer facts (moment old before) a told (moment new now) → IsKept (facts.kept before) old → IsKept (facts.kept now) new
  still_kept a h k = by_answer a h.answered h.put k
