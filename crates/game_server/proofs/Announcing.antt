-- What an answer announces is what is then recorded, and kept by its draft.
use Rattle.std.proofs.Common.{◌≡◌, ◌⊎◌, inl, inr, ℕ, List, Some, sym, ap, subst}
use Rattle.std.specs.Prelude.{Result, Ok, Err}
use Rattle.arbiter_core.specs.Answering.{Answer, Puts, Refuses, Sends}
use Rattle.arbiter_core.specs.Delivers.{Lands, Moment, PutsOnce, ReturnsAnswer, Told, Unchanged, answer_of, with_window}
use Rattle.arbiter_core.specs.Recording.{Recorded, ReorderBuffer}
use Rattle.arbiter_core.specs.Setups.{rules_at}
use Rattle.arbiter_core.specs.Views.{View}
use Rattle.arbiter_core.specs.declared.fault.DeliverFault.{DeliverFault}
use Rattle.arbiter_core.specs.declared.fault.DeliverFault.TheVariants.{OutOfMemory}
use Rattle.arbiter_core.specs.declared.keeper.Keep.{Keep}
use Rattle.arbiter_core.specs.declared.keeper.Keep.TheVariants.{Good}
use Rattle.move_msg.specs.declared.message.Message.{Message}
use Rattle.game_folder.specs.Drafts.{DraftView, draft_facts}
use Rattle.game_server.proofs.Saying.{AllSay, IsHonest, answer_honest}

-- the draft is as it was, or has these bytes to put
abbrev pub IsDrafted : DraftView → DraftView → Type 0
IsDrafted old new = (new ≡ old) ⊎ ((bytes : List ℕ) × (new.kept ≡ Some bytes) × (new.to_put ≡ Some bytes))

pub record Announces (old after : Moment DraftView) (told : Told) : Type 0 where
  pub says : (outputs : List Message) → told ≡ Ok outputs → AllSay old.arbiter.me.stamp after.arbiter.kept outputs
  pub draft : IsDrafted old.keeper after.keeper
  pub refused : (fault : DeliverFault) → told ≡ Err fault → after.keeper ≡ old.keeper
  pub me : after.arbiter.me ≡ old.arbiter.me
  pub runs : after.arbiter.is_down ≡ old.arbiter.is_down

module _ (old after : Moment DraftView) (told : Told) where
  refuses : (fault : DeliverFault) → Unchanged old.arbiter old.keeper after.keeper after.arbiter told (Err fault) → Announces old after told
  refuses fault u = record {
    says = λ outputs is. let no = u.answer in absurd cc;
    draft = inl u.keeper;
    refused = λ other is. u.keeper;
    me = ap (λ (v : View). v.me) u.arbiter;
    runs = ap (λ (v : View). v.is_down) u.arbiter;
  }

  sends : (outputs : List Message) (window : ReorderBuffer) → AllSay old.arbiter.me.stamp old.arbiter.kept outputs → Unchanged (with_window old.arbiter window) old.keeper after.keeper after.arbiter told (Ok outputs) → Announces old after told
  sends outputs window honest u = record {
    says = λ others is. let same : outputs ≡ others = let a = u.answer in cc in
        subst (λ (v : View). AllSay old.arbiter.me.stamp v.kept others) (sym u.arbiter) (subst (AllSay old.arbiter.me.stamp old.arbiter.kept) same honest);
    draft = inl u.keeper;
    refused = λ other is. u.keeper;
    me = ap (λ (v : View). v.me) u.arbiter;
    runs = ap (λ (v : View). v.is_down) u.arbiter;
  }

  puts_once : (next : Recorded) (outputs : List Message) (window : ReorderBuffer) → AllSay old.arbiter.me.stamp next outputs → PutsOnce draft_facts old.arbiter next outputs window old.keeper after.keeper after.arbiter told → Announces old after told
  puts_once next outputs window honest put =
      let good : Lands Good old.arbiter next outputs window old.keeper.kept after.keeper.kept after.arbiter told = subst (λ (keep : Keep). Lands keep old.arbiter next outputs window old.keeper.kept after.keeper.kept after.arbiter told) put.stated put.lands in
      record {
        says = λ others is. let same : outputs ≡ others = let a = good.0 in cc in
            subst (λ (v : View). AllSay old.arbiter.me.stamp v.kept others) (sym good.1) (subst (AllSay old.arbiter.me.stamp next) same honest);
        draft = inr (put.sent, put.once.0, put.once.1);
        refused = λ other is. let a = good.0 in absurd cc;
        me = ap (λ (v : View). v.me) good.1;
        runs = ap (λ (v : View). v.is_down) good.1;
      }

  by_answer : (a : Answer) → IsHonest old.arbiter.me.stamp old.arbiter.kept a → ReturnsAnswer draft_facts old a told after → Announces old after told
  by_answer (Refuses fault) honest r = refuses fault r.answered
  by_answer (Sends outputs window) honest r = elim r.answered [
    | inl u ↦ sends outputs window honest u
    | inr u ↦ refuses OutOfMemory u.1
  ]
  by_answer (Puts next outputs window) honest r = elim r.put [
    | inl u ↦ refuses OutOfMemory u
    | inr p ↦ puts_once next outputs window honest p
  ]

  pub announces : (heard : Result Message DeliverFault) → ReturnsAnswer draft_facts old (answer_of old.arbiter heard) told after → Announces old after told
  announces heard r = by_answer (answer_of old.arbiter heard) (answer_honest (rules_at old.arbiter.setup) old.arbiter.me old.arbiter.kept old.arbiter.window old.arbiter.is_down heard) r
