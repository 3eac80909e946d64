-- The record of one game through its acts.
use Rattle.std.proofs.Common.{◌≡◌, ℕ, Bool, true, false, cond, List, [], ◌∷◌, length, take, Option, Some, None, inl, inr, refl, sym, subst, arith}
use Rattle.std.specs.Prelude.{Ok, Err}
use Rattle.std.proofs.lemmas.List.{take_all}
use Rattle.board_core.specs.declared.moves.Move.{Move as Moves}
use Rattle.judge_core.specs.Games.{Rules}
use Rattle.move_msg.specs.declared.message.Message.{Message}
use Rattle.arbiter_core.specs.declared.keeper.Keep.{Keep}
use Rattle.arbiter_core.specs.declared.keeper.Keep.TheVariants.{Good, FailsOld, FailsNew}
use Rattle.arbiter_core.specs.declared.fault.OpenFault.{OpenFault}
use Rattle.arbiter_core.specs.declared.fault.OpenFault.TheVariants.{BadSetup, KeeperFailed, OutOfMemory}
use Rattle.arbiter_core.specs.Answering.{Answer, Identity, Puts, Refuses, Sends}
use Rattle.arbiter_core.specs.Delivers.{Delivers, Exchange, Lands, Moment, PutsIfAny, RefusesOrSends, Told, answer_at, downed, heard, with_record, with_window}
use Rattle.arbiter_core.specs.Keeping.{KeeperFacts}
use Rattle.arbiter_core.specs.Laws.{Grows, IsOwn}
use Rattle.arbiter_core.specs.Opens.{FirstLands, IsOpening, IsWhole, Opens, OpensOver, first_record, running}
use Rattle.arbiter_core.specs.Opens as opening
use Rattle.arbiter_core.specs.Recording.{Recorded, ReorderBuffer, reaches}
use Rattle.arbiter_core.specs.Setups.{SetupView, rules_at}
use Rattle.arbiter_core.specs.Views.{View}
use Rattle.arbiter_core.proofs.Growing.{puts_grow}
use Rattle.arbiter_server.specs.Lives.{GoesOn}
use Rattle.arbiter_server.proofs.OpenedLaws.{good_unless}
use Rattle.arbiter_server.proofs.Telling.{IsHonest, answer_honest, still_on}
use Rattle.arbiter_server.specs.Folders.{Keepers}
use Rattle.arbiter_server.specs.Acts.{Action}
use Rattle.arbiter_server.specs.Acts as act
use Rattle.arbiter_server.specs.Games.{CommonView, Fresh, Goes, GameStatus, Open, Shut}
use Rattle.arbiter_server.specs.Games as game
use Rattle.arbiter_server.specs.Laws.{RecordsGoOn}

-- ---- a record through deliveries

record After (old new : View) : Type 0 where
  own : IsOwn (rules_at new.setup) new.kept
  goes_on : GoesOn old.kept new.kept

module _ {K : Type 0} (facts : KeeperFacts K) (old new : View) (before now : K) (told : Told) (own : IsOwn (rules_at old.setup) old.kept) where
  like : (v : View) → new ≡ v → After old v → After old new
  like v e a = subst (After old) (sym e) a

  landed : (keep : Keep) (next : Recorded) (outputs : List Message) (window : ReorderBuffer) → Grows (rules_at old.setup) old.kept next → GoesOn old.kept next → Lands keep old next outputs window (facts.kept before) (facts.kept now) new told → After old new
  landed Good next outputs window g on h = like (with_record old next window) h.1 (record { own = g.own; goes_on = on })
  landed FailsOld next outputs window g on h = like (downed old) h.1 (record { own = own; goes_on = still_on old.kept })
  landed FailsNew next outputs window g on h = like (downed old) h.1 (record { own = own; goes_on = still_on old.kept })

  by_answer : (datagram : List ℕ) (a : Answer) → a ≡ answer_at old datagram → IsHonest old.kept a → RefusesOrSends old before now new told a → PutsIfAny facts old before now new told a → After old new
  by_answer datagram (Refuses fault) is honest h p = like old h.arbiter (record { own = own; goes_on = still_on old.kept })
  by_answer datagram (Sends outputs window) is honest (inl h) p = like (with_window old window) h.arbiter (record { own = own; goes_on = still_on old.kept })
  by_answer datagram (Sends outputs window) is honest (inr h) p = let u = h.1 in like old u.arbiter (record { own = own; goes_on = still_on old.kept })
  by_answer datagram (Puts next outputs window) is honest h (inl p) = like old p.arbiter (record { own = own; goes_on = still_on old.kept })
  by_answer datagram (Puts next outputs window) is honest h (inr p) =
      let g = puts_grow old datagram next outputs window own (sym is) in
      let more = g.more in
      landed p.keep next outputs window g (honest.1 (omega arith)) p.lands

delivered : {K : Type 0} (facts : KeeperFacts K) (at : Moment K) (e : Exchange K) → IsOwn (rules_at at.arbiter.setup) at.arbiter.kept → Delivers facts at e → After at.arbiter e.after.arbiter
delivered facts at e own d =
    by_answer facts at.arbiter e.after.arbiter at.keeper e.after.keeper e.told own e.datagram (answer_at at.arbiter e.datagram) refl
    (answer_honest (rules_at at.arbiter.setup) at.arbiter.me at.arbiter.kept at.arbiter.window at.arbiter.is_down (heard at.arbiter.me.stamp e.datagram)) d.answered d.put

-- ---- an opened arbiter

whole_own : (rules : Rules) (kept : Recorded) → IsWhole rules kept → IsOwn rules kept
whole_own rules kept w =
    let all : take (length w.game) w.game ≡ w.game = take_all (length w.game) w.game (omega arith) in
    subst (IsOwn rules) (sym w.is) (record { ruled = refl; reached = subst (λ (ms : List Moves). reaches rules ms (length ms) ≡ true) (sym all) w.reached })

module _ {K : Type 0} (facts : KeeperFacts K) (setup : SetupView) (before now : K) (v : View) where
  not_failed : (fault : OpenFault) → Ok v ≡ Err fault → ⊥
  not_failed fault e = let f : ◌≡◌ {A = opening.OpenResult} (Ok v) (Err fault) = e in cc

  runs_own : (me : Identity) (kept : Recorded) → v ≡ running setup me kept → IsOwn (rules_at setup) kept → IsOwn (rules_at v.setup) v.kept
  runs_own me kept is own = subst (λ (x : View). IsOwn (rules_at x.setup) x.kept) (sym is) own

  first_own : (me : Identity) (keep : Keep) → FirstLands keep setup me (facts.kept before) (facts.kept now) (Ok v) → IsOwn (rules_at v.setup) v.kept
  first_own me Good lands =
      let e : ◌≡◌ {A = opening.OpenResult} (Ok v) (Ok (running setup me (first_record (rules_at setup)))) = lands.0 in
      let is : v ≡ running setup me (first_record (rules_at setup)) = cc in
      runs_own me (first_record (rules_at setup)) is (record { ruled = refl; reached = refl })
  first_own me FailsOld lands = absurd (not_failed KeeperFailed lands.0)
  first_own me FailsNew lands = absurd (not_failed KeeperFailed lands.0)

  over_own : (me : Identity) (was : Option (List ℕ)) → OpensOver facts setup me was before now (Ok v) → IsOwn (rules_at v.setup) v.kept
  over_own me None h = first_own me h.keep h.lands
  over_own me (Some bytes) h = runs_own me v.kept h.1.0 (whole_own (rules_at setup) v.kept h.1.1.1)

  opens_own : (me : Identity) → Opens facts setup me before now (Ok v) → IsOwn (rules_at v.setup) v.kept
  opens_own me (inl h) = absurd (not_failed KeeperFailed h.answer)
  opens_own me (inr (inl h)) = absurd (not_failed OutOfMemory h.answer)
  opens_own me (inr (inr h)) = over_own me (facts.kept before) h

  opened_own : IsOpening facts setup before now (Ok v) → IsOwn (rules_at v.setup) v.kept
  opened_own o =
      let g = o.good (good_unless setup (λ bad. not_failed BadSetup (o.bad bad).0)) in
      opens_own g.0 g.2

-- ---- a record through the acts of its game

abbrev OwnLife : {K : Type 0} → GameStatus K → Type 0
OwnLife Fresh = Unit {0}
OwnLife (Shut left) = Unit {0}
OwnLife (Open at) = IsOwn (rules_at at.arbiter.setup) at.arbiter.kept

own_at : {K : Type 0} (at : Moment K) (b : Bool) → IsOwn (rules_at at.arbiter.setup) at.arbiter.kept → OwnLife (cond b (Shut at.keeper) (Open at))
own_at at true own = tt
own_at at false own = own

module _ {K : Type 0} (s : Keepers K) (t : CommonView) (stamp : List ℕ) where
  answered_own : (old : GameStatus K) (e : Exchange K) (new : GameStatus K) → game.AnswersTo s old e new → OwnLife old → OwnLife new
  answered_own Fresh e new h own = absurd h
  answered_own (Shut left) e new h own = absurd h
  answered_own (Open at) e new h own = subst OwnLife (sym h.1) (own_at e.after e.after.arbiter.is_down (delivered s.facts at e own h.0).own)

  closed_own : (old : GameStatus K) (left : K) (new : GameStatus K) → game.ClosesTo old left new → OwnLife new
  closed_own Fresh left new h = absurd h
  closed_own (Shut before) left new h = absurd h
  closed_own (Open at) left new h = subst OwnLife (sym h.1) tt

  act_own : (old : GameStatus K) (a : Action K) (new : GameStatus K) → game.GoesByAct s t stamp old a new → OwnLife old → OwnLife new
  act_own old (act.Unread datagram fault) new h own = absurd h
  act_own old (act.Strange of datagram tried why) new h own = subst OwnLife (sym h.2) own
  act_own old (act.Refuses of datagram o fault) new h own = subst OwnLife (sym h.new_is) tt
  act_own old (act.Opens of o arbiter) new h own = subst OwnLife (sym h.new_is) (opened_own s.facts o.setup o.before o.now arbiter h.opening)
  act_own old (act.Answers of e) new h own = answered_own old e new h own
  act_own old (act.Closes of left) new h own = closed_own old left new h

  all_own : (old : GameStatus K) (acts : List (Action K)) (new : GameStatus K) → Goes s t stamp old acts new → OwnLife old → OwnLife new
  all_own old [] new h own = subst OwnLife (sym h) own
  all_own old (a ∷ acts) new h own = all_own h.0 acts new h.2 (act_own old a h.0 h.1 own)

pub records_go_on : {K : Type 0} (s : Keepers K) → RecordsGoOn s
records_go_on s t stamp acts at e path d = (delivered s.facts at e (all_own s t stamp Fresh acts (Open at) path tt) d).goes_on
