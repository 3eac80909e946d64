-- What was told of a game lasts, over all acts and all runs.
use Rattle.std.proofs.Common.{◌≡◌, ◌∙◌, ℕ, Bool, true, false, cond, List, [], ◌∷◌, Option, Some, None, refl, sym, ap, subst}
use Rattle.std.specs.Prelude.{Ok, Err}
use Rattle.std.specs.List.{AllByRecursion}
use Rattle.arbiter_core.specs.Answering.{Identity}
use Rattle.arbiter_core.specs.Delivers.{Exchange, Moment}
use Rattle.arbiter_core.specs.Opens.{IsOpening, IsResumed, OpenResult}
use Rattle.arbiter_core.specs.Recording.{Recorded}
use Rattle.arbiter_core.specs.Setups.{SetupView, rules_at}
use Rattle.arbiter_core.proofs.Growing.{puts_grow}
use Rattle.arbiter_server.proofs.Telling.{AllTell, on_and_on, still_on}
use Rattle.arbiter_server.specs.Acts.{Action, Opening, Unread, Strange, Refuses, Opens, Answers, Closes}
use Rattle.arbiter_server.specs.Games.{AnswersTo, ClosesTo, CommonView, Fresh, Goes, GoesByAct, IsOver, Open, OpensTo, Shut, life_after}
use Rattle.arbiter_server.specs.Lives.{GoesOn}
use Rattle.arbiter_server.specs.Serving.{outputs_of}
use Rattle.move_msg.specs.declared.stamp.Stamp.{Stamp}
use Rattle.game_folder.specs.Holdings.{GamesFacts}
use Rattle.served_games.specs.Lasting.{AtFirst, AtPut, Between, EachLasts, IsOfOne, IsStillKept, IsToldStill, PlaceRun, RanInTurn, RanOver, StopsLeaving, left_by}
use Rattle.served_games.specs.PlaceKeepers.{Follows, PlaceKeeper, has_failed, place_facts, place_keepers}
use Rattle.served_games.specs.ServedGames.{AreOverLeft}
use Rattle.served_games.proofs.Going.{Acts, Life}
use Rattle.served_games.proofs.Telling.{Holds, KeepsAll, Sound, delivered, followed, keeps_at, keeps_from, keeps_now, none_held, opened_sound, put_held, refused, resumed, still_tells}

-- ---- a game at a server

module _ (setup : SetupView) where
  -- while it is open, its record is kept
  abbrev Stands : Life → Type 0
  Stands Fresh = Unit {0}
  Stands (Shut left) = Unit {0}
  Stands (Open at) = Sound setup at

  -- an arbiter that goes on from this record
  record GoesOnAt (stamp : Stamp) (r : Recorded) (at : Moment PlaceKeeper) : Type 0 where
    sound : Sound setup at
    stamp_is : at.arbiter.me.stamp ≡ stamp
    goes_on : GoesOn r at.arbiter.kept

  -- a game of which a record is kept that goes on from this one
  abbrev Has : Stamp → Recorded → Life → Type 0
  Has stamp r Fresh = ⊥
  Has stamp r (Shut left) = KeepsAll setup stamp r left
  Has stamp r (Open at) = GoesOnAt stamp r at

  keeps_so : (stamp : Stamp) (r : Recorded) (at : Moment PlaceKeeper) → GoesOnAt stamp r at → KeepsAll setup stamp r at.keeper
  keeps_so stamp r at g = subst (λ (x : Stamp). KeepsAll setup x r at.keeper) g.stamp_is (keeps_from setup at.arbiter.me.stamp r at.arbiter.kept at.keeper g.goes_on (keeps_now setup at g.sound))

  stands_at : (at : Moment PlaceKeeper) → (at.arbiter.is_down ≡ false → Sound setup at) → (b : Bool) → at.arbiter.is_down ≡ b → Stands (cond b (Shut at.keeper) (Open at))
  stands_at at up true is = tt
  stands_at at up false is = up is

  has_at : (stamp : Stamp) (r : Recorded) (at : Moment PlaceKeeper) → at.arbiter.me.stamp ≡ stamp → GoesOn r at.arbiter.kept → KeepsAll setup at.arbiter.me.stamp at.arbiter.kept at.keeper → (at.arbiter.is_down ≡ false → Sound setup at) → (b : Bool) → at.arbiter.is_down ≡ b → Has stamp r (cond b (Shut at.keeper) (Open at))
  has_at stamp r at same on held up true is =
      subst (λ (x : Stamp). KeepsAll setup x r at.keeper) same (keeps_from setup at.arbiter.me.stamp r at.arbiter.kept at.keeper on held)
  has_at stamp r at same on held up false is = record { sound = up is; stamp_is = same; goes_on = on }

  -- what was told is kept
  record Held (life : Life) (e : Exchange PlaceKeeper) : Type 0 where
    of_setup : e.after.arbiter.setup ≡ setup
    has : Has e.after.arbiter.me.stamp e.after.arbiter.kept life
    tells : AllTell e.after.arbiter.kept (outputs_of e.told)

  IfHeld : Life → Action PlaceKeeper → Type 0
  IfHeld life (Unread datagram fault) = Unit {0}
  IfHeld life (Strange stamp datagram tried why) = Unit {0}
  IfHeld life (Refuses stamp datagram o fault) = Unit {0}
  IfHeld life (Opens stamp o arbiter) = Unit {0}
  IfHeld life (Answers stamp e) = Held life e
  IfHeld life (Closes stamp left) = Unit {0}

-- ---- act by act

module _ {G : Type 0} (facts : GamesFacts G) (place : facts.Place) (t : CommonView) (of : List ℕ) (setup : SetupView) where
  opening_of : (o : SetupView) (before now : PlaceKeeper) (told : OpenResult) → o ≡ setup → IsOpening place_facts o before now told → IsOpening place_facts setup before now told
  opening_of o before now told is h = subst (λ (z : SetupView). IsOpening place_facts z before now told) is h

  -- the keeper of an opening has no put that failed
  clean_over : (old : Life) (k : PlaceKeeper) → IsOver (place_keepers facts place) of old k → k.unkept ≡ None
  clean_over Fresh k h = h
  clean_over (Shut left) k h = h.0
  clean_over (Open at) k h = absurd h

  answered_stands : (old new : Life) (e : Exchange PlaceKeeper) → AnswersTo (place_keepers facts place) old e new → Stands setup old → Stands setup new
  answered_stands Fresh new e h st = absurd h
  answered_stands (Shut left) new e h st = absurd h
  answered_stands (Open at) new e h st =
      let d = delivered setup at st puts_grow e h.0 in
      subst (Stands setup) (sym h.1) (stands_at setup e.after d.up e.after.arbiter.is_down refl)

  closed_stands : (old new : Life) (left : PlaceKeeper) → ClosesTo old left new → Stands setup new
  closed_stands Fresh new left h = absurd h
  closed_stands (Shut before) new left h = absurd h
  closed_stands (Open at) new left h = subst (Stands setup) (sym h.1) tt

  act_stands : (old new : Life) (a : Action PlaceKeeper) → GoesByAct (place_keepers facts place) t of old a new → IsOfOne setup a → Stands setup old → Stands setup new
  act_stands old new (Unread datagram fault) h one st = absurd h
  act_stands old new (Strange stamp datagram tried why) h one st = subst (Stands setup) (sym h.2) st
  act_stands old new (Refuses stamp datagram o fault) h one st = subst (Stands setup) (sym h.new_is) tt
  act_stands old new (Opens stamp o arbiter) h one st = subst (Stands setup) (sym h.new_is) (opened_sound setup o.before o.now (clean_over old o.before h.over) arbiter (opening_of o.setup o.before o.now (Ok arbiter) one h.opening))
  act_stands old new (Answers stamp e) h one st = answered_stands old new e h st
  act_stands old new (Closes stamp left) h one st = closed_stands old new left h

  module _ (stamp : Stamp) (r : Recorded) where
    -- an opening over a keeper that keeps such a record
    opened_has : (before now : PlaceKeeper) (none : before.unkept ≡ None) (told : OpenResult) → Holds setup stamp r before.kept → IsOpening place_facts setup before now told → Has setup stamp r (life_after now told)
    opened_has before now none (Ok arbiter) held o =
        let x = resumed setup before now none stamp r held arbiter o in
        record { sound = opened_sound setup before now none arbiter o; stamp_is = x.stamp_is; goes_on = x.goes_on }
    opened_has before now none (Err fault) held o =
        keeps_at setup stamp r before now (refused setup before now none stamp r held fault o) (record { kept = held; unkept = λ bytes is. absurd (let f : ◌≡◌ {A = Option (List ℕ)} None (Some bytes) = sym none ∙ is in cc) })

    opens_has : (old new : Life) (o : Opening PlaceKeeper) (told : OpenResult) → OpensTo (place_keepers facts place) t of old o told new → o.setup ≡ setup → Has setup stamp r old → Has setup stamp r new
    opens_has Fresh new o told h one has = absurd has
    opens_has (Shut left) new o told h one has =
        subst (Has setup stamp r) (sym h.new_is) (opened_has o.before o.now h.over.0 told (followed setup stamp r left o.before has h.over.1) (opening_of o.setup o.before o.now told one h.opening))
    opens_has (Open at) new o told h one has = absurd h.over

    answered_has : (old new : Life) (e : Exchange PlaceKeeper) → AnswersTo (place_keepers facts place) old e new → Has setup stamp r old → Has setup stamp r new
    answered_has Fresh new e h has = absurd h
    answered_has (Shut left) new e h has = absurd h
    answered_has (Open at) new e h has =
        let d = delivered setup at has.sound puts_grow e h.0 in
        subst (Has setup stamp r) (sym h.1)
        (has_at setup stamp r e.after (ap (λ (i : Identity). i.stamp) d.goes.me ∙ has.stamp_is) (on_and_on r at.arbiter.kept e.after.arbiter.kept has.goes_on d.goes.goes_on) d.held d.up e.after.arbiter.is_down refl)

    closed_has : (old new : Life) (left : PlaceKeeper) → ClosesTo old left new → Has setup stamp r old → Has setup stamp r new
    closed_has Fresh new left h has = absurd h
    closed_has (Shut before) new left h has = absurd h
    closed_has (Open at) new left h has = subst (Has setup stamp r) (sym h.1) (keeps_at setup stamp r at.keeper left h.0 (keeps_so setup stamp r at has))

    act_has : (old new : Life) (a : Action PlaceKeeper) → GoesByAct (place_keepers facts place) t of old a new → IsOfOne setup a → Has setup stamp r old → Has setup stamp r new
    act_has old new (Unread datagram fault) h one has = absurd h
    act_has old new (Strange name datagram tried why) h one has = subst (Has setup stamp r) (sym h.2) has
    act_has old new (Refuses name datagram o fault) h one has = opens_has old new o (Err fault) h one has
    act_has old new (Opens name o arbiter) h one has = opens_has old new o (Ok arbiter) h one has
    act_has old new (Answers name e) h one has = answered_has old new e h has
    act_has old new (Closes name left) h one has = closed_has old new left h has

    goes_has : (old new : Life) (acts : Acts) → Goes (place_keepers facts place) t of old acts new → AllByRecursion (IsOfOne setup) acts → Has setup stamp r old → Has setup stamp r new
    goes_has old new [] h one has = subst (Has setup stamp r) (sym h) has
    goes_has old new (a ∷ acts) h one has = goes_has h.0 new acts h.2 one.1 (act_has old h.0 a h.1 one.0 has)

    -- where a run stops such a record is left
    left_has : (before : PlaceKeeper) (life : Life) → Has setup stamp r life → KeepsAll setup stamp r (left_by before life)
    left_has before Fresh has = absurd has
    left_has before (Shut left) has = has
    left_has before (Open at) has = keeps_so setup stamp r at has

    stopped_has : (before left : PlaceKeeper) (life : Life) → Has setup stamp r life → StopsLeaving before life left → KeepsAll setup stamp r left
    stopped_has before left life has (Between is) = keeps_at setup stamp r (left_by before life) left is (left_has before life has)
    stopped_has before left life has (AtPut at datagram bytes opened put is) =
        let on : GoesOnAt setup stamp r at = subst (Has setup stamp r) opened has in
        let held : Holds setup at.arbiter.me.stamp at.arbiter.kept (Some bytes) = put_held setup at on.sound puts_grow datagram bytes put in
        let now : KeepsAll setup at.arbiter.me.stamp at.arbiter.kept (has_failed at.keeper bytes) = record {
          kept = (keeps_now setup at on.sound).kept;
          unkept = λ b some. subst (λ (x : List ℕ). Holds setup at.arbiter.me.stamp at.arbiter.kept (Some x)) (let f : ◌≡◌ {A = Option (List ℕ)} (Some bytes) (Some b) = some in cc) held;
        } in
        keeps_at setup stamp r (has_failed at.keeper bytes) left is
        (subst (λ (x : Stamp). KeepsAll setup x r (has_failed at.keeper bytes)) on.stamp_is (keeps_from setup at.arbiter.me.stamp r at.arbiter.kept (has_failed at.keeper bytes) on.goes_on now))
    stopped_has before left life has (AtFirst over bytes shut follows none is) = absurd (none_held setup stamp r over.kept none (followed setup stamp r (left_by before life) over (left_has before life has) follows))

  -- ---- what was told

  answer_held : (old new : Life) (e : Exchange PlaceKeeper) → AnswersTo (place_keepers facts place) old e new → Stands setup old → Held setup new e
  answer_held Fresh new e h st = absurd h
  answer_held (Shut left) new e h st = absurd h
  answer_held (Open at) new e h st =
      let d = delivered setup at st puts_grow e h.0 in
      record {
        of_setup = d.goes.setup ∙ st.of_setup;
        has =
            subst (Has setup e.after.arbiter.me.stamp e.after.arbiter.kept) (sym h.1)
            (has_at setup e.after.arbiter.me.stamp e.after.arbiter.kept e.after refl (still_on e.after.arbiter.kept) d.held d.up e.after.arbiter.is_down refl);
        tells = d.tells;
      }

  later_held : (mid new : Life) (acts : Acts) (e : Exchange PlaceKeeper) → Goes (place_keepers facts place) t of mid acts new → AllByRecursion (IsOfOne setup) acts → Held setup mid e → Held setup new e
  later_held mid new acts e h one held = record { of_setup = held.of_setup; has = goes_has e.after.arbiter.me.stamp e.after.arbiter.kept mid new acts h one held.has; tells = held.tells }

  first_held : (old mid new : Life) (a : Action PlaceKeeper) (acts : Acts) → GoesByAct (place_keepers facts place) t of old a mid → Goes (place_keepers facts place) t of mid acts new → AllByRecursion (IsOfOne setup) acts → Stands setup old → IfHeld setup new a
  unfolding IfHeld
  first_held old mid new (Unread datagram fault) acts h g one st = tt
  first_held old mid new (Strange stamp datagram tried why) acts h g one st = tt
  first_held old mid new (Refuses stamp datagram o fault) acts h g one st = tt
  first_held old mid new (Opens stamp o arbiter) acts h g one st = tt
  first_held old mid new (Answers stamp e) acts h g one st = later_held mid new acts e g one (answer_held old mid e h st)
  first_held old mid new (Closes stamp left) acts h g one st = tt

  all_held : (old new : Life) (acts : Acts) → Goes (place_keepers facts place) t of old acts new → AllByRecursion (IsOfOne setup) acts → Stands setup old → AllByRecursion (IfHeld setup new) acts
  all_held old new [] h one st = tt
  all_held old new (a ∷ acts) h one st = (first_held old h.0 new a acts h.1 h.2 one.1 st, all_held h.0 new acts h.2 one.1 (act_stands old h.0 a h.1 one.0 st))

  -- ---- a run goes on from what was left before it

  record GoesFromLeft (before : PlaceKeeper) (life : Life) (acts : Acts) : Type 0 where
    to : Life
    goes : Goes (place_keepers facts place) t of (Shut before) acts to
    stops : (left : PlaceKeeper) → StopsLeaving before life left → StopsLeaving before to left

  over_left : (before : PlaceKeeper) (new : Life) (o : Opening PlaceKeeper) (told : OpenResult) → OpensTo (place_keepers facts place) t of Fresh o told new → Follows before o.before → OpensTo (place_keepers facts place) t of (Shut before) o told new
  over_left before new o told h left = record { over = (h.over, left); tells = h.tells; game = h.game; opening = h.opening; new_is = h.new_is }

  stops_shut : (before left : PlaceKeeper) (life : Life) → life ≡ Fresh → StopsLeaving before life left → StopsLeaving before (Shut before) left
  stops_shut before left life fresh (Between is) = Between (is ∙ ap (left_by before) fresh)
  stops_shut before left life fresh (AtPut at datagram bytes opened put is) = absurd (let f : ◌≡◌ {A = Life} Fresh (Open at) = sym fresh ∙ opened in cc)
  stops_shut before left life fresh (AtFirst over bytes shut follows none is) = AtFirst over bytes tt (subst (λ (l : Life). Follows (left_by before l) over) fresh follows) none is

  from_left : (before : PlaceKeeper) (life : Life) (acts : Acts) → Goes (place_keepers facts place) t of Fresh acts life → AreOverLeft (Shut before) acts → GoesFromLeft before life acts
  from_left before life [] h over = record { to = Shut before; goes = refl; stops = λ left s. stops_shut before left life h s }
  from_left before life (Unread datagram fault ∷ acts) h over = absurd h.1
  from_left before life (Strange name datagram tried why ∷ acts) h over =
      let rest = from_left before life acts (subst (λ (l : Life). Goes (place_keepers facts place) t of l acts life) h.1.2 h.2) over.1 in
      record { to = rest.to; goes = (Shut before, (tt, h.1.1, refl), rest.goes); stops = rest.stops }
  from_left before life (Refuses name datagram o fault ∷ acts) h over = record { to = life; goes = (h.0, over_left before h.0 o (Err fault) h.1 over.0, h.2); stops = λ left s. s }
  from_left before life (Opens name o arbiter ∷ acts) h over = record { to = life; goes = (h.0, over_left before h.0 o (Ok arbiter) h.1 over.0, h.2); stops = λ left s. s }
  from_left before life (Answers name e ∷ acts) h over = absurd h.1
  from_left before life (Closes name left ∷ acts) h over = absurd h.1

-- ---- all runs

module _ {G : Type 0} (facts : GamesFacts G) (place : facts.Place) (of : List ℕ) (setup : SetupView) where
  -- what was told before some runs is kept behind them
  ran_one : (before : PlaceKeeper) (r : PlaceRun) (stamp : Stamp) (told : Recorded) → RanOver facts place of setup before r → KeepsAll setup stamp told before → KeepsAll setup stamp told r.left
  ran_one before r stamp told h k =
      let f = from_left facts place h.common of setup before h.life r.acts h.goes h.over in
      stopped_has facts place h.common of setup stamp told before r.left f.to (goes_has facts place h.common of setup stamp told (Shut before) f.to r.acts f.goes h.one k) (f.stops r.left h.stops)

  ran_all : (first last : PlaceKeeper) (runs : List PlaceRun) (stamp : Stamp) (told : Recorded) → RanInTurn facts place of setup first runs last → KeepsAll setup stamp told first → KeepsAll setup stamp told last
  ran_all first last [] stamp told h k = keeps_at setup stamp told first last h k
  ran_all first last (r ∷ rs) stamp told h k = ran_all r.left last rs stamp told h.1 (ran_one first r stamp told h.0 k)

  module _ (next : PlaceKeeper) where
    -- what was told in a run, behind those after it
    told_in : (before last : PlaceKeeper) (r : PlaceRun) (rs : List PlaceRun) (h : RanOver facts place of setup before r) → RanInTurn facts place of setup r.left rs last → Follows last next → (to : Life) → ((left : PlaceKeeper) → StopsLeaving before h.life left → StopsLeaving before to left) → (acts : Acts) → AllByRecursion (IfHeld setup to) acts → AllByRecursion (IsToldStill next) acts
    unfolding IfHeld
    told_in before last r rs h after follows to stops [] held = tt
    told_in before last r rs h after follows to stops (Unread datagram fault ∷ acts) held = (tt, told_in before last r rs h after follows to stops acts held.1)
    told_in before last r rs h after follows to stops (Strange name datagram tried why ∷ acts) held = (tt, told_in before last r rs h after follows to stops acts held.1)
    told_in before last r rs h after follows to stops (Refuses name datagram o fault ∷ acts) held = (tt, told_in before last r rs h after follows to stops acts held.1)
    told_in before last r rs h after follows to stops (Opens name o arbiter ∷ acts) held = (tt, told_in before last r rs h after follows to stops acts held.1)
    told_in before last r rs h after follows to stops (Closes name left ∷ acts) held = (tt, told_in before last r rs h after follows to stops acts held.1)
    told_in before last r rs h after follows to stops (Answers name e ∷ acts) held = (still, told_in before last r rs h after follows to stops acts held.1)
      where
        kept : Holds setup e.after.arbiter.me.stamp e.after.arbiter.kept next.kept
        kept =
            followed setup e.after.arbiter.me.stamp e.after.arbiter.kept last next
            (ran_all r.left last rs e.after.arbiter.me.stamp e.after.arbiter.kept after (stopped_has facts place h.common of setup e.after.arbiter.me.stamp e.after.arbiter.kept before r.left to held.0.has (stops r.left h.stops))) follows

        still : IsStillKept next e
        still = record {
          bytes = kept.bytes;
          there = kept.there;
          kept = kept.kept;
          is = subst (λ (x : SetupView). IsResumed (rules_at x) e.after.arbiter.me.stamp kept.bytes kept.kept) (sym held.0.of_setup) kept.is;
          goes_on = kept.goes_on;
          holds = still_tells e.after.arbiter.kept kept.kept kept.goes_on (outputs_of e.told) held.0.tells;
        }

    lasts : (first last : PlaceKeeper) (runs : List PlaceRun) → RanInTurn facts place of setup first runs last → Follows last next → AllByRecursion (λ (r : PlaceRun). AllByRecursion (IsToldStill next) r.acts) runs
    lasts first last [] h follows = tt
    lasts first last (r ∷ rs) h follows =
        let f = from_left facts place h.0.common of setup first h.0.life r.acts h.0.goes h.0.over in
        (told_in first last r rs h.0 h.1 follows f.to f.stops r.acts (all_held facts place h.0.common of setup (Shut first) f.to r.acts f.goes h.0.one tt), lasts r.left last rs h.1 follows)

pub each_lasts : {G : Type 0} (facts : GamesFacts G) → EachLasts facts
each_lasts facts place of setup first last next runs h follows = lasts facts place of setup next first last runs h follows
