-- What a start may find behind the acts of a game.
use Rattle.std.proofs.Common.{◌≡◌, ◌⊎◌, inl, inr, ◌∙◌, ℕ, Bool, true, false, cond, List, [], ◌∷◌, ◌++◌, Option, Some, None, refl, sym, ap, subst}
use Rattle.std.specs.Prelude.{Ok}
use Rattle.arbiter_core.specs.Delivers.{Moment}
use Rattle.arbiter_server.specs.Acts.{Action, Opening, Unread, Strange, Refuses, Opens, Answers, Closes}
use Rattle.arbiter_server.specs.Games.{Fresh, Open, Shut}
use Rattle.timeline.specs.Events.{Event}
use Rattle.game_folder.specs.Holdings.{GamesFacts}
use Rattle.game_folder.specs.Places.{KeptAt}
use Rattle.served_games.specs.Durable.{IsDurableAfter, IsFoundIn, KeepsAtOnce, MayFind, StaysFound, behind, left_before}
use Rattle.served_games.specs.PlaceKeepers.{AtPlace, BehindTake, Follows, IsThere, PlaceKeeper, found_keeper}
use Rattle.served_games.specs.ServedGames.{AreOverLeft, ClosesMake, IsOverLeft, IsPut, Looked, LooksInVain, Makes, MakesAll, NothingPut, NotLooked, NotTaken, OpensBy, OpensOverLeft, PutFails, PutsBy, life_by, life_through}
use Rattle.served_games.proofs.Going.{Acts, Life}

-- ---- lists of events

pub behind_join : (past xs ys : List Event) → behind past (xs ++ ys) ≡ behind (behind past xs) ys
behind_join past [] ys = refl
behind_join past (x ∷ xs) ys = behind_join (x ∷ past) xs ys

module _ (at : KeptAt) (stamp : List ℕ) where
  pub durable_first : (past xs ys : List Event) → IsDurableAfter at stamp past (xs ++ ys) → IsDurableAfter at stamp past xs
  durable_first past [] ys h = tt
  durable_first past (x ∷ xs) ys h = (h.0, durable_first (x ∷ past) xs ys h.1)

  pub durable_rest : (past xs ys : List Event) → IsDurableAfter at stamp past (xs ++ ys) → IsDurableAfter at stamp (behind past xs) ys
  durable_rest past [] ys h = h
  durable_rest past (x ∷ xs) ys h = durable_rest (x ∷ past) xs ys h.1

  pub stays_none : (past events : List Event) → events ≡ [] → StaysFound at stamp past events
  stays_none past events none found h = subst (λ (l : List Event). MayFind at stamp (behind past l) found) none h

  pub stays_join : (past xs ys : List Event) → StaysFound at stamp past xs → StaysFound at stamp (behind past xs) ys → StaysFound at stamp past (xs ++ ys)
  stays_join past xs ys p q found h = p found (q found (subst (λ (l : List Event). MayFind at stamp l found) (behind_join past xs ys) h))

  pub stays_as : (past xs ys : List Event) → xs ≡ ys → StaysFound at stamp past ys → StaysFound at stamp past xs
  stays_as past xs ys same h = subst (StaysFound at stamp past) (sym same) h

  pub found_stays : (past events : List Event) (before : PlaceKeeper) (life : Life) → StaysFound at stamp past events → IsFoundIn at stamp past before life → IsFoundIn at stamp (behind past events) before life
  found_stays past events before Fresh s h = λ found m. h found (s found m)
  found_stays past events before (Shut left) s h = λ found m. h found (s found m)
  found_stays past events before (Open now) s h = λ found m. h found (s found m)

-- ---- where a game was left

module _ (before : PlaceKeeper) where
  left_at : (at : Moment PlaceKeeper) (b : Bool) → left_before before (cond b (Shut at.keeper) (Open at)) ≡ cond b (Shut at.keeper) (Open at)
  left_at at true = refl
  left_at at false = refl

  pub left_act : (old : Life) (act : Action PlaceKeeper) → life_by (left_before before old) act ≡ left_before before (life_by old act)
  left_act old (Unread datagram fault) = refl
  left_act old (Strange of datagram tried why) = refl
  left_act old (Refuses of datagram o fault) = refl
  left_act old (Opens of o arbiter) = refl
  left_act old (Answers of e) = sym (left_at e.after e.after.arbiter.is_down)
  left_act old (Closes of left) = refl

  pub left_acts : (old : Life) (acts : Acts) → life_through (left_before before old) acts ≡ left_before before (life_through old acts)
  left_acts old [] = refl
  left_acts old (act ∷ acts) = ap (λ (l : Life). life_through l acts) (left_act old act) ∙ left_acts (life_by old act) acts

pub over_join : (a : Life) (xs ys : Acts) → AreOverLeft a xs → AreOverLeft (life_through a xs) ys → AreOverLeft a (xs ++ ys)
over_join a [] ys p q = q
over_join a (x ∷ xs) ys p q = (p.0, over_join (life_by a x) xs ys p.1 q)

-- ---- keepers

pub follows_kept : (k : PlaceKeeper) (found : Option (List ℕ)) → k.unkept ≡ None → Follows k (found_keeper found) → found ≡ k.kept
follows_kept k found none (inl same) = same
follows_kept k found none (inr p) = absurd (let f : ◌≡◌ {A = Option (List ℕ)} None (Some p.0) = sym none ∙ p.1 in cc)

-- ---- acts

module _ {G : Type 0} (facts : GamesFacts G) (at_once : KeepsAtOnce facts) (place : facts.Place) (stamp : List ℕ) (before : PlaceKeeper) where
  abbrev at : KeptAt
  at = facts.places place stamp

  -- behind a put
  puts_found : (past events : List Event) (games after : G) → IsThere facts place games → (k now : PlaceKeeper) → PutsBy facts place stamp games k now events after → ((found : Option (List ℕ)) → MayFind at stamp past found → found ≡ k.kept) → (found : Option (List ℕ)) → MayFind at stamp (behind past events) found → Follows now (found_keeper found)
  puts_found past events games after there k now (NothingPut same none still) h found m = inl (h found (stays_none at stamp past events none found m) ∙ ap (λ (x : PlaceKeeper). x.kept) (sym same))
  puts_found past events games after there k now (IsPut bytes keeps is) h found m = inl (at_once.keeps place games after there stamp bytes events past keeps found m ∙ ap (λ (x : PlaceKeeper). x.kept) (sym is))
  puts_found past events games after there k now (PutFails bytes keeps is) h found m = by (at_once.fails place games after there stamp bytes events past keeps found m)
    where
      by : (found ≡ Some bytes) ⊎ MayFind at stamp past found → Follows now (found_keeper found)
      by (inl new) = inr (bytes, ap (λ (x : PlaceKeeper). x.unkept) is, new)
      by (inr old) = inl (h found old ∙ ap (λ (x : PlaceKeeper). x.kept) (sym is))

  vain_stays : (past events : List Event) → LooksInVain facts place stamp events → StaysFound at stamp past events
  vain_stays past events (NotLooked none) = stays_none at stamp past events none
  vain_stays past events (Looked result finds) = at_once.finds place stamp stamp result events past finds
  vain_stays past events (NotTaken game looked finds games there why taken after takes are) =
      stays_as at stamp past events (looked ++ taken) are
      (stays_join at stamp past looked taken (at_once.finds place stamp stamp (Ok game) looked past finds) (at_once.withholds place games after (AtPlace there) stamp why taken (behind past looked) takes))

  record OpensFound (past events : List Event) (o : Opening PlaceKeeper) : Type 0 where
    over : MayFind at stamp past o.before.kept
    found : (found : Option (List ℕ)) → MayFind at stamp (behind past events) found → Follows o.now (found_keeper found)

  opens_found : (past events : List Event) (o : Opening PlaceKeeper) → OpensBy facts place stamp o events → IsDurableAfter at stamp past events → OpensFound past events o
  opens_found past events o b durable =
      let all : IsDurableAfter at stamp past (b.looked ++ (b.taken ++ b.put)) = subst (IsDurableAfter at stamp past) b.are durable in
      let after : IsDurableAfter at stamp (behind past b.looked) (b.taken ++ b.put) = durable_rest at stamp past b.looked (b.taken ++ b.put) all in
      let taken = at_once.takes place b.games b.after (AtPlace b.there) stamp o.before.kept b.taken (behind past b.looked) b.takes (durable_first at stamp (behind past b.looked) b.taken b.put after) in
      let joined : behind past events ≡ behind (behind (behind past b.looked) b.taken) b.put = ap (behind past) b.are ∙ behind_join past b.looked (b.taken ++ b.put) ∙ behind_join (behind past b.looked) b.taken b.put in
      record {
        over = at_once.finds place stamp stamp (Ok b.game) b.looked past b.finds o.before.kept taken.0;
        found = λ found m. puts_found (behind (behind past b.looked) b.taken) b.put b.after b.last (BehindTake b.games stamp (Ok o.before.kept) b.taken (AtPlace b.there) b.takes) o.before o.now b.puts taken.1 found (subst (λ (l : List Event). MayFind at stamp l found) joined m);
      }

  -- an opening is over what was left, wherever no arbiter is open
  is_over : (past : List Event) (old : Life) (next : PlaceKeeper) → IsFoundIn at stamp past before old → MayFind at stamp past next.kept → IsOverLeft (left_before before old) next
  is_over past Fresh next h m = h next.kept m
  is_over past (Shut left) next h m = h next.kept m
  is_over past (Open now) next h m = tt

  answers_found : (past events : List Event) (games last : G) → IsThere facts place games → (now after : Moment PlaceKeeper) → PutsBy facts place stamp games now.keeper after.keeper events last → (after.arbiter.is_down ≡ false → after.keeper.unkept ≡ None) → IsFoundIn at stamp past before (Open now) → (b : Bool) → after.arbiter.is_down ≡ b → IsFoundIn at stamp (behind past events) before (cond b (Shut after.keeper) (Open after))
  answers_found past events games last there now after puts up h true is = λ found m. puts_found past events games last there now.keeper after.keeper puts h found m
  answers_found past events games last there now after puts up h false is = λ found m. follows_kept after.keeper found (up is) (puts_found past events games last there now.keeper after.keeper puts h found m)

  -- what one act leaves
  record ActFound (past events : List Event) (old : Life) (act : Action PlaceKeeper) : Type 0 where
    over : OpensOverLeft (left_before before old) act
    found : IsFoundIn at stamp (behind past events) before (life_by old act)

  closes_found : (past events : List Event) (old : Life) (left : PlaceKeeper) → ClosesMake facts place stamp old left events → IsFoundIn at stamp past before old → IsFoundIn at stamp (behind past events) before (Shut left)
  closes_found past events Fresh left m h = absurd m
  closes_found past events (Shut was) left m h = absurd m
  closes_found past events (Open now) left m h = λ found may. inl (h found (stays_none at stamp past events m.1 found may) ∙ ap (λ (x : PlaceKeeper). x.kept) (sym m.0))

  act_found : (past events : List Event) (old : Life) (act : Action PlaceKeeper) → Makes facts place stamp old act events → IsDurableAfter at stamp past events → IsFoundIn at stamp past before old → ActFound past events old act
  act_found past events old (Unread datagram fault) m durable h = absurd m
  act_found past events old (Strange of datagram tried why) m durable h = record { over = tt; found = found_stays at stamp past events before old (vain_stays past events m) h }
  act_found past events old (Refuses of datagram o fault) m durable h =
      let x = opens_found past events o m durable in record { over = is_over past old o.before h x.over; found = x.found }
  act_found past events old (Opens of o arbiter) m durable h =
      let x = opens_found past events o m.0 durable in record { over = is_over past old o.before h x.over; found = λ found may. follows_kept o.now found m.1 (x.found found may) }
  act_found past events Fresh (Answers of e) m durable h = absurd m
  act_found past events (Shut left) (Answers of e) m durable h = absurd m
  act_found past events (Open now) (Answers of e) m durable h = record { over = tt; found = answers_found past events m.0 m.1 m.2 now e.after m.3 m.4 h e.after.arbiter.is_down refl }
  act_found past events old (Closes of left) m durable h = record { over = tt; found = closes_found past events old left m h }

  -- what acts leave
  pub record ActsFound (past events : List Event) (old : Life) (acts : Acts) : Type 0 where
    pub over : AreOverLeft (left_before before old) acts
    pub found : IsFoundIn at stamp (behind past events) before (life_through old acts)

  pub acts_found : (past events : List Event) (old : Life) (acts : Acts) → MakesAll facts place stamp old acts events → IsDurableAfter at stamp past events → IsFoundIn at stamp past before old → ActsFound past events old acts
  acts_found past events old [] m durable h = record { over = tt; found = found_stays at stamp past events before old (stays_none at stamp past events m) h }
  acts_found past events old (act ∷ acts) m durable h =
      let both : IsDurableAfter at stamp past (m.0 ++ m.1) = subst (IsDurableAfter at stamp past) m.2 durable in
      let one = act_found past m.0 old act m.3 (durable_first at stamp past m.0 m.1 both) h in
      let rest = acts_found (behind past m.0) m.1 (life_by old act) acts m.4 (durable_rest at stamp past m.0 m.1 both) one.found in
      record {
        over = (one.over, subst (λ (l : Life). AreOverLeft l acts) (sym (left_act before old act)) rest.over);
        found = subst (λ (l : List Event). IsFoundIn at stamp l before (life_through (life_by old act) acts)) (sym (ap (behind past) m.2 ∙ behind_join past m.0 m.1)) rest.found;
      }
