-- Acts of a game behind others.
use Rattle.std.proofs.Common.{◌≡◌, ◌∙◌, ℕ, Bool, true, cond, List, [], ◌∷◌, ◌++◌, Option, Some, refl, sym, ap, subst, append_assoc}
use Rattle.std.specs.List.{AllByRecursion, flat_map}
use Rattle.std.specs.Str.{bytes_eq}
use Rattle.std.specs.Cmp.Lexicographic.{nat_list_eq_equiv}
use Rattle.std.proofs.lemmas.List.Concat.{flat_map-append}
use Rattle.arbiter_core.specs.Delivers.{Moment}
use Rattle.arbiter_server.specs.Acts.{Action, DatagramReply, acts_of, all_replies, game_of, is_stamp, replies_of}
use Rattle.arbiter_server.specs.Folders.{Keepers}
use Rattle.arbiter_server.specs.Games.{CommonView, Fresh, GameStatus, Goes}
use Rattle.timeline.specs.Events.{Event}
use Rattle.game_folder.specs.Drafts.{DraftView}
use Rattle.game_folder.specs.Holdings.{GamesFacts}
use Rattle.game_server.specs.Rounds.{Heard}
use Rattle.served_games.specs.PlaceKeepers.{PlaceKeeper, place_keepers}
use Rattle.served_games.specs.ServedGames.{ArePlayed, AreOverLeft, GoesOn, MakesAll, OpenedGame, PlaysAll, acts_in, all_acts, life_by, life_through, made_for, reply_for}

abbrev pub Acts : Type 0
Acts = List (Action PlaceKeeper)

abbrev pub Life : Type 0
Life = GameStatus PlaceKeeper

pub goes_join : (s : Keepers PlaceKeeper) (t : CommonView) (stamp : List ℕ) (a b c : Life) (xs ys : Acts) → Goes s t stamp a xs b → Goes s t stamp b ys c → Goes s t stamp a (xs ++ ys) c
goes_join s t stamp a b c [] ys p q = subst (λ (l : Life). Goes s t stamp l ys c) p q
goes_join s t stamp a b c (x ∷ xs) ys p q = (p.0, p.1, goes_join s t stamp p.0 b c xs ys p.2 q)

pub left_first : (a : Life) (xs ys : Acts) → AreOverLeft a (xs ++ ys) → AreOverLeft a xs
left_first a [] ys h = tt
left_first a (x ∷ xs) ys h = (h.0, left_first (life_by a x) xs ys h.1)

pub left_rest : (a : Life) (xs ys : Acts) → AreOverLeft a (xs ++ ys) → AreOverLeft (life_through a xs) ys
left_rest a [] ys h = h
left_rest a (x ∷ xs) ys h = left_rest (life_by a x) xs ys h.1

pub leads_join : (a : Life) (xs ys : Acts) → life_through a (xs ++ ys) ≡ life_through (life_through a xs) ys
leads_join a [] ys = refl
leads_join a (x ∷ xs) ys = leads_join (life_by a x) xs ys

pub own_join : (stamp : List ℕ) (xs ys : Acts) → AllByRecursion (λ act. game_of act ≡ Some stamp) xs → AllByRecursion (λ act. game_of act ≡ Some stamp) ys → AllByRecursion (λ act. game_of act ≡ Some stamp) (xs ++ ys)
own_join stamp [] ys p q = q
own_join stamp (x ∷ xs) ys p q = (p.0, own_join stamp xs ys p.1 q)

module _ {G : Type 0} (facts : GamesFacts G) (place : facts.Place) (stamp : List ℕ) where
  makes_join : (a : Life) (xs ys : Acts) (e f : List Event) → MakesAll facts place stamp a xs e → MakesAll facts place stamp (life_through a xs) ys f → MakesAll facts place stamp a (xs ++ ys) (e ++ f)
  makes_join a [] ys e f p q = subst (λ (l : List Event). MakesAll facts place stamp a ys (l ++ f)) (sym p) q
  makes_join a (x ∷ xs) ys e f p q = (p.0, p.1 ++ f, ap (λ (l : List Event). l ++ f) p.2 ∙ append_assoc p.0 p.1 f, p.3, makes_join (life_by a x) xs ys p.1 f p.4 q)

module _ {G : Type 0} (facts : GamesFacts G) (place : facts.Place) (t : CommonView) (stamp : List ℕ) where
  pub on_nothing : (a : Life) → GoesOn facts place t stamp a [] [] [] a
  on_nothing a = record { goes = λ _. refl; leads = refl; own = tt; replies_are = refl; makes = refl }

  pub on_join : (a b c : Life) (xs ys : Acts) (r s : List DatagramReply) (e f : List Event) → GoesOn facts place t stamp a xs r e b → GoesOn facts place t stamp b ys s f c → GoesOn facts place t stamp a (xs ++ ys) (r ++ s) (e ++ f) c
  on_join a b c xs ys r s e f p q = record {
    goes = λ left. goes_join (place_keepers facts place) t stamp a b c xs ys (p.goes (left_first a xs ys left)) (q.goes (subst (λ (l : Life). AreOverLeft l ys) p.leads (left_rest a xs ys left)));
    leads = leads_join a xs ys ∙ ap (λ (l : Life). life_through l ys) p.leads ∙ q.leads;
    own = own_join stamp xs ys p.own q.own;
    replies_are = flat_map-append replies_of xs ys ∙ ap (λ (l : List DatagramReply). l ++ all_replies ys) p.replies_are ∙ ap (λ (l : List DatagramReply). r ++ l) q.replies_are;
    makes = makes_join facts place stamp a xs ys e f p.makes (subst (λ (l : Life). MakesAll facts place stamp l ys f) (sym p.leads) q.makes);
  }

  own_stamp : bytes_eq stamp stamp ≡ true
  own_stamp = nat_list_eq_equiv.refl stamp

  pub alone : (acts : Acts) → AllByRecursion (λ act. game_of act ≡ Some stamp) acts → acts_of stamp acts ≡ acts
  alone [] h = refl
  alone (act ∷ acts) h =
      let is : is_stamp stamp (game_of act) ≡ true = ap (is_stamp stamp) h.0 ∙ own_stamp in
      ap (λ (b : Bool). cond b (act ∷ acts_of stamp acts) (acts_of stamp acts)) is ∙ ap (λ (l : Acts). act ∷ l) (alone acts h.1)

  plays_on : (old new : Life) (heard : List Heard) (each : List Acts) → PlaysAll facts place t stamp old heard each new → GoesOn facts place t stamp old (all_acts each) (flat_map (reply_for stamp) heard) (flat_map (made_for stamp) heard) new
  unfolding PlaysAll
  plays_on old new [] [] p = subst (GoesOn facts place t stamp old [] [] []) (sym p) (on_nothing old)
  plays_on old new [] (acts ∷ more) p = absurd p
  plays_on old new (h ∷ hs) [] p = absurd p
  plays_on old new (h ∷ hs) (acts ∷ more) p = on_join old p.0 new acts (all_acts more) (reply_for stamp h) (flat_map (reply_for stamp) hs) (made_for stamp h) (flat_map (made_for stamp) hs) p.1 (plays_on p.0 new hs more p.2)

  pub played_are_hosted : (old new : Life) (heard : List Heard) (each : List Acts) → PlaysAll facts place t stamp old heard each new → ArePlayed facts place t stamp old heard (all_acts each) new
  played_are_hosted old new heard each p = let on = plays_on old new heard each p in record { on = on; alone = alone (all_acts each) on.own }

  -- ---- more datagrams

  pub plays_join : (a b c : Life) (hs gs : List Heard) (xs ys : List Acts) → PlaysAll facts place t stamp a hs xs b → PlaysAll facts place t stamp b gs ys c → PlaysAll facts place t stamp a (hs ++ gs) (xs ++ ys) c
  unfolding PlaysAll
  plays_join a b c [] gs [] ys p q = subst (λ (l : Life). PlaysAll facts place t stamp l gs ys c) p q
  plays_join a b c [] gs (x ∷ xs) ys p q = absurd p
  plays_join a b c (h ∷ hs) gs [] ys p q = absurd p
  plays_join a b c (h ∷ hs) gs (x ∷ xs) ys p q = (p.0, p.1, plays_join p.0 b c hs gs xs ys p.2 q)

  -- ---- what was opened unasked first

  module _ (unasked : List Heard) (begun : Option (Moment DraftView)) (heard : List Heard) (p : OpenedGame facts place t stamp unasked begun heard) where
    pub opening_on : ArePlayed facts place t stamp Fresh unasked (all_acts p.first) p.mid
    opening_on = played_are_hosted Fresh p.mid unasked p.first p.opens

    pub playing_on : ArePlayed facts place t stamp p.mid heard (all_acts p.each) p.life
    playing_on = played_are_hosted p.mid p.life heard p.each p.plays

    pub over_first : AreOverLeft Fresh (acts_in p) → AreOverLeft Fresh (all_acts p.first)
    over_first over = left_first Fresh (all_acts p.first) (all_acts p.each) over

    pub over_rest : AreOverLeft Fresh (acts_in p) → AreOverLeft p.mid (all_acts p.each)
    over_rest over = subst (λ (l : Life). AreOverLeft l (all_acts p.each)) opening_on.on.leads (left_rest Fresh (all_acts p.first) (all_acts p.each) over)

    pub opened_goes : AreOverLeft Fresh (acts_in p) → Goes (place_keepers facts place) t stamp Fresh (acts_in p) p.life
    opened_goes over = goes_join (place_keepers facts place) t stamp Fresh p.mid p.life (all_acts p.first) (all_acts p.each) (opening_on.on.goes (over_first over)) (playing_on.on.goes (over_rest over))
