-- Acts of a game at one datagram, each over the games as the one before it left them.
use Rattle.std.proofs.Common.{◌≡◌, ◌∙◌, ℕ, false, List, [], ◌∷◌, ◌++◌, None, sym, ap, subst, append_assoc}
use Rattle.std.specs.Prelude.{Result, Ok, Err}
use Rattle.arbiter_core.specs.Delivers.{Moment}
use Rattle.arbiter_server.specs.Acts.{Action, Opening, Unread, Strange, Refuses, Opens, Answers, Closes}
use Rattle.arbiter_server.specs.Games.{Fresh, Open, Shut}
use Rattle.arbiter_server.specs.declared.fault.OpenGameError.{OpenGameError}
use Rattle.arbiter_server.specs.declared.games.GameConfig.{GameConfig}
use Rattle.timeline.specs.Events.{Event}
use Rattle.game_folder.specs.Holdings.{GamesFacts}
use Rattle.served_games.specs.PlaceKeepers.{PlaceKeeper}
use Rattle.served_games.specs.ServedGames.{ClosesMake, PutsBy, life_by, life_through}
use Rattle.served_games.proofs.Going.{Acts, Life}

module _ {G : Type 0} (facts : GamesFacts G) (place : facts.Place) (stamp : List ℕ) where
  -- nothing is taken of the game
  pub data LooksIn (games : G) (events : List Event) (now : G) : Type 0 where
    NoLook : events ≡ [] → now ≡ games → LooksIn games events now
    Look : (result : Result GameConfig OpenGameError) → facts.finds place stamp result events → now ≡ games → LooksIn games events now
    NoTake : (game : GameConfig) (looked taken : List Event) (why : OpenGameError) → facts.finds place stamp (Ok game) looked → facts.takes games stamp (Err why) taken now → events ≡ looked ++ taken → LooksIn games events now

  -- it is taken and opened
  pub record OpensIn (games : G) (o : Opening PlaceKeeper) (events : List Event) (now : G) : Type 0 where
    pub game : GameConfig
    pub looked : List Event
    pub finds : facts.finds place stamp (Ok game) looked
    pub taken : List Event
    pub mid : G
    pub takes : facts.takes games stamp (Ok o.before.kept) taken mid
    pub put : List Event
    pub puts : PutsBy facts place stamp mid o.before o.now put now
    pub are : events ≡ looked ++ (taken ++ put)

  abbrev pub AnswersIn : G → Life → Moment PlaceKeeper → List Event → G → Type 0
  AnswersIn games Fresh after events now = ⊥
  AnswersIn games (Shut left) after events now = ⊥
  AnswersIn games (Open at) after events now = PutsBy facts place stamp games at.keeper after.keeper events now × (after.arbiter.is_down ≡ false → after.keeper.unkept ≡ None)

  abbrev pub MakesIn : G → Life → Action PlaceKeeper → List Event → G → Type 0
  MakesIn games old (Unread datagram fault) events now = ⊥
  MakesIn games old (Strange of datagram tried why) events now = LooksIn games events now
  MakesIn games old (Refuses of datagram o fault) events now = OpensIn games o events now
  MakesIn games old (Opens of o arbiter) events now = OpensIn games o events now × (o.now.unkept ≡ None)
  MakesIn games old (Answers of e) events now = AnswersIn games old e.after events now
  MakesIn games old (Closes of left) events now = ClosesMake facts place stamp old left events × (now ≡ games)

  abbrev pub MakesInTurn : G → Life → Acts → List Event → G → Type 0
  MakesInTurn games old [] events now = (events ≡ []) × (now ≡ games)
  MakesInTurn games old (act ∷ acts) events now = (first rest : List Event) × (mid : G) × (events ≡ first ++ rest) × MakesIn games old act first mid × MakesInTurn mid (life_by old act) acts rest now

  pub turn_join : (games mid now : G) (a : Life) (xs ys : Acts) (e f : List Event) → MakesInTurn games a xs e mid → MakesInTurn mid (life_through a xs) ys f now → MakesInTurn games a (xs ++ ys) (e ++ f) now
  turn_join games mid now a [] ys e f p q = subst (λ (l : List Event). MakesInTurn games a ys (l ++ f) now) (sym p.0) (subst (λ (x : G). MakesInTurn x a ys f now) p.1 q)
  turn_join games mid now a (x ∷ xs) ys e f p q =
      (p.0, p.1 ++ f, p.2, ap (λ (l : List Event). l ++ f) p.3 ∙ append_assoc p.0 p.1 f, p.4, turn_join p.2 mid now (life_by a x) xs ys p.1 f p.5 q)
