-- A game is looked for, its record is taken, and it is opened over that.
use Rattle.std.proofs.Common.{◌≡◌, inl, inr, ◌++◌, [], ℕ, true, false, List, refl, sym, ap, subst}
use Rattle.std.specs.Prelude.{Result, Ok, Err}
use Rattle.std.proofs.lemmas.Result.{IfOk-weaker}
use Rattle.arbiter_server.specs.Acts.{opens_game}
use Rattle.arbiter_server.specs.Games.{setup_of}
use Rattle.arbiter_server.specs.declared.fault.OpenGameError.{OpenGameError}
use Rattle.arbiter_server.specs.declared.fault.OpenGameError.TheVariants as unopened
use Rattle.arbiter_server.specs.declared.games.GameConfig.{GameConfig}
use Rattle.move_msg.specs.Messages.{stamp_in}
use Rattle.move_msg.specs.declared.message.Message.{Message}
use Rattle.timeline.specs.Events.{Event}
use Rattle.timeline.specs.Outsides.{AddsSome, Outside}
use Rattle.timeline.proofs.EventLaws.{adds_more, adds_none}
use Rattle.game_folder.specs.Drafts.{DraftView}
use Rattle.game_server.specs.Fates.{IsFound, IsOther, NotFound, OpensNone, OpensSeat, TakesNone, TakesOne}
use Rattle.game_folder.specs.Holdings.{GamesFacts, TakesGame}
use Rattle.game_server.specs.Seats.{common_in}
use Rattle.game_server.specs.Inside.Seating.{IsKnownThen, LooksUp, OpensForMessage, OpensOverKept, OpensTaken, seated_as}
use Rattle.game_folder.specs.declared.games.KeptGame.{KeptGame}
use Rattle.game_server.specs.declared.seat.Seat.{Seat}
use Rattle.game_server.specs.declared.server.Shared.{Shared}
use Rattle.game_server.proofs.Knowing.{known_after, quiet_join}
use Rattle.game_server.proofs.SeatLaws.{clean_draft, noted_then, quiet_nothing, quiet_then}

-- what all share, with games in another state
abbrev pub with_games : {G : Type 0} → Shared G → G → Shared G
with_games shared g = record shared { games = g }

module _ {T P F K S L G : Type 0} (o : Outside T P F K S L) (facts : GamesFacts G) (old new : Shared G) (g : G) (game : GameConfig) (result : Result (Seat F) OpenGameError) where
  -- over a record that was taken
  taken_over : (kept : KeptGame F) (first rest : List Event) → TakesGame facts o old.games g kept.stamp (Ok kept) first → OpensOverKept o facts (with_games old g) new kept game result rest → OpensTaken o facts old new kept.stamp game result (first ++ rest)
  taken_over kept first rest takes over = record {
    same = record { config = over.same.config; tables = over.same.tables };
    still = quiet_then facts old.games g new.games first rest takes.still over.still;
    noted = noted_then facts old.games g new.games takes.noted over.noted;
    opens = TakesOne first rest kept.draft.kept g takes.taken
        (subst (λ (d : DraftView). OpensSeat facts g kept.stamp (setup_of (common_in old) game.name.items game.start game.delay) d rest (seated_as old.tables result) new.games) (clean_draft kept.draft takes.ok.clean) over.opens) refl;
    ok = over.ok;
    knows = IfOk-weaker result _ _ (λ seat knows. knows first takes.ok.known) over.knows;
  }

  pub takes_then : (stamp : List ℕ) (kept : KeptGame F) (a b c : T) → AddsSome o a b (TakesGame facts o old.games g stamp (Ok kept)) → AddsSome o b c (OpensOverKept o facts (with_games old g) new kept game result) → AddsSome o a c (OpensTaken o facts old new stamp game result)
  takes_then stamp kept a b c p q =
      let of : kept.stamp ≡ stamp = p.2.ok.of in
      let takes = subst (λ (s : List ℕ). TakesGame facts o old.games g s (Ok kept) p.0) (sym of) p.2 in (
        p.0 ++ q.0,
        adds_more o a b c p.0 q.0 p.1 q.1,
        subst (λ (s : List ℕ). OpensTaken o facts old new s game result (p.0 ++ q.0)) of (taken_over kept p.0 q.0 takes q.2),
      )

  pub takes_none : (stamp : List ℕ) (why : OpenGameError) (a b : T) → new ≡ with_games old g → result ≡ Err why → AddsSome o a b (TakesGame facts o old.games g stamp (Err why)) → AddsSome o a b (OpensTaken o facts old new stamp game result)
  takes_none stamp why a b same is p =
      subst (λ (r : Result (Seat F) OpenGameError). AddsSome o a b (OpensTaken o facts old new stamp game r)) (sym is)
      (subst (λ (n : Shared G). AddsSome o a b (OpensTaken o facts old n stamp game (Err why))) (sym same) (
        p.0,
        p.1,
        record { same = record { config = refl; tables = refl }; still = p.2.still; noted = p.2.noted; opens = TakesNone why p.2.taken refl; ok = tt; knows = tt },
      ))

module _ {T P F K S L G : Type 0} (o : Outside T P F K S L) (facts : GamesFacts G) (old new : Shared G) (m : Message) (result : Result (Seat F) OpenGameError) where
  pub found_then : (game : GameConfig) (a b c : T) → opens_game m ≡ true → AddsSome o a b (LooksUp facts old.games old.config.manifest.now (stamp_in m) (Ok game)) → AddsSome o b c (OpensTaken o facts old new (stamp_in m) game result) → AddsSome o a c (OpensForMessage o facts old new m result)
  found_then game a b c opens p q = (
    p.0 ++ q.0,
    adds_more o a b c p.0 q.0 p.1 q.1,
    record {
      same = q.2.same;
      still = record { quiet = quiet_join p.0 q.0 p.2.quiet q.2.still.quiet; place = q.2.still.place };
      noted = q.2.noted;
      opens = IsFound game p.0 q.0 opens p.2.is.0 p.2.is.1 q.2.opens refl;
      ok = q.2.ok;
      knows = IfOk-weaker result _ _ (λ seat k. known_behind seat p.0 q.0 k) q.2.knows;
    },
  )
    where
      known_behind : (seat : Seat F) (first rest : List Event) → IsKnownThen facts new.games (stamp_in m) rest seat → IsKnownThen facts new.games (stamp_in m) (first ++ rest) seat
      known_behind seat first rest k = record { bytes = k.bytes; kept = k.kept; is = known_after facts new.games new.games refl (stamp_in m) k.bytes first rest k.is }

  pub found_none : (why : OpenGameError) (a b : T) → new ≡ old → result ≡ Err why → opens_game m ≡ true → AddsSome o a b (LooksUp facts old.games old.config.manifest.now (stamp_in m) (Err why)) → AddsSome o a b (OpensForMessage o facts old new m result)
  found_none why a b same is opens p =
      subst (λ (r : Result (Seat F) OpenGameError). AddsSome o a b (OpensForMessage o facts old new m r)) (sym is)
      (subst (λ (n : Shared G). AddsSome o a b (OpensForMessage o facts old n m (Err why))) (sym same) (
        p.0,
        p.1,
        record {
          same = record { config = refl; tables = refl };
          still = record { quiet = p.2.quiet; place = refl };
          noted = λ stamp bytes n. n;
          opens = elim p.2.is [
            | inl lacks ↦ NotFound why opens lacks refl refl
            | inr other ↦ IsOther other.0 opens other.1 other.2 refl (ap Err other.3)
          ];
          ok = tt;
          knows = tt;
        },
      ))

  pub opens_none : (a : T) → new ≡ old → result ≡ Err unopened.NotOpen → opens_game m ≡ false → AddsSome o a a (OpensForMessage o facts old new m result)
  opens_none a same is none =
      subst (λ (r : Result (Seat F) OpenGameError). AddsSome o a a (OpensForMessage o facts old new m r)) (sym is)
      (subst (λ (n : Shared G). AddsSome o a a (OpensForMessage o facts old n m (Err unopened.NotOpen))) (sym same) (
        [],
        adds_none o a,
        record { same = record { config = refl; tables = refl }; still = quiet_nothing facts old.games; noted = λ stamp bytes n. n; opens = OpensNone none refl refl refl; ok = tt; knows = tt },
      ))
