-- What is told of a run.
use Rattle.std.proofs.Common.{◌≡◌, ℕ, List, length, Option, Some, None, Ok, sym, ◌∙◌, subst}
use Rattle.std.specs.Prelude.{slice_get, option_map}
use Rattle.move_msg.specs.declared.record_bytes.Record.{Record}
use Rattle.move_msg.specs.declared.stamp.Stamp.{Stamp}
use Rattle.move_msg.specs.Records.{SpellsRecord, code_or_none}
use Rattle.move_msg.proofs.RecordLaws.{is_spelled}
use Rattle.arbiter_core.specs.Recording.{Recorded}
use Rattle.arbiter_core.specs.Delivers.{IsWritten}
use Rattle.arbiter_core.specs.Views.{spelled_as}
use Rattle.judge_core.specs.Tables.{Tables}
use Rattle.move_msg.specs.Files.{File}
use Rattle.relay_world.specs.declared.event.Event.{Event}
use Rattle.relay_world.specs.Gathering.{tables_of, IsManifestOf}
use Rattle.relay_world.specs.Runs.{GameView, KeptIs, WorldView, Runs, TellsWorld, count_and_code, judged_by}
use Rattle.relay_world.specs.Worlds.{Judged, World, first_world, world_after_all, worlds}
use Rattle.relay_world.proofs.Faithful.{are_worlds, last_of, faithful_at}

tells_last : (game : Judged) (events : List Event) (told : WorldView) → TellsWorld game told (world_after_all game (first_world game) events) → (world : World) → slice_get (worlds game (first_world game) events) (length events) ≡ Some world → TellsWorld game told world
tells_last game events told h world e = subst (TellsWorld game told) (same (world_after_all game (first_world game) events) world (sym (last_of game (first_world game) events) ∙ e)) h
  where
    same : (x y : World) → Some x ≡ Some y → x ≡ y
    same x y e = cc

pub runs_of : (given : GameView) (files : List File) (events : List Event) (told : WorldView) (tables : Tables) (manifest : List ℕ) → tables_of files ≡ Ok tables → IsManifestOf files manifest → TellsWorld (judged_by given tables manifest) told (world_after_all (judged_by given tables manifest) (first_world (judged_by given tables manifest)) events) → Runs given files events told
runs_of given files events told tables manifest g l h =
    let game : Judged = judged_by given tables manifest in
    record {
      tables = tables;
      gathered = g;
      manifest = manifest;
      listed = l;
      worlds = worlds game (first_world game) events;
      are = are_worlds game events;
      last = tells_last game events told h;
      faithful = faithful_at game events;
    }

-- what is counted of kept bytes is counted of the record that is kept
pub counted_is : (stamp : Stamp) (delay : ℕ) (bytes : Option (List ℕ)) (t : List ℕ) (found : Option (ℕ × ℕ)) → bytes ≡ Some t → ((r : Record) → SpellsRecord t r → found ≡ Some (length r.moves, code_or_none r.verdict))
    → (kept : Option Recorded) → KeptIs stamp delay bytes kept → found ≡ option_map count_and_code kept
counted_is stamp delay bytes t found e is None h = absurd (not_none bytes t h e)
  where
    not_none : (o : Option (List ℕ)) (x : List ℕ) → o ≡ None → o ≡ Some x → ⊥
    not_none o x a b = cc
counted_is stamp delay bytes t found e is (Some kept) h = is (spelled_as stamp delay kept) (is_spelled t (spelled_as stamp delay kept) (subst (IsWritten stamp delay kept) e h))
