use Rattle.std.proofs.Common.{◌≡◌, ◌∙◌, List, map, Result, Ok, sym, refl, ap, subst}
use Rattle.judge_core.specs.Games.{Rules}
use Rattle.judge_core.specs.Tables.{Tables}
use Rattle.move_msg.specs.Files.{File}
use Rattle.relay_world.specs.declared.fault.WorldFault.{WorldFault}
use Rattle.relay_world.specs.Gathering.{IsManifestOf}
use Rattle.relay_world.specs.Runs.{TellsWorld, judged_by}
use Rattle.relay_world.specs.Worlds.{Judged, first_world, world_after_all}
use Rattle.relay_world.proofs.Naming.{are_all_tables}
use Rattle.relay_world.proofs.OneAnswer.{runs_tell_one}
use Rattle.relay_world.proofs.Told.{runs_of}
use Rattle.relay_world.proofs.running.run.Goals as goal

same_tables : (r : Result Tables WorldFault) (s t : Tables) → r ≡ Ok s → r ≡ Ok t → t ≡ s
same_tables r s t e f = let g : ◌≡◌ {A = Result Tables WorldFault} (Ok t) (Ok s) = sym f ∙ e in cc

pub manifest_of-requires : goal.manifest_of-requires
manifest_of-requires c =
    are_all_tables c.tables_are_numbered.ensures c.reads_what_is_laid_out.ensures (map (λ f. record { name = f.0.now; bytes = f.1.now }) c.args.tables.now) c.in_ok-first.first.tables c.in_ok-first.ensures.ok

pub returns-clause-worlds : goal.returns-clause-worlds
returns-clause-worlds c =
    let t : Tables = c.in_ok-first.first.tables in
    let files : List File = map (λ f. record { name = f.0.now; bytes = f.1.now }) c.args.tables.now in
    let game : Judged = judged_by c.args.game.now t c.deref.result.now in
    let begun = c.in-Ok-begin.ensures t refl (same_tables _ t c.in_ok-second.second.tables c.in_ok-first.ensures.ok c.in_ok-second.ensures.ok) in
    let told : TellsWorld game c.world_of.result (world_after_all game (first_world game) c.args.events.now) =
    c.world_of.ensures game begun.a begun.b (world_after_all game (first_world game) c.args.events.now) (ap (λ (r : Rules). r.delay) begun.setups.rules_a) (ap (λ (r : Rules). r.delay) begun.setups.rules_b) (c.in-Ok-run_from.ensures game begun.a begun.b begun.setups begun.is) in
    runs_of c.args.game.now files c.args.events.now c.world_of.result t c.deref.result.now c.in_ok-first.ensures.ok (subst (IsManifestOf files) (sym c.deref.ensures.value) c.in-Ok.ensures) told

pub returns-clause-one : goal.returns-clause-one
returns-clause-one c other h =
    runs_tell_one c.args.game.now (map (λ f. record { name = f.0.now; bytes = f.1.now }) c.args.tables.now) c.args.events.now other c.world_of.result h (returns-clause-worlds c)
