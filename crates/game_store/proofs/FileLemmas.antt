-- The games of what two files hold.
use Rattle.std.proofs.Common.{◌≡◌, ◌⊎◌, List, Result, Ok, Err, OnOk, sym, subst}
use Rattle.std.proofs.Math.Logic.{∥∥₁_elim}
use Rattle.sqlite_disk.specs.declared.Disk.{Ghosts}
use Rattle.sqlite_disk.specs.declared.Files.{Files}
use Rattle.sqlite_wal.specs.Recovery.{Image}
use Rattle.sqlite_trees.specs.Tree.{Trees}
use Rattle.sqlite_trees.specs.Props.{Trees-set}
use Rattle.sqlite.specs.declared.file.Leftover.{Leftover}
use Rattle.sqlite.specs.declared.file.Leftover.TheVariants as left
use Rattle.sqlite.specs.Files.{AreFoundIn, HoldsDatabase, LeavesFiles}
use Rattle.system_io.specs.declared.record_store.Entry.{Entry}
use Rattle.game_store.specs.declared.fault.DatabaseFault.{DatabaseFault}
use Rattle.system_io.specs.Records.{Records, with_all, AreSame}
use Rattle.game_store.specs.Shelves.{HoldsGames}
use Rattle.game_store.specs.Files.{FindsBatch, FindsGames, LeavesGames}
use Rattle.game_store.proofs.StoreLemmas.{holds_same, one_choice}

pub finds_games : (image : Image) (trees : Trees) (games : Records) → AreFoundIn image trees → ((db : Trees) → HoldsDatabase image db → trees ≡ db) → HoldsGames trees games → FindsGames image games
finds_games image trees games reads holds has = record {
  trees = trees;
  reads = reads;
  holds = has;
  same = λ db other held those. one_choice db games other (subst (λ (t : Trees). HoldsGames t games) (∥∥₁_elim held (Trees-set trees db) (holds db)) has) those;
}

module _ {D : Type 0} {g : Ghosts D} where
  pub leaves_games : (files : Files D) (rest : Leftover D g) → LeavesFiles files rest → LeavesGames files rest
  leaves_games files (left.Files now) h = h
  leaves_games files (left.Unopened now) h = h
  leaves_games files (left.Store now) h = λ found may db held games has. subst (λ (t : Trees). HoldsGames t games) (sym ((h found may).1 db held)) has

pub finds_batch : {E : Type 0} (was now : Records) (entries : List Entry) (r : Result (Unit {0}) E) (db : Trees) → OnOk r (AreSame now (with_all was entries))
    → OnOk r (HoldsGames db now) → HoldsGames db was ⊎ HoldsGames db (with_all was entries) → FindsBatch was entries r db
finds_batch was now entries (Ok done) db same has either = holds_same db now (with_all was entries) (λ stamp. sym (same stamp)) has
finds_batch was now entries (Err e) db same has either = either
