-- Where stores are opened, and what is read of two files.
use Rattle.std.proofs.Common.{◌∙◌, IsTrue, sym, subst}
use Rattle.std.proofs.lemmas.Bool.{and_from}
use Rattle.sqlite.proofs.OpenLemmas.{pool_files}
use Rattle.sqlite_disk.specs.declared.Disk.{Ghosts}
use Rattle.sqlite_store.specs.declared.store.FileStore.{FileStore}
use Rattle.sqlite_store.specs.FileStore.{view}
use Rattle.sqlite_trees.proofs.Doubt.{no_doubt}
use Rattle.sqlite_trees.specs.View.{IsClean}
use Rattle.sqlite_trees.specs.declared.store.Store as trees
use Rattle.sqlite_wal.specs.Recovery.{Image}
use Rattle.system_io.specs.Records.{AreSame, IsSettled, Records}
use Rattle.game_store.specs.Files.{FindsGames}
use Rattle.game_store.specs.Shelves.{HoldsGames, IsOpen, IsTrusted, Leaves, Shelf, committed, remembered, store_facts}
use Rattle.game_store.proofs.StoreLemmas.{holds_same, one_choice}

-- a store over files whose reads tell no lie is trusted
pub always_clean : {D : Type 0} {g : Ghosts D} → ((file : D) → IsTrue (g.is_clean file)) → (it : FileStore D g) → IsClean (view it)
always_clean honest it = no_doubt _ (subst IsTrue (sym (pool_files it.pool).1) (and_from _ _ (honest _) (honest _)))

-- games that are the same are found too
pub finds_same : (image : Image) (a b : Records) → AreSame b a → FindsGames image a → FindsGames image b
finds_same image a b same finds = record {
  trees = finds.trees;
  reads = finds.reads;
  holds = holds_same finds.trees a b same finds.holds;
  same = λ db other held those stamp. same stamp ∙ finds.same db other held those stamp;
}

-- a store that is opened is settled
pub settled : {S : Type 0} (g : trees.Ghosts S) (store : Shelf S) → (IsTrusted g store → IsOpen g store) → (IsTrusted g store → Leaves g store (λ db. HoldsGames db (committed g store)))
    → (IsTrusted g store → AreSame (remembered store) (committed g store)) → IsSettled (store_facts g store)
settled g store is_open lasts has trusted = record {
  works = is_open trusted;
  found = λ found starts stamp. one_choice starts.0 found (committed g store) starts.2 (lasts trusted starts.0 starts.1) stamp ∙ sym (has trusted stamp);
}
