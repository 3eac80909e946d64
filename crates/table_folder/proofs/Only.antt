-- Sets that get only tables that are missed.
use Rattle.std.proofs.Common.{◌≡◌, ◌<◌, ℕ, Option, Some, None, IsSome, refl, sym, ap, ◌∙◌, inl, inr}
use Rattle.std.proofs.lemmas.Bool.{false≢true}
use Rattle.board_core.specs.declared.parts.Parts.{Parts}
use Rattle.system_io.specs.Disks.{DiskFacts}
use Rattle.judge_core.specs.MoreTables.{HasAll}
use Rattle.judge_core.specs.Tables.{Tables, table_at}
use Rattle.table_file.specs.declared.kind.TableKind.{TableKind}
use Rattle.table_folder.specs.Folders.{AreOf, Folder}
use Rattle.table_folder.specs.Settled.{AddsOnlyMissed, IsMissedFor}
use Rattle.table_folder.proofs.Staying.{there_or_not}

-- what is lacked isn't there
pub not_both : {X : Type 0} (x : Option X) → x ≡ None → IsSome x → ⊥
not_both None e some = absurd (false≢true some)
not_both (Some t) e some = absurd cc

pub adds_none : (disk : DiskFacts) (folder : Folder) (IsNeeded : Tables → Parts → Type 0) (tables : Tables) → AddsOnlyMissed disk folder IsNeeded tables tables
adds_none disk folder IsNeeded tables kind key known none some = absurd (not_both (table_at tables kind key) none some)

pub adds_as : {disk : DiskFacts} {folder : Folder} {IsNeeded : Tables → Parts → Type 0} (old mid new : Tables) → new ≡ mid → AddsOnlyMissed disk folder IsNeeded old mid → AddsOnlyMissed disk folder IsNeeded old new
adds_as old mid new same only = rw same only

-- by tables that have what was open later, and so what was open before
missed_before : {disk : DiskFacts} {folder : Folder} {IsNeeded : Tables → Parts → Type 0} (old mid : Tables) (kind : TableKind) (key : ℕ) → HasAll old mid → IsMissedFor disk folder IsNeeded mid kind key → IsMissedFor disk folder IsNeeded old kind key
missed_before old mid kind key more missed = record {
  position = missed.position;
  tables = missed.tables;
  kept = λ k j t there. missed.kept k j t (more k j t there);
  opened = missed.opened;
  needed = missed.needed;
  misses = missed.misses;
  in_turn = missed.in_turn;
}

pub adds_more : {disk : DiskFacts} {folder : Folder} {IsNeeded : Tables → Parts → Type 0} (old mid new : Tables) → HasAll old mid → AddsOnlyMissed disk folder IsNeeded old mid → AddsOnlyMissed disk folder IsNeeded mid new → AddsOnlyMissed disk folder IsNeeded old new
adds_more old mid new more first second kind key known none some =
    elim (there_or_not (table_at mid kind key)) [
      | inl lacks ↦ missed_before old mid kind key more (second kind key known lacks some)
      | inr (t, has) ↦ first kind key known none (rw has refl)
    ]

pub adds_wider : {disk : DiskFacts} {folder : Folder} {A B : Tables → Parts → Type 0} (old new : Tables) → ((more : Tables) (p : Parts) → AreOf disk folder more → HasAll old more → A more p → B more p) → AddsOnlyMissed disk folder A old new → AddsOnlyMissed disk folder B old new
adds_wider old new wider only kind key known none some =
    let missed = only kind key known none some in record {
      position = missed.position;
      needed = λ more are has. wider more missed.position are (λ k j t there. has k j t (missed.kept k j t there)) (missed.needed more are has);
      tables = missed.tables;
      kept = missed.kept;
      opened = missed.opened;
      misses = missed.misses;
      in_turn = missed.in_turn;
    }
