-- The locks that keep a second process from the same files (this project's own).
use Rattle.std.specs.Prelude.{◌≡◌, ◌++◌, ℕ, List, [], ◌∷◌, Result, Ok, Err, codes}
use Rattle.answer_parts.specs.Lines.{refused_in_use}
use Rattle.arbiter_server.specs.ServedLines.{refused_keeper}
use Rattle.line_teller.specs.ToldLines.{refused_memory}
use Rattle.system_io.specs.declared.host.LockFault.TheVariants as lock
use Rattle.timeline.specs.Events.{Event, Locked}
use Rattle.timeline.specs.Outsides.{Outside}
use Rattle.host_commands.specs.Notes.{ThenMayNote}

-- the file by which a folder of games is locked, and that by which a kept file is
abbrev pub games_lock : List ℕ → List ℕ
games_lock folder = folder ++ codes "/lock"

abbrev pub kept_lock : List ℕ → List ℕ
kept_lock path = path ++ codes ".lock"

abbrev pub held_line : List ℕ → List ℕ
held_line path = path ++ codes " is locked by another process"

-- the file at a path is locked; or another process holds its lock, and a line is noted that says so; or it can't be locked; or memory was
-- refused
module _ {T P F K S L : Type 0} (o : Outside T P F K S L) (path : List ℕ) where
  pub data LocksFile (result : Result K (List ℕ)) (events : List Event) : Type 0 where
    IsLocked : (held : K) → o.gives_lock path → o.lock_path held ≡ path → result ≡ Ok held → events ≡ Locked path (Ok tt) ∷ [] → LocksFile result events
    InUse : o.bars_lock path lock.Held → result ≡ Err refused_in_use → ThenMayNote (Locked path (Err lock.Held)) (held_line path) events → LocksFile result events
    NoLock : o.bars_lock path lock.Failed → result ≡ Err refused_keeper → events ≡ Locked path (Err lock.Failed) ∷ [] → LocksFile result events
    NoRoomToLock : o.bars_lock path lock.OutOfMemory
        → result ≡ Err refused_memory → events ≡ Locked path (Err lock.OutOfMemory) ∷ [] → LocksFile result events
    NoRoomForPath : result ≡ Err refused_memory → events ≡ [] → LocksFile result events
