-- What open files and paths in memory achieve (this project's own).
use Rattle.std.specs.Prelude.{◌≡◌, true, string_bytes}
use Rattle.system_fakes.specs.declared.memory_files.MemoryHandle.{MemoryHandle}
use Rattle.system_fakes.specs.declared.memory_files.MemoryPaths.{MemoryPaths}
use Rattle.system_fakes.specs.MemoryDisks.{IsFoundAt, IsNowhere}
use Rattle.system_io.specs.Handles.{HandleFacts, PathFacts}

abbrev pub handle_facts : MemoryHandle → HandleFacts
handle_facts h = record {
  holds = λ bytes. h.bytes.items ≡ bytes;
  is_synced = h.is_synced ≡ true;
  is_locked = h.is_locked ≡ true;
  is_linked = h.is_linked ≡ true;
  is_numbered = λ number. number ≡ h.number;
  is_made_at = λ path. string_bytes h.path ≡ path;
}

abbrev pub path_facts : MemoryPaths → PathFacts
path_facts p = record {
  names = λ path number. IsFoundAt (λ row. row.path.now) (λ row. row.holds) p.files.now path number;
  lacks = IsNowhere (λ row. row.path.now) p.files.now;
  renames = λ path to. IsFoundAt (λ row. row.path.now) (λ row. row.holds) p.renames.now path true;
  syncs = λ path. IsFoundAt (λ row. row.path.now) (λ row. row.holds) p.syncs.now path true;
}
