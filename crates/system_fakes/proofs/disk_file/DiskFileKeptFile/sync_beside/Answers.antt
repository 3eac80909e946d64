use Rattle.std.proofs.Common.{List, ℕ, subst}
use Rattle.std.specs.Prelude.{OnOk}
use Rattle.system_fakes.specs.PowerLosses.{HoldsBytes, HoldsSynced}
use Rattle.system_fakes.proofs.DiskLaws.{Held}
use Rattle.system_fakes.proofs.disk_file.DiskFileKeptFile.sync_beside.Goals as goal

pub returns-in-Good-clause-synced : goal.returns-in-Good-clause-synced
returns-in-Good-clause-synced c =
    subst (λ (x : Held). OnOk c.sync_bytes.result ((bytes : List ℕ) → HoldsBytes x bytes → HoldsSynced c.sync_bytes.new.self.beside bytes)) c.next.ensures.beside c.sync_bytes.ensures.synced
