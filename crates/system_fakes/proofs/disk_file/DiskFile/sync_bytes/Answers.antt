use Rattle.system_fakes.proofs.DiskLaws.{synced_so}
use Rattle.system_fakes.proofs.disk_file.DiskFile.sync_bytes.Goals as goal

pub returns-in-Some-clause-synced : goal.returns-in-Some-clause-synced
returns-in-Some-clause-synced c = synced_so c.args.self.now.beside c.in-Some.content c.synced.result c.in-Some.ensures.value c.synced.ensures.bytes c.synced.ensures.synced
