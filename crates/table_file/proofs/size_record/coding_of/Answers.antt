use Rattle.std.proofs.Common.{refl}
use Rattle.std.proofs.lemmas.Bool.{lt-leb}
use Rattle.table_file.specs.SizeRecords.{coding_at}
use Rattle.table_file.proofs.size_record.coding_of.Goals as goal

pub returns-in_ok-codes : goal.returns-in_ok-codes
unfolding coding_at
returns-in_ok-codes c = rw (lt-leb 128 c.args.flags c.if-flags-ge128.false, c.in_ok-codes.ensures) refl
