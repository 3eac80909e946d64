use Rattle.table_file.proofs.MapEntries.{word_there, word_past}
use Rattle.table_file.proofs.maps.word_entry.Goals as goal

pub returns-then-place-bytes : goal.returns-then-place-bytes
returns-then-place-bytes c = rw c.word_at.ensures (word_there c.args.bytes.now c.args.place c.if-place-bytes.true)

pub returns-else-place-bytes : goal.returns-else-place-bytes
returns-else-place-bytes c = word_past c.args.bytes.now c.args.place c.if-place-bytes.false
