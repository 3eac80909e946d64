use Rattle.std.proofs.Common.{◌≡◌, List, Option, None, Some, ℕ}
use Rattle.std.specs.Prelude.{option_map}
use Rattle.system_io.specs.Records.{StoredRecord, records_of}
use Rattle.timeline.specs.Outsides.{AddsSome, Outside}
use Rattle.answer_commands.specs.Earlier.{FindsCount, SeeksCount}
use Rattle.answer_commands.proofs.earlier.find_moves.Goals as goal

-- the store has none
not_stored : {T P F K S L : Type 0} (o : Outside T P F K S L) (a b : T) (path stamp : List ℕ) (r : Option StoredRecord) (count : Option ℕ) → None ≡ option_map (λ (x : StoredRecord). x.bytes) r → AddsSome o a b (SeeksCount o.disk path stamp count) → AddsSome o a b (FindsCount o.disk path stamp r count)
not_stored o a b path stamp None count is p = p
not_stored o a b path stamp (Some x) count is p = absurd cc

pub returns-in-None : goal.returns-in-None
returns-in-None g c = not_stored (g.S.System.outside c.args.system.now) _ _ c.args.path.now c.args.stamp (records_of c.args.entries.now c.args.stamp) c.seek_moves.result c.in-None.ensures c.seek_moves.ensures
