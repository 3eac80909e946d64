use Rattle.sqlite.specs.Files.{image_of, over_files}
use Rattle.system_io.specs.Records.{records_of}
use Rattle.game_store.specs.Shelves.{IsTrusted, committed, remembered}
use Rattle.game_store.proofs.PlaceLemmas.{always_clean, finds_same}
use Rattle.game_store.proofs.sqlite_stores.entries_in.Goals as goal

pub returns-in-Ok-entries : goal.returns-in-Ok-entries
returns-in-Ok-entries g c =
    let store = c.in-Ok.store in
    let image = image_of g.D.Disk c.args.files in
    let clean : IsTrusted over_files store = always_clean c.requires.honest store.conn.store in
    let had = finds_same image (committed over_files store) (remembered store) (c.in-Ok.ensures.has clean) (c.in-Ok.ensures.found clean) in
    finds_same image (remembered store) (records_of c.in-Ok-entries.entries.items) c.in-Ok-entries.ensures had
