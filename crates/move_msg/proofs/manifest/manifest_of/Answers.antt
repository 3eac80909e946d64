use Rattle.std.proofs.Common.{rules, ◌≡◌, ◌++◌, ◌∷◌, [], arith}
use Rattle.move_msg.specs.Manifests.{entry_of}
use Rattle.move_msg.specs.Files.{entry_for, table_file_of}
use Rattle.move_msg.proofs.FileLaws.{named, entries_with, of_files_with, all_entries}
use Rattle.move_msg.proofs.manifest.manifest_of.Goals as goal

pub loop-file-preserved : goal.loop-file-preserved
loop-file-preserved c =
    let items : c.push.new.self.items ≡ c.loop-file.lines.items ++ c.of.result ∷ [] = search rules in
    let name = named c.args.files.now c.loop-file.file-index c.file-item.result c.loop-file-test.true c.file-item.is c.requires.0 in
    let is : entry_of c.of.result ≡ entry_for (table_file_of c.file-item.result) = rw c.deref.ensures.value at c.of.ensures.is in
    record {
      same = entries_with _ _ c.of.result c.args.files.now c.loop-file.file-index c.file-item.result c.loop-file-test.true c.file-item.is items is c.loop-file.invariant.same;
      each = of_files_with _ _ c.of.result items (c.of.ensures.entry name) c.loop-file.invariant.each;
    }

pub manifest_write-requires : goal.manifest_write-requires
manifest_write-requires c =
    rw c.deref-2.ensures.value (all_entries c.loop-file.lines.items c.args.files.now c.loop-file.file-index (omega arith) c.requires c.loop-file.invariant.same c.loop-file.invariant.each).1
