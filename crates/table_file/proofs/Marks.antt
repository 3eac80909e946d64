-- Bookmarks in a block of a part, seen by its view.
use Rattle.std.proofs.Common.{◌≡◌, ℕ, List, Option, Some, None, refl}
use Rattle.pair_dict.specs.Codes.{Pairing}
use Rattle.pair_dict.specs.Marks.{AreMarks}
use Rattle.pair_dict.specs.declared.bookmarks.Bookmarks.{Bookmarks}
use Rattle.table_file.specs.declared.size_record.Coding.{Coding}
use Rattle.table_file.specs.declared.size_record.Coding.TheVariants.{Single, Pairs}
use Rattle.table_file.specs.declared.parts.Part.{Part}
use Rattle.table_file.specs.declared.spots.View.{View}
use Rattle.table_file.specs.Tables.{PartAt, part_of, blocks_of}
use Rattle.table_file.specs.Inside.Checked.{IsViewOf}
use Rattle.table_file.specs.Marked.{AreMarksOf, AreMarksAt, AreMarksIn, block_bytes_of, block_bytes}

pub view_marks : (p : PartAt) (v : View) (block : ℕ) (marks : Bookmarks) → IsViewOf p v → AreMarksIn p block marks → AreMarksOf v.coding.now v.blocks.now block marks
unfolding AreMarksIn
view_marks p v block marks h are = rw (h.coding, h.blocks) (rw h.found at are)

pub marks_view : (p : PartAt) (v : View) (block : ℕ) (marks : Bookmarks) → IsViewOf p v → AreMarksOf v.coding.now v.blocks.now block marks → AreMarksIn p block marks
unfolding AreMarksIn
marks_view p v block marks h are = rw h.found (rw (h.coding, h.blocks) at are)

pub view_bytes : (p : PartAt) (v : View) → IsViewOf p v → block_bytes_of v.coding.now ≡ block_bytes p
unfolding block_bytes
view_bytes p v h = rw (h.coding, h.found) refl

any_of : (marks : Bookmarks) → ((d : Pairing) (block : List ℕ) → AreMarks d block marks) → (coding : Coding) (blocks : List ℕ) (block : ℕ) → AreMarksOf coding blocks block marks
any_of marks any (Single v) blocks block = tt
any_of marks any (Pairs c) blocks block = any c.dictionary _

any_at : (marks : Bookmarks) → ((d : Pairing) (block : List ℕ) → AreMarks d block marks) → (part : Option Part) (blocks : List ℕ) (block : ℕ) → AreMarksAt part blocks block marks
any_at marks any None blocks block = tt
any_at marks any (Some part) blocks block = any_of marks any part.size_record.coding blocks block

pub any_marks : (marks : Bookmarks) → ((d : Pairing) (block : List ℕ) → AreMarks d block marks) → (p : PartAt) (block : ℕ) → AreMarksIn p block marks
unfolding AreMarksIn
any_marks marks any p block = any_at marks any (part_of p) (blocks_of p) block
