-- Files as lines of a manifest.
use Rattle.std.proofs.Common.{◌≡◌, ◌<◌, ◌≤◌, ◌+◌, ◌++◌, ℕ, zero, suc, List, [], ◌∷◌, map, take, length, get_or, sym, ap, ◌∙◌, subst, arith}
use Rattle.std.proofs.lemmas.List.{map-append, take_more, take_all}
use Rattle.move_msg.specs.declared.manifest.Line.{Line}
use Rattle.move_msg.specs.Manifests.{Entry, AreEntries, AreOfFiles, AreRising, IsEntry, entry_of}
use Rattle.move_msg.specs.TableNames.{IsFileName}
use Rattle.move_msg.specs.declared.files.NamedFile.{NamedFile}
use Rattle.move_msg.specs.Files.{File, AreFiles, AreNamed, AreSorted, entry_for, table_file_of}

-- a file's name is one
named_at : (files : List NamedFile) (i : ℕ) (f : NamedFile) → i < length files → AreNamed (map table_file_of files) → IsFileName (get_or files i f).name.bytes
named_at [] i f within h = absurd (omega arith)
named_at (g ∷ files) zero f within h = h.0
named_at (g ∷ files) (suc i) f within h = named_at files i f (omega arith) h.1

pub named : (files : List NamedFile) (i : ℕ) (f : NamedFile) → i < length files → f ≡ get_or files i f → AreNamed (map table_file_of files) → IsFileName f.name.bytes
named files i f within is h = subst (λ (g : NamedFile). IsFileName g.name.bytes) (sym is) (named_at files i f within h)

-- one line more
pub entries_with : (old new : List Line) (line : Line) (files : List NamedFile) (i : ℕ) (f : NamedFile) → i < length files → f ≡ get_or files i f → new ≡ old ++ line ∷ [] → entry_of line ≡ entry_for (table_file_of f) → map entry_of old ≡ map entry_for (map table_file_of (take i files)) → map entry_of new ≡ map entry_for (map table_file_of (take (i + 1) files))
entries_with old new line files i f within is items same all =
    let lines : map entry_of new ≡ map entry_of old ++ entry_of line ∷ [] = ap (map entry_of) items ∙ map-append entry_of old (line ∷ []) in
    let first : take (i + 1) files ≡ take i files ++ f ∷ [] = take_more files i f within ∙ ap (λ (g : NamedFile). take i files ++ g ∷ []) (sym is) in
    let told : map entry_for (map table_file_of (take (i + 1) files)) ≡ map entry_for (map table_file_of (take i files)) ++ entry_for (table_file_of f) ∷ [] =
    ap (λ (fs : List NamedFile). map entry_for (map table_file_of fs)) first
    ∙ ap (map entry_for) (map-append table_file_of (take i files) (f ∷ []))
    ∙ map-append entry_for (map table_file_of (take i files)) (table_file_of f ∷ []) in
    lines ∙ (λ j. all j ++ same j ∷ []) ∙ sym told

more_of_files : (es : List Entry) (e : Entry) → AreOfFiles es → IsEntry e → AreOfFiles (es ++ e ∷ [])
more_of_files [] e h i = (i, tt)
more_of_files (a ∷ es) e h i = (h.0, more_of_files es e h.1 i)

pub of_files_with : (old new : List Line) (line : Line) → new ≡ old ++ line ∷ [] → IsEntry (entry_of line) → AreOfFiles (map entry_of old) → AreOfFiles (map entry_of new)
of_files_with old new line items entry all =
    subst AreOfFiles (sym (ap (map entry_of) items ∙ map-append entry_of old (line ∷ []))) (more_of_files (map entry_of old) (entry_of line) all entry)

-- names that rise make a manifest
rising : (files : List File) → AreSorted files → AreRising (map entry_for files)
rising [] h = tt
rising (f ∷ []) h = tt
rising (f ∷ g ∷ files) h = (h.0, rising (g ∷ files) h.1)

pub all_entries : (lines : List Line) (files : List NamedFile) (i : ℕ) → length files ≤ i → AreFiles (map table_file_of files) → map entry_of lines ≡ map entry_for (map table_file_of (take i files)) → AreOfFiles (map entry_of lines) → (map entry_of lines ≡ map entry_for (map table_file_of files)) × AreEntries (map entry_of lines)
all_entries lines files i past are all each =
    let whole : map entry_of lines ≡ map entry_for (map table_file_of files) = all ∙ ap (λ (fs : List NamedFile). map entry_for (map table_file_of fs)) (take_all i files past) in
    (whole, (each, subst AreRising (sym whole) (rising (map table_file_of files) are.1)))
