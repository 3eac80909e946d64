-- One reading after another.
use Rattle.std.proofs.Common.{◌≡◌, ◌≤◌, ◌++◌, ◌∷◌, [], ℕ, List, Some, ap, append-nil, length, refl, sym}
use Rattle.std.specs.Global.{Global}
use Rattle.std.specs.Prelude.{Result, Ok, Err, IfOk, IsErrOf, Vec}
use Rattle.move_msg.specs.Files.{File}
use Rattle.move_msg.specs.declared.told.Manifest.{Manifest}
use Rattle.system_io.specs.Disks.{AtFile, most_bytes}
use Rattle.system_io.specs.declared.reading.ReadFault.{ReadFault}
use Rattle.system_io.specs.declared.reading.ReadFault.TheVariants.{OutOfMemory, Unreadable}
use Rattle.task_files.specs.Given.{Given}
use Rattle.task_files.specs.InputReads.{Both, FileIs, FileIsNot, FirstAlone, Gives, Held, InputIs, InputIsNot, Reading, ReadsAllInput, ReadsFile, ReadsGiven, ReadsHeld, ReadsInput, ReadsKept, ReadsLines, ReadsManifest, ReadsText, ReadsTexts, ReadsWanted, TextsRead, Then, given_by}
use Rattle.task_files.specs.Sources.{LacksKept, Named, most_kept}
use Rattle.timeline.proofs.EventLaws.{adds_more, adds_none}
use Rattle.timeline.specs.Events.{FileRead, InputRead, bytes_read}
use Rattle.timeline.specs.Outsides.{Adds, AddsSome, Outside}

module _ {T P F K S L : Type 0} (o : Outside T P F K S L) where
  pub then_both : {A B : Type 0} (a b c : T) (First : Reading A) (Next : A → Reading B) (x : A) (r : Result B ReadFault) → AddsSome o a b (First (Ok x)) → AddsSome o b c (Next x r) → AddsSome o a c (Then First Next r)
  then_both a b c First Next x r p q = (p.0 ++ q.0, adds_more o a b c p.0 q.0 p.1 q.1, Both x p.0 q.0 p.2 q.2 refl)

  pub then_alone : {A B : Type 0} (a b : T) (First : Reading A) (Next : A → Reading B) (fault : ReadFault) → AddsSome o a b (First (Err fault)) → AddsSome o a b (Then First Next (Err fault))
  then_alone a b First Next fault p = (p.0, p.1, FirstAlone fault p.2 refl)

  -- after the last one
  pub then_gives : {A B : Type 0} (a b : T) (First : Reading A) (f : A → B) (x : A) → AddsSome o a b (First (Ok x)) → AddsSome o a b (Then First (λ y. Gives (f y)) (Ok (f x)))
  then_gives a b First f x p = (p.0, p.1, Both x p.0 [] p.2 (refl, refl) (sym (append-nil p.0)))

  pub gives : {A : Type 0} (a : T) (x : A) → AddsSome o a a (Gives x (Ok x))
  gives a x = ([], adds_none o a, (refl, refl))

  -- ---- a file

  pub file_read : (a b : T) (path bytes : List ℕ) (Holds : List ℕ → Type 0) (Fails : Type 0) → Holds bytes → Adds o a b (FileRead path (Ok bytes) ∷ []) → AddsSome o a b (ReadsFile path Holds Fails (Ok bytes))
  file_read a b path bytes Holds Fails holds p = (FileRead path (Ok bytes) ∷ [], p, FileIs bytes holds refl refl)

  pub file_unread : (a b : T) (path : List ℕ) (Holds : List ℕ → Type 0) (Fails : Type 0) (fault : ReadFault) → (fault ≡ Unreadable → Fails) → Adds o a b (FileRead path (Err fault) ∷ []) → AddsSome o a b (ReadsFile path Holds Fails (Err fault))
  file_unread a b path Holds Fails fault cause p = (FileRead path (Err fault) ∷ [], p, FileIsNot fault cause refl refl)

  -- a manifest
  pub lines_read : (a b : T) (path text : List ℕ) (r : Result Manifest ReadFault) → o.disk.holds path text → length text ≤ most_bytes → Adds o a b (FileRead path (Ok text) ∷ []) → ReadsLines text r [] → AddsSome o a b (Then (ReadsText o.disk path) ReadsLines r)
  lines_read a b path text r holds short p lines = (FileRead path (Ok text) ∷ [], p, Both text (FileRead path (Ok text) ∷ []) [] (FileIs text (holds, short) refl refl) lines refl)

  pub lines_unread : (a b : T) (path : List ℕ) (fault : ReadFault) → (fault ≡ Unreadable → o.disk.fails (AtFile path)) → Adds o a b (FileRead path (Err fault) ∷ []) → AddsSome o a b (Then (ReadsText o.disk path) ReadsLines (Err fault))
  lines_unread a b path fault cause p = then_alone a b (ReadsText o.disk path) ReadsLines fault (file_unread a b path (λ bytes. o.disk.holds path bytes × (length bytes ≤ most_bytes)) (o.disk.fails (AtFile path)) fault cause p)

  -- ---- by the result of a call

  pub kept_read : (a b : T) (path : List ℕ) (r : Result (Vec ℕ Global) ReadFault) → IfOk r (λ bytes. o.disk.holds path bytes.items) → IfOk r (λ bytes. length bytes.items ≤ most_kept) → (IsErrOf r Unreadable → LacksKept o.disk path) → Adds o a b (FileRead path (bytes_read r) ∷ [])
      → AddsSome o a b (ReadsKept o.disk (Some path) (bytes_read r))
  kept_read a b path (Ok bytes) holds short cause p = file_read a b path bytes.items _ _ (holds, short) p
  kept_read a b path (Err fault) holds short cause p = file_unread a b path _ _ fault (λ is. cause (ap Err is)) p

  pub input_read : (a b : T) (r : Result (Vec ℕ Global) ReadFault) → IfOk r (λ bytes. o.input.gives bytes.items) → IfOk r (λ bytes. length bytes.items ≤ most_bytes) → (IsErrOf r Unreadable → o.input.fails) → (IsErrOf r OutOfMemory → o.input.takes_memory) → Adds o a b (InputRead (bytes_read r) ∷ [])
      → AddsSome o a b (ReadsAllInput o.input (bytes_read r))
  input_read a b (Ok bytes) gives short cause memory p = (InputRead (Ok bytes.items) ∷ [], p, InputIs bytes.items gives short refl refl)
  input_read a b (Err fault) gives short cause memory p = (InputRead (Err fault) ∷ [], p, InputIsNot fault (λ is. cause (ap Err is)) (λ is. memory (ap Err is)) refl refl)

  -- ---- the tables

  abbrev wanting : Named → Manifest → Reading Held
  wanting n manifest = Then (ReadsWanted o.disk n.folder manifest) (λ files. Gives (record { manifest = manifest; files = files }))

  pub held_unread : (a b : T) (n : Named) (fault : ReadFault) → AddsSome o a b (ReadsManifest o.disk n.manifest (Err fault)) → AddsSome o a b (ReadsHeld o.disk n (Err fault))
  held_unread a b n fault p = then_alone a b (ReadsManifest o.disk n.manifest) (wanting n) fault p

  pub held_read : (a b c : T) (n : Named) (manifest : Manifest) (files : List File) → AddsSome o a b (ReadsManifest o.disk n.manifest (Ok manifest)) → AddsSome o b c (ReadsWanted o.disk n.folder manifest (Ok files)) → AddsSome o a c (ReadsHeld o.disk n (Ok (record { manifest = manifest; files = files })))
  held_read a b c n manifest files p q =
      then_both a b c (ReadsManifest o.disk n.manifest) (wanting n) manifest _ p (then_gives b c (ReadsWanted o.disk n.folder manifest) (λ fs. record { manifest = manifest; files = fs }) files q)

  pub held_unwanted : (a b c : T) (n : Named) (manifest : Manifest) (fault : ReadFault) → AddsSome o a b (ReadsManifest o.disk n.manifest (Ok manifest)) → AddsSome o b c (ReadsWanted o.disk n.folder manifest (Err fault)) → AddsSome o a c (ReadsHeld o.disk n (Err fault))
  held_unwanted a b c n manifest fault p q =
      then_both a b c (ReadsManifest o.disk n.manifest) (wanting n) manifest _ p (then_alone b c (ReadsWanted o.disk n.folder manifest) _ fault q)

  -- ---- the texts

  abbrev last : List ℕ → List ℕ → List ℕ → TextsRead
  last input kept other = record { input = input; kept = kept; other_kept = other }

  abbrev lasting : Named → List ℕ → List ℕ → Reading TextsRead
  lasting n input kept = Then (ReadsKept o.disk n.other_kept) (λ other. Gives (last input kept other))

  abbrev keeping : Named → List ℕ → Reading TextsRead
  keeping n input = Then (ReadsKept o.disk n.kept) (lasting n input)

  pub texts_unread : (a b : T) (n : Named) (fault : ReadFault) → AddsSome o a b (ReadsInput o.input n.input (Err fault)) → AddsSome o a b (ReadsTexts o.disk o.input n (Err fault))
  texts_unread a b n fault p = then_alone a b (ReadsInput o.input n.input) (keeping n) fault p

  pub texts_unkept : (a b c : T) (n : Named) (input : List ℕ) (fault : ReadFault) → AddsSome o a b (ReadsInput o.input n.input (Ok input)) → AddsSome o b c (ReadsKept o.disk n.kept (Err fault)) → AddsSome o a c (ReadsTexts o.disk o.input n (Err fault))
  texts_unkept a b c n input fault p q = then_both a b c (ReadsInput o.input n.input) (keeping n) input _ p (then_alone b c (ReadsKept o.disk n.kept) (lasting n input) fault q)

  pub texts_by : (a b c d : T) (n : Named) (input kept : List ℕ) (r : Result TextsRead ReadFault) → AddsSome o a b (ReadsInput o.input n.input (Ok input)) → AddsSome o b c (ReadsKept o.disk n.kept (Ok kept)) → AddsSome o c d (lasting n input kept r) → AddsSome o a d (ReadsTexts o.disk o.input n r)
  texts_by a b c d n input kept r p q s = then_both a b d (ReadsInput o.input n.input) (keeping n) input r p (then_both b c d (ReadsKept o.disk n.kept) (lasting n input) kept r q s)

  pub texts_read : (a b c d : T) (n : Named) (input kept other : List ℕ) → AddsSome o a b (ReadsInput o.input n.input (Ok input)) → AddsSome o b c (ReadsKept o.disk n.kept (Ok kept)) → AddsSome o c d (ReadsKept o.disk n.other_kept (Ok other)) → AddsSome o a d (ReadsTexts o.disk o.input n (Ok (last input kept other)))
  texts_read a b c d n input kept other p q s = texts_by a b c d n input kept (Ok (last input kept other)) p q (then_gives c d (ReadsKept o.disk n.other_kept) (last input kept) other s)

  pub texts_unlast : (a b c d : T) (n : Named) (input kept : List ℕ) (fault : ReadFault) → AddsSome o a b (ReadsInput o.input n.input (Ok input)) → AddsSome o b c (ReadsKept o.disk n.kept (Ok kept)) → AddsSome o c d (ReadsKept o.disk n.other_kept (Err fault)) → AddsSome o a d (ReadsTexts o.disk o.input n (Err fault))
  texts_unlast a b c d n input kept fault p q s = texts_by a b c d n input kept (Err fault) p q (then_alone c d (ReadsKept o.disk n.other_kept) (λ other. Gives (last input kept other)) fault s)

  -- ---- all of it

  abbrev giving : Named → Held → Reading Given
  giving n held = Then (ReadsTexts o.disk o.input n) (λ texts. Gives (given_by held texts))

  pub given_unheld : (a b : T) (n : Named) (fault : ReadFault) → AddsSome o a b (ReadsHeld o.disk n (Err fault)) → AddsSome o a b (ReadsGiven o n (Err fault))
  given_unheld a b n fault p = then_alone a b (ReadsHeld o.disk n) (giving n) fault p

  pub given_read : (a b c : T) (n : Named) (held : Held) (texts : TextsRead) → AddsSome o a b (ReadsHeld o.disk n (Ok held)) → AddsSome o b c (ReadsTexts o.disk o.input n (Ok texts)) → AddsSome o a c (ReadsGiven o n (Ok (given_by held texts)))
  given_read a b c n held texts p q = then_both a b c (ReadsHeld o.disk n) (giving n) held _ p (then_gives b c (ReadsTexts o.disk o.input n) (given_by held) texts q)

  pub given_unread : (a b c : T) (n : Named) (held : Held) (fault : ReadFault) → AddsSome o a b (ReadsHeld o.disk n (Ok held)) → AddsSome o b c (ReadsTexts o.disk o.input n (Err fault)) → AddsSome o a c (ReadsGiven o n (Err fault))
  given_unread a b c n held fault p q = then_both a b c (ReadsHeld o.disk n) (giving n) held _ p (then_alone b c (ReadsTexts o.disk o.input n) (λ texts. Gives (given_by held texts)) fault q)
