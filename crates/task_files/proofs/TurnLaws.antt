-- The table files of a folder that are read in turn.
use Rattle.std.proofs.Common.{◌≡◌, ◌∙◌, ◌⊎◌, ◌++◌, ◌∷◌, ◌+◌, ◌<◌, [], ℕ, Bool, List, ap, append-nil, append_assoc, drop, get_or, inl, inr, length, refl, subst, suc, sym, take, take-append-drop}
use Rattle.std.proofs.lemmas.List.{map-append}
use Rattle.std.specs.Prelude.{Result, Ok, Err, IfOk}
use Rattle.move_msg.specs.Files.{AreFiles, File}
use Rattle.move_msg.specs.declared.told.Manifest.{Manifest}
use Rattle.system_io.specs.Disks.{DiskFacts}
use Rattle.system_io.specs.declared.reading.ReadFault.{ReadFault}
use Rattle.system_io.specs.declared.reading.ReadFault.TheVariants.{OutOfMemory}
use Rattle.timeline.proofs.EventLaws.{adds_more}
use Rattle.timeline.specs.Events.{Event, Flushed, Refused, Wrote, by_result}
use Rattle.timeline.specs.Outsides.{Adds, AddsSome, Outside}
use Rattle.timeline.specs.declared.stream.Stream.TheVariants.{Errors}
use Rattle.task_files.specs.FileNames.{names_of}
use Rattle.task_files.specs.InputReads.{Both, FirstAlone}
use Rattle.task_files.specs.Made.{AreMadeOf}
use Rattle.task_files.specs.Outside.{IsAtItsPath}
use Rattle.task_files.specs.Inside.Readings.{Looks}
use Rattle.task_files.specs.TableLooks.{AllInTurn, AreReadInTurn, Cut, LooksAt, LooksInFolder, MaySayProgress, NoRoomForOne, OneUnread, ReadsInTurn, Said, SaysProgress, counted}
use Rattle.task_files.specs.TableReads.{ListsTables, ReadsTable, table_read}
use Rattle.task_files.specs.TableReads as reads
use Rattle.task_files.proofs.LookLaws.{made_more}
use Rattle.task_files.proofs.ReadLaws.{files_of_listing, name_more, names_parted}

-- ---- a line of progress

pub went_out : {T P F K S L A B : Type 0} (o : Outside T P F K S L) (a b c : T) (line : List ℕ) (r : Result A B) → AddsSome o a b (λ more. more ≡ Wrote Errors line ∷ []) → Adds o b c (by_result r (λ _. Flushed Errors) (Refused Errors) ∷ []) → AddsSome o a c (SaysProgress line)
went_out {A = A} {B = B} o a b c line r p q = (p.0 ++ by_result r (λ _. Flushed Errors) (Refused Errors) ∷ [], adds_more o a b c p.0 _ p.1 q, Said (by_result r (λ _. Flushed Errors) (Refused Errors)) (either r) (ap (λ (e : List Event). e ++ by_result r (λ _. Flushed Errors) (Refused Errors) ∷ []) p.2))
  where
    either : (r : Result A B) → (by_result r (λ _. Flushed Errors) (Refused Errors) ≡ Flushed Errors) ⊎ (by_result r (λ _. Flushed Errors) (Refused Errors) ≡ Refused Errors)
    either (Ok x) = inl refl
    either (Err e) = inr refl

pub was_cut : {T P F K S L : Type 0} (o : Outside T P F K S L) (a b : T) (line : List ℕ) → AddsSome o a b (λ more. (n : ℕ) × (more ≡ Wrote Errors (take n line) ∷ Refused Errors ∷ [])) → AddsSome o a b (SaysProgress line)
was_cut o a b line p = (p.0, p.1, Cut p.2.0 p.2.1)

-- ---- files

-- how many bytes were read behind these files
abbrev pub counted_all : ℕ → List File → ℕ
counted_all before [] = before
counted_all before (f ∷ files) = counted_all (counted before (length f.bytes)) files

-- one more
counted_more : (before : ℕ) (files : List File) (f : File) → counted_all before (files ++ f ∷ []) ≡ counted (counted_all before files) (length f.bytes)
counted_more before [] f = refl
counted_more before (g ∷ files) f = counted_more (counted before (length g.bytes)) files f

turn_more : (disk : DiskFacts) (folder : List ℕ) (progress : Bool) (before : ℕ) (files : List File) (f : File) (first line : List Event) → IsAtItsPath disk folder f → MaySayProgress progress (counted_all before files) (counted (counted_all before files) (length f.bytes)) line → AreReadInTurn disk folder progress before files first
    → AreReadInTurn disk folder progress before (files ++ f ∷ []) (first ++ table_read folder f ∷ line)
turn_more disk folder progress before [] f first line at says is = (line, [], at, says, refl, ap (λ (e : List Event). e ++ table_read folder f ∷ line) is ∙ ap (λ (e : List Event). table_read folder f ∷ e) (sym (append-nil line)))
turn_more disk folder progress before (g ∷ files) f first line at says (line', rest, at', says', h, is) = (
  line',
  rest ++ table_read folder f ∷ line,
  at',
  says',
  turn_more disk folder progress (counted before (length g.bytes)) files f rest line at says h,
  ap (λ (e : List Event). e ++ table_read folder f ∷ line) is ∙ ap (λ (e : List Event). table_read folder g ∷ e) (append_assoc line' rest (table_read folder f ∷ line)),
)

-- the files of the first of these names were read in turn
pub record HasTurned {T P F K S L : Type 0} (o : Outside T P F K S L) (folder : List ℕ) (progress : Bool) (names : List (List ℕ)) (count : ℕ) (files : List File) (old new : T) : Type 0 where
  pub named : names_of files ≡ names
  pub is : count ≡ counted_all 0 files
  pub reads : AddsSome o old new (AreReadInTurn o.disk folder progress 0 files)

-- two results are the same value
ok_is : {A E : Type 0} {r : Result A E} (a b : A) → r ≡ Ok a → r ≡ Ok b → a ≡ b
ok_is a b p q = cc

abbrev name_of : File → List ℕ
name_of f = f.name

module _ {T P F K S L : Type 0} (o : Outside T P F K S L) (folder : List ℕ) (progress : Bool) where
  read_one : (a b c d : T) (names : List (List ℕ)) (name : List ℕ) (count : ℕ) (files : List File) (f : File) (more : List Event) → f.name ≡ name → IsAtItsPath o.disk folder f → more ≡ table_read folder f ∷ [] → Adds o b c more → AddsSome o c d (MaySayProgress progress count (counted count (length f.bytes))) → HasTurned o folder progress names count files a b
      → HasTurned o folder progress (names ++ name ∷ []) (counted count (length f.bytes)) (files ++ f ∷ []) a d
  read_one a b c d names name count files f more same at is p says h =
      let first = h.reads.0 in
      let line = says.0 in
      let told : MaySayProgress progress (counted_all 0 files) (counted (counted_all 0 files) (length f.bytes)) line = subst (λ (n : ℕ). MaySayProgress progress n (counted n (length f.bytes)) line) h.is says.2 in
      let read : Adds o b c (table_read folder f ∷ []) = subst (λ (e : List Event). Adds o b c e) is p in
      record {
        named = map-append name_of files (f ∷ []) ∙ ap (λ (ns : List (List ℕ)). ns ++ f.name ∷ []) h.named ∙ ap (λ (n : List ℕ). names ++ n ∷ []) same;
        is = ap (λ (n : ℕ). counted n (length f.bytes)) h.is ∙ sym (counted_more 0 files f);
        reads = (
          first ++ table_read folder f ∷ line,
          adds_more o a b d first (table_read folder f ∷ line) h.reads.1 (adds_more o b c d (table_read folder f ∷ []) line read says.1),
          turn_more o.disk folder progress 0 files f first line at told h.reads.2,
        );
      }

  read_more : (a b c d : T) (names : List (List ℕ)) (name : List ℕ) (count : ℕ) (files : List File) (f : File) → AddsSome o b c (ReadsTable o.disk folder name (Ok f)) → AddsSome o c d (MaySayProgress progress count (counted count (length f.bytes))) → HasTurned o folder progress names count files a b
      → HasTurned o folder progress (names ++ name ∷ []) (counted count (length f.bytes)) (files ++ f ∷ []) a d
  read_more a b c d names name count files f (more, p, reads.IsRead g named at is same) says h =
      let g_is : g ≡ f = ok_is g f same refl in
      read_one a b c d names name count files f more (subst (λ (x : File). x.name ≡ name) g_is named) (subst (IsAtItsPath o.disk folder) g_is at) (subst (λ (x : File). more ≡ table_read folder x ∷ []) g_is is) p says h
  read_more a b c d names name count files f (more, p, reads.NotRead fault cause is same) says h = absurd (cc)
  read_more a b c d names name count files f (more, p, reads.NoPath is same) says h = absurd (cc)

  -- the file of the name at the next place
  pub turned_next : (a b c d : T) (all : List (List ℕ)) (i : ℕ) (name : List ℕ) (count after : ℕ) (files : List File) (f : File) → i < length all → name ≡ get_or all i name → after ≡ counted count (length f.bytes) → AddsSome o b c (ReadsTable o.disk folder name (Ok f)) → AddsSome o c d (MaySayProgress progress count after) → HasTurned o folder progress (take i all) count files a b
      → HasTurned o folder progress (take (i + 1) all) after (files ++ f ∷ []) a d
  turned_next a b c d all i name count after files f lt is now read says h =
      let says' : AddsSome o c d (MaySayProgress progress count (counted count (length f.bytes))) = subst (λ (n : ℕ). AddsSome o c d (MaySayProgress progress count n)) now says in
      let more = read_more a b c d (take i all) name count files f read says' h in
      subst (λ (n : ℕ). HasTurned o folder progress (take (i + 1) all) n (files ++ f ∷ []) a d) (sym now) (subst (λ (ns : List (List ℕ)). HasTurned o folder progress ns (counted count (length f.bytes)) (files ++ f ∷ []) a d) (sym (name_more all i name lt is)) more)

  -- ---- looks

  module _ {X : Type 0} (IsMadeOf : X → File → Type 0) where
    pub record HasLooked (names : List (List ℕ)) (count : ℕ) (looks : List X) (old new : T) : Type 0 where
      pub files : List File
      pub turned : HasTurned o folder progress names count files old new
      pub made : AreMadeOf IsMadeOf looks files

    -- before any
    pub none_looked : (a : T) → AddsSome o a a (AreReadInTurn o.disk folder progress 0 []) → HasLooked [] 0 [] a a
    none_looked a p = record { files = []; turned = record { named = refl; is = refl; reads = p }; made = tt }

    pub looked_next : (a b c d : T) (all : List (List ℕ)) (i : ℕ) (name : List ℕ) (count after : ℕ) (looks more : List X) (look : X) (f : File) → i < length all → name ≡ get_or all i name → after ≡ counted count (length f.bytes) → more ≡ looks ++ look ∷ [] → IsMadeOf look f → AddsSome o b c (ReadsTable o.disk folder name (Ok f)) → AddsSome o c d (MaySayProgress progress count after) → HasLooked (take i all) count looks a b
        → HasLooked (take (i + 1) all) after more a d
    looked_next a b c d all i name count after looks more look f lt is now last made read says h = record {
      files = h.files ++ f ∷ [];
      turned = turned_next a b c d all i name count after h.files f lt is now read says h.turned;
      made = subst (λ (ls : List X). AreMadeOf IsMadeOf ls (h.files ++ f ∷ [])) (sym last) (made_more IsMadeOf looks h.files look f h.made made);
    }

    -- all of them
    pub looked_all : (a b : T) (all : List (List ℕ)) (names : List (List ℕ)) (count : ℕ) (looks : List X) → names ≡ all → HasLooked names count looks a b → AddsSome o a b (Looks IsMadeOf (ReadsInTurn o.disk folder progress all) (Ok looks))
    looked_all a b all names count looks is h = (
      h.turned.reads.0,
      h.turned.reads.1,
      record { files = Ok h.files; made = h.made; reads = AllInTurn h.files (h.turned.named ∙ is) h.turned.reads.2 refl },
    )

    -- up to one that isn't read
    pub looked_cut : (a b c : T) (all : List (List ℕ)) (i : ℕ) (name : List ℕ) (count : ℕ) (looks : List X) (fault : ReadFault) → i < length all → name ≡ get_or all i name → HasLooked (take i all) count looks a b → AddsSome o b c (ReadsTable o.disk folder name (Err fault))
        → AddsSome o a c (Looks IsMadeOf (ReadsInTurn o.disk folder progress all) (Err fault))
    looked_cut a b c all i name count looks fault lt is h q =
        let first = h.turned.reads.0 in
        let parted : all ≡ names_of h.files ++ name ∷ drop (suc i) all = names_parted all i name lt is ∙ ap (λ (ns : List (List ℕ)). ns ++ name ∷ drop (suc i) all) (sym h.turned.named) in (
          first ++ q.0,
          adds_more o a b c first q.0 h.turned.reads.1 q.1,
          record { files = Err fault; made = refl; reads = OneUnread h.files name (drop (suc i) all) first q.0 fault parted h.turned.reads.2 q.2 refl refl },
        )

    -- up to one of which nothing can be kept
    pub looked_full : (a b : T) (all : List (List ℕ)) (i : ℕ) (count : ℕ) (files : List File) → HasTurned o folder progress (take i all) count files a b → AddsSome o a b (Looks IsMadeOf (ReadsInTurn o.disk folder progress all) (Err OutOfMemory))
    looked_full a b all i count files h = (
      h.reads.0,
      h.reads.1,
      record {
        files = Err OutOfMemory;
        made = refl;
        reads = NoRoomForOne files (drop i all) (sym (take-append-drop i all) ∙ ap (λ (ns : List (List ℕ)). ns ++ drop i all) (sym h.named)) h.reads.2 refl;
      },
    )

    -- ---- the folder

    named_so : (names : List (List ℕ)) (files : List File) (events : List Event) → ReadsInTurn o.disk folder progress names (Ok files) events → names_of files ≡ names
    named_so names files events (AllInTurn others named reads same) = ap names_of (ok_is files others refl same) ∙ named
    named_so names files events (OneUnread before name after first last fault is reads unread all same) = absurd (cc)
    named_so names files events (NoRoomForOne before after is reads same) = absurd (cc)

    in_order : (manifest : Manifest) (wanted : List (List ℕ)) (listing reading : List Event) (files : Result (List File) ReadFault) → ListsTables o.disk folder manifest (Ok wanted) listing → ReadsInTurn o.disk folder progress wanted files reading → IfOk files AreFiles
    in_order manifest wanted listing reading (Ok files) lists reads = files_of_listing o.disk folder manifest wanted listing files (named_so wanted files reading reads) lists
    in_order manifest wanted listing reading (Err fault) lists reads = tt

    pub looks_then : (a b c : T) (manifest : Manifest) (wanted : List (List ℕ)) (r : Result (List X) ReadFault) → AddsSome o a b (ListsTables o.disk folder manifest (Ok wanted)) → AddsSome o b c (Looks IsMadeOf (ReadsInTurn o.disk folder progress wanted) r)
        → AddsSome o a c (LooksAt IsMadeOf (LooksInFolder o.disk folder manifest progress) r)
    looks_then a b c manifest wanted r p q = (
      p.0 ++ q.0,
      adds_more o a b c p.0 q.0 p.1 q.1,
      record {
        files = q.2.files;
        made = q.2.made;
        order = in_order manifest wanted p.0 q.0 q.2.files p.2 q.2.reads;
        reads = Both wanted p.0 q.0 p.2 q.2.reads refl;
      },
    )

    pub looks_alone : (a b : T) (manifest : Manifest) (fault : ReadFault) → AddsSome o a b (ListsTables o.disk folder manifest (Err fault)) → AddsSome o a b (LooksAt IsMadeOf (LooksInFolder o.disk folder manifest progress) (Err fault))
    looks_alone a b manifest fault p = (p.0, p.1, record { files = Err fault; made = refl; order = tt; reads = FirstAlone fault p.2 refl })
