-- The games of a list, one after the other, and what a command does after what it read.
use Rattle.std.proofs.Common.{◌≡◌, ◌≢◌, ◌∙◌, ◌∷◌, ◌++◌, ◌+◌, ◌<◌, ◌≤◌, ◌⊎◌, [], ℕ, Bool, true, false, List, Option, Some, None, append-nil, append_assoc, ap, arith, inl, inr, length, refl, subst, sym}
use Rattle.std.specs.Prelude.{◌&&◌, Result, Ok, Err, IfOk, codes, option_map, take}
use Rattle.answer_parts.specs.Reply.{status_if}
use Rattle.answer_parts.specs.declared.answers.refusals.EntryFault.{EntryFault}
use Rattle.arbiter_server.specs.GameFiles.{GameContents, SpellsGame}
use Rattle.arbiter_server.specs.GameFolders.{game_path, game_stamp, kept_path}
use Rattle.board_core.specs.Position.{IsPosition}
use Rattle.board_core.specs.declared.parts.Parts.{Parts}
use Rattle.command_line.specs.declared.commands.enter.Enter.{Enter}
use Rattle.command_line.specs.declared.commands.enter.OneGame.{OneGame}
use Rattle.answer_commands.specs.Earlier.{NotesEarlier, NotesKnown}
use Rattle.answer_commands.specs.Enter.{ByManifest, ComesOf, Doing, EntersAll, EntersFrom, EntersGame, EntersLine, EntersLines, EntersList, EntersOne, FaultPut, FileAtFault, FromStart, GoesOn, IsEntered, IsFileFault, KeepsGame, LacksRoom, LineAtFault, ListRead, ListUnread, NewThere, NoRoomForPaths, OfFile, OfInput, OfLine, OfNoRoom, Pauses, Place, PutsGame, ReadsList, StampPut, Stamped, Stops, TellsOf, Unkept, Unstamped, WasThere, keep_fault_words, placed, told_entry, told_no_room}
use Rattle.answer_commands.specs.Entries.{IsFirstEntryFault, SpellsEntry}
use Rattle.answer_commands.specs.Inside.Entering.{EntersNext, IsStep}
use Rattle.answer_commands.specs.Keeping.{KeepsText}
use Rattle.answer_parts.specs.Printing.{ArePrinted, AtWrite, IsCutIn, Performs, Prints, printed}
use Rattle.answer_commands.specs.Stamping.{ReadsStamping}
use Rattle.answer_commands.specs.StoreReads.{AsksOnce, Known, Unasked}
use Rattle.answer_commands.specs.declared.entering.Step.{Step}
use Rattle.answer_commands.specs.declared.entering.Step.TheVariants as step
use Rattle.answer_commands.specs.declared.keeping.GameText.TheVariants.{Stood, Written}
use Rattle.answer_commands.specs.declared.keeping.KeepFault.{KeepFault}
use Rattle.answer_commands.specs.declared.keeping.KeepFault.TheVariants as keep
use Rattle.answer_parts.proofs.PrintLaws.{cut_behind, then_does, then_prints}
use Rattle.hex.specs.Hex.{encode_lower}
use Rattle.line_teller.specs.ToldLines.{LineTold, cut_words, refused_memory}
use Rattle.move_msg.specs.TextLines.{ended, lines_in}
use Rattle.move_msg.specs.declared.stamp.Stamp.{Stamp}
use Rattle.system_io.specs.declared.output.WriteFault.{WriteFault}
use Rattle.system_io.specs.declared.reading.ReadFault.{ReadFault}
use Rattle.timeline.proofs.EventLaws.{adds_more, adds_none}
use Rattle.timeline.specs.Events.{Event, Refused, Wrote}
use Rattle.timeline.specs.declared.stream.Stream.TheVariants.{Output}
use Rattle.task_files.specs.InputReads.{ReadsAllInput, ReadsText}
use Rattle.timeline.specs.Outsides.{Adds, AddsSome, Outside}

-- ---- a game

module _ {T P F K S L : Type 0} (o : Outside T P F K S L) where
  pub noted : (a b c : T) (folder path stamp : List ℕ) (before after : Known) → AddsSome o a b (AsksOnce o folder before after) → AddsSome o b c (NotesKnown o.disk path stamp after) → AddsSome o a c (NotesEarlier o folder path stamp before after)
  noted a b c folder path stamp before after p q = (p.0 ++ q.0, adds_more o a b c p.0 q.0 p.1 q.1, record { asking = p.0; noting = q.0; asks = p.2; notes = q.2; all = refl })

  pub was_there : (a b c : T) (p : Place) (stamp text game kept : List ℕ) (before after : Known) → game ≡ game_path p.games stamp → kept ≡ kept_path p.games stamp
      → AddsSome o a b (KeepsText o p.is_new game text (Ok Stood)) → AddsSome o b c (NotesEarlier o p.games kept stamp before after) → AddsSome o a c (KeepsGame o p stamp text before after (Ok tt))
  was_there a b c p stamp text game kept before after at beside k n = (
    k.0 ++ n.0,
    adds_more o a b c k.0 n.0 k.1 n.1,
    WasThere k.0 n.0 (subst (λ (x : List ℕ). KeepsText o p.is_new x text (Ok Stood) k.0) at k.2) (subst (λ (x : List ℕ). NotesEarlier o p.games x stamp before after n.0) beside n.2) refl refl,
  )

  pub new_there : (a b : T) (p : Place) (stamp text game : List ℕ) (known : Known) → game ≡ game_path p.games stamp → AddsSome o a b (KeepsText o p.is_new game text (Ok Written)) → AddsSome o a b (KeepsGame o p stamp text known known (Ok tt))
  new_there a b p stamp text game known at k = (k.0, k.1, NewThere (subst (λ (x : List ℕ). KeepsText o p.is_new x text (Ok Written) k.0) at k.2) refl refl)

  pub unkept : (a b : T) (p : Place) (stamp text game : List ℕ) (known : Known) (fault : KeepFault) → game ≡ game_path p.games stamp → AddsSome o a b (KeepsText o p.is_new game text (Err fault)) → AddsSome o a b (KeepsGame o p stamp text known known (Err fault))
  unkept a b p stamp text game known fault at k = (k.0, k.1, Unkept fault (subst (λ (x : List ℕ). KeepsText o p.is_new x text (Err fault) k.0) at k.2) refl refl)

  pub no_paths : (a : T) (p : Place) (stamp text : List ℕ) (known : Known) → AddsSome o a a (KeepsGame o p stamp text known known (Err keep.OutOfMemory))
  no_paths a p stamp text known = ([], adds_none o a, NoRoomForPaths refl refl refl)

  -- by its stamp
  pub entered_by : (a b : T) (p : Place) (g : GameContents) (stamp text : List ℕ) (before after : Known) (r : Result (Unit {0}) KeepFault) → stamp ≡ game_stamp g p.manifest → SpellsGame text g → AddsSome o a b (KeepsGame o p stamp text before after r) → AddsSome o a b (EntersGame o p g before after r)
  entered_by a b p g stamp text before after r is spells k = (k.0, k.1, record { text = text; spells = spells; keeps = subst (λ (x : List ℕ). KeepsGame o p x text before after r k.0) is k.2 })

  pub stamp_put : (a b c : T) (p : Place) (g : GameContents) (stamp : List ℕ) (after : Known) (r : Result ℕ WriteFault) → stamp ≡ game_stamp g p.manifest → AddsSome o a b (EntersGame o p g Unasked after (Ok tt)) → AddsSome o b c (Performs (Prints (encode_lower stamp ∷ []) 0) r) → AddsSome o a c (Performs (PutsGame o p g) r)
  stamp_put a b c p g stamp after r is k q =
      then_prints o a b c k.0 (PutsGame o p g) (encode_lower stamp ∷ []) 0 r (StampPut after k.0 k.2 (ap (λ (x : List ℕ). k.0 ++ printed (encode_lower x ∷ [])) is) refl) k.1 q

  pub fault_put : (a b c : T) (p : Place) (g : GameContents) (after : Known) (fault : KeepFault) (words : List ℕ) (r : Result ℕ WriteFault) → words ≡ keep_fault_words fault → AddsSome o a b (EntersGame o p g Unasked after (Err fault)) → AddsSome o b c (Performs (Prints (words ∷ []) 1) r) → AddsSome o a c (Performs (PutsGame o p g) r)
  fault_put a b c p g after fault words r is k q =
      then_prints o a b c k.0 (PutsGame o p g) (words ∷ []) 1 r (FaultPut after fault k.0 k.2 (ap (λ (x : List ℕ). k.0 ++ printed (x ∷ [])) is) refl) k.1 q

  -- ---- after what was read

  pub by_manifest : (a b c : T) (t : Enter) (Next : List ℕ → Doing) (manifest : List ℕ) (r : Result ℕ WriteFault) → AddsSome o a b (ReadsStamping o.disk (option_map (λ s. s.now) t.manifest) t.tables.now (Ok manifest)) → AddsSome o b c (Performs (Next manifest) r) → AddsSome o a c (Performs (ByManifest o.disk t Next) r)
  by_manifest a b c t Next manifest r p q = then_does o a b c p.0 (Next manifest) (ByManifest o.disk t Next) r (λ events status h. Stamped manifest p.0 events p.2 h refl) p.1 q

  pub no_manifest : (a b c : T) (t : Enter) (Next : List ℕ → Doing) (words : List ℕ) (r : Result ℕ WriteFault) → AddsSome o a b (ReadsStamping o.disk (option_map (λ s. s.now) t.manifest) t.tables.now (Err words)) → AddsSome o b c (Performs (Prints (words ∷ []) 1) r) → AddsSome o a c (Performs (ByManifest o.disk t Next) r)
  no_manifest a b c t Next words r p q = then_prints o a b c p.0 (ByManifest o.disk t Next) (words ∷ []) 1 r (Unstamped words p.0 p.2 refl refl) p.1 q

  pub list_read : (a b c : T) (t : Enter) (path text : List ℕ) (r : Result ℕ WriteFault) → AddsSome o a b (ReadsList o path (Ok text)) → AddsSome o b c (Performs (EntersList o t text) r) → AddsSome o a c (Performs (EntersFrom o t path) r)
  list_read a b c t path text r p q = then_does o a b c p.0 (EntersList o t text) (EntersFrom o t path) r (λ events status h. ListRead text p.0 events p.2 h refl) p.1 q

  pub list_unread : (a b c : T) (t : Enter) (path : List ℕ) (fault : ReadFault) (r : Result ℕ WriteFault) → AddsSome o a b (ReadsList o path (Err fault)) → AddsSome o b c (Performs (Prints (cut_words fault ∷ []) 1) r) → AddsSome o a c (Performs (EntersFrom o t path) r)
  list_unread a b c t path fault r p q = then_prints o a b c p.0 (EntersFrom o t path) (cut_words fault ∷ []) 1 r (ListUnread fault p.0 p.2 refl refl) p.1 q

  pub list_of_input : (a b : T) (path : List ℕ) (r : Result (List ℕ) ReadFault) → path ≡ codes "-" → AddsSome o a b (ReadsAllInput o.input r) → AddsSome o a b (ReadsList o path r)
  list_of_input a b path r is p = (p.0, p.1, OfInput is p.2)

  pub list_of_file : (a b : T) (path : List ℕ) (r : Result (List ℕ) ReadFault) → path ≢ codes "-" → AddsSome o a b (ReadsText o.disk path r) → AddsSome o a b (ReadsList o path r)
  list_of_file a b path r other p = (p.0, p.1, OfFile other p.2)

  -- words whose line was refused
  pub word_cut : (a b : T) (words : List ℕ) → AddsSome o a b (λ more. (n : ℕ) × (more ≡ Wrote Output (take n (ended words)) ∷ Refused Output ∷ [])) → AddsSome o a b (IsCutIn (printed (words ∷ [])))
  word_cut a b words q = (q.0, q.1, AtWrite [] (ended words) [] refl q.2.0 q.2.1)

-- ---- a line

module _ {T P F K S L : Type 0} (o : Outside T P F K S L) (p : Place) where
  pub line_entered : (a b : T) (line stamp : List ℕ) (g : GameContents) (before after : Known) → stamp ≡ game_stamp g p.manifest → SpellsEntry line g → AddsSome o a b (EntersGame o p g before after (Ok tt)) → AddsSome o a b (ComesOf o p line before after (Ok stamp))
  line_entered a b line stamp g before after is spells k = (k.0, k.1, IsEntered g spells k.2 (ap Ok is))

  pub file_at_fault : (a b : T) (line : List ℕ) (g : GameContents) (f is : KeepFault) (fault : EntryFault) (before after : Known) → f ≡ is → IsFileFault fault is → SpellsEntry line g → AddsSome o a b (EntersGame o p g before after (Err f)) → AddsSome o a b (ComesOf o p line before after (Err fault))
  file_at_fault a b line g f is fault before after same tells spells k = (k.0, k.1, FileAtFault g is fault spells (subst (λ (x : KeepFault). EntersGame o p g before after (Err x) k.0) same k.2) tells refl)

  pub line_at_fault : (a : T) (line : List ℕ) (fault : EntryFault) (known : Known) → IsFirstEntryFault line fault → AddsSome o a a (ComesOf o p line known known (Err fault))
  line_at_fault a line fault known first = ([], adds_none o a, LineAtFault fault first refl refl refl)

  pub no_room : (a b : T) (line : List ℕ) (g : GameContents) (f : KeepFault) (before after : Known) → f ≡ keep.OutOfMemory → SpellsEntry line g → AddsSome o a b (EntersGame o p g before after (Err f)) → AddsSome o a b (LacksRoom o p line before after)
  no_room a b line g f before after is spells k = (k.0, k.1, record { game = g; spells = spells; enters = subst (λ (x : KeepFault). EntersGame o p g before after (Err x) k.0) is k.2 })

  -- what is told of it
  told_so : (a b c : T) (number : ℕ) (line : List ℕ) (before after : Known) (t : LineTold) (is_last : Bool) (s : Step) (result : Result Step WriteFault) → AddsSome o a b (TellsOf o p number line before after t is_last) → IsStep t is_last s → AddsSome o b c (ArePrinted (t.words ∷ []) result) → IfOk result (λ x. x ≡ s)
      → AddsSome o a c (EntersNext o p number line before after result)
  told_so a b c number line before after t is_last s (Ok x) k step q is = (
    k.0 ++ q.0,
    adds_more o a b c k.0 q.0 k.1 q.1,
    (t, is_last, k.0, k.2, subst (IsStep t is_last) (sym is) step, ap (λ (e : List Event). k.0 ++ e) q.2),
  )
  told_so a b c number line before after t is_last s (Err fault) k step q is = (
    k.0 ++ q.0,
    adds_more o a b c k.0 q.0 k.1 q.1,
    (t, is_last, k.0, k.2, cut_behind k.0 (printed (t.words ∷ [])) q.0 q.2),
  )

  pub line_told : (a b c : T) (number : ℕ) (line words : List ℕ) (before after : Known) (r : Result Stamp EntryFault) (result : Result Step WriteFault) (s : Step) → words ≡ (told_entry number r).words → s ≡ step.Told (told_entry number r).done
      → AddsSome o a b (ComesOf o p line before after r) → AddsSome o b c (ArePrinted (words ∷ []) result) → IfOk result (λ x. x ≡ s) → AddsSome o a c (EntersNext o p number line before after result)
  line_told a b c number line words before after r result s same told k q is =
      told_so a b c number line before after (told_entry number r) false s result (k.0, k.1, OfLine r k.2 refl refl) (subst (IsStep (told_entry number r) false) (sym told) (refl, refl)) (subst (λ (w : List ℕ). AddsSome o b c (ArePrinted (w ∷ []) result)) same q) is

  pub no_room_told : (a b c : T) (number : ℕ) (line words : List ℕ) (before after : Known) (result : Result Step WriteFault) → words ≡ refused_memory
      → AddsSome o a b (LacksRoom o p line before after) → AddsSome o b c (ArePrinted (words ∷ []) result) → IfOk result (λ x. x ≡ step.Cut) → AddsSome o a c (EntersNext o p number line before after result)
  no_room_told a b c number line words before after result same k q is =
      told_so a b c number line before after told_no_room true step.Cut result (k.0, k.1, OfNoRoom k.2 refl refl) refl (subst (λ (w : List ℕ). AddsSome o b c (ArePrinted (w ∷ []) result)) same q) is

-- ---- lines

-- so many lines of a list are entered and told, and whatever comes of the rest comes of all of them then
pub record EnteredSoFar {T P F K S L : Type 0} (o : Outside T P F K S L) (p : Place) (all rest : List ℕ) (before : ℕ) (known : Known) (done : Bool) (events : List Event) : Type 0 where
  pub goes : (others : Option Bool) (later : List Event) → EntersLines o p (before + 1) (lines_in rest) known others later → EntersLines o p 1 (lines_in all) Unasked (option_map (λ d. done && d) others) (events ++ later)
  pub room : before + length rest ≤ length all

and_apart : (a b c : Bool) → (a && (b && c)) ≡ ((a && b) && c)
and_apart true b c = refl
and_apart false b c = refl

and_true : (a : Bool) → (a && true) ≡ a
and_true true = refl
and_true false = refl

and_false : (a : Bool) → (a && false) ≡ false
and_false true = refl
and_false false = refl

both_done : (a b : Bool) (others : Option Bool) → option_map (λ d. a && d) (option_map (λ d. b && d) others) ≡ option_map (λ d. (a && b) && d) others
both_done a b None = refl
both_done a b (Some d) = ap Some (and_apart a b d)

module _ {T P F K S L : Type 0} (o : Outside T P F K S L) (p : Place) where
  pauses : (number : ℕ) (lines : List (List ℕ)) (known : Known) → EntersLines o p number lines known None []
  pauses number [] known = (inr refl, refl)
  pauses number (line ∷ lines) known = Pauses refl refl

  begins : (all : List ℕ) (others : Option Bool) (later : List Event) → EntersLines o p 1 (lines_in all) Unasked others later → EntersLines o p 1 (lines_in all) Unasked (option_map (λ d. true && d) others) later
  begins all None later h = h
  begins all (Some d) later h = h

  pub entered_none : (a : T) (all : List ℕ) → AddsSome o a a (EnteredSoFar o p all all 0 Unasked true)
  entered_none a all = ([], adds_none o a, record { goes = begins all; room = omega arith })

  one_more : (all rest tail line : List ℕ) (before : ℕ) (known after : Known) (done : Bool) (t : LineTold) (events entering : List Event) → EnteredSoFar o p all rest before known done events → lines_in rest ≡ line ∷ lines_in tail → TellsOf o p (before + 1) line known after t false entering
      → (others : Option Bool) (later : List Event) → EntersLines o p (before + 1 + 1) (lines_in tail) after others later → EntersLines o p 1 (lines_in all) Unasked (option_map (λ d. (done && t.done) && d) others) ((events ++ (entering ++ printed (t.words ∷ []))) ++ later)
  one_more all rest tail line before known after done t events entering h cut tells others later k =
      let line_events : List Event = printed (t.words ∷ []) in
      let next : EntersLines o p (before + 1) (line ∷ lines_in tail) known (option_map (λ d. t.done && d) others) (entering ++ (line_events ++ later)) = GoesOn t after others entering later tells k refl refl in
      let whole = h.goes (option_map (λ d. t.done && d) others) (entering ++ (line_events ++ later)) (subst (λ (ls : List (List ℕ)). EntersLines o p (before + 1) ls known (option_map (λ d. t.done && d) others) (entering ++ (line_events ++ later))) (sym cut) next) in
      let apart : (events ++ (entering ++ line_events)) ++ later ≡ events ++ (entering ++ (line_events ++ later)) = append_assoc events (entering ++ line_events) later ∙ ap (λ (e : List Event). events ++ e) (append_assoc entering line_events later) in
      subst (λ (d : Option Bool). EntersLines o p 1 (lines_in all) Unasked d ((events ++ (entering ++ line_events)) ++ later)) (both_done done t.done others)
      (subst (λ (e : List Event). EntersLines o p 1 (lines_in all) Unasked (option_map (λ d. done && d) (option_map (λ d. t.done && d) others)) e) (sym apart) whole)

  -- one line more
  pub entered_more : (a b c : T) (all rest tail line : List ℕ) (before : ℕ) (known after : Known) (done is_entered both : Bool) → AddsSome o a b (EnteredSoFar o p all rest before known done) → lines_in rest ≡ line ∷ lines_in tail → length tail < length rest
      → AddsSome o b c (EntersNext o p (before + 1) line known after (Ok (step.Told is_entered))) → both ≡ (done && is_entered) → AddsSome o a c (EnteredSoFar o p all tail (before + 1) after both)
  entered_more a b c all rest tail line before known after done is_entered both h cut short (events, q, (t, is_last, entering, tells, (goes, same), all_is)) is = (
    h.0 ++ events,
    adds_more o a b c h.0 events h.1 q,
    subst (λ (d : Bool). EnteredSoFar o p all tail (before + 1) after d (h.0 ++ events)) (ap (λ (d : Bool). done && d) (sym same) ∙ sym is)
        (subst (λ (e : List Event). EnteredSoFar o p all tail (before + 1) after (done && t.done) (h.0 ++ e)) (sym all_is) (record {
          goes = one_more all rest tail line before known after done t h.0 entering h.2 cut (subst (λ (l : Bool). TellsOf o p (before + 1) line known after t l entering) goes tells);
          room = let r = h.2.room in omega arith;
        })),
  )

  -- no line is left
  pub entered_all : (a b : T) (all rest : List ℕ) (before status : ℕ) (known : Known) (done : Bool) → AddsSome o a b (EnteredSoFar o p all rest before known done) → lines_in rest ≡ [] → status ≡ status_if done → AddsSome o a b (Performs (EntersAll o p (lines_in all)) (Ok status))
  entered_all a b all rest before status known done h none is =
      let whole = h.2.goes (Some true) [] (subst (λ (ls : List (List ℕ)). EntersLines o p (before + 1) ls known (Some true) []) (sym none) (inl refl, refl)) in
      (h.0, h.1, (Some done, subst (λ (d : Bool). EntersLines o p 1 (lines_in all) Unasked (Some d) h.0) (and_true done) (subst (EntersLines o p 1 (lines_in all) Unasked (Some (done && true))) (append-nil h.0) whole), ap Some is))

  -- the last one that is told, for which memory was refused
  last_one : (all rest tail line : List ℕ) (before : ℕ) (known after : Known) (done : Bool) (t : LineTold) (events entering : List Event) → EnteredSoFar o p all rest before known done events → lines_in rest ≡ line ∷ lines_in tail → TellsOf o p (before + 1) line known after t true entering
      → EntersLines o p 1 (lines_in all) Unasked (Some (done && false)) (events ++ (entering ++ printed (t.words ∷ [])))
  last_one all rest tail line before known after done t events entering h cut tells =
      h.goes (Some false) (entering ++ printed (t.words ∷ [])) (subst (λ (ls : List (List ℕ)). EntersLines o p (before + 1) ls known (Some false) (entering ++ printed (t.words ∷ []))) (sym cut) (Stops t after entering tells refl refl))

  pub entered_cut : (a b c : T) (all rest tail line : List ℕ) (before : ℕ) (known after : Known) (done : Bool) → AddsSome o a b (EnteredSoFar o p all rest before known done) → lines_in rest ≡ line ∷ lines_in tail
      → AddsSome o b c (EntersNext o p (before + 1) line known after (Ok step.Cut)) → AddsSome o a c (Performs (EntersAll o p (lines_in all)) (Ok 1))
  entered_cut a b c all rest tail line before known after done h cut (events, q, (t, is_last, entering, tells, goes, all_is)) = (
    h.0 ++ events,
    adds_more o a b c h.0 events h.1 q,
    (
      Some (done && false),
      subst (λ (e : List Event). EntersLines o p 1 (lines_in all) Unasked (Some (done && false)) (h.0 ++ e)) (sym all_is) (last_one all rest tail line before known after done t h.0 entering h.2 cut (subst (λ (l : Bool). TellsOf o p (before + 1) line known after t l entering) goes tells)),
      ap (λ (d : Bool). Some (status_if d)) (sym (and_false done)),
    ),
  )

  -- the first ones, up to one that was told
  first_ones : (all rest tail line : List ℕ) (before : ℕ) (known after : Known) (done : Bool) (t : LineTold) (is_last : Bool) (events entering : List Event) → EnteredSoFar o p all rest before known done events → lines_in rest ≡ line ∷ lines_in tail → TellsOf o p (before + 1) line known after t is_last entering
      → (status : Option ℕ) × EntersAll o p (lines_in all) (events ++ (entering ++ printed (t.words ∷ []))) status
  first_ones all rest tail line before known after done t true events entering h cut tells =
      (Some (status_if (done && false)), (Some (done && false), last_one all rest tail line before known after done t events entering h cut tells, refl))
  first_ones all rest tail line before known after done t false events entering h cut tells =
      let next : EntersLines o p (before + 1) (line ∷ lines_in tail) known None (entering ++ printed (t.words ∷ [])) = GoesOn t after None entering [] tells (pauses (before + 1 + 1) (lines_in tail) after) refl refl in
      (None, (None, h.goes None (entering ++ printed (t.words ∷ [])) (subst (λ (ls : List (List ℕ)). EntersLines o p (before + 1) ls known None (entering ++ printed (t.words ∷ []))) (sym cut) next), refl))

  -- what is told of a line can't be written
  pub entered_front : (a b c : T) (all rest tail line : List ℕ) (before : ℕ) (known after : Known) (done : Bool) (fault : WriteFault) → AddsSome o a b (EnteredSoFar o p all rest before known done) → lines_in rest ≡ line ∷ lines_in tail
      → AddsSome o b c (EntersNext o p (before + 1) line known after (Err fault)) → AddsSome o a c (Performs (EntersAll o p (lines_in all)) (Err fault))
  entered_front a b c all rest tail line before known after done fault h cut (events, q, (t, is_last, entering, tells, front)) =
      let first = first_ones all rest tail line before known after done t is_last h.0 entering h.2 cut tells in
      (h.0 ++ events, adds_more o a b c h.0 events h.1 q, (h.0 ++ (entering ++ printed (t.words ∷ [])), first.0, first.1, cut_behind h.0 (entering ++ printed (t.words ∷ [])) events front))
