-- Games that are followed by the tables of a folder, each read when a ply asks for it.
use Rattle.std.proofs.Common.{◌≡◌, ◌⊎◌, ◌∙◌, ap, inl, inr, refl, subst, sym, ℕ, List, [], ◌∷◌, ◌++◌, Option, Some, None}
use Rattle.std.specs.Prelude.{IsErr, Result, Ok, Err}
use Rattle.std.specs.declared.alloc.AllocError.{AllocError}
use Rattle.std.specs.List.{fold}
use Rattle.std.specs.Option.{option_and_then}
use Rattle.board_core.specs.declared.moves.Move.{Move}
use Rattle.board_core.specs.declared.parts.Parts.{Parts}
use Rattle.board_core.specs.ComputedMoves.{position_after}
use Rattle.game_teller.specs.Judges.{IsLater, JudgesOn, StandsBy}
use Rattle.judge_core.specs.Games.{Rules, position_after_all}
use Rattle.judge_core.specs.MoreTables.{HasAll}
use Rattle.judge_core.specs.Standings.{IsAt, Reached}
use Rattle.judge_core.specs.Tables.{Tables}
use Rattle.line_teller.specs.ToldLines.{refused_memory}
use Rattle.move_msg.specs.declared.told.Manifest.{Manifest}
use Rattle.system_io.specs.Disks.{DiskFacts}
use Rattle.system_io.specs.Inputs.{InputFacts}
use Rattle.system_io.specs.declared.output.WriteFault.{WriteFault}
use Rattle.table_folder.proofs.Reading.{opens_for_err, opens_till, passes_so}
use Rattle.table_folder.specs.Folders.{AreOf, Folder}
use Rattle.table_folder.specs.Laws.{SettledGamesStay}
use Rattle.table_folder.specs.Reads.{OpensTables, PassesSome, refusal_of}
use Rattle.table_folder.specs.Settled.{AddsOnlyMissed, AreSettled, IsAlone, IsPly, IsSettled}
use Rattle.table_folder.specs.declared.fault.FileRefusal.{FileRefusal}
use Rattle.timeline.specs.Events.{Event}
use Rattle.timeline.specs.Outsides.{AddsSome, Outside}
use Rattle.answer_parts.proofs.PrintLaws.{then_does, then_prints}
use Rattle.answer_parts.specs.Lines.{refusal_words}
use Rattle.answer_parts.specs.Printing.{Performs, Prints}
use Rattle.answer_parts.specs.declared.answers.refusals.Refusal.{Refusal}
use Rattle.game_teller.specs.declared.following.FollowedGame.{FollowedGame}
use Rattle.table_commands.specs.FolderReads.{OpensAt, OpensMissed}
use Rattle.table_commands.specs.Follow.{FollowsInFolder, FollowsOpened, InFolder, NoRoomToOpen, NotOpened, by_folder}

-- ---- where a game stands

-- a ply of the moves, or the one after a move more
last_ply : (start : Parts) (moves : List Move) (m : Move) (r q p : Parts) → position_after_all start moves ≡ Some r → position_after r m ≡ Some q → IsPly start (moves ++ m ∷ []) p → IsPly start moves p ⊎ (p ≡ q)
unfolding position_after_all
last_ply start [] m r q p there plays (inl here) = inl here
last_ply start [] m r q p there plays (inr (next, on, is)) =
    let same : start ≡ r = cc in
    let one = sym on ∙ ap (λ s. position_after s m) same ∙ plays in
    let last : next ≡ q = cc in
    inr (is ∙ last)
last_ply start (n ∷ moves) m r q p there plays (inl here) = inl (inl here)
last_ply start (n ∷ moves) m r q p there plays (inr (next, on, ply)) =
    let after = subst (λ o. fold (λ position m. option_and_then (λ p. position_after p m) position) o moves ≡ Some r) on there in
    elim (last_ply next moves m r q p after plays ply) [
      | inl before ↦ inl (inr (next, on, before))
      | inr is ↦ inr is
    ]

module _ (disk : DiskFacts) (stay : SettledGamesStay disk) (folder : Folder) where
  -- where no table is missing at a ply, a game stands so by whatever more tables come
  stands_by : (tables : Tables) (start : Parts) (moves : List Move) (s : Reached) → AreOf disk folder tables → AreSettled folder tables (λ _. IsPly start moves) → ((delay : ℕ) → IsAt (record { start = start; tables = tables; delay = delay }) moves s) → StandsBy (by_folder disk folder tables) start moves s
  stands_by tables start moves s opened settled at = record {
    there = (opened, λ kind key t has. has);
    stands = (settled, at);
    at = λ rules from by.
        let alike = (stay folder tables rules.tables start moves opened by.0 by.1 settled).0 rules.delay in
        subst (λ p. IsAt (record { start = p; tables = rules.tables; delay = rules.delay }) moves s) (sym from) (alike.standing s (at rules.delay));
  }

  pub begun_in : (mid new : Tables) (start : Parts) (s : Reached) → new ≡ mid → AreOf disk folder mid → IsSettled folder mid start → ((rules : Rules) → rules.start ≡ start → rules.tables ≡ mid → IsAt rules [] s) → StandsBy (by_folder disk folder new) start [] s
  begun_in mid new start s same opened settled at =
      let stands = stands_by mid start [] s opened (λ p here. subst (IsSettled folder mid) (sym here) settled) (λ delay. at (record { start = start; tables = mid; delay = delay }) refl refl) in
      subst (λ tables. StandsBy (by_folder disk folder tables) start [] s) (sym same) stands

  pub on_in : (old mid new : Tables) (s : Reached) (q : Parts) (t : Reached) → new ≡ mid → AreOf disk folder old → AreOf disk folder mid → HasAll old mid → IsSettled folder mid q → ((rules : Rules) (moves : List Move) (m : Move) → rules.tables ≡ mid → IsAt rules moves s → position_after s.position m ≡ Some q → IsAt rules (moves ++ m ∷ []) t)
      → JudgesOn (by_folder disk folder old) (by_folder disk folder new) s q t
  on_in old mid new s q t same before opened kept settled on start moves m stood legal =
      let alike = stay folder old mid start moves before opened kept stood.0 in
      let at : (delay : ℕ) → IsAt (record { start = start; tables = mid; delay = delay }) (moves ++ m ∷ []) t = λ delay. on (record { start = start; tables = mid; delay = delay }) moves m refl ((alike.0 delay).standing s (stood.1 delay)) legal in
      let plies : AreSettled folder mid (λ _. IsPly start (moves ++ m ∷ [])) = λ p ply. elim (last_ply start moves m s.position q p (stood.1 0).position legal ply) [
        | inl one ↦ alike.1 p one
        | inr is ↦ subst (IsSettled folder mid) (sym is) settled
      ] in
      subst (λ tables. StandsBy (by_folder disk folder tables) start (moves ++ m ∷ []) t) (sym same) (stands_by mid start (moves ++ m ∷ []) t opened plies at)

-- ---- a judge that has read more

pub later_in : (disk : DiskFacts) (folder : Folder) (old mid new : Tables) → new ≡ mid → AreOf disk folder mid → HasAll old mid → IsLater (by_folder disk folder old) (by_folder disk folder new)
later_in disk folder old mid new same opened kept = subst (λ tables. IsLater (by_folder disk folder old) (by_folder disk folder tables)) (sym same) (record {
  kept = kept;
  is_by = λ tables h. (h.0, λ kind key t has. h.1 kind key t (kept kind key t has));
  back = λ tables h more. (h.0, more);
  reads = λ old new p refused events h. h;
  takes_memory = λ p h. h;
  refuses = λ p refusal h. h;
})

-- ---- what is read for a ply

module _ (disk : DiskFacts) (folder : Folder) (p : Parts) (old mid : Tables) (a b : Option (List Event)) (only : AddsOnlyMissed disk folder (IsAlone p) old mid) where
  pub missed_so : (new : Tables) (r : Result (Option FileRefusal) AllocError) → new ≡ mid → PassesSome a b (OpensTables disk folder old mid r) → PassesSome a b (OpensMissed disk folder (IsAlone p) old new r)
  missed_so new r same q = subst (λ tables. PassesSome a b (OpensMissed disk folder (IsAlone p) old tables r)) (sym same) (passes_so a b _ _ (λ events reads. record { only = only; reads = reads }) q)

  -- memory was refused after that
  pub missed_till : (new : Tables) (e : AllocError) → new ≡ mid → PassesSome a b (OpensTables disk folder old mid (Ok None)) → PassesSome a b (OpensMissed disk folder (IsAlone p) old new (Err e))
  missed_till new e same q = missed_so new (Err e) same (passes_so a b _ _ (opens_till disk folder old mid e) q)

  -- memory was refused, for whatever was asked
  pub missed_err : {X : Type 0} (r : Result (Result X FileRefusal) AllocError) (e : AllocError) → IsErr r → PassesSome a b (OpensTables disk folder old mid (Err e)) → PassesSome a b (OpensMissed disk folder (IsAlone p) old mid (refusal_of r))
  missed_err r e is q = missed_so mid (refusal_of r) refl (opens_for_err disk folder old mid r e a b is q)

-- ---- what is done in a folder

module _ {T P F K S L : Type 0} (o : Outside T P F K S L) (path : List ℕ) (manifest : Manifest) (game : FollowedGame) (a b c : T) (r : Result ℕ WriteFault) where
  pub in_folder : (folder : Folder) → AddsSome o a b (OpensAt o.disk path manifest (Ok (Ok folder))) → AddsSome o b c (Performs (FollowsOpened o.disk o.input folder game) r) → AddsSome o a c (Performs (FollowsInFolder o.disk o.input path manifest game) r)
  in_folder folder p q = then_does o a b c p.0 (FollowsOpened o.disk o.input folder game) (FollowsInFolder o.disk o.input path manifest game) r (λ events status h. InFolder folder p.0 events p.2 h refl) p.1 q

  pub not_opened : (refused : Refusal) → AddsSome o a b (OpensAt o.disk path manifest (Ok (Err refused))) → AddsSome o b c (Performs (Prints (refusal_words refused ∷ []) 1) r) → AddsSome o a c (Performs (FollowsInFolder o.disk o.input path manifest game) r)
  not_opened refused p q = then_prints o a b c p.0 (FollowsInFolder o.disk o.input path manifest game) (refusal_words refused ∷ []) 1 r (NotOpened refused p.0 p.2 refl refl) p.1 q

  pub no_room_to_open : (e : AllocError) → AddsSome o a b (OpensAt o.disk path manifest (Err e)) → AddsSome o b c (Performs (Prints (refused_memory ∷ []) 1) r) → AddsSome o a c (Performs (FollowsInFolder o.disk o.input path manifest game) r)
  no_room_to_open e p q = then_prints o a b c p.0 (FollowsInFolder o.disk o.input path manifest game) (refused_memory ∷ []) 1 r (NoRoomToOpen e p.0 p.2 refl refl) p.1 q

-- ---- the system from which a judge reads

pub over_system : {A T P F K S L : Type 0} (outside : A → Outside T P F K S L) (s t : A) (a b : T) (Made : List Event → Type 0) → s ≡ t → AddsSome (outside s) a b Made → AddsSome (outside t) a b Made
over_system outside s t a b Made same p = subst (λ x. AddsSome (outside x) a b Made) same p
