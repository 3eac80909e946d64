-- Games that are told one after the other, and counted.
use Rattle.std.proofs.Common.{◌≡◌, ◌∙◌, ◌≤◌, ◌<◌, ◌+◌, ◌^◌, ◌++◌, ◌∷◌, [], ℕ, Bool, List, Option, Some, None, append_assoc, ap, arith, drop, get_or, length, refl, subst, suc, sym, take}
use Rattle.std.proofs.lemmas.List.{length-take-le, take_all}
use Rattle.std.specs.Prelude.{Result, Ok, Err, IfOk}
use Rattle.answer_parts.proofs.PrintLaws.{cut_behind, then_prints}
use Rattle.answer_parts.specs.Printing.{IsCutIn, Performs, Prints, printed}
use Rattle.answer_parts.specs.Reply.{status_if}
use Rattle.game_status.proofs.TellingLaws.{at_most, sums_more}
use Rattle.game_status.specs.Inside.Counting.{AddsMark, CanCountOneMore}
use Rattle.game_status.specs.Tellings.{are_well, is_apart, is_fault, is_ruled_mark, sums_of, sums_words}
use Rattle.game_status.specs.declared.status_lines.Look.{Look}
use Rattle.game_status.specs.declared.telling.GameTold.{GameTold}
use Rattle.game_status.specs.declared.telling.Mark.{Mark}
use Rattle.game_status.specs.declared.telling.Sums.{Sums}
use Rattle.line_teller.specs.ToldLines.{refused_memory}
use Rattle.system_io.specs.declared.output.WriteFault.{WriteFault}
use Rattle.timeline.proofs.EventLaws.{adds_more, adds_none}
use Rattle.timeline.specs.Events.{Event}
use Rattle.timeline.specs.Outsides.{AddsSome, Outside}
use Rattle.game_reports.proofs.EachLaws.{each_long, each_next, halved, parted}
use Rattle.game_reports.specs.Folders.{KnownFolders}
use Rattle.game_reports.specs.GameLines.{AllTold, FirstTold, IsTold, NextTold, NoRoomForGame, NoRoomForNext, NoRoomToRead, NoRoomToTell, TellsInTurn, TellsNext, TellsOf, TellsOne}
use Rattle.game_reports.specs.GameLooks.{ReadsLook}
use Rattle.game_reports.specs.Inside.Looking.{found_or_none}
use Rattle.game_reports.specs.Writing.{DoesEach}

-- ---- one game

module _ {T P F K S L : Type 0} (o : Outside T P F K S L) where
  pub is_told : (a b : T) (f : KnownFolders) (Tells : List ℕ → Look → GameTold → Type 0) (stamp : List ℕ) (l : Look) (t : GameTold) → Tells stamp l t → AddsSome o a b (ReadsLook o.disk f stamp (Some l)) → AddsSome o a b (TellsOf o.disk f Tells stamp (Some t))
  is_told a b f Tells stamp l t tells p = (p.0, p.1, IsTold l t p.2 tells refl)

  pub no_room_to_tell : (a b : T) (f : KnownFolders) (Tells : List ℕ → Look → GameTold → Type 0) (stamp : List ℕ) (l : Look) → AddsSome o a b (ReadsLook o.disk f stamp (Some l)) → AddsSome o a b (TellsOf o.disk f Tells stamp None)
  no_room_to_tell a b f Tells stamp l p = (p.0, p.1, NoRoomToTell l p.2 refl)

  pub no_room_to_read : (a b : T) (f : KnownFolders) (Tells : List ℕ → Look → GameTold → Type 0) (stamp : List ℕ) → AddsSome o a b (ReadsLook o.disk f stamp None) → AddsSome o a b (TellsOf o.disk f Tells stamp None)
  no_room_to_read a b f Tells stamp p = (p.0, p.1, NoRoomToRead p.2 refl)

  pub told_or_not : {E : Type 0} (a b : T) (f : KnownFolders) (Tells : List ℕ → Look → GameTold → Type 0) (stamp : List ℕ) (l : Look) (r : Result GameTold E) → IfOk r (Tells stamp l) → AddsSome o a b (ReadsLook o.disk f stamp (Some l)) → AddsSome o a b (TellsOf o.disk f Tells stamp (found_or_none r))
  told_or_not a b f Tells stamp l (Ok t) tells p = is_told a b f Tells stamp l t tells p
  told_or_not a b f Tells stamp l (Err e) tells p = no_room_to_tell a b f Tells stamp l p

-- ---- games in turn

some_same : {A : Type 0} (x y : A) → ◌≡◌ {A = Option A} (Some x) (Some y) → x ≡ y
some_same x y e = cc

-- the first ones are told, and counted
abbrev pub ToldSoFar : (List ℕ → Option GameTold → List Event → Type 0) → List (List ℕ) → Sums → List Event → Type 0
ToldSoFar Reads front s events = (told : List GameTold) × DoesEach (TellsOne Reads) front told events × (s ≡ sums_of told)

module _ {T P F K S L : Type 0} (o : Outside T P F K S L) (Reads : List ℕ → Option GameTold → List Event → Type 0) where
  -- the next one is written, or memory was refused for it
  pub next_told : (a b c : T) (stamp : List ℕ) (t : GameTold) (r : Result (Option Mark) WriteFault) → AddsSome o a b (Reads stamp (Some t)) → AddsSome o b c (Performs (Prints (t.words ∷ []) (Some t.mark)) r) → AddsSome o a c (Performs (TellsNext Reads stamp) r)
  next_told a b c stamp t r p q = then_prints o a b c p.0 (TellsNext Reads stamp) (t.words ∷ []) (Some t.mark) r (NextTold t (p.0, p.2, refl) refl) p.1 q

  pub no_room_for_next : (a b c : T) (stamp : List ℕ) (r : Result (Option Mark) WriteFault) → AddsSome o a b (Reads stamp None) → AddsSome o b c (Performs (Prints (refused_memory ∷ []) None) r) → AddsSome o a c (Performs (TellsNext Reads stamp) r)
  no_room_for_next a b c stamp r p q = then_prints o a b c p.0 (TellsNext Reads stamp) (refused_memory ∷ []) None r (NoRoomForNext p.0 p.2 refl refl) p.1 q

  pub none_told : (a : T) (s : Sums) → s ≡ sums_of [] → AddsSome o a a (ToldSoFar Reads [] s)
  none_told a s is = ([], adds_none o a, ([], refl, is))

  module _ (stamps : List (List ℕ)) (compares : Bool) where
    pub can_count : (a b : T) (i : ℕ) (s : Sums) → i < length stamps → length stamps < 2 ^ 63 → AddsSome o a b (ToldSoFar Reads (take i stamps) s) → CanCountOneMore s
    can_count a b i s within small (events, adds, (told, each, is)) =
        let long : length told ≡ i = each_long (TellsOne Reads) (take i stamps) told events each ∙ length-take-le i stamps (omega arith) in
        let ruled = at_most is_ruled_mark told in
        let faults = at_most is_fault told in
        let differ = at_most is_apart told in
        subst CanCountOneMore (sym is) (record { games = omega (arith, long); ruled = ruled; faults = faults; differ = differ })

    more_of : (i : ℕ) (stamp d : List ℕ) (told : List GameTold) (s t : Sums) (mark : Mark) (first last : List Event) → i < length stamps → stamp ≡ get_or stamps i d → DoesEach (TellsOne Reads) (take i stamps) told first → s ≡ sums_of told → TellsNext Reads stamp last (Some (Some mark)) → AddsMark s mark t
        → ToldSoFar Reads (take (i + 1) stamps) t (first ++ last)
    more_of i stamp d told s t mark first last within at each is (NextTold one reads same) adds =
        let marked : mark ≡ one.mark = some_same mark one.mark (some_same (Some mark) (Some one.mark) same) in (
          told ++ one ∷ [],
          each_next (TellsOne Reads) stamps i stamp d told one first last within at each reads,
          sums_more told one s t is (subst (λ (m : Mark). AddsMark s m t) marked adds),
        )
    more_of i stamp d told s t mark first last within at each is (NoRoomForNext reading reads all same) adds = absurd cc

    pub one_more : (a b c : T) (i : ℕ) (stamp d : List ℕ) (s t : Sums) (mark : Mark) → i < length stamps → stamp ≡ get_or stamps i d → AddsSome o a b (ToldSoFar Reads (take i stamps) s) → AddsSome o b c (Performs (TellsNext Reads stamp) (Ok (Some mark))) → AddsMark s mark t
        → AddsSome o a c (ToldSoFar Reads (take (i + 1) stamps) t)
    one_more a b c i stamp d s t mark within at (first, p, (told, each, is)) (last, q, next) adds = (first ++ last, adds_more o a b c first last p q, more_of i stamp d told s t mark first last within at each is next adds)

    -- memory was refused for the next one
    short_of : (i : ℕ) (stamp d : List ℕ) (told : List GameTold) (first last : List Event) → i < length stamps → stamp ≡ get_or stamps i d → DoesEach (TellsOne Reads) (take i stamps) told first → TellsNext Reads stamp last (Some None) → TellsInTurn Reads stamps compares (first ++ last) (Some 1)
    short_of i stamp d told first last within at each (NextTold one reads same) = absurd cc
    short_of i stamp d told first last within at each (NoRoomForNext reading reads all same) = NoRoomForGame (take i stamps) (drop (suc i) stamps) stamp told first reading (parted stamps i stamp d within at) each reads (ap (λ (e : List Event). first ++ e) all) refl

    pub stops : (a b c : T) (i : ℕ) (stamp d : List ℕ) (s : Sums) → i < length stamps → stamp ≡ get_or stamps i d → AddsSome o a b (ToldSoFar Reads (take i stamps) s) → AddsSome o b c (Performs (TellsNext Reads stamp) (Ok None)) → AddsSome o a c (Performs (TellsInTurn Reads stamps compares) (Ok 1))
    stops a b c i stamp d s within at (first, p, (told, each, is)) (last, q, next) = (first ++ last, adds_more o a b c first last p q, short_of i stamp d told first last within at each next)

    -- the line of the next one was refused
    front_of : (i : ℕ) (stamp d : List ℕ) (told : List GameTold) (first last : List Event) (is : Option (Option Mark)) → i < length stamps → stamp ≡ get_or stamps i d → DoesEach (TellsOne Reads) (take i stamps) told first → TellsNext Reads stamp last is → (status : Option ℕ) × TellsInTurn Reads stamps compares (first ++ last) status
    front_of i stamp d told first last is within at each (NextTold one reads same) = (None, FirstTold (take (i + 1) stamps) (drop (i + 1) stamps) (told ++ one ∷ []) (halved stamps (i + 1)) (each_next (TellsOne Reads) stamps i stamp d told one first last within at each reads) refl)
    front_of i stamp d told first last is within at each (NoRoomForNext reading reads all same) = (Some 1, short_of i stamp d told first last within at each (NoRoomForNext reading reads all refl))

    pub cuts : (a b c : T) (i : ℕ) (stamp d : List ℕ) (s : Sums) (fault : WriteFault) → i < length stamps → stamp ≡ get_or stamps i d → AddsSome o a b (ToldSoFar Reads (take i stamps) s) → AddsSome o b c (Performs (TellsNext Reads stamp) (Err fault)) → AddsSome o a c (Performs (TellsInTurn Reads stamps compares) (Err fault))
    cuts a b c i stamp d s fault within at (first, p, (told, each, is)) (last, q, (all, next_is, next, cut)) =
        let front = front_of i stamp d told first all next_is within at each next in
        (first ++ last, adds_more o a b c first last p q, (first ++ all, front.0, front.1, cut_behind first all last cut))

    -- all were told, and then their sums
    pub ends : (a b c : T) (i : ℕ) (s : Sums) (r : Result ℕ WriteFault) → length stamps ≤ i → AddsSome o a b (ToldSoFar Reads (take i stamps) s) → AddsSome o b c (Performs (Prints (sums_words compares s ∷ []) (status_if (are_well s))) r) → AddsSome o a c (Performs (TellsInTurn Reads stamps compares) r)
    ends a b c i s r whole (first, p, (told, each, is)) q =
        let all = subst (λ (front : List (List ℕ)). DoesEach (TellsOne Reads) front told first) (take_all i stamps whole) each in
        then_prints o a b c first (TellsInTurn Reads stamps compares) (sums_words compares s ∷ []) (status_if (are_well s)) r
        (AllTold told first all (ap (λ (x : Sums). first ++ printed (sums_words compares x ∷ [])) is) (ap (λ (x : Sums). Some (status_if (are_well x))) is))
        p q
