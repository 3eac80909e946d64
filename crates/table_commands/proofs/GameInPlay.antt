-- Games that are judged by the tables of a folder, each read when a ply asks for it, up to the first verdict.
use Rattle.std.proofs.Common.{◌≡◌, ◌∙◌, ap, refl, subst, sym, ℕ, ◌+◌, ◌<◌, ◌≤◌, List, [], length, take, get_or, Option, Some, None, Result, Ok, arith}
use Rattle.std.specs.Option.{option_and_then}
use Rattle.std.specs.declared.alloc.AllocError.{AllocError}
use Rattle.board_core.specs.declared.moves.Move.{Move}
use Rattle.board_core.specs.declared.parts.Parts.{Parts}
use Rattle.board_core.specs.declared.verdict.Verdict.{Verdict}
use Rattle.board_core.specs.ComputedMoves.{position_after}
use Rattle.game_teller.specs.Judges.{JudgesOn, StandsBy}
use Rattle.judge_core.specs.declared.game.GameOutcome.TheVariants.{Ruled, Illegal, Going}
use Rattle.judge_core.specs.Games.{IsOutcome, IsUnruled, Rules, position_after_all, verdict_after}
use Rattle.judge_core.specs.MoreTables.{HasAll}
use Rattle.judge_core.specs.Standings.{IsAt, Reached}
use Rattle.judge_core.specs.Tables.{Tables}
use Rattle.judge_core.proofs.Plies.{goes_on, starts}
use Rattle.judge_core.proofs.WholeGames.{is_first, is_going, is_illegal, one_on, still_none}
use Rattle.system_io.specs.Disks.{DiskFacts}
use Rattle.table_folder.specs.declared.fault.FileRefusal.{FileRefusal}
use Rattle.table_folder.specs.Folders.{AreOf, Folder}
use Rattle.table_folder.specs.Laws.{PositionsInPlayArePlayed}
use Rattle.table_folder.specs.Settled.{AddsOnlyMissed, AreSettled, IsAlone, IsInPlayBy, IsPly, IsRefusedAt, IsRefusedFor}
use Rattle.table_folder.proofs.Only.{adds_more, adds_wider}
use Rattle.table_folder.proofs.Reading.{opens_more, passes_both}
use Rattle.table_folder.specs.Reads.{OpensTables, PassesSome}
use Rattle.timeline.specs.Events.{Event}
use Rattle.table_commands.specs.Courses.{GameAsked, in_play_of}
use Rattle.table_commands.specs.Follow.{by_folder}
use Rattle.table_commands.specs.FolderReads.{OpensMissed}

abbrev pub rules_of : Parts → Tables → ℕ → Rules
rules_of start tables delay = record { start = start; tables = tables; delay = delay }

-- by these tables of the folder, and by all of it that have more, a game stands so at a ply, before which no ply has a verdict
pub record IsJudgedTo (disk : DiskFacts) (folder : Folder) (tables : Tables) (start : Parts) (moves : List Move) (delay ply : ℕ) (s : Reached) : Type 0 where
  pub opened : AreOf disk folder tables
  pub stands : StandsBy (by_folder disk folder tables) start (take ply moves) s
  pub unruled : (more : Tables) → AreOf disk folder more → HasAll tables more → IsUnruled (rules_of start more delay) moves ply

-- a verdict stands there by this delay, or none
abbrev IsVerdictAt : ℕ → Reached → Option Verdict → Type 0
IsVerdictAt delay s verdict = (rules : Rules) (moves : List Move) → rules.delay ≡ delay → IsAt rules moves s → verdict ≡ verdict_after rules moves

pub begins_at : (disk : DiskFacts) (folder : Folder) (tables : Tables) (start : Parts) (moves : List Move) (delay : ℕ) (s : Reached) → AreOf disk folder tables → StandsBy (by_folder disk folder tables) start [] s → IsJudgedTo disk folder tables start moves delay 0 s
begins_at disk folder tables start moves delay s opened stands = record { opened = opened; stands = stands; unruled = λ more are has j lt. absurd (omega (arith, lt)) }

pub start_refused : (disk : DiskFacts) (folder : Folder) (tables : Tables) (start : Parts) (moves : List Move) (delay : ℕ) (refusal : FileRefusal) → AreOf disk folder tables → IsRefusedAt disk folder start refusal → IsRefusedFor disk folder (IsInPlayBy start moves delay) refusal
start_refused disk folder tables start moves delay refusal opened refused = record {
  position = start;
  tables = tables;
  opened = opened;
  needed = λ more are has. record { ply = 0; at = starts start; unruled = λ j lt. absurd (omega (arith, lt)) };
  refused = refused;
}

module _ {disk : DiskFacts} {folder : Folder} {tables : Tables} {start : Parts} {moves : List Move} {delay ply : ℕ} {s : Reached} (to : IsJudgedTo disk folder tables start moves delay ply s) where
  at_more : (more : Tables) → AreOf disk folder more → HasAll tables more → IsAt (rules_of start more delay) (take ply moves) s
  at_more more are has = to.stands.at (rules_of start more delay) refl (are, has)

  all : HasAll tables tables
  all kind key t there = there

  at : IsAt (rules_of start tables delay) (take ply moves) s
  at = at_more tables to.opened all

  before : IsUnruled (rules_of start tables delay) moves ply
  before = to.unruled tables to.opened all

  pub ruled : PositionsInPlayArePlayed → (v : Verdict) → ply ≤ length moves → IsVerdictAt delay s (Some v) → AreSettled folder tables (IsInPlayBy start moves delay) × IsOutcome (rules_of start tables delay) moves (Ruled ply v)
  ruled played v le verdict =
      let is = is_first (rules_of start tables delay) moves ply s at before v le (sym (verdict (rules_of start tables delay) (take ply moves) refl at)) in
      ((λ p play. to.stands.stands.0 p (played (rules_of start tables delay) moves (Ruled ply v) p is play)), is)

  none_at : (more : Tables) → AreOf disk folder more → HasAll tables more → IsVerdictAt delay s None → verdict_after (rules_of start more delay) (take ply moves) ≡ None
  none_at more are has verdict = sym (verdict (rules_of start more delay) (take ply moves) refl (at_more more are has))

  pub illegal : PositionsInPlayArePlayed → (m : Move) → ply < length moves → IsVerdictAt delay s None → m ≡ get_or moves ply m → position_after s.position m ≡ None → AreSettled folder tables (IsInPlayBy start moves delay) × IsOutcome (rules_of start tables delay) moves (Illegal ply)
  illegal played m lt verdict at_ply plays =
      let is = is_illegal (rules_of start tables delay) moves ply s at before m lt (none_at tables to.opened all verdict) at_ply plays in
      ((λ p play. to.stands.stands.0 p (played (rules_of start tables delay) moves (Illegal ply) p is play)), is)

  pub going : PositionsInPlayArePlayed → ply ≡ length moves → IsVerdictAt delay s None → AreSettled folder tables (IsInPlayBy start moves delay) × IsOutcome (rules_of start tables delay) moves Going
  going played end verdict =
      let is = is_going (rules_of start tables delay) moves ply s at before end (none_at tables to.opened all verdict) in
      ((λ p play. to.stands.stands.0 p (subst (λ n. IsPly start (take n moves) p) (sym end) (played (rules_of start tables delay) moves Going p is play))), is)

  -- one legal move later
  pub one_later : (new : Tables) (m : Move) (q : Parts) (t : Reached) → ply < length moves → IsVerdictAt delay s None → m ≡ get_or moves ply m → position_after s.position m ≡ Some q → AreOf disk folder new → HasAll tables new → JudgesOn (by_folder disk folder tables) (by_folder disk folder new) s q t → IsJudgedTo disk folder new start moves delay (ply + 1) t
  one_later new m q t lt verdict at_ply plays opened kept on = record {
    opened = opened;
    stands = subst (λ ms. StandsBy (by_folder disk folder new) start ms t) (one_on (rules_of start tables delay) moves ply s at before m lt at_ply) (on start (take ply moves) m to.stands.stands plays);
    unruled = λ more are has.
        let more_has : HasAll tables more = λ kind key u there. has kind key u (kept kind key u there) in
        still_none (rules_of start more delay) moves ply s (at_more more are more_has) (to.unruled more are more_has) (none_at more are more_has verdict);
  }

  pub refused_later : (m : Move) (q : Parts) (refusal : FileRefusal) → ply < length moves → IsVerdictAt delay s None → m ≡ get_or moves ply m → position_after s.position m ≡ Some q → IsRefusedAt disk folder q refusal → IsRefusedFor disk folder (IsInPlayBy start moves delay) refusal
  refused_later m q refusal lt verdict at_ply plays refused = record {
    position = q;
    tables = tables;
    opened = to.opened;
    needed = λ more are has. record {
      ply = ply + 1;
      at = ap (position_after_all start) (sym (one_on (rules_of start tables delay) moves ply s at before m lt at_ply)) ∙ goes_on start (take ply moves) m ∙ ap (option_and_then (λ p. position_after p m)) at.position ∙ plays;
      unruled = still_none (rules_of start more delay) moves ply s (at_more more are has) (to.unruled more are has) (none_at more are has verdict);
    };
    refused = refused;
  }

  -- what is opened for the ply that a legal move leads to is missed at a position in play
  pub only_later : (new : Tables) (m : Move) (q : Parts) → ply < length moves → IsVerdictAt delay s None → m ≡ get_or moves ply m → position_after s.position m ≡ Some q → AddsOnlyMissed disk folder (IsAlone q) tables new → AddsOnlyMissed disk folder (IsInPlayBy start moves delay) tables new
  only_later new m q lt verdict at_ply plays only =
      adds_wider tables new (λ more p are has here. record {
        ply = ply + 1;
        at = ap (position_after_all start) (sym (one_on (rules_of start tables delay) moves ply s at before m lt at_ply)) ∙ goes_on start (take ply moves) m ∙ ap (option_and_then (λ p. position_after p m)) at.position ∙ plays ∙ ap Some (sym here);
        unruled = still_none (rules_of start more delay) moves ply s (at_more more are has) (to.unruled more are has) (none_at more are has verdict);
      }) only

-- what is opened for the start is
pub only_first : {disk : DiskFacts} {folder : Folder} (old new : Tables) (start : Parts) (moves : List Move) (delay : ℕ) → AddsOnlyMissed disk folder (IsAlone start) old new → AddsOnlyMissed disk folder (IsInPlayBy start moves delay) old new
only_first old new start moves delay only = adds_wider old new (λ more p are has here. record { ply = 0; at = starts start ∙ ap Some (sym here); unruled = λ j lt. absurd (omega (arith, lt)) }) only

-- ---- a game so far

-- a game stands so at a ply, and so much was opened and read for it
pub record HasJudged (disk : DiskFacts) (folder : Folder) (old tables : Tables) (g : GameAsked) (ply : ℕ) (s : Reached) (a b : Option (List Event)) : Type 0 where
  pub to : IsJudgedTo disk folder tables g.start g.moves g.delay ply s
  pub kept : HasAll old tables
  pub only : AddsOnlyMissed disk folder (in_play_of g) old tables
  pub reads : PassesSome a b (OpensTables disk folder old tables (Ok None))

module _ (disk : DiskFacts) (folder : Folder) (g : GameAsked) where
  -- it begins
  pub has_begun : (old tables : Tables) (s : Reached) (a b : Option (List Event)) → AreOf disk folder tables → HasAll old tables → StandsBy (by_folder disk folder tables) g.start [] s → PassesSome a b (OpensMissed disk folder (IsAlone g.start) old tables (Ok None)) → HasJudged disk folder old tables g 0 s a b
  has_begun old tables s a b opened kept stands q = record {
    to = begins_at disk folder tables g.start g.moves g.delay s opened stands;
    kept = kept;
    only = only_first old tables g.start g.moves g.delay q.2.only;
    reads = (q.0, q.1, q.2.reads);
  }

  -- what is opened for it isn't of use
  pub begins_for_none : (old tables : Tables) (refused : Result (Option FileRefusal) AllocError) (a b : Option (List Event)) → PassesSome a b (OpensMissed disk folder (IsAlone g.start) old tables refused) → PassesSome a b (OpensMissed disk folder (in_play_of g) old tables refused)
  begins_for_none old tables refused a b q = (q.0, q.1, record { only = only_first old tables g.start g.moves g.delay q.2.only; reads = q.2.reads })

  module _ (old tables : Tables) (ply : ℕ) (s : Reached) (a b : Option (List Event)) (h : HasJudged disk folder old tables g ply s a b) where
    -- the end
    pub reads_all : PassesSome a b (OpensMissed disk folder (in_play_of g) old tables (Ok None))
    reads_all = (h.reads.0, h.reads.1, record { only = h.only; reads = h.reads.2 })

    module _ (new : Tables) (m : Move) (q : Parts) (c : Option (List Event)) (lt : ply < length g.moves) (verdict : IsVerdictAt g.delay s None) (at_ply : m ≡ get_or g.moves ply m) (plays : position_after s.position m ≡ Some q) where
      -- more is read for the next ply
      pub reads_more : (refused : Result (Option FileRefusal) AllocError) → PassesSome b c (OpensMissed disk folder (IsAlone q) tables new refused) → PassesSome a c (OpensMissed disk folder (in_play_of g) old new refused)
      reads_more refused p =
          passes_both a b c (OpensTables disk folder old tables (Ok None)) (OpensMissed disk folder (IsAlone q) tables new refused) (OpensMissed disk folder (in_play_of g) old new refused)
          (λ x y first then. record {
            only = adds_more old tables new h.kept h.only (only_later h.to new m q lt verdict at_ply plays then.only);
            reads = opens_more disk folder old tables new refused x y first then.reads;
          }) h.reads p

      pub has_gone_on : (t : Reached) → AreOf disk folder new → HasAll tables new → JudgesOn (by_folder disk folder tables) (by_folder disk folder new) s q t → PassesSome b c (OpensMissed disk folder (IsAlone q) tables new (Ok None)) → HasJudged disk folder old new g (ply + 1) t a c
      has_gone_on t opened kept on p =
          let more = reads_more (Ok None) p in record {
            to = one_later h.to new m q t lt verdict at_ply plays opened kept on;
            kept = λ kind key u there. kept kind key u (h.kept kind key u there);
            only = more.2.only;
            reads = (more.0, more.1, more.2.reads);
          }
