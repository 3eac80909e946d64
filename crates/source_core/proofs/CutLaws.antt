-- A run of which a line was lost, as a front of one that goes on; and a run over other lines.
use Rattle.std.proofs.Common.{◌≡◌, ◌∙◌, ◌+◌, ◌++◌, ◌∷◌, [], ℕ, List, Option, Some, None, ap, append-nil, append_assoc, length, refl, subst, sym}
use Rattle.std.specs.Prelude.{Result, Ok, Err}
use Rattle.std.proofs.lemmas.List.Elements.{Contains-append_left}
use Rattle.board_core.specs.declared.moves.Move.{Move as Moves}
use Rattle.board_core.specs.declared.parts.Parts.{Parts}
use Rattle.move_msg.specs.declared.stamp.Stamp.{Stamp}
use Rattle.system_io.specs.declared.output.WriteFault.{WriteFault}
use Rattle.system_io.specs.declared.reading.ReadFault.{ReadFault}
use Rattle.timeline.specs.Events.{Event, Sent}
use Rattle.source_core.specs.Lines.{acked_words, end_words, ended_by}
use Rattle.source_core.specs.Runs.{LineGoesOut, OnlySends, RunsTo, SendsFirst, SendsGame, SendsOn, SourceTerms, ToItsEnd, ToLostLine, gone_out, read_and_sent, run_from}
use Rattle.source_core.specs.declared.lines.Ended.{Ended}
use Rattle.source_core.proofs.CourseLaws.{only_out, turns_more}
use Rattle.source_core.proofs.RunLaws.{still_ends}

-- a line was lost behind some events, with which and whose line these would be so
pub record IsLostBehind (Does : List Event → Option Ended → Type 0) (fault : WriteFault) (events : List Event) : Type 0 where
  pub before : List Event
  pub words : List ℕ
  pub out : List Event
  pub is : Option Ended
  pub does : Does (before ++ gone_out words) is
  pub lost : LineGoesOut {X = Ended} words (Err fault) out
  pub all : events ≡ before ++ out

-- what is sent of a front
only_front : (stamp : Stamp) (moves : List Moves) (xs ys : List Event) → OnlySends stamp moves (xs ++ ys) → OnlySends stamp moves xs
only_front stamp moves xs ys h to bytes in' = h to bytes (Contains-append_left xs ys (Sent to bytes) in')

-- with the line in its place
only_whole : (stamp : Stamp) (moves : List Moves) (before out : List Event) (words : List ℕ) → OnlySends stamp moves (before ++ out) → OnlySends stamp moves (before ++ gone_out words)
only_whole stamp moves before out words h = only_out {X = Unit {0}} stamp moves before [] words (Ok tt) (gone_out words) refl (subst (OnlySends stamp moves) (sym (append-nil before)) (only_front stamp moves before out h))

lost_in : (cause : ReadFault → Type 0) (g : SourceTerms) (start : Parts) (input : Option (List ℕ)) (moves : List Moves) (fault : WriteFault) (run : List Event) → RunsTo cause g start input moves (Err fault) run → OnlySends g.terms.stamp moves run → IsLostBehind (SendsOn cause g start input) fault run
lost_in cause g start input moves fault run (ToItsEnd turns at are sent more end known ended out goes ok its is) only =
    let before : List Event = at.events ++ more in
    let words : List ℕ = end_words end in
    let all : run ≡ before ++ out = is ∙ sym (append_assoc at.events more out) in
    let whole : OnlySends g.terms.stamp (at.moves ++ sent) (before ++ gone_out words) = only_whole g.terms.stamp (at.moves ++ sent) before out words (subst (OnlySends g.terms.stamp (at.moves ++ sent)) all (subst (λ l. OnlySends g.terms.stamp l run) its only)) in
    let does : SendsGame cause g start input (Ok (ended_by end known)) (before ++ gone_out words) = record {
      moves = at.moves ++ sent;
      run = at.events ++ (more ++ gone_out words);
      notes = [];
      runs = ToItsEnd turns at are sent more end known ended (gone_out words) refl refl refl refl;
      noted = tt;
      cut = tt;
      all = append_assoc at.events more (gone_out words) ∙ sym (append-nil (at.events ++ (more ++ gone_out words)));
      source = whole;
    } in
    record { before = before; words = words; out = out; is = Some (ended_by end known); does = does; lost = goes; all = all }
lost_in cause g start input moves fault run (ToLostLine turns at are t turn out goes err its is) only =
    let sent : List Event = read_and_sent g at t in
    let before : List Event = at.events ++ sent in
    let words : List ℕ = acked_words (length at.moves + 1) in
    let all : run ≡ before ++ out = is ∙ sym (append_assoc at.events sent out) in
    let whole : OnlySends g.terms.stamp t.after.moves (before ++ gone_out words) = only_whole g.terms.stamp t.after.moves before out words (subst (OnlySends g.terms.stamp t.after.moves) all (subst (λ l. OnlySends g.terms.stamp l run) its only)) in
    let does : SendsFirst g start input (before ++ gone_out words) = record {
      turns = turns ++ t ∷ [];
      at = t.after;
      are = turns_more g (run_from input start) at turns t are turn;
      all = append_assoc at.events sent (gone_out words) ∙ sym turn.events;
      source = whole;
    } in
    record { before = before; words = words; out = out; is = None; does = does; lost = goes; all = all }

-- a run of which a line was lost
pub game_lost : (cause : ReadFault → Type 0) (g : SourceTerms) (start : Parts) (input : Option (List ℕ)) (fault : WriteFault) (events : List Event) → SendsGame cause g start input (Err fault) events → IsLostBehind (SendsOn cause g start input) fault events
game_lost cause g start input fault events h =
    let same : events ≡ h.run = h.all ∙ ap (λ l. h.run ++ l) h.cut ∙ append-nil h.run in
    subst (IsLostBehind (SendsOn cause g start input) fault) (sym same) (lost_in cause g start input h.moves fault h.run h.runs (subst (OnlySends g.terms.stamp h.moves) same h.source))

-- ---- the same for other causes

still_run : (U V : ReadFault → Type 0) (g : SourceTerms) (start : Parts) (input : Option (List ℕ)) (moves : List Moves) (r : Result Ended WriteFault) (events : List Event) → ((why : ReadFault) → U why → V why) → RunsTo U g start input moves r events → RunsTo V g start input moves r events
still_run U V g start input moves r events f (ToItsEnd turns at are sent more end known ended out goes ok its is) = ToItsEnd turns at are sent more end known (record { ends = still_ends U V g at sent more end f ended.ends; knows = ended.knows }) out goes ok its is
still_run U V g start input moves r events f (ToLostLine turns at are t turn out goes err its is) = ToLostLine turns at are t turn out goes err its is

pub still_game : (U V : ReadFault → Type 0) (g : SourceTerms) (start : Parts) (input : Option (List ℕ)) (r : Result Ended WriteFault) (events : List Event) → ((why : ReadFault) → U why → V why) → SendsGame U g start input r events → SendsGame V g start input r events
still_game U V g start input r events f h = record { moves = h.moves; run = h.run; notes = h.notes; runs = still_run U V g start input h.moves r h.run f h.runs; noted = h.noted; cut = h.cut; all = h.all; source = h.source }
