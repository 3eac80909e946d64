-- A source to which the reports of the whole game come ends as the game does.
use Rattle.std.proofs.Common.{◌≡◌, ◌∙◌, ◌⊎◌, ◌++◌, ◌+◌, ◌≤◌, ℕ, Bool, List, [], ◌∷◌, append-nil, length, length-append, Option, Some, None, inl, inr, refl, sym, ap, subst, arith}
use Rattle.std.specs.Prelude.{IfSome, Ok, option_and_then}
use Rattle.board_core.specs.declared.moves.Move.{Move as Moves}
use Rattle.board_core.specs.declared.parts.Parts.{Parts}
use Rattle.board_core.specs.Moves.{Legal}
use Rattle.board_core.specs.ComputedMoves.{position_after}
use Rattle.board_core.proofs.ComputedMoves.{legal_position}
use Rattle.judge_core.specs.Games.{position_after_all}
use Rattle.judge_core.proofs.Plies.{goes_on, starts}
use Rattle.move_msg.specs.declared.arbiter_id.ArbiterId.{ArbiterId}
use Rattle.move_msg.specs.declared.arbiter_id.ArbiterId.TheVariants.{A, B}
use Rattle.move_msg.specs.declared.message.Message.TheVariants.{Ack}
use Rattle.move_msg.specs.declared.stamp.Stamp.{Stamp}
use Rattle.arbiter_core.specs.Recording.{Recorded}
use Rattle.arbiter_core.proofs.Reach.{reach_within}
use Rattle.relay_world.specs.declared.event.Event.{Event}
use Rattle.relay_world.specs.Headline.{IsRecordOf, kept_count}
use Rattle.relay_world.specs.Laws.{count_in, world_after}
use Rattle.relay_world.specs.Worlds.{Judged, side_in}
use Rattle.relay_world.proofs.Schedules.{acks, holds_after}
use Rattle.relay_world.proofs.Steps.{count_at, one_first, side_at}
use Rattle.source_core.specs.declared.lines.End.{End}
use Rattle.source_core.specs.declared.lines.End.TheVariants as at_end
use Rattle.source_core.specs.declared.origin.Origin.{Origin}
use Rattle.source_core.specs.declared.origin.Started.{Started}
use Rattle.source_core.specs.declared.report.Ruling.{Ruling}
use Rattle.source_core.specs.Boards.{IsBelied}
use Rattle.source_core.specs.Heard.{heard}
use Rattle.source_core.specs.Origins.{EndsStarted, HasMoves}
use Rattle.source_core.specs.Reports.{HasAcknowledged, HasRuled, IsRuled, IsUnsettled}
use Rattle.source_core.specs.Runs.{AreMoveTurns, ClosesRun, EndsRun, InputEnds, IsLastSent, IsMoveTurn, LastSent, MoveTurn, NoLine, NotSent, RunState, SourceTerms, run_from, unread_end}
use Rattle.source_core.specs.Sendings.{ClosesSo, IsRefusedLine, IsSentLast, causes}
use Rattle.source_core.proofs.RunLaws.{heard_again}
use Rattle.system_io.specs.LineReaders.{LineFacts}
use Rattle.system_io.specs.Ports.{Passing}
use Rattle.system_io.specs.declared.reading.ReadFault.{ReadFault}
use Rattle.system_io.specs.declared.reading.ReadFault.TheVariants as fault
use Rattle.timeline.specs.Events as timeline
use Rattle.timeline.specs.Events.{LineRead}
use Rattle.theorems.specs.Progress.{HasNoVerdict}
use Rattle.theorems.specs.Sources.{ComesOfWorld, EndsAsGame, HasReportedAll, IsRunOfSource, SourceRun, SourcesGetOn, all_heard}
use Rattle.theorems.proofs.Believing.{believed}
use Rattle.theorems.proofs.Reporting.{first_of, no_two, same_ruling}

-- ---- what was reported

module _ (game : Judged) (events : List Event) (all : List Passing) (comes : ComesOfWorld game events all) where
  one_ruling : (w v : ArbiterId) (r s : Ruling) → HasRuled game.stamp w r all → HasRuled game.stamp v s all → r ≡ s
  one_ruling w v r s h k =
      let one = one_first game.rules game.moves r.ply s.ply r.verdict s.verdict (first_of game events all w r comes h) (first_of game events all v s comes k) in
      same_ruling r s one.0 one.1

  -- both reported the verdict of the game, or each that it has all moves of a game without one
  both_reported : HasReportedAll game all A → HasReportedAll game all B
      → ((r : Ruling) × IsRuled game.stamp r all) ⊎ (HasNoVerdict game × HasAcknowledged game.stamp A (length game.moves) all × HasAcknowledged game.stamp B (length game.moves) all)
  both_reported (inl (r, h)) (inl (s, k)) =
      inl (r, record { a = h; b = subst (λ (x : Ruling). HasRuled game.stamp B x all) (one_ruling B A s r k h) k; only = λ w x l. one_ruling w A x r l h })
  both_reported (inl (r, h)) (inr k) = absurd (k.0 r.ply r.verdict (first_of game events all A r comes h))
  both_reported (inr h) (inl (s, k)) = absurd (h.0 s.ply s.verdict (first_of game events all B s comes k))
  both_reported (inr h) (inr k) = inr (h.0, h.1, k.1)

  kept_few : (kept : Option Recorded) → IfSome kept (IsRecordOf game.rules game.moves) → kept_count kept ≤ length game.moves
  kept_few None h = omega arith
  kept_few (Some one) h = let c = count_at game.rules game.moves one h in let within = reach_within game.rules game.moves h.ply h.reached in omega (arith, c, within)

  -- no arbiter reported more moves than the game has
  few : (who : ArbiterId) (n : ℕ) → HasMoves game.stamp who n all → n ≤ length game.moves
  few who n (inl (count, came, le)) =
      let sent = comes (Ack game.stamp who count) refl came in
      let most : count_in (world_after game events) who ≤ length game.moves = kept_few (side_in (world_after game events) who).kept (side_at game (world_after game events) who (holds_after game events)).kept in
      let at : count ≤ count_in (world_after game events) who = subst (λ (es : List Event). count ≤ count_in (world_after game es) who) (append-nil events) (acks game events [] sent.0 game.stamp who count sent.1) in
      omega (arith, le, at, most)
  few who n (inr (r, ruled, le)) = let first = first_of game events all who r comes ruled in let within = first.within in omega (arith, le, within)

  not_started : (origin : Origin) (s : Started) → EndsStarted origin game.stamp (length game.moves) s all → ⊥
  not_started origin s e = let more = e.1.more in let most = few e.1.who s.count e.1.has in absurd (omega (arith, more, most))

  module _ (p : Parts) (there : position_after_all game.rules.start game.moves ≡ Some p) where
    not_belied : (r : Ruling) → IsBelied game.stamp (length game.moves) p r all → ⊥
    not_belied r b = b.belied (believed game p there r (first_of game events all b.who r comes b.reported))

    module _ (reported : ((r : Ruling) × IsRuled game.stamp r all) ⊎ (HasNoVerdict game × HasAcknowledged game.stamp A (length game.moves) all × HasAcknowledged game.stamp B (length game.moves) all)) where
      none_if_open : ((r : Ruling) → IsRuled game.stamp r all → ⊥) → HasNoVerdict game
      none_if_open unruled = by reported
        where
          by : ((r : Ruling) × IsRuled game.stamp r all) ⊎ (HasNoVerdict game × HasAcknowledged game.stamp A (length game.moves) all × HasAcknowledged game.stamp B (length game.moves) all) → HasNoVerdict game
          by (inl r) = absurd (unruled r.0 r.1)
          by (inr h) = h.0

      -- the last move isn't unsettled
      not_lost : (number : ℕ) → number + 1 ≡ length game.moves → IsUnsettled game.stamp number all → ⊥
      not_lost number is u = by reported
        where
          by : ((r : Ruling) × IsRuled game.stamp r all) ⊎ (HasNoVerdict game × HasAcknowledged game.stamp A (length game.moves) all × HasAcknowledged game.stamp B (length game.moves) all) → ⊥
          by (inl r) = u.not_ruled r.0 r.1
          by (inr h) = u.not_acked (record {
            a = subst (λ n. HasAcknowledged game.stamp A n all) (sym is) h.1;
            b = subst (λ n. HasAcknowledged game.stamp B n all) (sym is) h.2;
            open_yet = λ w r k. h.0 r.ply r.verdict (first_of game events all w r comes k);
          })

      closes : (origin : Origin) (end : End) → ClosesSo origin game.stamp (length game.moves) p all end → EndsAsGame game all end
      closes origin (at_end.Open count) c = (c.0, none_if_open c.1)
      closes origin (at_end.Ruled r) c = first_of game events all A r comes c.0.0.a
      closes origin (at_end.Clashed x) c = no_two game events all x comes c
      closes origin (at_end.Started s) c = not_started origin s c
      closes origin (at_end.Belied r) c = not_belied r c.0
      closes origin (at_end.NotAMove place) c = tt
      closes origin (at_end.Illegal place) c = tt
      closes origin at_end.TooLong c = tt
      closes origin at_end.Lost c = c
      closes origin at_end.PortLost c = c
      closes origin at_end.Unread c = tt
      closes origin at_end.OutOfMemory c = tt

      sent_last : (origin : Origin) (number : ℕ) → number + 1 ≡ length game.moves → (end : End) → IsSentLast origin game.stamp number p all end → EndsAsGame game all end
      sent_last origin number is (at_end.Open count) c = absurd c
      sent_last origin number is (at_end.Ruled r) c = first_of game events all A r comes c.0.0.a
      sent_last origin number is (at_end.Clashed x) c = no_two game events all x comes c
      sent_last origin number is (at_end.Started s) c = not_started origin s (subst (λ n. EndsStarted origin game.stamp n s all) is c)
      sent_last origin number is (at_end.Belied r) c = not_belied r (subst (λ n. IsBelied game.stamp n p r all) is c.0)
      sent_last origin number is (at_end.NotAMove place) c = tt
      sent_last origin number is (at_end.Illegal place) c = tt
      sent_last origin number is at_end.TooLong c = tt
      sent_last origin number is at_end.Lost c = not_lost number is c.0
      sent_last origin number is at_end.PortLost c = c
      sent_last origin number is at_end.Unread c = tt
      sent_last origin number is at_end.OutOfMemory c = tt

-- ---- a line that isn't sent

unread : (game : Judged) (all : List Passing) (why : ReadFault) → EndsAsGame game all (unread_end why)
unread game all fault.Unreadable = tt
unread game all fault.OutOfMemory = tt

not_sent : (game : Judged) (all : List Passing) (g : SourceTerms) (p : Parts) (number : ℕ) (line : List ℕ) (end : End) → IsRefusedLine g.terms.notation p number line end → EndsAsGame game all end
not_sent game all g p number line (at_end.Open count) c = absurd c
not_sent game all g p number line (at_end.Ruled r) c = absurd c
not_sent game all g p number line (at_end.Clashed x) c = c
not_sent game all g p number line (at_end.Started s) c = c
not_sent game all g p number line (at_end.Belied r) c = c
not_sent game all g p number line (at_end.NotAMove place) c = tt
not_sent game all g p number line (at_end.Illegal place) c = tt
not_sent game all g p number line at_end.TooLong c = tt
not_sent game all g p number line at_end.Lost c = c
not_sent game all g p number line at_end.PortLost c = absurd c
not_sent game all g p number line at_end.Unread c = tt
not_sent game all g p number line at_end.OutOfMemory c = tt

-- ---- the source's position

-- one legal move more
one_more : (start p q : Parts) (moves : List Moves) (m : Moves) → position_after_all start moves ≡ Some p → Legal p m q → position_after_all start (moves ++ m ∷ []) ≡ Some q
one_more start p q moves m e legal = goes_on start moves m ∙ ap (option_and_then (λ x. position_after x m)) e ∙ legal_position p m q legal

turns_to : (g : SourceTerms) (start : Parts) (turns : List MoveTurn) (old new : RunState) → AreMoveTurns g old turns new → position_after_all start old.moves ≡ Some old.position → position_after_all start new.moves ≡ Some new.position
unfolding AreMoveTurns
turns_to g start [] old new t e = subst (λ (x : RunState). position_after_all start x.moves ≡ Some x.position) (sym t) e
turns_to g start (one ∷ turns) old new t e =
    let turn : IsMoveTurn g old one = t.0 in
    turns_to g start turns one.after new t.1
    (ap (position_after_all start) turn.moves ∙ one_more start old.position one.after.position old.moves one.move e turn.legal)

-- ---- the end of a run

module _ (cause : ReadFault → Type 0) (game : Judged) (events : List Event) (r : SourceRun) (is : IsRunOfSource cause game r) (comes : ComesOfWorld game events (all_heard r)) (reported : (who : ArbiterId) → HasReportedAll game (all_heard r) who) where
  both : ((x : Ruling) × IsRuled game.stamp x (all_heard r)) ⊎ (HasNoVerdict game × HasAcknowledged game.stamp A (length game.moves) (all_heard r) × HasAcknowledged game.stamp B (length game.moves) (all_heard r))
  both = both_reported game events (all_heard r) comes (reported A) (reported B)

  at_turns : position_after_all game.rules.start r.at.moves ≡ Some r.at.position
  at_turns = turns_to r.terms game.rules.start r.turns (run_from r.input game.rules.start) r.at is.turns (starts game.rules.start)

  -- no move was sent behind those that were acknowledged
  none_behind : r.sent ≡ [] → game.moves ≡ r.at.moves
  none_behind e = is.moves ∙ ap (λ (xs : List Moves). r.at.moves ++ xs) e ∙ append-nil r.at.moves

  input_ends : (rest : List timeline.Event) (had_come : Bool) → ClosesRun r.terms r.at rest r.end → r.sent ≡ [] → r.more ≡ LineRead (Ok None) had_come ∷ rest → EndsAsGame game (all_heard r) r.end
  input_ends rest had_come c none happened =
      closes game events (all_heard r) comes r.at.position (ap (position_after_all game.rules.start) same ∙ at_turns) both r.terms.terms.origin r.end
      (subst (λ (xs : List Passing). ClosesSo r.terms.terms.origin game.stamp (length game.moves) r.at.position xs r.end) heard_is
      (subst (λ (s : Stamp). ClosesSo r.terms.terms.origin s (length game.moves) r.at.position (heard r.at.events ++ heard c.came) r.end) is.stamp
      (subst (λ (xs : List Moves). ClosesSo r.terms.terms.origin r.terms.terms.stamp (length xs) r.at.position (heard r.at.events ++ heard c.came) r.end) (sym same) c.stands)))
    where
      same : game.moves ≡ r.at.moves
      same = none_behind none

      heard_is : heard r.at.events ++ heard c.came ≡ all_heard r
      heard_is = sym (ap (λ (xs : List timeline.Event). heard (r.at.events ++ xs)) happened ∙ heard_again r.terms r.at rest had_come c.came c.happened)

  last_sent : (last : IsLastSent r.terms r.at r.sent r.more) → IsSentLast r.terms.terms.origin r.terms.terms.stamp (length r.at.moves) last.after (all_heard r) r.end → EndsAsGame game (all_heard r) r.end
  last_sent last c =
      sent_last game events (all_heard r) comes last.after (ap (position_after_all game.rules.start) one ∙ one_more game.rules.start r.at.position last.after r.at.moves last.move at_turns last.legal) both r.terms.terms.origin (length r.at.moves) size r.end
      (subst (λ (s : Stamp). IsSentLast r.terms.terms.origin s (length r.at.moves) last.after (all_heard r) r.end) is.stamp c)
    where
      one : game.moves ≡ r.at.moves ++ last.move ∷ []
      one = is.moves ∙ ap (λ (xs : List Moves). r.at.moves ++ xs) last.only

      size : length r.at.moves + 1 ≡ length game.moves
      size = sym (ap (λ (xs : List Moves). length xs) one ∙ length-append r.at.moves (last.move ∷ []))

  ends : EndsRun cause r.terms r.at r.sent r.more r.end → EndsAsGame game (all_heard r) r.end
  ends (NoLine why had_come c e none happened) = subst (EndsAsGame game (all_heard r)) (sym e) (unread game (all_heard r) why)
  ends (NotSent line had_come input read c none happened) = not_sent game (all_heard r) r.terms r.at.position (length r.at.moves) line r.end c
  ends (InputEnds had_come rest done c none happened) = input_ends rest had_come c none happened
  ends (LastSent last c lost) = last_sent last c

pub sources_get_on : {L : Type 0} (facts : L → LineFacts) → SourcesGetOn facts
sources_get_on facts lines game events r is comes reported = ends (causes (facts lines).fails (facts lines).takes_memory) game events r is comes reported is.ends.ends
