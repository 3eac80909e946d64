-- A game that is open answers a message.
use Rattle.std.proofs.Common.{◌≡◌, ◌++◌, ◌∷◌, [], ◌∙◌, ℕ, Bool, true, false, cond, List, Option, Some, None, refl, sym, ap, subst}
use Rattle.std.specs.Prelude.{Ok}
use Rattle.std.specs.List.{AllByRecursion}
use Rattle.arbiter_core.specs.Delivers.{Exchange, IsKept, Told, moment}
use Rattle.arbiter_core.specs.Recording.{Recorded}
use Rattle.arbiter_core.specs.Resting.{CanWake, awake}
use Rattle.arbiter_core.specs.Views.{View}
use Rattle.arbiter_server.specs.ServedLines.{refused_keeper}
use Rattle.arbiter_server.specs.Serving.{line_of, outputs_of}
use Rattle.arbiter_server.specs.Told.{stamped}
use Rattle.judge_core.specs.Tables.{Holding}
use Rattle.move_msg.specs.declared.message.Message.{Message}
use Rattle.move_msg.specs.declared.stamp.Stamp.{Stamp}
use Rattle.timeline.specs.Events.{Event}
use Rattle.timeline.specs.Outsides.{Outside}
use Rattle.game_folder.specs.Drafts.{DraftView, settled}
use Rattle.game_server.specs.Fates.{Answered, KeepsAnswer, KeptIfAny, fate_line, fate_outputs, is_lost_at}
use Rattle.game_folder.specs.Holdings.{GamesFacts, IsKeptIn, IsKnown, StaysNoted, known}
use Rattle.game_server.specs.Backed.{IsBacked}
use Rattle.game_folder.specs.Places.{Held}
use Rattle.game_server.specs.Seats.{IsKnownSeat, IsSeat}
use Rattle.game_server.specs.Replies.{AreBacked}
use Rattle.game_server.specs.declared.seat.Seat.{Seat}
use Rattle.game_server.proofs.Announcing.{Announces}
use Rattle.game_server.proofs.Backing.{HoldsRecord, backed}
use Rattle.game_server.proofs.Saying.{AllSay}
use Rattle.game_server.proofs.SeatLaws.{drafted_known}

-- ---- what is announced is held

-- what a running arbiter has recorded is held, where what its draft has is
pub holds_own : (held : Held) (v : View) (k : Option (List ℕ)) → v.is_down ≡ false → IsKept k v → ((bytes : List ℕ) → k ≡ Some bytes → held v.me.stamp bytes) → HoldsRecord held v.me.stamp v.kept
holds_own held v None up is h = absurd (is up)
holds_own held v (Some bytes) up is h = (bytes, v.setup.delay, h bytes refl, is up)

-- and it has something
pub has_bytes : (v : View) (k : Option (List ℕ)) → v.is_down ≡ false → IsKept k v → (bytes : List ℕ) × (k ≡ Some bytes)
has_bytes v None up is = absurd (is up)
has_bytes v (Some bytes) up is = (bytes, refl)

pub all_backed : (held : Held) (stamp : Stamp) (r : Recorded) (outputs : List Message) → HoldsRecord held stamp r → AllSay stamp r outputs → AllByRecursion (IsBacked held) outputs
all_backed held stamp r [] h says = tt
all_backed held stamp r (m ∷ ms) h says = (backed held stamp r m h says.0, all_backed held stamp r ms h says.1)

-- ---- what is kept

pub keeps_answer : {G : Type 0} (facts : GamesFacts G) (old new : G) (stamp : List ℕ) (outputs : List Message) (to_put : Option (List ℕ)) (events : List Event) → KeptIfAny facts old stamp to_put events new → KeepsAnswer facts old stamp (Ok outputs) to_put true events new
keeps_answer facts old new stamp outputs None events h = h
keeps_answer facts old new stamp outputs (Some bytes) events h = h

pub keeps_lost : {G : Type 0} (facts : GamesFacts G) (old new : G) (stamp : List ℕ) (outputs : List Message) (to_put : Option (List ℕ)) (events : List Event) (bytes : List ℕ) → to_put ≡ Some bytes → facts.keeps old stamp bytes false events new → KeepsAnswer facts old stamp (Ok outputs) to_put false events new
keeps_lost facts old new stamp outputs None events bytes is h = absurd cc
keeps_lost facts old new stamp outputs (Some other) events bytes is h = let same : bytes ≡ other = cc in subst (λ (b : List ℕ). facts.keeps old stamp b false events new) same h

-- ---- what is told

pub fate_kept : (stamp : List ℕ) (e : Exchange DraftView) → is_lost_at e true ≡ false → (fate_outputs (Answered stamp e true) ≡ outputs_of e.told) × (fate_line (Answered stamp e true) ≡ stamped stamp (line_of e))
fate_kept stamp e is = (ap (λ (b : Bool). cond b [] (outputs_of e.told)) is, ap (λ (b : Bool). stamped stamp (cond b refused_keeper (line_of e))) is)

pub fate_lost : (stamp : List ℕ) (e : Exchange DraftView) → is_lost_at e false ≡ true → (fate_outputs (Answered stamp e false) ≡ []) × (fate_line (Answered stamp e false) ≡ stamped stamp refused_keeper)
fate_lost stamp e is = (ap (λ (b : Bool). cond b [] (outputs_of e.told)) is, ap (λ (b : Bool). stamped stamp (cond b refused_keeper (line_of e))) is)

-- ---- the game afterwards

module _ {T P F K S L G : Type 0} (o : Outside T P F K S L) (facts : GamesFacts G) (g g' : G) (set : Holding) (stamp : List ℕ) (seat seat' : Seat F) (told : Told) (draft : DraftView) (was : IsSeat o facts g set stamp seat)
    (a : Announces (moment (awake seat.state set) seat.kept.draft) (moment (awake seat'.state set) draft) told) (left : seat'.kept.draft ≡ settled draft) (keeps : IsKept draft.kept (awake seat'.state set)) where
  still_its : seat'.state.me.stamp ≡ stamp
  still_its = ap (λ me. me.stamp) a.me ∙ was.its

  still_up : seat'.state.is_down ≡ false
  still_up = a.runs ∙ was.runs

  pub is_seat : seat'.kept.stamp ≡ seat.kept.stamp → IsKeptIn o (facts.places (facts.place g') seat'.kept.stamp) seat'.kept.file → CanWake seat'.state set → IsSeat o facts g' set stamp seat'
  is_seat of within wakes = record {
    of = of ∙ was.of;
    its = still_its;
    clean = ap (λ (d : DraftView). d.to_put) left;
    within = subst (λ (s : List ℕ). IsKeptIn o (facts.places (facts.place g') s) seat'.kept.file) (of ∙ was.of) within;
    wakes = wakes;
    runs = still_up;
    keeps = subst (λ (d : DraftView). IsKept d.kept (awake seat'.state set)) (sym left) keeps;
  }

  module _ (place : facts.place g' ≡ facts.place g) (noted : StaysNoted facts g g') (before events : List Event) (kept : (bytes : List ℕ) → draft.to_put ≡ Some bytes → known facts g' events stamp bytes) (knew : IsKnownSeat facts g before stamp seat) where
    now_known : IsKnown facts g' (before ++ events) stamp draft.kept
    now_known = drafted_known facts g g' place noted stamp seat.kept.draft draft before events a.draft kept
        (λ bytes is. let same : knew.bytes ≡ bytes = let k = knew.kept in cc in subst (known facts g before stamp) same knew.is)

    pub is_known : IsKnownSeat facts g' (before ++ events) stamp seat'
    is_known = let has = has_bytes (awake seat'.state set) draft.kept still_up keeps in
        record { bytes = has.0; kept = ap (λ (d : DraftView). d.kept) left ∙ has.1; is = now_known has.0 has.1 }

    pub are_backed : (outputs : List Message) → told ≡ Ok outputs → AreBacked facts g' (before ++ events) outputs
    are_backed outputs is =
        let held : Held = known facts g' (before ++ events) in
        let own : HoldsRecord held seat'.state.me.stamp seat'.state.kept = holds_own held (awake seat'.state set) draft.kept still_up keeps (λ bytes some. subst (λ (s : List ℕ). held s bytes) (sym still_its) (now_known bytes some)) in
        all_backed held seat'.state.me.stamp seat'.state.kept outputs own (subst (λ (s : Stamp). AllSay s seat'.state.kept outputs) (sym (ap (λ me. me.stamp) a.me)) (a.says outputs is))
