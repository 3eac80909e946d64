-- A kept record is followed to its end.
use Rattle.std.proofs.Common.{◌≡◌, ◌≢◌, ◌∙◌, sym, ap, subst, refl, ℕ, zero, suc, ◌+◌, ◌<◌, ◌≤◌, Bool, true, false, cond, ◌==◌, List, [], length, take, get_or, Option, Some, None, Result, Ok, Err, inl, inr, ◌⊎◌, arith, add-one}
use Rattle.std.specs.Prelude.{IsSome, is_some, IfOk, IfErr, ◌↔◌}
use Rattle.std.specs.Option.{option_and_then, option_map}
use Rattle.std.proofs.lemmas.Bool.{cases_lt, cond-true, cond-false, eqb-true, eq-eqb}
use Rattle.std.proofs.lemmas.List.{take_more, take_all}
use Rattle.board_core.specs.declared.parts.Parts.{Parts}
use Rattle.board_core.specs.declared.moves.Move.{Move}
use Rattle.board_core.specs.ComputedMoves.{position_after}
use Rattle.board_core.specs.declared.verdict.Verdict.{Verdict}
use Rattle.judge_core.specs.declared.game.GameOutcome.{GameOutcome}
use Rattle.judge_core.specs.declared.game.GameOutcome.TheVariants.{Ruled, Illegal, Going}
use Rattle.board_core.specs.Delays.{most_delay}
use Rattle.judge_core.specs.Games.{position_after_all, Rules, verdict_after, IsUnruled, IsOutcome, plies_to}
use Rattle.move_msg.specs.declared.stamp.Stamp.{Stamp}
use Rattle.move_msg.specs.declared.record_bytes.Record.{Record}
use Rattle.move_msg.specs.declared.record_bytes.RecordFault.{RecordFault}
use Rattle.move_msg.specs.declared.record_bytes.RecordFault.TheVariants.{OutOfMemory as NoMemory}
use Rattle.move_msg.specs.Records.{SpellsRecord, WritesRecord}
use Rattle.move_msg.proofs.RecordLaws.{one_record}
use Rattle.move_msg.specs.Numbers.{most_moves}
use Rattle.judge_core.specs.Standings.{IsAt}
use Rattle.judge_core.proofs.Plies.{goes_on}
use Rattle.arbiter_core.specs.Recording.{Recorded, ReorderBuffer, reaches}
use Rattle.arbiter_core.specs.declared.played.Played.{Played}
use Rattle.std.specs.Result.{IsErrOf}
use Rattle.arbiter_core.specs.declared.keeper.Keep.{Keep}
use Rattle.arbiter_core.specs.declared.keeper.Keep.TheVariants.{Good, FailsOld, FailsNew}
use Rattle.arbiter_core.specs.declared.keeper.KeepFault.{KeepFault}
use Rattle.arbiter_core.specs.declared.keeper.KeepFault.TheVariants.{Failed}
use Rattle.arbiter_core.specs.declared.fault.OpenFault.{OpenFault}
use Rattle.arbiter_core.specs.declared.fault.OpenFault.TheVariants.{BadSetup, KeeperFailed, BadRecord, OtherStamp, OutOfMemory as Memory}
use Rattle.system_io.specs.Failures.{Risen}
use Rattle.arbiter_core.specs.Keeping.{KeeperFacts, PutIs, PutLeaves}
use Rattle.arbiter_core.specs.Delivers.{IsSpelled, IsWritten, Keeps}
use Rattle.arbiter_core.specs.Answering.{Identity, nothing_waits}
use Rattle.arbiter_core.specs.Setups.{SetupView, rules_at}
use Rattle.move_msg.specs.declared.arbiter_id.ArbiterId.{ArbiterId}
use Rattle.arbiter_core.specs.Views.{View, spelled_as}
use Rattle.arbiter_core.specs.Inside.Playing.{IsArbiterInOrder, IsPlayedRecord, recorded_in}
use Rattle.arbiter_core.specs.Inside.Starting.{IsNotResumed, IsPutSo, IsPutFirst, recorded_by, told_from}
use Rattle.arbiter_core.specs.Opens.{IsWhole, IsResumed, IsBadKept, at_end, first_record, running, OpenResult, FirstLands, OpensOver, Opens}
use Rattle.arbiter_core.proofs.Settling.{near_nothing}
use Rattle.arbiter_core.proofs.Reach.{step_to, step_of, reach_below, unruled_below}

some_move : Move
some_move = record { from = 0; to = 0; promotion = None }

whole_list : (ms : List Move) → take (length ms) ms ≡ ms
whole_list ms = take_all (length ms) ms (omega arith)

-- a front of legal moves is legal
legal_before : (r : Rules) (ms : List Move) (k : ℕ) → k < length ms → IsSome (position_after_all r.start (take (suc k) ms)) → IsSome (position_after_all r.start (take k ms))
legal_before r ms k lt some = by_cases (position_after_all r.start (take k ms)) refl
  where
    next : position_after_all r.start (take (suc k) ms) ≡ option_and_then (λ p. position_after p (get_or ms k some_move)) (position_after_all r.start (take k ms))
    next = ap (λ n. position_after_all r.start (take n ms)) (sym (add-one k)) ∙ ap (position_after_all r.start) (take_more ms k some_move lt) ∙ goes_on r.start (take k ms) (get_or ms k some_move)

    by_cases : (o : Option Parts) → position_after_all r.start (take k ms) ≡ o → IsSome (position_after_all r.start (take k ms))
    by_cases None e =
        let none : position_after_all r.start (take (suc k) ms) ≡ None = next ∙ ap (option_and_then (λ p. position_after p (get_or ms k some_move))) e in
        let f : is_some (position_after_all r.start (take (suc k) ms)) ≡ false = ap is_some none in
        let t : is_some (position_after_all r.start (take (suc k) ms)) ≡ true = some in
        absurd (let x : true ≡ false = sym t ∙ f in cc)
    by_cases (Some p) e = ap is_some e

-- legal moves without a verdict before the last ply reach it
pub reaching : (r : Rules) (ms : List Move) (k : ℕ) → k ≤ length ms → IsSome (position_after_all r.start (take k ms)) → IsUnruled r ms k → reaches r ms k ≡ true
reaching r ms zero le some none = refl
reaching r ms (suc k) le some none = step_to r ms k (record {
  before = reaching r ms k (omega arith) (legal_before r ms k (omega arith) some) (λ j lt. none j (omega arith));
  unruled = none k (omega arith);
  within = omega arith;
  legal = some;
})

pub record Ends (r : Rules) (ms : List Move) (v : Option Verdict) : Type 0 where
  pub reached : reaches r ms (length ms) ≡ true
  pub ruled : verdict_after r ms ≡ v

at_ply : (ply n : ℕ) (w : Verdict) (v : Option Verdict) → cond (ply == n) (Some (Some w)) None ≡ Some v → (ply ≡ n) × (Some w ≡ v)
at_ply ply n w v e = by_cases (ply == n) refl
  where
    by_cases : (b : Bool) → (ply == n) ≡ b → (ply ≡ n) × (Some w ≡ v)
    by_cases true is = let f : Some (Some w) ≡ Some v = sym (cond-true (ply == n) (Some (Some w)) None is) ∙ e in (eqb-true ply n is, cc)
    by_cases false is = let f : None ≡ Some v = sym (cond-false (ply == n) (Some (Some w)) None is) ∙ e in absurd cc

pub ends : (r : Rules) (ms : List Move) (o : GameOutcome) (v : Option Verdict) → IsOutcome r ms o → at_end o (length ms) ≡ Some v → Ends r ms v
ends r ms (Ruled ply w) v h e =
    let p = at_ply ply (length ms) w v e in
    let all : take ply ms ≡ ms = ap (λ n. take n ms) p.0 ∙ whole_list ms in
    record {
      reached = subst (λ n. reaches r ms n ≡ true) p.0 (reaching r ms ply h.within h.legal h.unruled);
      ruled = ap (verdict_after r) (sym all) ∙ h.ruled ∙ p.1;
    }
ends r ms (Illegal place) v h e = absurd (let f : None ≡ Some v = e in cc)
ends r ms Going v h e =
    let f : Some None ≡ Some v = e in
    let none : None ≡ v = cc in
    record {
      reached = reaching r ms (length ms) (omega arith) (subst (λ (xs : List Move). IsSome (position_after_all r.start xs)) (sym (whole_list ms)) h.legal) (λ j lt. h.unruled j (omega arith));
      ruled = ap (verdict_after r) (sym (whole_list ms)) ∙ h.unruled (length ms) (omega arith) ∙ none;
    }

pub plies_all : (ms : List Move) (o : GameOutcome) (v : Option Verdict) → at_end o (length ms) ≡ Some v → take (plies_to ms o) ms ≡ ms
plies_all ms (Ruled ply w) v e = ap (λ n. take n ms) (at_ply ply (length ms) w v e).0 ∙ whole_list ms
plies_all ms (Illegal place) v e = absurd (let f : None ≡ Some v = e in cc)
plies_all ms Going v e = whole_list ms

-- a game that doesn't get to its last ply
pub never : (r : Rules) (ms : List Move) (o : GameOutcome) → IsOutcome r ms o → at_end o (length ms) ≡ None → reaches r ms (length ms) ≡ true → ⊥
never r ms (Ruled ply w) h e reach = elim (cases_lt ply (length ms)) [
  | inl lt ↦ (let f : None ≡ Some w = sym (unruled_below r ms ply (length ms) lt reach) ∙ h.ruled in cc)
  | inr le ↦ (
      let within = h.within in
      let same : ply ≡ length ms = omega arith in
      let is : (ply == length ms) ≡ true = eq-eqb ply (length ms) same in
      let f : Some (Some w) ≡ None = sym (cond-true (ply == length ms) (Some (Some w)) None is) ∙ e in cc)
]
never r ms (Illegal place) h e reach =
    let within = h.within in
    let s = step_of r ms place (reach_below r ms (suc place) (length ms) (omega arith) reach) in
    let none : position_after_all r.start (take (suc place) ms) ≡ None = ap (λ n. position_after_all r.start (take n ms)) (sym (add-one place)) ∙ h.illegal in
    let f : is_some (position_after_all r.start (take (suc place) ms)) ≡ false = ap is_some none in
    let x : true ≡ false = sym s.legal ∙ f in cc
never r ms Going h e reach = let f : Some None ≡ None = e in cc

-- ---- whole records

pub whole : (r : Rules) (ms : List Move) (v : Option Verdict) → Ends r ms v → IsWhole r (record { moves = ms; verdict = v })
whole r ms v h = record {
  game = ms;
  reached = h.reached;
  is = ap (λ (o : Option Verdict). record { moves = ms; verdict = o }) (sym h.ruled) ∙ ap (λ (xs : List Move). record { moves = xs; verdict = verdict_after r xs }) (sym (whole_list ms));
}

pub from_whole : (r : Rules) (kept : Recorded) → IsWhole r kept → Ends r kept.moves kept.verdict
from_whole r kept h =
    let moves : kept.moves ≡ h.game = ap (λ (k : Recorded). k.moves) h.is ∙ whole_list h.game in
    let verdict : kept.verdict ≡ verdict_after r h.game = ap (λ (k : Recorded). k.verdict) h.is ∙ ap (verdict_after r) (whole_list h.game) in
    record {
      reached = subst (λ (xs : List Move). reaches r xs (length xs) ≡ true) (sym moves) h.reached;
      ruled = ap (verdict_after r) moves ∙ sym verdict;
    }

record_is : (s t : Stamp) (n k : ℕ) (o : Option Verdict) (ms : List Move) → s ≡ t → n ≡ k → ◌≡◌ {A = Record} (record { stamp = s; delay = n; verdict = o; moves = ms }) (record { stamp = t; delay = k; verdict = o; moves = ms })
record_is s t n k o ms es en = cc

module _ (r : Rules) (q : Record) (o : GameOutcome) (h : IsOutcome r q.moves o) where
  -- a record whose moves don't get to their last ply, or have another verdict there, is whole in no way
  pub cut_short : at_end o (length q.moves) ≡ None → IsWhole r (recorded_by q) → ⊥
  cut_short e w = never r q.moves o h e (from_whole r (recorded_by q) w).reached

  pub other_verdict : (v : Option Verdict) → at_end o (length q.moves) ≡ Some v → q.verdict ≢ v → IsWhole r (recorded_by q) → ⊥
  other_verdict v e other w = other (sym (from_whole r (recorded_by q) w).ruled ∙ (ends r q.moves o v h e).ruled)

  -- with the verdict that its moves have at their end it is whole
  pub is_whole : (v : Option Verdict) → at_end o (length q.moves) ≡ Some v → q.verdict ≡ v → IsWhole r (recorded_by q)
  is_whole v e ruled = subst (λ (w : Option Verdict). IsWhole r (record { moves = q.moves; verdict = w })) (sym ruled) (whole r q.moves v (ends r q.moves o v h e))

module _ (setup : SetupView) (stamp : Stamp) (bytes : List ℕ) (q : Record) (spelled : SpellsRecord bytes q) where
  -- what bytes are resumed as is what they spell
  same_kept : (kept : Recorded) → IsResumed (rules_at setup) stamp bytes kept → IsWhole (rules_at setup) (recorded_by q)
  same_kept kept h =
      let same : kept ≡ recorded_by q = ap recorded_by (sym (one_record bytes q (spelled_as stamp setup.delay kept) spelled h.0)) in
      subst (IsWhole (rules_at setup)) same h.1

  -- a record that is read and can be run from
  resumed : (p : Played) → IsPlayedRecord setup stamp p → p.record ≡ q → IsWhole (rules_at setup) (recorded_by q) → IsResumed (rules_at setup) stamp bytes (recorded_in p)
  resumed p played e w = (
    subst (SpellsRecord bytes) (sym e ∙ record_is p.record.stamp stamp p.record.delay setup.delay p.record.verdict p.record.moves played.stamp_is played.delay_is) spelled,
    subst (λ (x : Record). IsWhole (rules_at setup) (recorded_by x)) (sym e) w,
  )

  -- what is answered for a record is answered for the bytes that spell it
  pub read_ok : (result : Result Played OpenFault) → IfOk result (λ p. IsPlayedRecord setup stamp p × (p.record ≡ q) × IsWhole (rules_at setup) (recorded_by q)) → IfOk result (λ p. IsPlayedRecord setup stamp p × IsResumed (rules_at setup) stamp bytes (recorded_in p))
  read_ok (Ok p) h = (h.0, resumed p h.0 h.1 h.2)
  read_ok (Err f) h = tt

  not_read : (fault : OpenFault) → IsNotResumed (rules_at setup) stamp q fault → IsBadKept (rules_at setup) stamp bytes fault
  not_read BadSetup h = h
  not_read KeeperFailed h = h
  not_read BadRecord h = inr (q, spelled, h.0, λ kept k. h.1 (same_kept kept k))
  not_read OtherStamp h = (q, spelled, h)
  not_read Memory h = inr (q, spelled, h.0, h.1)

  pub read_err : (result : Result Played OpenFault) → IfErr result (IsNotResumed (rules_at setup) stamp q) → IfErr result (IsBadKept (rules_at setup) stamp bytes)
  read_err (Ok p) h = tt
  read_err (Err f) h = not_read f h

-- what is recorded before the first move
pub first_is : (setup : SetupView) (stamp : Stamp) (p : Played) → p.record.stamp ≡ stamp → p.record.moves ≡ [] → IsAt (rules_at setup) [] p.standing → p.record.verdict ≡ verdict_after (rules_at setup) [] → p.record.delay ≡ setup.delay → IsPlayedRecord setup stamp p × (recorded_in p ≡ first_record (rules_at setup))
first_is setup stamp p same none at ruled delay = (
  record {
    stamp_is = same;
    delay_is = delay;
    at = subst (λ (ms : List Move). IsAt (rules_at setup) ms p.standing) (sym none) at;
    ruled = ruled ∙ ap (verdict_after (rules_at setup)) (sym none);
    reached = subst (λ (ms : List Move). reaches (rules_at setup) ms (length ms) ≡ true) (sym none) refl;
    short = let n : length p.record.moves ≡ 0 = ap length none in omega arith;
  },
  recorded_is p.record.moves [] p.record.verdict (verdict_after (rules_at setup) []) none ruled,
)
  where
    recorded_is : (ms ns : List Move) (v w : Option Verdict) → ms ≡ ns → v ≡ w → ◌≡◌ {A = Recorded} (record { moves = ms; verdict = v }) (record { moves = ns; verdict = w })
    recorded_is ms ns v w e f = cc

-- what is recorded by a record that is read
pub played_is : (setup : SetupView) (stamp : Stamp) (p : Played) (o : GameOutcome) (v : Option Verdict) → p.record.stamp ≡ stamp → IsOutcome (rules_at setup) p.record.moves o → at_end o (length p.record.moves) ≡ Some v → p.record.verdict ≡ v → p.record.delay ≡ setup.delay → IsAt (rules_at setup) (take (plies_to p.record.moves o) p.record.moves) p.standing → length p.record.moves ≤ most_moves → IsPlayedRecord setup stamp p
played_is setup stamp p o v same h e verdict delay at short =
    let x = ends (rules_at setup) p.record.moves o v h e in
    record {
      stamp_is = same;
      delay_is = delay;
      at = subst (λ (ms : List Move). IsAt (rules_at setup) ms p.standing) (plies_all p.record.moves o v e) at;
      ruled = verdict ∙ sym x.ruled;
      reached = x.reached;
      short = short;
    }

-- an arbiter that is opened is in order
pub first_in_order : (setup : SetupView) (stamp : Stamp) (p : Played) → setup.delay ≤ most_delay → IsPlayedRecord setup stamp p → IsArbiterInOrder setup p nothing_waits
first_in_order setup stamp p few h = record { played = subst (λ (s : Stamp). IsPlayedRecord setup s p) (sym h.stamp_is) h; near = near_nothing (length p.record.moves + 1); delay = few }

-- bytes that are read as none spell no record
pub no_record : (t : List ℕ) (d : Result Record RecordFault) (fault : RecordFault) → d ≡ Err fault → (fault ≡ NoMemory → ⊥) → ((r : Record) → SpellsRecord t r → (d ≡ Ok r) ⊎ (d ≡ Err NoMemory)) → (r : Record) → SpellsRecord t r → ⊥
no_record t d fault e other only r h = elim (only r h) [
  | inl ok ↦ (let x : ◌≡◌ {A = Result Record RecordFault} (Err fault) (Ok r) = sym e ∙ ok in cc)
  | inr memory ↦ other (let x : ◌≡◌ {A = Result Record RecordFault} (Err fault) (Err NoMemory) = sym e ∙ memory in cc)
]

-- ---- the first put

-- bytes that spell what is recorded are what an arbiter keeps
pub kept_so : (stamp : Stamp) (delay : ℕ) (p : Played) (kept : Recorded) (sent : List ℕ) (now : Option (List ℕ)) → p.record.stamp ≡ stamp → p.record.delay ≡ delay → recorded_in p ≡ kept → SpellsRecord sent p.record → now ≡ Some sent → IsSpelled stamp delay kept now
kept_so stamp delay p kept sent now same same_delay is spelled there =
    subst (IsSpelled stamp delay kept) (sym there)
    (subst (λ (k : Recorded). SpellsRecord sent (spelled_as stamp delay k)) is
    (subst (SpellsRecord sent) (record_is p.record.stamp stamp p.record.delay delay p.record.verdict p.record.moves same same_delay) spelled))

pub wrote_so : (stamp : Stamp) (delay : ℕ) (p : Played) (kept : Recorded) (sent : List ℕ) (now : Option (List ℕ)) → p.record.stamp ≡ stamp → p.record.delay ≡ delay → recorded_in p ≡ kept → WritesRecord sent p.record → now ≡ Some sent → IsWritten stamp delay kept now
wrote_so stamp delay p kept sent now same same_delay is written there =
    subst (IsWritten stamp delay kept) (sym there)
    (subst (λ (k : Recorded). WritesRecord sent (spelled_as stamp delay k)) is
    (subst (WritesRecord sent) (record_is p.record.stamp stamp p.record.delay delay p.record.verdict p.record.moves same same_delay) written))

pub put_fails : {K : Type 0} {T : Type 0} (facts : KeeperFacts K) (setup : SetupView) (me : Identity) (before now : K) (sent : List ℕ) (p : Played) (f : KeepFault) → PutLeaves {T = T} (facts.may_be before) (facts.kept before) sent (facts.kept now) (Err f) → (IsErrOf {T = T} (Err f) Failed → Risen (facts.faults before) (facts.faults now)) → IsPlayedRecord setup me.stamp p × (recorded_in p ≡ first_record (rules_at setup)) → SpellsRecord sent p.record → WritesRecord sent p.record → facts.leaves before sent now → IsPutFirst facts setup me before now (Err KeeperFailed)
put_fails {T = T} facts setup me before now sent p f o cause first spelled written once = by_keep o.keep o.stated o.is
  where
    by_keep : (keep : Keep) → facts.may_be before keep → PutIs {T = T} keep (facts.kept before) sent (facts.kept now) (Err f) → IsPutFirst facts setup me before now (Err KeeperFailed)
    by_keep Good stated is = absurd (let x = is.0 in cc)
    by_keep FailsOld stated is = inr (record { keep = FailsOld; stated = stated; is = (refl, is.1); written = inl is.1; sent = sent; spells = wrote_so me.stamp setup.delay p (first_record (rules_at setup)) sent (Some sent) first.0.stamp_is first.0.delay_is first.1 written refl; once = once; cause = λ _. cause is.0 })
    by_keep FailsNew stated is = inr (record { keep = FailsNew; stated = stated; is = (refl, kept_so me.stamp setup.delay p (first_record (rules_at setup)) sent (facts.kept now) first.0.stamp_is first.0.delay_is first.1 spelled is.1); written = inr (wrote_so me.stamp setup.delay p (first_record (rules_at setup)) sent (facts.kept now) first.0.stamp_is first.0.delay_is first.1 written is.1); sent = sent; spells = wrote_so me.stamp setup.delay p (first_record (rules_at setup)) sent (Some sent) first.0.stamp_is first.0.delay_is first.1 written refl; once = once; cause = λ _. cause is.0 })

-- ---- over what is kept

risen_from : (before mid now : ℕ) → before ≤ mid → Risen mid now → Risen before now
risen_from before mid now le (inl lt) = inl (omega arith)
risen_from before mid now le (inr most) = inr most

module _ {K : Type 0} (facts : KeeperFacts K) (setup : SetupView) (me : Identity) where
  pub over_bytes : (before now : K) (bytes : List ℕ) (result : Result Played OpenFault) → Some bytes ≡ facts.kept before → facts.kept now ≡ facts.kept before → facts.reads before None now → IfOk result (λ p. IsPlayedRecord setup me.stamp p × IsResumed (rules_at setup) me.stamp bytes (recorded_in p)) → IfErr result (IsBadKept (rules_at setup) me.stamp bytes) → Opens facts setup me before now (told_from setup me result)
  over_bytes before now bytes (Ok p) e still got ok err = inr (inr (subst (λ (o : Option (List ℕ)). OpensOver facts setup me o before now (told_from setup me (Ok p))) e (still, (refl, ok.1), got)))
  over_bytes before now bytes (Err f) e still got ok err = inr (inr (subst (λ (o : Option (List ℕ)). OpensOver facts setup me o before now (told_from setup me (Err f))) e (still, err, got)))

  pub played_first : (mid now : K) (result : Result Played OpenFault) → IsPutFirst facts setup me mid now result → IfOk result (IsPlayedRecord setup me.stamp)
  played_first mid now (Err f) h = tt
  played_first mid now (Ok p) (inl m) = absurd (let x : ◌≡◌ {A = Result Played OpenFault} (Ok p) (Err Memory) = m.0 in cc)
  played_first mid now (Ok p) (inr o) = by_keep o.keep o.is
    where
      by_keep : (keep : Keep) → IsPutSo keep setup me (facts.kept mid) (facts.kept now) (Ok p) → IsPlayedRecord setup me.stamp p
      by_keep Good is = is.0
      by_keep FailsOld is = absurd (let x : ◌≡◌ {A = Result Played OpenFault} (Ok p) (Err KeeperFailed) = is.0 in cc)
      by_keep FailsNew is = absurd (let x : ◌≡◌ {A = Result Played OpenFault} (Ok p) (Err KeeperFailed) = is.0 in cc)

  first_lands : (keep : Keep) (before mid now : Option (List ℕ)) (result : Result Played OpenFault) → mid ≡ before → IsPutSo keep setup me mid now result → FirstLands keep setup me before now (told_from setup me result)
  first_lands Good before mid now (Ok p) e is = (ap (λ (k : Recorded). Ok (running setup me k)) is.1, is.2)
  first_lands Good before mid now (Err f) e is = absurd is
  first_lands FailsOld before mid now result e is = (ap (told_from setup me) is.0, is.1 ∙ e)
  first_lands FailsNew before mid now result e is = (ap (told_from setup me) is.0, is.1)

  wrote_later : (before mid now : Option (List ℕ)) → mid ≡ before → (now ≡ mid) ⊎ IsWritten me.stamp setup.delay (first_record (rules_at setup)) now → (now ≡ before) ⊎ IsWritten me.stamp setup.delay (first_record (rules_at setup)) now
  wrote_later before mid now e (inl same) = inl (same ∙ e)
  wrote_later before mid now e (inr written) = inr written

  failed_first : (result : Result Played OpenFault) → told_from setup me result ≡ Err KeeperFailed → result ≡ Err KeeperFailed
  failed_first (Ok p) e = absurd (let x : ◌≡◌ {A = OpenResult} (Ok (running setup me (recorded_in p))) (Err KeeperFailed) = e in cc)
  failed_first (Err f) e = let x : ◌≡◌ {A = OpenResult} (Err f) (Err KeeperFailed) = e in cc

  pub over_nothing : (before mid now : K) (result : Result Played OpenFault) → None ≡ facts.kept before → facts.kept mid ≡ facts.kept before → ((k : Keep) → facts.may_be mid k ↔ facts.may_be before k) → facts.faults before ≤ facts.faults mid → facts.reads before None mid → IsPutFirst facts setup me mid now result → Opens facts setup me before now (told_from setup me result)
  over_nothing before mid now result e still same rise got (inl m) = inr (inl (record { answer = ap (told_from setup me) m.0; still = ap facts.kept m.1 ∙ still; cause = inr (sym e, subst (λ (k : K). facts.reads before None k) (sym m.1) got) }))
  over_nothing before mid now result e still same rise got (inr o) =
      inr (inr (subst (λ (k : Option (List ℕ)). OpensOver facts setup me k before now (told_from setup me result)) e
      (record { keep = o.keep; stated = (same o.keep).0 o.stated; lands = first_lands o.keep (facts.kept before) (facts.kept mid) (facts.kept now) result still o.is; written = wrote_later (facts.kept before) (facts.kept mid) (facts.kept now) still o.written; mid = mid; got = got; sent = o.sent; spells = o.spells; once = o.once; cause = λ f. risen_from (facts.faults before) (facts.faults mid) (facts.faults now) rise (o.cause (failed_first result f)) })))

pub runs_is : (setup : SetupView) (own stamp : Stamp) (who : ArbiterId) (kept : Recorded) (window : ReorderBuffer) → own ≡ stamp → window ≡ nothing_waits → ◌≡◌ {A = View} (record { setup = setup; me = record { stamp = own; who = who }; kept = kept; window = window; is_down = false }) (running setup (record { stamp = stamp; who = who }) kept)
runs_is setup own stamp who kept window e f =
    ap (λ (x : Stamp). record { setup = setup; me = record { stamp = x; who = who }; kept = kept; window = window; is_down = false }) e
    ∙ ap (λ (w : ReorderBuffer). record { setup = setup; me = record { stamp = stamp; who = who }; kept = kept; window = w; is_down = false }) f

pub opens_as : {K : Type 0} (facts : KeeperFacts K) (setup : SetupView) (me : Identity) (before now : K) (told other : OpenResult) → told ≡ other → Opens facts setup me before now told → Opens facts setup me before now other
opens_as facts setup me before now told other e h = subst (Opens facts setup me before now) e h

pub was_some : {T : Type 0} (f : T → List ℕ) (o : Option T) (x : T) (k : Option (List ℕ)) → o ≡ Some x → option_map f o ≡ k → Some (f x) ≡ k
was_some f o x k e h = ap (option_map f) (sym e) ∙ h

pub was_none : {T : Type 0} (f : T → List ℕ) (o : Option T) (k : Option (List ℕ)) → o ≡ None → option_map f o ≡ k → None ≡ k
was_none f o k e h = ap (option_map f) (sym e) ∙ h

-- ---- what an opened arbiter has recorded is what is kept

module _ {K : Type 0} (facts : KeeperFacts K) (setup : SetupView) (me : Identity) (before now : K) (v : View) where
  not_failed : (fault : OpenFault) → Ok v ≡ Err fault → ⊥
  not_failed fault e = let f : ◌≡◌ {A = OpenResult} (Ok v) (Err fault) = e in cc

  first_kept : (keep : Keep) → FirstLands keep setup me (facts.kept before) (facts.kept now) (Ok v) → Keeps (facts.kept now) v
  first_kept Good h = let e : ◌≡◌ {A = OpenResult} (Ok v) (Ok (running setup me (first_record (rules_at setup)))) = h.0 in let same : v ≡ running setup me (first_record (rules_at setup)) = cc in subst (Keeps (facts.kept now)) (sym same) h.1
  first_kept FailsOld h = absurd (not_failed KeeperFailed h.0)
  first_kept FailsNew h = absurd (not_failed KeeperFailed h.0)

  over_kept : (o : Option (List ℕ)) → facts.kept before ≡ o → OpensOver facts setup me o before now (Ok v) → Keeps (facts.kept now) v
  over_kept None e h = first_kept h.keep h.lands
  over_kept (Some bytes) e h =
      let spelled : Keeps (Some bytes) (running setup me v.kept) = h.1.1.0 in
      subst (λ (o : Option (List ℕ)). Keeps o v) (sym (h.0 ∙ e)) (subst (Keeps (Some bytes)) (sym h.1.0) spelled)

  pub opened_keeps : Opens facts setup me before now (Ok v) → Keeps (facts.kept now) v
  opened_keeps (inl h) = absurd (not_failed KeeperFailed h.answer)
  opened_keeps (inr (inl h)) = absurd (not_failed Memory h.answer)
  opened_keeps (inr (inr h)) = over_kept (facts.kept before) refl h
