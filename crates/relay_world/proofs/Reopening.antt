-- An opening over what is kept is the restart of its side.
use Rattle.std.proofs.Common.{◌≡◌, ◌≢◌, ℕ, List, Option, Some, None, Ok, Err, sym, refl, ap, ◌∙◌, subst, inl, inr}
use Rattle.std.specs.Prelude.{IfSome, ◌⊎◌}
use Rattle.board_core.specs.declared.moves.Move.{Move}
use Rattle.board_core.specs.declared.verdict.Verdict.{Verdict}
use Rattle.move_msg.specs.declared.stamp.Stamp.{Stamp}
use Rattle.move_msg.specs.declared.arbiter_id.ArbiterId.{ArbiterId}
use Rattle.move_msg.specs.declared.arbiter_id.ArbiterId.TheVariants.{A, B}
use Rattle.move_msg.specs.declared.record_bytes.Record.{Record}
use Rattle.move_msg.specs.Senders.{who_number}
use Rattle.move_msg.specs.Records.{WritesRecord}
use Rattle.move_msg.proofs.RecordLaws.{is_spelled, one_record}
use Rattle.judge_core.specs.Games.{Rules, verdict_after}
use Rattle.arbiter_core.specs.declared.fault.OpenFault.TheVariants.{BadSetup, KeeperFailed, BadRecord, OtherStamp, OutOfMemory}
use Rattle.arbiter_core.specs.declared.keeper.Keep.{Keep}
use Rattle.arbiter_core.specs.declared.keeper.Keep.TheVariants.{Good, FailsOld, FailsNew}
use Rattle.arbiter_core.specs.Recording.{Recorded}
use Rattle.arbiter_core.specs.Answering.{Identity}
use Rattle.arbiter_core.specs.Memory.{Memory, memory_facts}
use Rattle.arbiter_core.specs.Setups.{SetupView, rules_at, IsIdentity}
use Rattle.arbiter_core.specs.Views.{View, spelled_as}
use Rattle.arbiter_core.specs.Delivers.{IsSpelled, IsWritten}
use Rattle.arbiter_core.specs.Opens.{OpenResult, Opens, OpensOver, FirstLands, Resumes, IsResumed, IsWhole, running, first_record}
use Rattle.arbiter_core.proofs.Opened.{from_whole}
use Rattle.relay_world.specs.declared.replica.Place.{Place}
use Rattle.relay_world.specs.declared.replica.Place.TheVariants as place
use Rattle.relay_world.specs.Worlds.{Side, opened_side, restarted}
use Rattle.relay_world.specs.Inside.Seats.{PlaceIs, PlaceView, Shut, Open, IsOpen, StandsForSide}
use Rattle.relay_world.specs.Inside.Fields.{place_view, setup_in}
use Rattle.relay_world.specs.Runs.{KeptIs}

same_who : (a b : ArbiterId) → who_number a ≡ who_number b → a ≡ b
same_who A A e = refl
same_who B B e = refl
same_who A B e = cc
same_who B A e = cc

-- a setup has one identity
one_identity : (setup : SetupView) (i me : Identity) → IsIdentity setup i → IsIdentity setup me → i ≡ me
one_identity setup i me f g =
    made i.stamp me.stamp i.who me.who (f.stamp ∙ sym g.stamp) (same_who i.who me.who (f.who ∙ sym g.who))
  where
    made : (s t : Stamp) (a b : ArbiterId) → s ≡ t → a ≡ b → ◌≡◌ {A = Identity} (record { stamp = s; who = a }) (record { stamp = t; who = b })
    made s t a b e d = cc

-- bytes spell one whole record
pub one_whole : (rules : Rules) (stamp : Stamp) (bytes : List ℕ) (one other : Recorded) → IsResumed rules stamp bytes one → IsResumed rules stamp bytes other → one ≡ other
one_whole rules stamp bytes one other f g =
    let q : spelled_as stamp rules.delay one ≡ spelled_as stamp rules.delay other = one_record bytes (spelled_as stamp rules.delay one) (spelled_as stamp rules.delay other) f.0 g.0 in
    let moves : one.moves ≡ other.moves = ap (λ (r : Record). r.moves) q in
    let verdict : one.verdict ≡ other.verdict = sym (from_whole rules one f.1).ruled ∙ ap (verdict_after rules) moves ∙ (from_whole rules other g.1).ruled in
    made one.moves other.moves one.verdict other.verdict moves verdict
  where
    made : (ms ns : List Move) (v w : Option Verdict) → ms ≡ ns → v ≡ w → ◌≡◌ {A = Recorded} (record { moves = ms; verdict = v }) (record { moves = ns; verdict = w })
    made ms ns v w e d = cc

-- what an opening leaves: an arbiter, or the setup
abbrev pub Reopens : Identity → SetupView → Memory → Side → OpenResult → Type 0
Reopens me setup kn late (Ok v) = StandsForSide me setup (Open v) kn late
Reopens me setup kn late (Err fault) = (s : SetupView) → s ≡ setup → StandsForSide me setup (Shut s) kn late

module _ (me : Identity) (setup : SetupView) (kn : Memory) where
  runs : (kept : Recorded) → IsWritten me.stamp setup.delay kept kn.kept → StandsForSide me setup (Open (running setup me kept)) kn (restarted (rules_at setup) Good (Some kept))
  runs kept h =
      let v : View = running setup me kept in
      let late : Side = restarted (rules_at setup) Good (Some kept) in
      let at : IsOpen v late = (refl, refl) in
      record { place_is = (refl, refl, at); kept = h }

  -- the first record is put over nothing
  written : (before : Option (List ℕ)) → before ≡ None → (kn.kept ≡ before) ⊎ IsWritten me.stamp setup.delay (first_record (rules_at setup)) kn.kept → IsSpelled me.stamp setup.delay (first_record (rules_at setup)) kn.kept → IsWritten me.stamp setup.delay (first_record (rules_at setup)) kn.kept
  written before e (inl same) h = absurd (subst (IsSpelled me.stamp setup.delay (first_record (rules_at setup))) (same ∙ e) h)
  written before e (inr w) h = w

  first_put : (keep : Keep) (before : Option (List ℕ)) (told : OpenResult) → before ≡ None → (kn.kept ≡ before) ⊎ IsWritten me.stamp setup.delay (first_record (rules_at setup)) kn.kept → FirstLands keep setup me before kn.kept told → Reopens me setup kn (opened_side keep (first_record (rules_at setup))) told
  first_put Good before told e w l = subst (Reopens me setup kn (opened_side Good (first_record (rules_at setup)))) (sym l.0) (runs (first_record (rules_at setup)) (written before e w l.1))
  first_put FailsOld before told e w l = subst (Reopens me setup kn (opened_side FailsOld (first_record (rules_at setup)))) (sym l.0) (λ s is. record { place_is = (is, refl); kept = l.1 ∙ e })
  first_put FailsNew before told e w l = subst (Reopens me setup kn (opened_side FailsNew (first_record (rules_at setup)))) (sym l.0) (λ s is. record { place_is = (is, refl); kept = written before e w l.1 })

  over_bytes : (keep : Keep) (bytes : List ℕ) (old : Recorded) (told : OpenResult) → WritesRecord bytes (spelled_as me.stamp setup.delay old) → IsResumed (rules_at setup) me.stamp bytes old → kn.kept ≡ Some bytes → told ≢ Err OutOfMemory → Resumes setup me bytes told → Reopens me setup kn (restarted (rules_at setup) keep (Some old)) told
  over_bytes keep bytes old (Ok v) w h still n r =
      let same : v.kept ≡ old = one_whole (rules_at setup) me.stamp bytes v.kept old r.1 h in
      let is : v ≡ running setup me old = r.0 ∙ ap (running setup me) same in
      let spelled : IsWritten me.stamp setup.delay old kn.kept = subst (IsWritten me.stamp setup.delay old) (sym still) w in
      subst (λ (x : View). StandsForSide me setup (Open x) kn (restarted (rules_at setup) Good (Some old))) (sym is) (runs old spelled)
  over_bytes keep bytes old (Err BadRecord) w h still n (inl r) = absurd (r (spelled_as me.stamp setup.delay old) h.0)
  over_bytes keep bytes old (Err BadRecord) w h still n (inr r) = absurd (r.3 old h)
  over_bytes keep bytes old (Err OtherStamp) w h still n r =
      let same : r.0 ≡ spelled_as me.stamp setup.delay old = one_record bytes r.0 (spelled_as me.stamp setup.delay old) r.1 h.0 in
      absurd (r.2 (ap (λ (x : Record). x.stamp) same, ap (λ (x : Record). x.delay) same))
  over_bytes keep bytes old (Err OutOfMemory) w h still n r = absurd (n refl)
  over_bytes keep bytes old (Err BadSetup) w h still n r = absurd r
  over_bytes keep bytes old (Err KeeperFailed) w h still n r = absurd r

pub reopened : (me : Identity) (setup : SetupView) (place : PlaceView) (old k kn : Memory) (side : Side) (keep : Keep) (told : OpenResult) → IsIdentity setup me → IfSome side.kept (IsWhole (rules_at setup)) → StandsForSide me setup place old side → k.kept ≡ old.kept → k.keep ≡ keep → (i : Identity) × IsIdentity setup i × Opens memory_facts setup i k kn told → told ≢ Err OutOfMemory → Reopens me setup kn (restarted (rules_at setup) keep side.kept) told
reopened me setup place old k kn side keep told is whole h ke kk o n =
    by_opens (subst (λ (i : Identity). Opens memory_facts setup i k kn told) (one_identity setup o.0 me o.1 is) o.2)
  where
    by_kept : (kept : Option Recorded) (bytes : Option (List ℕ)) → k.kept ≡ bytes → KeptIs me.stamp setup.delay bytes kept → IfSome kept (IsWhole (rules_at setup)) → OpensOver memory_facts setup me bytes k kn told → Reopens me setup kn (restarted (rules_at setup) keep kept) told
    by_kept None None e f w q =
        let same : q.keep ≡ keep = sym q.stated ∙ kk in
        subst (λ (x : Keep). Reopens me setup kn (opened_side x (first_record (rules_at setup))) told) same (first_put me setup kn q.keep k.kept told e q.written q.lands)
    by_kept None (Some bytes) e f w q = absurd cc
    by_kept (Some kept) None e f w q = absurd f
    by_kept (Some kept) (Some bytes) e f w q = over_bytes me setup kn keep bytes kept told f (is_spelled bytes (spelled_as me.stamp setup.delay kept) f, w) (q.0 ∙ e) n q.1

    by_opens : Opens memory_facts setup me k kn told → Reopens me setup kn (restarted (rules_at setup) keep side.kept) told
    by_opens (inl g) = absurd g.stated
    by_opens (inr (inl g)) = absurd (n g.answer)
    by_opens (inr (inr q)) = by_kept side.kept k.kept refl (subst (λ (x : Option (List ℕ)). KeptIs me.stamp setup.delay x side.kept) (sym ke) h.kept) whole q

pub setup_of : (me : Identity) (setup : SetupView) (p : Place) (side : Side) → PlaceIs me setup (place_view p) side → setup_in p ≡ setup
setup_of me setup (place.Shut s) side h = h.0
setup_of me setup (place.Open v) side h = h.0
