-- A game that is opened among many, and answers.
use Rattle.std.proofs.Common.{◌≡◌, inl, inr, ◌++◌, [], ◌∙◌, ℕ, true, false, List, Option, Some, None, refl, sym, ap, subst}
use Rattle.std.specs.Prelude.{Result, Ok, Err, IsOk}
use Rattle.arbiter_core.specs.Answering.{Identity}
use Rattle.arbiter_core.specs.Opens.{FirstLands, IsOpening, Opens, OpensOver, first_record, running}
use Rattle.arbiter_core.specs.Setups.{IsIdentity, SetupView, rules_at}
use Rattle.arbiter_core.specs.Views.{View}
use Rattle.arbiter_core.specs.declared.keeper.Keep.{Keep}
use Rattle.arbiter_core.specs.declared.keeper.Keep.TheVariants.{Good}
use Rattle.arbiter_server.proofs.OpenedLaws.{good_unless}
use Rattle.arbiter_server.specs.Games.{CommonView, IsGameOf, setup_of}
use Rattle.board_core.specs.declared.parts.Parts.{Parts}
use Rattle.move_msg.specs.declared.message.Message.{Message}
use Rattle.timeline.specs.Events.{Event}
use Rattle.game_folder.specs.Drafts.{DraftView, draft_facts}
use Rattle.timeline.specs.Outsides.{Outside}
use Rattle.game_server.specs.Fates.{KeptIfAny, found_draft, is_unput}
use Rattle.game_folder.specs.Holdings.{GamesFacts, IsKnown, IsQuiet, KeepsGame, StaysNoted, known}
use Rattle.game_folder.specs.declared.games.KeptGame.{KeptGame}
use Rattle.game_server.proofs.Announcing.{IsDrafted}
use Rattle.game_server.proofs.Knowing.{known_after, known_on, quiet_join}
use Rattle.game_server.proofs.Openings.{IsBegun}

err_not_ok : {A E : Type 0} (r : Result A E) (e : E) → IsOk r → r ≡ Err e → ⊥
err_not_ok (Ok x) e h is = cc
err_not_ok (Err x) e h is = cc

-- what is kept was put, if it was to be
pub put_if_any : (to_put : Option (List ℕ)) (outputs : List Message) → is_unput to_put true (Ok outputs) ≡ false
put_if_any None outputs = refl
put_if_any (Some bytes) outputs = refl

-- ---- whose arbiter it is

by_kept : (setup : SetupView) (me : Identity) (old new : DraftView) (v : View) (k : Option (List ℕ)) → OpensOver draft_facts setup me k old new (Ok v) → v.me ≡ me
by_kept setup me old new v None h =
    let good : FirstLands Good setup me old.kept new.kept (Ok v) = subst (λ (keep : Keep). FirstLands keep setup me old.kept new.kept (Ok v)) h.stated h.lands in
    let same : v ≡ running setup me (first_record (rules_at setup)) = let is = good.0 in cc in
    ap (λ (x : View). x.me) same
by_kept setup me old new v (Some bytes) h = ap (λ (x : View). x.me) h.1.0

by_opens : (setup : SetupView) (me : Identity) (old new : DraftView) (v : View) → Opens draft_facts setup me old new (Ok v) → v.me ≡ me
by_opens setup me old new v h = elim h [
  | inl fails ↦ let is = fails.answer in absurd cc
  | inr rest ↦ elim rest [ inl none ↦ let is = none.answer in absurd cc | inr over ↦ by_kept setup me old new v old.kept over ]
]

pub opened_me : (setup : SetupView) (old new : DraftView) (v : View) → IsOpening draft_facts setup old new (Ok v) → IsIdentity setup v.me
opened_me setup old new v h =
    let opens = h.good (good_unless setup (λ bad. let e = (h.bad bad).0 in cc)) in
    subst (IsIdentity setup) (sym (by_opens setup opens.0 old new v opens.2)) opens.1

-- it is of the game with this stamp
pub opened_its : (t : CommonView) (stamp name : List ℕ) (start : Parts) (delay : ℕ) (old new : DraftView) (v : View) → IsGameOf t.manifest stamp name start delay → IsOpening draft_facts (setup_of t name start delay) old new (Ok v) → v.me.stamp ≡ stamp
opened_its t stamp name start delay old new v game h = (opened_me (setup_of t name start delay) old new v h).stamp ∙ sym game.stamped

-- ---- what is known of its draft

-- what a draft has is known before it is changed, or what it has to put is known after it is kept
module _ {G : Type 0} (facts : GamesFacts G) (g g' : G) (place : facts.place g' ≡ facts.place g) (noted : StaysNoted facts g g') (stamp : List ℕ) (old new : DraftView) (before events : List Event) where
  pub drafted_known : IsDrafted old new → ((bytes : List ℕ) → new.to_put ≡ Some bytes → known facts g' events stamp bytes) → IsKnown facts g before stamp old.kept → IsKnown facts g' (before ++ events) stamp new.kept
  drafted_known (inl same) kept was bytes is = known_on facts g g' place stamp bytes noted before events (was bytes (sym (ap (λ (d : DraftView). d.kept) same) ∙ is))
  drafted_known (inr put) kept was bytes is =
      let its : put.0 ≡ bytes = let a = put.1 in cc in
      subst (known facts g' (before ++ events) stamp) its (known_after facts g g' place stamp put.0 before events (kept put.0 put.2))

  -- an arbiter that was opened over a draft keeps what is known
  pub begun_known : IsBegun old new → ((bytes : List ℕ) → new.to_put ≡ Some bytes → known facts g' events stamp bytes) → IsKnown facts g before stamp old.kept → (bytes : List ℕ) × (new.kept ≡ Some bytes) × known facts g' (before ++ events) stamp bytes
  begun_known (inl same) kept was = (same.0, ap (λ (d : DraftView). d.kept) same.2 ∙ same.1, known_on facts g g' place stamp same.0 noted before events (was same.0 same.1))
  begun_known (inr put) kept was = (put.0, put.1, known_after facts g g' place stamp put.0 before events (kept put.0 put.2))

-- a draft that has nothing to put
pub clean_draft : (d : DraftView) → d.to_put ≡ None → d ≡ found_draft d.kept
clean_draft d is = ap (λ (p : Option (List ℕ)). draft_view d.kept p) is
  where
    draft_view : Option (List ℕ) → Option (List ℕ) → DraftView
    draft_view kept to_put = record { kept = kept; to_put = to_put }

-- ---- what a game has to put is kept

abbrev pub okay : (A E : Type 0) → A → Result A E
okay A E x = Ok x

abbrev pub failed : (A E : Type 0) → E → Result A E
failed A E e = Err e

module _ {T P F K S L G A E : Type 0} (o : Outside T P F K S L) (facts : GamesFacts G) (old new : G) (before after : KeptGame F) where
  pub kept_if_any : (x : A) (events : List Event) → KeepsGame facts o old new before after (okay A E x) events → KeptIfAny facts old before.stamp before.draft.to_put events new
  kept_if_any x events h = by before.draft.to_put refl
    where
      by : (k : Option (List ℕ)) → before.draft.to_put ≡ k → KeptIfAny facts old before.stamp k events new
      by None is = let n = h.none is in (n.0, n.1)
      by (Some bytes) is = h.some bytes is

  pub kept_known : (x : A) (events : List Event) → KeepsGame facts o old new before after (okay A E x) events → (bytes : List ℕ) → before.draft.to_put ≡ Some bytes → known facts new events before.stamp bytes
  kept_known x events h bytes is = h.known bytes is

  -- it had something to put, and that wasn't kept
  pub unkept_some : (e : E) (events : List Event) → KeepsGame facts o old new before after (failed A E e) events → (bytes : List ℕ) × (before.draft.to_put ≡ Some bytes) × facts.keeps old before.stamp bytes false events new
  unkept_some e events h = by before.draft.to_put refl
    where
      by : (k : Option (List ℕ)) → before.draft.to_put ≡ k → (bytes : List ℕ) × (before.draft.to_put ≡ Some bytes) × facts.keeps old before.stamp bytes false events new
      by None is = let ok = (h.none is).2 in absurd (err_not_ok (failed A E e) e ok refl)
      by (Some bytes) is = (bytes, is, h.some bytes is)

pub quiet_nothing : {G : Type 0} (facts : GamesFacts G) (g : G) → IsQuiet facts g g []
quiet_nothing facts g = record { quiet = tt; place = refl }

-- after one quiet call another
pub quiet_then : {G : Type 0} (facts : GamesFacts G) (a b c : G) (xs ys : List Event) → IsQuiet facts a b xs → IsQuiet facts b c ys → IsQuiet facts a c (xs ++ ys)
quiet_then facts a b c xs ys p q = record { quiet = quiet_join xs ys p.quiet q.quiet; place = q.place ∙ p.place }

pub noted_then : {G : Type 0} (facts : GamesFacts G) (a b c : G) → StaysNoted facts a b → StaysNoted facts b c → StaysNoted facts a c
noted_then facts a b c p q stamp bytes n = q stamp bytes (p stamp bytes n)
