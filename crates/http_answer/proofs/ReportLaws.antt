-- Reports on all games, and what is kept of them.
use Rattle.std.proofs.Common.{◌≡◌, ◌∙◌, ℕ, List, Option, Some, None, refl, sym, ap, subst}
use Rattle.std.specs.Prelude.{Bool, IfOk, IfSome, Result, Ok, Err, Vec, false, if◌then◌else◌, true}
use Rattle.std.specs.Time.{instant_nanos}
use Rattle.std.specs.declared.time.Instant.{Instant}
use Rattle.std.specs.Global.{Global}
use Rattle.answer_parts.specs.Lines.{refusal_words}
use Rattle.answer_parts.specs.declared.answers.refusals.Refusal.{Refusal}
use Rattle.game_reports.specs.Asked.{GameRefused, IsListed, IsNotListed, IsReported, NoRoomToLook, NoRoomToReport, ReadsGame, ReadsReport, ReportRefused}
use Rattle.game_reports.specs.Folders.{OpensGames}
use Rattle.game_reports.specs.declared.asked.GameFound.{GameFound}
use Rattle.timeline.specs.Events.{Event}
use Rattle.timeline.specs.Outsides.{AddsSome, Outside}
use Rattle.game_status.specs.declared.report.ReportForm.{ReportForm}
use Rattle.game_status.specs.declared.report.ReportForm.TheVariants.{Json as AsJson, Metrics as AsMetrics}
use Rattle.http_answer.specs.declared.games.Kept.{Kept}
use Rattle.http_answer.specs.declared.games.LackedFolder.{LackedFolder}
use Rattle.http_answer.specs.Games.{Again, Anew, GamesByClock, GamesOn, IsGameOrNone, IsReport, IsReportAt, KeptReport, LacksGames, Report, fresh_at, is_fresh, kept_at, with_kept}
use Rattle.http_answer.specs.Inside.{IsKeptAt, IsKeptReport, ReadReport, is_lacked, kept_in, report_in}
use Rattle.http_answer.specs.Times.{nanos}

-- a result is one thing
abbrev IsOk : {A : Type 0} → Option (Result A Refusal) → Type 0
IsOk None = ⊥
IsOk (Some (Ok a)) = Unit {0}
IsOk (Some (Err r)) = ⊥

abbrev IsThere : {A : Type 0} → Option A → Type 0
IsThere None = ⊥
IsThere (Some a) = Unit {0}

ok_not_err : {A : Type 0} (a : A) (r : Refusal) → ◌≡◌ {A = Option (Result A Refusal)} (Some (Ok a)) (Some (Err r)) → ⊥
ok_not_err {A} a r e = subst (IsOk {A = A}) e tt

none_not_some : {A : Type 0} (a : A) → ◌≡◌ {A = Option A} None (Some a) → ⊥
none_not_some {A} a e = subst (IsThere {A = A}) (sym e) tt

err_same : {A : Type 0} (r s : Refusal) → ◌≡◌ {A = Option (Result A Refusal)} (Some (Err r)) (Some (Err s)) → r ≡ s
err_same r s e = cc

pub kept_so : (now : Option Instant) (report : ReadReport) (kept : Option Kept) → IsKeptAt now report kept → kept_in kept ≡ kept_at (nanos now) (report_in report)
kept_so None report kept is = ap kept_in is
kept_so (Some now) report kept is = ap kept_in is

either_way : {T : Type 0} (b : Bool) (x : T) (P : T → Type 0) → P x → IfSome (if b then Some x else None) P
either_way true x P p = p
either_way false x P p = tt

module _ {G T P F K S L : Type 0} (outside : G → Outside T P F K S L) (on : GamesOn G) where
  fresh_or_none : (form : ReportForm) (now : Option ℕ) (kept : Option Kept) → IsKeptReport outside on form kept → IfSome (fresh_at now (kept_in kept)) (IsReport outside on form)
  fresh_or_none form None kept is = tt
  fresh_or_none form (Some now) None is = tt
  fresh_or_none form (Some now) (Some kept) is = either_way (is_fresh (instant_nanos kept.since) now) (report_in kept.report) (IsReport outside on form) is

  -- so is the one that is kept
  pub fresh_is_report : (form : ReportForm) (now : Option ℕ) (kept : Option Kept) (report : Report) → IsKeptReport outside on form kept → fresh_at now (kept_in kept) ≡ Some report → IsReport outside on form report
  fresh_is_report form now kept report is fresh = subst (λ (r : Option Report). IfSome r (IsReport outside on form)) fresh (fresh_or_none form now kept is)

  pub kept_is_report : (form : ReportForm) (now : Option Instant) (report : ReadReport) (kept : Option Kept) → IsReport outside on form (report_in report) → IsKeptAt now report kept → IsKeptReport outside on form kept
  kept_is_report form None report kept is at = subst (IsKeptReport outside on form) (sym at) tt
  kept_is_report form (Some now) report kept is at = subst (IsKeptReport outside on form) (sym at) is

-- ---- what was read of them, or what is lacking

module _ {G T P F K S L : Type 0} (outside : G → Outside T P F K S L) (on : GamesOn G) where
  pub read_so : (a b : T) (form : ReportForm) (text : Vec ℕ Global) → AddsSome (outside on.system) a b (ReadsReport (outside on.system) on.games on.other form (Some (Ok text.items))) → IsReport outside on form (report_in (Ok text))
  read_so a b form text p = (p.0, p.2)

  pub lacks_report : (a b : T) (form : ReportForm) (refusal : Refusal) (why : LackedFolder) → AddsSome (outside on.system) a b (ReadsReport (outside on.system) on.games on.other form (Some (Err refusal))) → is_lacked refusal why
      → LacksGames outside on why
  lacks_report a b form refusal why p is = (p.0, subst (λ (r : Refusal). OpensGames (outside on.system) on.games on.other (Err (refusal_words r)) p.0) is (refused_by p.0 _ p.2 refl))
    where
      refused_by : (events : List Event) (report : Option (Result (List ℕ) Refusal)) → ReadsReport (outside on.system) on.games on.other form report events → report ≡ Some (Err refusal)
          → OpensGames (outside on.system) on.games on.other (Err (refusal_words refusal)) events
      refused_by events report (IsReported f found text opening reading opens each whole same all) e = absurd (ok_not_err text refusal (sym same ∙ e))
      refused_by events report (NoRoomToReport f opening reading opens first same all) e = absurd (none_not_some _ (sym same ∙ e))
      refused_by events report (ReportRefused other opens same) e = subst (λ (r : Refusal). OpensGames (outside on.system) on.games on.other (Err (refusal_words r)) events) (err_same other refusal (sym same ∙ e)) opens

  pub found_so : (a b : T) (stamp : List ℕ) (found : Option GameFound) → AddsSome (outside on.system) a b (ReadsGame (outside on.system) on.games on.other stamp (Some (Ok found))) → IsGameOrNone outside on stamp found
  found_so a b stamp None p = (p.0, p.2)
  found_so a b stamp (Some g) p = (p.0, p.2)

  pub lacks_game : (a b : T) (stamp : List ℕ) (refusal : Refusal) (why : LackedFolder) → AddsSome (outside on.system) a b (ReadsGame (outside on.system) on.games on.other stamp (Some (Err refusal))) → is_lacked refusal why
      → LacksGames outside on why
  lacks_game a b stamp refusal why p is = (p.0, subst (λ (r : Refusal). OpensGames (outside on.system) on.games on.other (Err (refusal_words r)) p.0) is (refused_by p.0 _ p.2 refl))
    where
      refused_by : (events : List Event) (result : Option (Result (Option GameFound) Refusal)) → ReadsGame (outside on.system) on.games on.other stamp result events → result ≡ Some (Err refusal)
          → OpensGames (outside on.system) on.games on.other (Err (refusal_words refusal)) events
      refused_by events result (IsListed f g opening reading opens has looks same all) e = absurd (ok_not_err (Some g) refusal (sym same ∙ e))
      refused_by events result (IsNotListed f opens lacks same) e = absurd (ok_not_err None refusal (sym same ∙ e))
      refused_by events result (NoRoomToLook f opening reading opens has looks same all) e = absurd (none_not_some _ (sym same ∙ e))
      refused_by events result (GameRefused other opens same) e = subst (λ (r : Refusal). OpensGames (outside on.system) on.games on.other (Err (refusal_words r)) events) (err_same other refusal (sym same ∙ e)) opens

-- ---- of games as contracts see them

pub game_so : {G C T P F K S L : Type 0} (outside : G → Outside T P F K S L) (inside now : GamesByClock G C) (stamp : List ℕ) (found : Option GameFound) → inside ≡ now
    → IsGameOrNone outside inside.on stamp found → IsGameOrNone outside now.on stamp found
game_so {G} {C} outside inside now stamp found same is = subst (λ (g : GamesByClock G C). IsGameOrNone outside g.on stamp found) same is

pub so_by : {G C : Type 0} (inside now : GamesByClock G C) (P : GamesByClock G C → Type 0) → inside ≡ now → P inside → P now
so_by inside now P same p = subst P same p

pub kept_same : {G C : Type 0} (form : ReportForm) (inside now : GamesByClock G C) (kept other : Option KeptReport) → inside ≡ now → kept ≡ other → with_kept form kept inside ≡ with_kept form other now
kept_same {G} {C} form inside now kept other same is = ap (λ (k : Option KeptReport). with_kept form k inside) is ∙ ap (λ (g : GamesByClock G C). with_kept form other g) same

with_kept_on : {G C : Type 0} (form : ReportForm) (kept : Option KeptReport) (g : GamesByClock G C) → (with_kept form kept g).on ≡ g.on
with_kept_on AsJson kept g = refl
with_kept_on AsMetrics kept g = refl

pub aged_stays : {G C : Type 0} (now : Option ℕ) (form : ReportForm) (old new : GamesByClock G C) (report : Report) → IsReportAt now form old new report → new.on ≡ old.on
aged_stays {G} {C} now form old new report (Again fresh same) = ap (λ (g : GamesByClock G C). g.on) same
aged_stays {G} {C} now form old new report (Anew stale is) = ap (λ (g : GamesByClock G C). g.on) is ∙ with_kept_on form (kept_at now report) old

pub if_both : {T E : Type 0} {P Q R : T → Type 0} (r : Result T E) → IfOk r P → IfOk r Q → ((x : T) → P x → Q x → R x) → IfOk r R
if_both (Ok x) p q f = f x p q
if_both (Err e) p q f = tt
