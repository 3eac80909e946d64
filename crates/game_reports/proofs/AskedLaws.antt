-- Games that are read for who asks, one thing after another.
use Rattle.std.proofs.Common.{◌≡◌, ◌++◌, ℕ, Bool, true, List, Option, Some, None, refl, subst}
use Rattle.std.specs.Global.{Global}
use Rattle.std.specs.List.{Contains}
use Rattle.std.specs.Prelude.{Result, Ok, Err, Vec, is_some}
use Rattle.std.specs.declared.alloc.AllocError.{AllocError}
use Rattle.answer_parts.specs.Lines.{refusal_words}
use Rattle.answer_parts.specs.declared.answers.refusals.Refusal.{Refusal}
use Rattle.game_status.specs.Reports.{form_of}
use Rattle.game_status.specs.declared.report.ReportForm.{ReportForm}
use Rattle.game_status.specs.declared.status_lines.Look.{Look}
use Rattle.timeline.proofs.EventLaws.{adds_more}
use Rattle.timeline.specs.Outsides.{AddsSome, Outside}
use Rattle.game_reports.specs.Asked.{AreFound, GameRefused, IsListed, IsNotListed, IsReported, NoRoomForBoth, NoRoomForFirst, NoRoomToLook, NoRoomToReport, ReadsBothLooks, ReadsGame, ReadsReport, ReportRefused, first_alone}
use Rattle.game_reports.specs.Folders.{KnownFolders, OpensGames}
use Rattle.game_reports.specs.GameLooks.{ReadsLook}
use Rattle.game_reports.specs.Inside.Reporting.{Finds, IsText}
use Rattle.game_reports.specs.Statuses.{FindsFirst}
use Rattle.game_reports.specs.declared.asked.GameFound.{GameFound}

module _ {T P F K S L : Type 0} (o : Outside T P F K S L) where
  -- ---- looks

  module _ (f : KnownFolders) (stamp : List ℕ) where
    pub both_found : (a b c : T) (g : GameFound) → AddsSome o a b (ReadsLook o.disk (first_alone f) stamp (Some g.first)) → AddsSome o b c (ReadsLook o.disk f stamp (Some g.both)) → AddsSome o a c (ReadsBothLooks o.disk f stamp (Some g))
    both_found a b c g p q = (p.0 ++ q.0, adds_more o a b c p.0 q.0 p.1 q.1, AreFound g p.0 q.0 p.2 q.2 refl refl)

    pub no_room_first : (a b : T) → AddsSome o a b (ReadsLook o.disk (first_alone f) stamp None) → AddsSome o a b (ReadsBothLooks o.disk f stamp None)
    no_room_first a b p = (p.0, p.1, NoRoomForFirst p.2 refl)

    pub no_room_both : (a b c : T) (l : Look) → AddsSome o a b (ReadsLook o.disk (first_alone f) stamp (Some l)) → AddsSome o b c (ReadsLook o.disk f stamp None) → AddsSome o a c (ReadsBothLooks o.disk f stamp None)
    no_room_both a b c l p q = (p.0 ++ q.0, adds_more o a b c p.0 q.0 p.1 q.1, NoRoomForBoth l p.0 q.0 p.2 q.2 refl refl)

  -- ---- all of it

  module _ (games : List ℕ) (other : Option (List ℕ)) where
    pub reported : (a b c : T) (form : ReportForm) (f : KnownFolders) (compares : Bool) (text : Vec ℕ Global) → compares ≡ is_some f.other → AddsSome o a b (OpensGames o games other (Ok f))
        → AddsSome o b c (Finds {A = Vec ℕ Global} o.disk f (IsText (form_of form) compares) (Ok text)) → AddsSome o a c (ReadsReport o games other form (Some (Ok text.items)))
    reported a b c form f compares text same (first, p, opens) (last, q, (found, each, whole)) =
        (first ++ last, adds_more o a b c first last p q, IsReported f found text.items first last opens each (subst (λ (x : Bool). (form_of form).Whole x found text.items true) same whole) refl refl)

    pub no_room_to_report : (a b c : T) (form : ReportForm) (f : KnownFolders) → AddsSome o a b (OpensGames o games other (Ok f)) → AddsSome o b c (FindsFirst o.disk f) → AddsSome o a c (ReadsReport o games other form None)
    no_room_to_report a b c form f (first, p, opens) (last, q, finds) = (first ++ last, adds_more o a b c first last p q, NoRoomToReport f first last opens finds refl refl)

    pub report_refused : (a b : T) (form : ReportForm) (refusal : Refusal) → AddsSome o a b (OpensGames o games other (Err (refusal_words refusal))) → AddsSome o a b (ReadsReport o games other form (Some (Err refusal)))
    report_refused a b form refusal p = (p.0, p.1, ReportRefused refusal p.2 refl)

    pub game_found : (a b c : T) (stamp : List ℕ) (f : KnownFolders) (g : GameFound) → Contains f.stamps stamp → AddsSome o a b (OpensGames o games other (Ok f)) → AddsSome o b c (ReadsBothLooks o.disk f stamp (Some g))
        → AddsSome o a c (ReadsGame o games other stamp (Some (Ok (Some g))))
    game_found a b c stamp f g has p q = (p.0 ++ q.0, adds_more o a b c p.0 q.0 p.1 q.1, IsListed f g p.0 q.0 p.2 has q.2 refl refl)

    pub no_room_to_look : (a b c : T) (stamp : List ℕ) (f : KnownFolders) → Contains f.stamps stamp → AddsSome o a b (OpensGames o games other (Ok f)) → AddsSome o b c (ReadsBothLooks o.disk f stamp None)
        → AddsSome o a c (ReadsGame o games other stamp None)
    no_room_to_look a b c stamp f has p q = (p.0 ++ q.0, adds_more o a b c p.0 q.0 p.1 q.1, NoRoomToLook f p.0 q.0 p.2 has q.2 refl refl)

    pub not_listed : (a b : T) (stamp : List ℕ) (f : KnownFolders) → (Contains f.stamps stamp → ⊥) → AddsSome o a b (OpensGames o games other (Ok f)) → AddsSome o a b (ReadsGame o games other stamp (Some (Ok None)))
    not_listed a b stamp f lacks p = (p.0, p.1, IsNotListed f p.2 lacks refl)

    pub game_refused : (a b : T) (stamp : List ℕ) (refusal : Refusal) → AddsSome o a b (OpensGames o games other (Err (refusal_words refusal))) → AddsSome o a b (ReadsGame o games other stamp (Some (Err refusal)))
    game_refused a b stamp refusal p = (p.0, p.1, GameRefused refusal p.2 refl)
