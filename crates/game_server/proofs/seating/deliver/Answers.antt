use Rattle.std.proofs.Common.{List, ℕ, [], ◌++◌, Option, true, false, ap, ap₂, refl, subst, sym, ◌∙◌}
use Rattle.std.specs.Prelude.{Ok, Err}
use Rattle.std.proofs.lemmas.Bool.{false≢true}
use Rattle.arbiter_core.specs.Delivers.{exchange, in_game, moment}
use Rattle.arbiter_core.specs.Resting.{awake}
use Rattle.arbiter_server.specs.ServedLines.{heard_words, refused_keeper}
use Rattle.arbiter_server.specs.Told.{stamped}
use Rattle.arbiter_server.specs.declared.datagram_report.DatagramReport.TheVariants as report
use Rattle.arbiter_server.specs.declared.line.Line.TheVariants as line
use Rattle.move_msg.specs.Messages.{stamp_in}
use Rattle.move_msg.specs.declared.message.Message.{Message}
use Rattle.timeline.proofs.EventLaws.{adds_none}
use Rattle.game_folder.specs.Drafts.{DraftView}
use Rattle.game_server.specs.Fates.{KeepsAnswer}
use Rattle.game_folder.specs.Holdings.{IsKeptIn, known}
use Rattle.arbiter_server.specs.Told.{line_words}
use Rattle.game_server.specs.Replies.{AreBacked}
use Rattle.game_server.specs.Fates.{is_unput}
use Rattle.game_server.specs.declared.seat.Seat.{Seat}
use Rattle.game_server.proofs.Announcing.{announces}
use Rattle.game_server.proofs.DeliverLaws.{are_backed, fate_kept, fate_lost, is_known, is_seat, keeps_answer, keeps_lost}
use Rattle.game_server.proofs.SeatLaws.{clean_draft, kept_if_any, kept_known, put_if_any, quiet_nothing, unkept_some}
use Rattle.game_server.proofs.seating.deliver.Goals as goal

pub returns-in-Ok-keep : goal.returns-in-Ok-keep
returns-in-Ok-keep g c =
    let o = g.S.System.outside c.args.system.now in
    let facts = (g.G.Games.facts c.args.system.now) in
    let old = c.args.shared.now in
    let seat = c.args.seat.now in
    let stamp = stamp_in c.args.message.now in
    let outputs = c.in-Ok.outputs.items in
    let draft = c.deliver.new.keeper in
    let after = moment (awake c.deliver.new.self old.tables) draft in
    let seat' : Seat g.row.S-File.Denot = record { state = c.deliver.new.self; kept = c.keep.new.game } in
    let h = c.in-Ok-keep.ensures.made in
    let k = h.2 in
    let a = announces (moment (awake seat.state old.tables) seat.kept.draft) after (Ok outputs) (in_game seat.state.me.stamp (Ok c.args.message.now)) c.in-Ok.ensures.answers in
    let of = c.requires.of in
    record {
      made = (
        h.0,
        h.1,
        record {
          same = record { config = refl; tables = c.deliver.ensures.same };
          still = k.still;
          noted = k.noted;
          told = Ok outputs;
          after = after;
          is_kept = true;
          answers = record { answers = c.in-Ok.ensures.answers; kept = subst (λ (s : List ℕ). KeepsAnswer facts old.games s (Ok outputs) draft.to_put true h.0 c.keep.new.self) of (keeps_answer facts old.games c.keep.new.self seat.kept.stamp outputs draft.to_put h.0 (kept_if_any o facts _ _ _ _ _ h.0 k)) };
          left = ap (moment (awake c.deliver.new.self old.tables)) k.draft;
          reply = λ datagram. let f = fate_kept stamp (exchange datagram (Ok outputs) after) (put_if_any draft.to_put outputs) in
              record { outputs = sym f.0; line = ap₂ stamped c.stamp-stamp.ensures (ap₂ heard_words c.count.ensures.is c.verdict.ensures) ∙ sym f.1; told = (report.Recorded c.count.result c.verdict.result, ap (λ (s : List ℕ). line.Answered s (report.Recorded c.count.result c.verdict.result)) c.stamp-stamp.ensures, λ lost. absurd (false≢true (sym (put_if_any draft.to_put outputs) ∙ lost))) };
          closed = sym (put_if_any draft.to_put outputs);
          seated = λ yes. is_seat o facts old.games c.keep.new.self old.tables stamp seat seat' (Ok outputs) draft c.requires a k.draft c.in-Ok.ensures.keeps k.of k.within c.in-Ok.ensures.wakes;
          backed = λ before knew. are_backed o facts old.games c.keep.new.self old.tables stamp seat seat' (Ok outputs) draft c.requires a k.draft c.in-Ok.ensures.keeps k.still.place k.noted before h.0
              (λ bytes some. subst (λ (s : List ℕ). known facts c.keep.new.self h.0 s bytes) of (kept_known o facts _ _ _ _ _ h.0 k bytes some)) knew outputs refl;
          knows = λ before knew yes. is_known o facts old.games c.keep.new.self old.tables stamp seat seat' (Ok outputs) draft c.requires a k.draft c.in-Ok.ensures.keeps k.still.place k.noted before h.0
              (λ bytes some. subst (λ (s : List ℕ). known facts c.keep.new.self h.0 s bytes) of (kept_known o facts _ _ _ _ _ h.0 k bytes some)) knew;
        },
      );
    }

pub returns-in-Err-keep : goal.returns-in-Err-keep
returns-in-Err-keep g c =
    let o = g.S.System.outside c.args.system.now in
    let facts = (g.G.Games.facts c.args.system.now) in
    let old = c.args.shared.now in
    let stamp = stamp_in c.args.message.now in
    let outputs = c.in-Ok.outputs.items in
    let draft = c.deliver.new.keeper in
    let after = moment (awake c.deliver.new.self old.tables) draft in
    let h = c.in-Err-keep.ensures.made in
    let k = h.2 in
    let lost = unkept_some o facts _ _ _ _ _ h.0 k in
    let of = c.requires.of in
    record {
      made = (
        h.0,
        h.1,
        record {
          same = record { config = refl; tables = c.deliver.ensures.same };
          still = k.still;
          noted = k.noted;
          told = Ok outputs;
          after = after;
          is_kept = false;
          answers = record { answers = c.in-Ok.ensures.answers; kept = subst (λ (s : List ℕ). KeepsAnswer facts old.games s (Ok outputs) draft.to_put false h.0 c.keep.new.self) of (keeps_lost facts old.games c.keep.new.self c.args.seat.now.kept.stamp outputs draft.to_put h.0 lost.0 lost.1 lost.2) };
          left = ap (moment (awake c.deliver.new.self old.tables)) k.draft;
          reply = λ datagram. let f = fate_lost stamp (exchange datagram (Ok outputs) after) (ap (λ (p : Option (List ℕ)). is_unput p false (Ok outputs)) lost.1) in
              record { outputs = c.line_alone.ensures.outputs ∙ sym f.0; line = ap line_words c.line_alone.ensures.line ∙ (ap (λ (s : List ℕ). stamped s refused_keeper) c.stamp-stamp.ensures ∙ sym f.1); told = (report.KeeperLost, c.line_alone.ensures.line ∙ ap (λ (s : List ℕ). line.Answered s report.KeeperLost) c.stamp-stamp.ensures, λ gone. refl) };
          closed = sym (ap (λ (p : Option (List ℕ)). is_unput p false (Ok outputs)) lost.1);
          seated = λ no. absurd (false≢true (sym no));
          backed = λ before knew. subst (λ (ms : List Message). AreBacked facts c.keep.new.self (before ++ h.0) ms) (sym c.line_alone.ensures.outputs) tt;
          knows = λ before knew no. absurd (false≢true (sym no));
        },
      );
    }

pub returns-in-Err : goal.returns-in-Err
returns-in-Err g c =
    let o = g.S.System.outside c.args.system.now in
    let facts = (g.G.Games.facts c.args.system.now) in
    let old = c.args.shared.now in
    let seat = c.args.seat.now in
    let stamp = stamp_in c.args.message.now in
    let draft = c.deliver.new.keeper in
    let after = moment (awake c.deliver.new.self old.tables) draft in
    let seat' : Seat g.row.S-File.Denot = record { state = c.deliver.new.self; kept = record seat.kept { draft = draft } } in
    let a = announces (moment (awake seat.state old.tables) seat.kept.draft) after (Err c.in-Err.fault) (in_game seat.state.me.stamp (Ok c.args.message.now)) c.in-Err.ensures.answers in
    let clean = ap (λ (d : DraftView). d.to_put) (a.refused c.in-Err.fault refl) ∙ c.requires.clean in
    let out = c.line_alone-in-Err.ensures.outputs in
    record {
      made = (
        [],
        adds_none o c.args.timeline.now,
        record {
          same = record { config = refl; tables = c.deliver.ensures.same };
          still = quiet_nothing facts old.games;
          noted = λ stamp bytes n. n;
          told = Err c.in-Err.fault;
          after = after;
          is_kept = true;
          answers = record { answers = c.in-Err.ensures.answers; kept = (refl, refl) };
          left = ap (moment (awake c.deliver.new.self old.tables)) (clean_draft draft clean);
          reply = λ datagram. record { outputs = out; line = ap line_words c.line_alone-in-Err.ensures.line ∙ ap₂ stamped c.stamp-stamp.ensures c.refused.ensures; told = (c.refused.result, c.line_alone-in-Err.ensures.line ∙ ap (λ (s : List ℕ). line.Answered s c.refused.result) c.stamp-stamp.ensures, λ lost. absurd (false≢true lost)) };
          closed = refl;
          seated = λ yes. is_seat o facts old.games old.games old.tables stamp seat seat' (Err c.in-Err.fault) draft c.requires a (clean_draft draft clean) c.in-Err.ensures.keeps refl
              (subst (λ (s : List ℕ). IsKeptIn o (facts.places (facts.place old.games) s) seat.kept.file) (sym c.requires.of) c.requires.within) c.in-Err.ensures.wakes;
          backed = λ before knew. subst (λ (ms : List Message). AreBacked facts old.games (before ++ []) ms) (sym out) tt;
          knows = λ before knew yes. is_known o facts old.games old.games old.tables stamp seat seat' (Err c.in-Err.fault) draft c.requires a (clean_draft draft clean) c.in-Err.ensures.keeps refl (λ stamp bytes n. n) before []
              (λ bytes some. absurd (let none = clean in cc)) knew;
        },
      );
    }
