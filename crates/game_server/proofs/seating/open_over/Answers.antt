use Rattle.std.proofs.Common.{ap, refl, subst, sym, ◌∙◌}
use Rattle.std.specs.Prelude.{Ok, Err}
use Rattle.arbiter_core.specs.Delivers.{IsKept, moment}
use Rattle.arbiter_core.specs.Resting.{awake}
use Rattle.game_folder.specs.Drafts.{DraftView}
use Rattle.game_server.specs.Fates.{SeatOpened, SeatRefused, SeatUnkept}
use Rattle.game_folder.specs.Holdings.{IsKeptIn}
use Rattle.game_server.specs.Seats.{common_in}
use Rattle.game_server.proofs.Openings.{begun}
use Rattle.game_server.proofs.SeatLaws.{begun_known, kept_if_any, kept_known, opened_its, quiet_nothing, unkept_some}
use Rattle.timeline.proofs.EventLaws.{adds_none}
use Rattle.game_server.proofs.seating.open_over.Goals as goal

pub returns-in-Ok-keep : goal.returns-in-Ok-keep
returns-in-Ok-keep g c =
    let o = g.S.System.outside c.args.system.now in
    let facts = (g.G.Games.facts c.args.system.now) in
    let old = c.args.shared.now in
    let h = c.in-Ok-keep.ensures.made in
    let k = h.2 in
    let after = c.open_known.new.keeper in
    let v = awake c.in-Ok.state old.tables in
    let opening = c.in-Ok.ensures.opens in
    record {
      made = (
        h.0,
        h.1,
        record {
          same = record { config = refl; tables = c.open_known.ensures.same };
          still = k.still;
          noted = k.noted;
          opens = SeatOpened after v opening (kept_if_any o facts _ _ _ _ _ h.0 k) (ap (λ (d : DraftView). Ok (moment v d)) k.draft);
          ok = record {
            of = k.of;
            its = opened_its (common_in old) c.args.kept.stamp c.args.game.name.items c.args.game.start c.args.game.delay _ _ v c.requires.game opening;
            clean = ap (λ (d : DraftView). d.to_put) k.draft;
            within = subst (λ s. IsKeptIn o (facts.places (facts.place c.keep.new.self) s) c.keep.new.game.file) k.of k.within;
            wakes = c.in-Ok.ensures.wakes;
            runs = c.in-Ok.ensures.runs;
            keeps = subst (λ (d : DraftView). IsKept d.kept v) (sym k.draft) c.in-Ok.ensures.keeps;
          };
          knows = λ before was.
              let known = begun_known facts old.games c.keep.new.self k.still.place k.noted c.args.kept.stamp c.args.kept.draft after before h.0 (begun _ _ _ v opening) (kept_known o facts _ _ _ _ _ h.0 k) was in
              record { bytes = known.0; kept = ap (λ (d : DraftView). d.kept) k.draft ∙ known.1; is = known.2 };
        },
      );
    }

pub returns-in-Ok : goal.returns-in-Ok
returns-in-Ok g c =
    let o = g.S.System.outside c.args.system.now in
    let facts = (g.G.Games.facts c.args.system.now) in
    let old = c.args.shared.now in
    let h = c.in-Err-keep.ensures.made in
    let k = h.2 in
    let after = c.open_known.new.keeper in
    let v = awake c.in-Ok.state old.tables in
    let opening = c.in-Ok.ensures.opens in
    let lost = unkept_some o facts _ _ _ _ _ h.0 k in
    record {
      made = (
        h.0,
        h.1,
        record {
          same = record { config = refl; tables = c.open_known.ensures.same };
          still = k.still;
          noted = k.noted;
          opens = SeatUnkept after v lost.0 opening lost.1 lost.2 refl;
          ok = tt;
          knows = tt;
        },
      );
    }

pub returns : goal.returns
returns g c =
    let o = g.S.System.outside c.args.system.now in
    let opening = c.in-Err.ensures.opens in
    record {
      made = (
        _,
        adds_none o c.args.timeline.now,
        record {
          same = record { config = refl; tables = c.open_known.ensures.same };
          still = quiet_nothing _ _;
          noted = λ stamp bytes noted. noted;
          opens = SeatRefused c.open_known.new.keeper c.in-Err.refused.fault opening refl refl (ap Err c.unopened.ensures);
          ok = tt;
          knows = tt;
        },
      );
    }

pub open_known-requires-clause-named : goal.open_known-requires-clause-named
open_known-requires-clause-named g c = c.requires.game.is_name

pub open_known-requires-clause-stamped : goal.open_known-requires-clause-stamped
open_known-requires-clause-stamped g c = c.requires.game.stamped
