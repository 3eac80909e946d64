use Rattle.std.proofs.Common.{◌∙◌, List, refl, sym, ap, subst}
use Rattle.board_core.specs.declared.moves.Move.{Move}
use Rattle.judge_core.specs.Tables.{Tables}
use Rattle.move_msg.specs.declared.stamp.Stamp.{Stamp}
use Rattle.move_msg.specs.declared.arbiter_id.Sender.TheVariants.{Source}
use Rattle.move_msg.specs.declared.arbiter_id.ArbiterId.TheVariants.{A, B}
use Rattle.arbiter_core.specs.Answering.{sent_by}
use Rattle.arbiter_core.specs.Memory.{Memory}
use Rattle.arbiter_core.specs.Setups.{SetupView, setup_view, rules_at, IsIdentity}
use Rattle.relay_world.specs.Runs.{judged_by}
use Rattle.relay_world.specs.Worlds.{Judged, identity}
use Rattle.relay_world.proofs.running.begin.Goals as goal

pub returns : goal.returns
returns c tables e f =
    let game : Judged = judged_by c.args.game.now tables c.args.manifest.now in
    record {
      a = setup_view c.setup-a.result;
      b = setup_view c.setup-b.result;
      setups = record {
        rules_a = ap rules_at c.setup-a.ensures.is ∙ ap (λ (t : Tables). record { start = c.args.game.now.start; tables = t; delay = c.args.game.now.delay }) e;
        rules_b = ap rules_at c.setup-b.ensures.is ∙ ap (λ (t : Tables). record { start = c.args.game.now.start; tables = t; delay = c.args.game.now.delay }) f;
        good_a = c.setup-a.ensures.good;
        good_b = c.setup-b.ensures.good;
        who_a = subst (λ (s : SetupView). IsIdentity s (identity game A)) (sym c.setup-a.ensures.is) (record { stamp = refl; who = refl });
        who_b = subst (λ (s : SetupView). IsIdentity s (identity game B)) (sym c.setup-b.ensures.is) (record { stamp = refl; who = refl });
      };
      is = record {
        stamp_is = c.stamp-stamp.ensures tables;
        a_stands = rw c.closed.ensures (record { place_is = (refl, refl); kept = ap (λ (m : Memory). m.kept) c.in_ok-first_keeper.ensures });
        b_stands = rw c.closed-2.ensures (record { place_is = (refl, refl); kept = ap (λ (m : Memory). m.kept) c.in_ok-second_keeper.ensures });
        log_is = c.in_ok-log.ensures ∙ ap (λ (s : Stamp). sent_by s Source 0 c.moves.result.now) (c.stamp-stamp.ensures tables) ∙ ap (λ (ms : List Move). sent_by game.stamp Source 0 ms) c.moves.ensures.is;
      };
    }
