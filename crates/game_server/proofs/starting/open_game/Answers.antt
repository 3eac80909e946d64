use Rattle.std.proofs.Common.{◌∙◌, List, ℕ, ap, refl, subst, sym}
use Rattle.std.specs.Prelude.{Result, IsSome, OnOk}
use Rattle.arbiter_server.specs.declared.fault.OpenGameError.{OpenGameError}
use Rattle.move_msg.proofs.HeardLaws.{heard}
use Rattle.move_msg.specs.Messages.{message_text, stamp_in}
use Rattle.move_msg.specs.declared.message.Message.{Message}
use Rattle.game_server.specs.Datagrams.{HearsDatagram}
use Rattle.game_server.specs.Seats.{open_at}
use Rattle.game_server.specs.Starting.{opened_by}
use Rattle.game_server.proofs.DatagramLaws.{said_open}
use Rattle.game_server.proofs.starting.open_game.Goals as goal

pub returns : goal.returns
returns g c =
    let o = g.S.System.outside c.args.system.now in
    let facts = (g.G.Games.facts c.args.system.now) in
    let old = c.args.at.now.server in
    let new = c.hear-reply.new.server in
    let p = c.hear-reply.ensures.made in
    let reply = c.hear-reply.result in
    let open_after = said_open o facts old new c.opener.result c.encode.result reply p.0 (heard c.encode.result c.opener.result c.encode.ensures) p.2 in
    record {
      made = (
        p.0,
        p.1,
        record {
          reply = reply;
          hears = subst (λ (bytes : List ℕ). HearsDatagram o facts old new bytes reply p.0) (c.encode.ensures.text ∙ ap message_text c.opener.ensures) p.2;
          told = c.opened_by.ensures;
          is_open = subst (λ (r : Result (Unit {0}) OpenGameError). OnOk r (IsSome (open_at new c.args.stamp))) (sym c.opened_by.ensures)
              (subst (λ (m : Message). OnOk (opened_by reply.line) (IsSome (open_at new (stamp_in m)))) c.opener.ensures open_after);
        },
      );
      replies = refl;
      lines = refl;
    }
