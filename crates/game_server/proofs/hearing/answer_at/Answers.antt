use Rattle.std.proofs.Common.{List, ℕ, ap, sym}
use Rattle.std.specs.Map.{set_value}
use Rattle.std.specs.Str.{bytes_eq}
use Rattle.lru.specs.LruCache.{lru_cache, promoted}
use Rattle.move_msg.specs.Messages.{stamp_in}
use Rattle.game_server.specs.Seats.{IsSeat, open_at}
use Rattle.game_server.proofs.HearLaws.{answered_at, at_some}
use Rattle.game_server.proofs.hearing.answer_at.Goals as goal

pub deliver-requires : goal.deliver-requires
deliver-requires g c = at_some (IsSeat (g.S.System.outside c.args.system.now) (g.G.Games.facts c.args.system.now) c.args.server.now.shared.games c.args.server.now.shared.tables (stamp_in c.args.message.now))
    (open_at c.args.server.now (stamp_in c.args.message.now)) c.in-Some.seat.now (rw c.stamp.ensures at (sym c.in-Some.ensures.value)) (c.requires.seats (stamp_in c.args.message.now))

pub returns : goal.returns
returns g c =
    let es = c.args.server.now.seats.entries in
    record {
      made = answered_at (g.S.System.outside c.args.system.now) (g.G.Games.facts c.args.system.now) c.args.server.now _ c.args.message.now c.in-Some.seat.now c.deliver.new.seat c.deliver.result c.args.timeline.now c.deliver.new.timeline
          (rw c.stamp.ensures at (sym c.in-Some.ensures.value)) c.len-valid.ensures.valid.0
          (ap (λ (stamp : List ℕ). lru_cache (set_value (bytes_eq stamp) (promoted (bytes_eq stamp) es) c.deliver.new.seat) c.args.server.now.seats.cap) c.stamp.ensures) c.deliver.ensures.made;
    }
