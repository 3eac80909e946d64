use Rattle.std.proofs.Common.{◌∙◌, ap}
use Rattle.lru.specs.LruCache.{lru_cache}
use Rattle.game_server.proofs.RoomLaws.{put_first}
use Rattle.game_server.proofs.room.put_in.Goals as goal

pub returns-in-Ok-clause-ok : goal.returns-in-Ok-clause-ok
returns-in-Ok-clause-ok g c = c.in-Ok.ensures.entries ∙ ap (λ es. lru_cache es c.args.seats.now.cap) (put_first c.args.seats.now c.args.stamp c.args.seat c.requires)
