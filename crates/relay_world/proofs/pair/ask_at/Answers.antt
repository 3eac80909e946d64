use Rattle.std.proofs.Common.{◌≡◌, ◌++◌, List}
use Rattle.std.proofs.lemmas.Result.{on_ok_weaker}
use Rattle.arbiter_core.specs.Setups.{SetupView}
use Rattle.move_msg.specs.declared.message.Message.{Message}
use Rattle.move_msg.specs.declared.arbiter_id.ArbiterId.{ArbiterId}
use Rattle.move_msg.specs.declared.arbiter_id.ArbiterId.TheVariants.{A, B}
use Rattle.relay_world.specs.declared.pair.Pair.{Pair}
use Rattle.relay_world.specs.Inside.Pairs.{IsWorld, PairIs, asks}
use Rattle.relay_world.specs.Worlds.{Judged, World, identity, side_in, wants}
use Rattle.relay_world.proofs.Pairing.{turned_a, turned_b}
use Rattle.relay_world.proofs.pair.ask_at.Goals as goal

-- what one of the two asks for goes to the log, and its seat stays
asked : (game : Judged) (a b : SetupView) (p : Pair) (who : ArbiterId) (world : World) (log outputs : List Message) → PairIs game a b p world → outputs ≡ wants (identity game who) (side_in world who).kept (side_in world who).life → log ≡ p.log.items ++ outputs → IsWorld game a b p.stamp p.first.place p.first.keeper p.second.place p.second.keeper log (asks who game world)
asked game a b p A world log outputs is sent more = turned_a game a b _ _ _ _ _ _ _ _ _ outputs world (world.a, wants (identity game A) world.a.kept world.a.life) is (record { stands = is.a_stands; sent = sent }) more
asked game a b p B world log outputs is sent more = turned_b game a b _ _ _ _ _ _ _ _ _ outputs world (world.b, wants (identity game B) world.b.kept world.b.life) is (record { stands = is.b_stands; sent = sent }) more

pub returns : goal.returns
returns c = on_ok_weaker c.note.result (λ more game a b world stands. asked game a b c.args.pair.now c.args.who world _ _ stands.is (c.asked_by-asked.ensures game a b world stands) more) c.note.ensures
