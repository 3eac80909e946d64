use Rattle.std.proofs.Common.{List, [], sym, refl, subst}
use Rattle.std.specs.Prelude.{IfSome}
use Rattle.std.proofs.lemmas.List.{append-nil}
use Rattle.move_msg.specs.declared.message.Message.{Message}
use Rattle.move_msg.specs.declared.arbiter_id.ArbiterId.TheVariants.{B}
use Rattle.judge_core.specs.Games.{Rules}
use Rattle.arbiter_core.specs.Opens.{IsWhole}
use Rattle.arbiter_core.specs.Setups.{rules_at}
use Rattle.relay_world.specs.Inside.Seats.{SeatIs, Steps}
use Rattle.relay_world.specs.Worlds.{Side, identity, restarted}
use Rattle.relay_world.proofs.Pairing.{turned_b, whole_of}
use Rattle.relay_world.proofs.pair.restart_second.Goals as goal

pub returns : goal.returns
returns c game a b world stands =
    let setups = stands.setups in
    let whole : IfSome world.b.kept (IsWhole (rules_at b)) = subst (λ (r : Rules). IfSome world.b.kept (IsWhole r)) (sym setups.rules_b) (whole_of game.rules game.moves world.b.kept stands.right.b) in
    let at : SeatIs (identity game B) b c.in_ok-second.second (restarted (rules_at b) c.args.keep world.b.kept) = c.in_ok-second.ensures (identity game B) b world.b setups.good_b setups.who_b whole stands.is.b_stands in
    let late : Side × List Message = (restarted game.rules c.args.keep world.b.kept, []) in
    let step : Steps (identity game B) b c.in_ok-second.second.place c.in_ok-second.second.keeper [] late = record { stands = subst (λ (r : Rules). SeatIs (identity game B) b c.in_ok-second.second (restarted r c.args.keep world.b.kept)) setups.rules_b at; sent = refl } in
    turned_b game a b _ _ _ _ _ _ _ _ _ [] world late stands.is step (sym (append-nil c.args.pair.log.items))
