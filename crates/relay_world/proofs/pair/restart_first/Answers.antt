use Rattle.std.proofs.Common.{List, [], sym, refl, subst}
use Rattle.std.specs.Prelude.{IfSome}
use Rattle.std.proofs.lemmas.List.{append-nil}
use Rattle.move_msg.specs.declared.message.Message.{Message}
use Rattle.move_msg.specs.declared.arbiter_id.ArbiterId.TheVariants.{A}
use Rattle.judge_core.specs.Games.{Rules}
use Rattle.arbiter_core.specs.Opens.{IsWhole}
use Rattle.arbiter_core.specs.Setups.{rules_at}
use Rattle.relay_world.specs.Inside.Seats.{SeatIs, Steps}
use Rattle.relay_world.specs.Worlds.{Side, identity, restarted}
use Rattle.relay_world.proofs.Pairing.{turned_a, whole_of}
use Rattle.relay_world.proofs.pair.restart_first.Goals as goal

pub returns : goal.returns
returns c game a b world stands =
    let setups = stands.setups in
    let whole : IfSome world.a.kept (IsWhole (rules_at a)) = subst (λ (r : Rules). IfSome world.a.kept (IsWhole r)) (sym setups.rules_a) (whole_of game.rules game.moves world.a.kept stands.right.a) in
    let at : SeatIs (identity game A) a c.in_ok-first.first (restarted (rules_at a) c.args.keep world.a.kept) = c.in_ok-first.ensures (identity game A) a world.a setups.good_a setups.who_a whole stands.is.a_stands in
    let late : Side × List Message = (restarted game.rules c.args.keep world.a.kept, []) in
    let step : Steps (identity game A) a c.in_ok-first.first.place c.in_ok-first.first.keeper [] late = record { stands = subst (λ (r : Rules). SeatIs (identity game A) a c.in_ok-first.first (restarted r c.args.keep world.a.kept)) setups.rules_a at; sent = refl } in
    turned_a game a b _ _ _ _ _ _ _ _ _ [] world late stands.is step (sym (append-nil c.args.pair.log.items))
