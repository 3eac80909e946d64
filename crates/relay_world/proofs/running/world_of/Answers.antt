use Rattle.std.proofs.Common.{ℕ, sym, subst}
use Rattle.move_msg.specs.declared.arbiter_id.ArbiterId.TheVariants.{A, B}
use Rattle.arbiter_core.specs.Memory.{Memory}
use Rattle.relay_world.specs.Runs.{KeptIs}
use Rattle.relay_world.specs.Worlds.{identity}
use Rattle.relay_world.proofs.running.world_of.Goals as goal

pub returns : goal.returns
returns c game a b world ea eb is = record {
  a = record {
    state = c.state-first_state.ensures (identity game A) a world.a is.a_stands;
    bytes = subst (λ (m : Memory). KeptIs game.stamp game.rules.delay m.kept world.a.kept) (sym c.into_keeper.ensures) (subst (λ (d : ℕ). KeptIs game.stamp d c.args.pair.first.keeper.kept world.a.kept) ea is.a_stands.kept);
  };
  b = record {
    state = c.state-second_state.ensures (identity game B) b world.b is.b_stands;
    bytes = subst (λ (m : Memory). KeptIs game.stamp game.rules.delay m.kept world.b.kept) (sym c.into_keeper-2.ensures) (subst (λ (d : ℕ). KeptIs game.stamp d c.args.pair.second.keeper.kept world.b.kept) eb is.b_stands.kept);
  };
  log = is.log_is;
}
