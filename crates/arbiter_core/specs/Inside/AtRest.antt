-- What the fields of an arbiter at rest stand for.
use Rattle.move_msg.specs.Senders.{who_number}
use Rattle.arbiter_core.specs.declared.state.ArbiterState.TheInside.{Inside}
use Rattle.arbiter_core.specs.Resting.{Rest}
use Rattle.arbiter_core.specs.Inside.Playing.{recorded_in}

abbrev pub rest_of : Inside → Rest
rest_of a = record {
  name = a.terms.name.items;
  start = a.terms.start;
  manifest = a.terms.manifest.now;
  number = who_number a.terms.me;
  delay = a.terms.delay;
  me = record { stamp = a.played.record.stamp; who = a.terms.me };
  kept = recorded_in a.played;
  window = a.window;
  is_down = a.down;
  standing = a.played.standing;
  spelled = a.played.record.delay;
}
