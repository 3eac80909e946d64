use Rattle.std.proofs.Common.{arith}
use Rattle.pair_dict.proofs.WordLemmas.{length-words}
use Rattle.pair_dict.proofs.layout.Layout.read.Goals as goal

pub returns-clause-sound : goal.returns-clause-sound
returns-clause-sound c =
    let len = length-words c.in_ok-lowest.lowest.now in
    record {
      least = c.in_ok-greatest.ensures.sound.0;
      some = omega (arith, len, c.in_ok-lowest.ensures.length, c.in_ok-greatest.ensures.sound.1);
      greatest = omega (arith, len, c.in_ok-lowest.ensures.length, c.in_ok-greatest.ensures.sound.1, c.in_ok-greatest.ensures.sound.2);
      falling = c.in_ok-lowest.ensures.falls;
      few = omega (arith, c.in_ok-n.ensures.few, c.in_ok-symbols.ensures.length);
    }
