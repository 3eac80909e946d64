use Rattle.std.proofs.Common.{◌≡◌, length, ap, refl, arith}
use Rattle.pair_dict.specs.Reading.{words}
use Rattle.pair_dict.proofs.FirstLemmas.{firsts_few, ends_at_zero}
use Rattle.pair_dict.proofs.dictionary.code_tables.Goals as goal

pub words_of-requires-clause-few : goal.words_of-requires-clause-few
words_of-requires-clause-few c =
    rw c.deref-2.ensures.value (firsts_few c.args.layout.now.least (words c.args.layout.now.lowest.now) c.in_ok-firsts.firsts.items c.in_ok-firsts.ensures c.requires.layout.greatest)

pub bytes_of-requires-clause-last : goal.bytes_of-requires-clause-last
bytes_of-requires-clause-last c =
    rw c.deref-3.ensures.value (ends_at_zero c.args.layout.now.least (words c.args.layout.now.lowest.now) c.in_ok-firsts.firsts.items c.in_ok-firsts.ensures c.requires.layout.some)

pub returns : goal.returns
returns c =
    let made = c.in_ok-words.ensures in
    let width = c.run_width-run_width.ensures in
    let firsts = c.in_ok-firsts.firsts.items in
    let same : c.deref-2.result.now ≡ firsts = c.deref-2.ensures.value in
    let n-is : c.len.result ≡ length c.deref-2.result.now = omega (arith, c.len.ensures, c.in_ok-firsts.firsts.ok.0, ap length same) in
    let all : length c.deref-2.result.now ≡ length (words c.args.layout.now.lowest.now) = omega (arith, ap length same, c.in_ok-firsts.ensures.lengths) in
    record {
      least = refl;
      lowest = rw n-is made.lowest;
      codes = record {
        all = rw n-is made.all;
        least = c.requires.layout.least;
        some = omega (arith, n-is, all, c.requires.layout.some);
        greatest = omega (arith, n-is, all, c.requires.layout.greatest);
        firsts = rw (n-is, made.lowest, made.firsts, same) c.in_ok-firsts.ensures;
        hints = rw (n-is, made.firsts, same, ← c.deref-3.ensures.value) c.in_ok-bytes.ensures.hints;
      };
      all_symbols = c.requires.counts.lengths;
      counts = rw c.in_ok-bytes.ensures.counts c.requires.counts;
      nodes = rw (n-is, made.nodes) c.requires.nodes;
      some_bits = width.some;
      few_bits = width.few;
      all_runs = c.in_ok-runs.ensures.all;
      runs = c.in_ok-runs.ensures.each;
    }
