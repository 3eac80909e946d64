use Rattle.std.proofs.Common.{◌≡◌, ◌≤◌, ◌<◌, ◌-◌, ◌+◌, ◌/◌, ◌∙◌, ap, sym, arith, rules, replicate, ℕ, List, get_or, length}
use Rattle.std.proofs.lemmas.List.{length-set, length-replicate}
use Rattle.pair_dict.specs.Codes.{bases}
use Rattle.pair_dict.specs.Reading.{words}
use Rattle.pair_dict.proofs.WordLemmas.{falls_at, base_last, base_step, zeros, length-words}
use Rattle.pair_dict.proofs.FirstLemmas.{firsts_start, firsts_more}
use Rattle.pair_dict.proofs.codes.firsts_of.Goals as goal

pub down-init : goal.down-init
down-init c =
    let n = length c.args.lowest.now / 2 in
    let ws = words c.args.lowest.now in
    let len-ws : length ws ≡ n = length-words c.args.lowest.now in
    let e : c.in_ok-firsts.firsts.items ≡ replicate n 0 = search rules in
    let len : length c.in_ok-firsts.firsts.items ≡ n = ap length e ∙ length-replicate n 0 in
    let none : (k : ℕ) → get_or c.in_ok-firsts.firsts.items k 0 ≡ 0 = λ k. ap (λ (xs : List ℕ). get_or xs k 0) e ∙ zeros n k in
    let i-is : c.len-i.result ≡ length ws = omega (arith, len, len-ws, c.len-i.ensures, c.in_ok-firsts.ensures.len) in
    record {
      lengths = len ∙ sym len-ws;
      within = omega (arith, i-is);
      base_is = sym (base_last ws (c.len-i.result - 1) (omega (arith, i-is)));
      low = omega arith;
      done = λ k le lt. firsts_start c.args.least ws c.in_ok-firsts.firsts.items none k (omega (arith, i-is, le));
    }

pub overflow_sub-rise : goal.overflow_sub-rise
overflow_sub-rise c =
    let ws = words c.args.lowest.now in
    let j = c.down.i - 1 - 1 in
    let k : j + 1 ≡ c.down.i - 1 = omega arith in
    let le = rw k at (falls_at ws j c.requires.falling (omega (arith, c.down.invariant.within))) in
    omega (arith, le, c.word_of.ensures, c.word_of-in-down.ensures)

pub down-preserved : goal.down-preserved
down-preserved c =
    let ws = words c.args.lowest.now in
    let inv = c.down.invariant in
    let j = c.down.i - 1 - 1 in
    let k : j + 1 ≡ c.down.i - 1 = omega arith in
    let lt : j + 1 < length ws = omega (arith, inv.within) in
    let le = falls_at ws j c.requires.falling lt in
    let here : c.word_of.result ≡ get_or ws j 0 = c.word_of.ensures in
    let next : c.word_of-in-down.result ≡ get_or ws (j + 1) 0 = c.word_of-in-down.ensures ∙ ap (λ (m : ℕ). get_or ws m 0) (sym k) in
    let before : c.down.base ≡ get_or (bases ws) (j + 1) 0 = inv.base_is ∙ ap (λ (m : ℕ). get_or (bases ws) m 0) (sym k) in
    let low : get_or (bases ws) (j + 1) 0 ≤ get_or ws (j + 1) 0 = rw (← before) (rw (← k) at inv.low) in
    let sum : c.down.base + (c.word_of.result - c.word_of-in-down.result) ≡ (get_or (bases ws) (j + 1) 0 + get_or ws j 0) - get_or ws (j + 1) 0 = omega (arith, here, next, before, le) in
    let base-is : (c.down.base + (c.word_of.result - c.word_of-in-down.result)) / 2 ≡ get_or (bases ws) j 0 = ap (λ (m : ℕ). m / 2) sum ∙ sym (base_step ws j lt) in
    let n-is : c.args.least + (c.down.i - 1) - 1 ≡ c.args.least + j = omega arith in
    record {
      lengths = length-set c.down.firsts.items j c.first_of.result ∙ inv.lengths;
      within = omega (arith, inv.within);
      base_is = base-is;
      low = omega (arith, sum, low, le, here);
      done = λ m le-m lt-m. firsts_more c.args.least ws c.down.firsts.items j c.first_of.result (omega arith) inv.lengths
          (rw (n-is, base-is) at c.first_of.ensures)
          (λ i le-i lt-i. inv.done i (omega (arith, le-i)) lt-i) m (omega (arith, le-m)) lt-m;
    }
