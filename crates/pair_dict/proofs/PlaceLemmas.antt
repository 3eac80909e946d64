-- Going through a block from place to place.
use Rattle.std.proofs.Common.{◌≡◌, ℕ, ◌+◌, ◌-◌, ◌*◌, ◌/◌, ◌%◌, ◌^◌, ◌≤◌, ◌⊎◌, inl, inr, List, length, drop, Some, refl, ap, ◌∙◌, subst, arith}
use Rattle.std.proofs.lemmas.List.{drop-drop}
use Rattle.pair_dict.specs.Symbols.{values_of}
use Rattle.pair_dict.specs.Codes.{Pairing, code_at}
use Rattle.pair_dict.specs.Inside.Runs.{run_values, run_bits, sum_values, sum_bits, IsLeft, IsSkip, IsRunAt, IsFurther, IsBefore, AreTaken}
use Rattle.pair_dict.specs.Marks.{IsMark}
use Rattle.pair_dict.specs.Blocks.{block_values}
use Rattle.pair_dict.specs.declared.runs.CodeRun.{CodeRun}
use Rattle.pair_dict.specs.declared.runs.RunSum.{RunSum}
use Rattle.pair_dict.specs.Inside.Windows.{Shows}
use Rattle.pair_dict.specs.declared.places.Place.{Place}
use Rattle.pair_dict.specs.declared.window.BitBuffer.{BitBuffer}
use Rattle.pair_dict.proofs.BufferLemmas.{shows_after}
use Rattle.pair_dict.proofs.BlockValues.{left_next}
use Rattle.pair_dict.proofs.RunLemmas.{skip_both, no_run_at}

abbrev pub first_place : ℕ → Place
first_place offset = record { at = 0; left = offset }

-- ---- marks

pub mark_left : (d : Pairing) (block : List ℕ) (at values offset : ℕ) → IsMark d block at values → values ≤ offset → IsLeft d block at (offset - values) offset
mark_left d block at values offset mark le =
    let all : values + (offset - values) ≡ offset = omega arith in
    record {
      most = mark.most;
      enough = mark.enough;
      same = ap (λ (zs : List ℕ). drop (offset - values) zs) mark.rest ∙ drop-drop (offset - values) values (block_values d block) ∙ ap (λ (i : ℕ). drop i (block_values d block)) all;
    }

left_mark : (d : Pairing) (block : List ℕ) (at values : ℕ) → at ≤ 8 * length block → IsLeft d block at 0 values → IsMark d block at values
left_mark d block at values within left = record { within = within; most = left.most; enough = left.enough; rest = left.same }

-- values that were skipped are before the next mark
mark_skip : (d : Pairing) (block : List ℕ) (p n values v : ℕ) → IsSkip d block p n values → p + n ≤ 8 * length block → IsMark d block p v → IsMark d block (p + n) (v + values)
mark_skip d block p n values v skips within mark =
    let few : v + values - v ≡ values = omega arith in
    let none : values - values ≡ 0 = omega arith in
    left_mark d block (p + n) (v + values) within (rw none at (skips values (v + values) (omega arith) (rw few at (mark_left d block p v (v + values) mark (omega arith)))))

pub mark_first : (d : Pairing) (block : List ℕ) → IsMark d block 0 0
unfolding block_values
mark_first d block = record { within = omega arith; most = 8 * length block; enough = omega arith; rest = refl }

pub before_left : (d : Pairing) (block : List ℕ) (offset : ℕ) (place : Place) → IsBefore d block offset place → IsLeft d block place.at place.left offset
before_left d block offset place before =
    let left : offset - (offset - place.left) ≡ place.left = omega (arith, before.left) in
    rw left at (mark_left d block place.at (offset - place.left) offset before.mark (omega arith))

-- ---- going on

pub further_first : (d : Pairing) (block : List ℕ) (from : Place) → from.at ≤ 8 * length block → IsFurther d block from from
further_first d block from within = record {
  within = within;
  forth = omega arith;
  back = omega arith;
  slow = omega arith;
  rest = λ offset rest. rest;
  passed = λ v mark.
      let none : v + (from.left - from.left) ≡ v = omega arith in
      rw none mark;
}

pub further_then : (d : Pairing) (block : List ℕ) (from place to : Place) → IsFurther d block from place → IsFurther d block place to → IsFurther d block from to
further_then d block from place to first second = record {
  within = second.within;
  forth = omega (arith, first.forth, second.forth);
  back = omega (arith, first.back, second.back);
  slow = omega (arith, first.slow, second.slow);
  rest = λ offset rest. second.rest offset (first.rest offset rest);
  passed = λ v mark.
      let all : v + (from.left - place.left) + (place.left - to.left) ≡ v + (from.left - to.left) = omega (arith, first.back, second.back) in
      rw all at (second.passed (v + (from.left - place.left)) (first.passed v mark));
}

-- values are skipped
further_skip : (d : Pairing) (block : List ℕ) (from place next : Place) (values n : ℕ) → IsFurther d block from place → IsSkip d block place.at n values → n ≤ 32 * values → values ≤ place.left → place.at + n ≤ 8 * length block
    → next.at ≡ place.at + n → next.left ≡ place.left - values → IsFurther d block from next
further_skip d block from place next values n first skips few fits within at-is left-is = record {
  within = omega arith;
  forth = omega (arith, first.forth);
  back = omega (arith, first.back);
  slow = omega (arith, first.slow);
  rest = λ offset rest. rw (at-is, left-is) (skips place.left offset fits (first.rest offset rest));
  passed = λ v mark.
      let all : v + (from.left - place.left) + values ≡ v + (from.left - next.left) = omega (arith, first.back, left-is, fits) in
      rw at-is (rw all at (mark_skip d block place.at n values (v + (from.left - place.left)) skips within (first.passed v mark)));
}

-- a run is skipped
pub further_run : (d : Pairing) (block : List ℕ) (from place next : Place) (values n : ℕ) → IsFurther d block from place → IsRunAt d block place.at values n → values ≤ place.left → place.at + n ≤ 8 * length block
    → next.at ≡ place.at + n → next.left ≡ place.left - values → IsFurther d block from next
further_run d block from place next values n first run fits within at-is left-is = further_skip d block from place next values n first run.skips run.few fits within at-is left-is

-- the runs of a word are skipped
pub further_word : (d : Pairing) (block : List ℕ) (from place next : Place) (values n left n-again : ℕ) → IsFurther d block from place → place.at / 8 + 8 ≤ length block → IsRunAt d block place.at values n → n ≤ 52 → values ≤ place.left
    → next.at ≡ place.at + n-again → next.left ≡ place.left - left → n-again ≡ n → left ≡ values → IsFurther d block from next
further_word d block from place next values n left n-again first word run few fits at-is left-is n-is values-is =
    further_run d block from place next values n first run fits (omega (arith, word, few)) (omega arith) (omega arith)

-- a code is skipped
pub further_code : (d : Pairing) (block : List ℕ) (from place next : Place) (s n values : ℕ) → IsFurther d block from place → code_at d block place.at ≡ Some (s, n) → 1 ≤ n → n ≤ 32 → 1 ≤ values → values ≡ length (values_of d.symbols s) → values ≤ place.left
    → place.at + n ≤ 8 * length block → next.at ≡ place.at + n → next.left ≡ place.left - values → IsFurther d block from next
further_code d block from place next s n values first code some short one values-is fits within at-is left-is =
    further_skip d block from place next values n first (λ left offset le rest. rw values-is (left_next d block place.at left offset s n code some within (rw values-is at le) rest)) (omega arith) fits within at-is left-is

-- a run of a buffer is skipped: what is left of the buffer shows what follows
pub record IsSkipped (d : Pairing) (block : List ℕ) (from next : Place) (left : BitBuffer) : Type 0 where
  pub further : IsFurther d block from next
  pub shows : Shows block next.at left

pub run_skipped : (d : Pairing) (block : List ℕ) (from place next : Place) (buffer left : BitBuffer) (values n : ℕ) → IsFurther d block from place → Shows block place.at buffer → (n ≤ buffer.held → IsRunAt d block place.at values n) → values ≤ place.left → n ≤ buffer.held
    → next.at ≡ place.at + n → next.left ≡ place.left - values → left.bits ≡ buffer.bits * 2 ^ n % 2 ^ 64 → left.held ≡ buffer.held - n → IsSkipped d block from next left
run_skipped d block from place next buffer left values n first shows run fits held at-is left-is bits-is held-is =
    let back : place.at ≡ next.at - n = omega arith in
    record {
      further = further_run d block from place next values n first (run held) fits (omega (arith, shows.within)) at-is left-is;
      shows = shows_after block next.at n buffer left (omega arith) held (subst (λ (q : ℕ). Shows block q buffer) back shows) bits-is held-is;
    }

-- a code of a buffer is skipped
pub code_skipped : (d : Pairing) (block : List ℕ) (from place next : Place) (buffer left : BitBuffer) (s n values : ℕ) → IsFurther d block from place → Shows block place.at buffer → code_at d block place.at ≡ Some (s, n) → 1 ≤ n → n ≤ 32 → 32 ≤ buffer.held → 1 ≤ values → values ≡ length (values_of d.symbols s) → values ≤ place.left
    → next.at ≡ place.at + n → next.left ≡ place.left - values → left.bits ≡ buffer.bits * 2 ^ n % 2 ^ 64 → left.held ≡ buffer.held - n → IsSkipped d block from next left
code_skipped d block from place next buffer left s n values first shows code some short held one values-is fits at-is left-is bits-is held-is =
    let back : place.at ≡ next.at - n = omega arith in
    record {
      further = further_code d block from place next s n values first code some short one values-is fits (omega (arith, shows.within)) at-is left-is;
      shows = shows_after block next.at n buffer left (omega arith) (omega arith) (subst (λ (q : ℕ). Shows block q buffer) back shows) bits-is held-is;
    }

-- what holds of two sums holds of the one that was taken
pub either_sum : (P : RunSum → Type 0) (more less sum : RunSum) → (sum ≡ more) ⊎ (sum ≡ less) → P more → P less → P sum
either_sum P more less sum which of-more of-less = elim which [
  | inl is ↦ rw is of-more
  | inr is ↦ rw is of-less
]

-- runs that are taken out of a word one after the other
pub taken_first : (d : Pairing) (block : List ℕ) (p : ℕ) (sum : RunSum) (buffer : BitBuffer) → sum_values sum ≡ 0 → sum_bits sum ≡ 0 → Shows block p buffer → AreTaken d block p sum buffer
taken_first d block p sum buffer values-is bits-is shows =
    let there : p ≡ p + sum_bits sum = omega arith in
    record {
      run = no_run_at d block p (sum_values sum) (sum_bits sum) values-is bits-is;
      shows = subst (λ (q : ℕ). Shows block q buffer) there shows;
    }

pub taken_more : (d : Pairing) (block : List ℕ) (p : ℕ) (sum next : RunSum) (buffer left : BitBuffer) (run : CodeRun) → AreTaken d block p sum buffer → (Shows block (p + sum_bits sum) buffer → IsRunAt d block (p + sum_bits sum) (run_values run) (run_bits run))
    → run_bits run ≤ buffer.held → sum_values next ≡ sum_values sum + run_values run → sum_bits next ≡ sum_bits sum + run_bits run → left.bits ≡ buffer.bits * 2 ^ run_bits run % 2 ^ 64 → left.held ≡ buffer.held - run_bits run → AreTaken d block p next left
taken_more d block p sum next buffer left run are more held values-is bits-is left-bits left-held =
    let n = run_bits run in
    let there : p + sum_bits sum + n ≡ p + sum_bits next = omega arith in
    let back : p + sum_bits sum ≡ p + sum_bits sum + n - n = omega arith in
    let first = are.run in
    let second = more are.shows in
    record {
      run = record {
        few = omega (arith, first.few, second.few);
        skips = rw (values-is, bits-is) (skip_both d block p (sum_bits sum) n (sum_values sum) (run_values run) first.skips second.skips);
      };
      shows = subst (λ (q : ℕ). Shows block q left) there (shows_after block (p + sum_bits sum + n) n buffer left (omega arith) held (subst (λ (q : ℕ). Shows block q buffer) back are.shows) left-bits left-held);
    }
