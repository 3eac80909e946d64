-- Runs of short codes.
use Rattle.std.proofs.Common.{◌≡◌, ◌≢◌, ℕ, ◌+◌, ◌-◌, ◌*◌, ◌/◌, ◌%◌, ◌^◌, ◌<◌, ◌≤◌, List, length, get_or, set, min, replicate, refl, sym, ap, subst, ◌∙◌, inl, inr, arith}
use Rattle.std.proofs.lemmas.Bool.{cases_lt, cases_eq}
use Rattle.std.proofs.lemmas.List.{get_or-replicate, get_or-set_same, get_or-set_other, length-replicate, length-set}
use Rattle.std.proofs.lemmas.Nat.{shr-shr, shl-shr, shr_high, field_of, mul-add-lt, pow-add, pow_pos}
use Rattle.std.proofs.Math.Nat.{mod-eq_of_lt, add_comm, mul-add-mod_self_right, pow-le-pow_right, le-div_iff_mul-le, div-lt_iff_lt-mul}
use Rattle.pair_dict.specs.Symbols.{symbol_count, values_of}
use Rattle.pair_dict.specs.Inside.Counts.{AreCounts}
use Rattle.pair_dict.specs.Codes.{Pairing, IsCode, bases, bits}
use Rattle.pair_dict.specs.Inside.Windows.{Shows, IsLeastWithPrefix, AreFirsts}
use Rattle.pair_dict.specs.Inside.Runs.{run_values, run_bits, IsLeft, IsSkip, IsRunAt, IsRun, IsRunOf, IsCodeRun, IsTop, AreJoined, AreRunsWithin}
use Rattle.pair_dict.specs.declared.window.BitBuffer.{BitBuffer}
use Rattle.pair_dict.specs.declared.runs.CodeRun.{CodeRun}
use Rattle.pair_dict.proofs.Longest.{code_complete}
use Rattle.pair_dict.proofs.BufferLemmas.{shows_after}
use Rattle.pair_dict.proofs.FirstLemmas.{first_missed, split_32}
use Rattle.pair_dict.proofs.SymbolValues.{length-values_of}
use Rattle.pair_dict.proofs.BlockValues.{left_next}

-- a run that holds no code
pub no_run_at : (d : Pairing) (block : List ℕ) (p values n : ℕ) → values ≡ 0 → n ≡ 0 → IsRunAt d block p values n
no_run_at d block p values n values-is n-is = record {
  few = omega arith;
  skips = λ left offset enough rest.
      let there : p ≡ p + n = omega arith in
      let all : left ≡ left - values = omega arith in
      subst (λ (q : ℕ). IsLeft d block q (left - values) offset) there (subst (λ (l : ℕ). IsLeft d block p l offset) all rest);
}

pub no_runs : (d : Pairing) (runs : List CodeRun) (n : ℕ) (run : CodeRun) → runs ≡ replicate n run → run_values run ≡ 0 → run_bits run ≡ 0 → AreJoined d runs
no_runs d runs n run all values-is bits-is width front other lt within =
    let len : 2 ^ width + front < n = omega (arith, ap length all, length-replicate {A = CodeRun} n run) in
    rw (all, get_or-replicate n (2 ^ width + front) run other len) (record {
      short = omega arith;
      few = omega arith;
      is = λ block p b shows is held. no_run_at d block p (run_values run) (run_bits run) values-is bits-is;
    })

-- bits skipped one after the other
pub skip_both : (d : Pairing) (block : List ℕ) (p m n v w : ℕ) → IsSkip d block p m v → IsSkip d block (p + m) n w → IsSkip d block p (m + n) (v + w)
skip_both d block p m n v w first second left offset enough rest =
    let there : p + m + n ≡ p + (m + n) = omega arith in
    let less : left - v - w ≡ left - (v + w) = omega arith in
    subst (λ (q : ℕ). IsLeft d block q (left - (v + w)) offset) there
    (subst (λ (l : ℕ). IsLeft d block (p + m + n) l offset) less (second (left - v) offset (omega arith) (first left offset (omega arith) rest)))

-- the upper of some bits, and the lower ones
upper_bits : (x code rest n spare : ℕ) → n + spare ≤ 64 → rest < 2 ^ spare → x / 2 ^ (64 - (n + spare)) ≡ code * 2 ^ spare + rest → x / 2 ^ (64 - n) ≡ code
upper_bits x code rest n spare few lt is =
    let k = 64 - (n + spare) in
    let up : 64 - n ≡ k + spare = omega arith in
    ap (λ (i : ℕ). x / 2 ^ i) up ∙ sym (shr-shr x k spare) ∙ ap (λ (y : ℕ). y / 2 ^ spare) is ∙ shr_high code spare rest lt

lower_bits : (x code rest n spare : ℕ) → n + spare ≤ 64 → rest < 2 ^ spare → x / 2 ^ (64 - (n + spare)) ≡ code * 2 ^ spare + rest → (x * 2 ^ n % 2 ^ 64) / 2 ^ (64 - spare) ≡ rest
lower_bits x code rest n spare few lt is =
    let k = 64 - (n + spare) in
    let all : spare + (64 - spare) ≡ 64 = omega arith in
    let up : 64 - spare ≡ n + k = omega arith in
    let cut : (x * 2 ^ n % 2 ^ 64) / 2 ^ (64 - spare) ≡ (x * 2 ^ n) / 2 ^ (64 - spare) % 2 ^ spare =
    ap (λ (i : ℕ). (x * 2 ^ n % 2 ^ i) / 2 ^ (64 - spare)) (sym all) ∙ field_of (x * 2 ^ n) spare (64 - spare) in
    let top : (x * 2 ^ n) / 2 ^ (64 - spare) ≡ x / 2 ^ k =
    ap (λ (i : ℕ). (x * 2 ^ n) / 2 ^ i) up ∙ sym (shr-shr (x * 2 ^ n) n k) ∙ ap (λ (y : ℕ). y / 2 ^ k) (shl-shr x n) in
    cut ∙ ap (λ (y : ℕ). y % 2 ^ spare) (top ∙ is) ∙ mul-add-mod_self_right code (2 ^ spare) rest ∙ mod-eq_of_lt lt

moved : BitBuffer → ℕ → BitBuffer
moved b n = record { bits = b.bits * 2 ^ n % 2 ^ 64; held = b.held - n }

-- a code and the run of the bits behind it
pub run_join : (d : Pairing) (code rest spare : ℕ) (single run both : CodeRun) → IsCodeRun d code single → IsRun d spare rest run → rest < 2 ^ spare → run_bits single + spare ≤ 13
    → run_values both ≡ run_values single + run_values run → run_bits both ≡ run_bits single + run_bits run → IsRun d (run_bits single + spare) (code * 2 ^ spare + rest) both
unfolding moved
run_join d code rest spare single run both one more lt few values-is bits-is = record {
  short = omega (arith, more.short);
  few = omega (arith, one.alone.few, more.few);
  is = λ block p b shows front-is held.
      let n = run_bits single in
      let first = one.alone.is block p b shows (upper_bits b.bits code rest n spare (omega arith) lt front-is) (omega arith) in
      let here : p ≡ p + n - n = omega arith in
      let after : Shows block (p + n) (moved b n) = shows_after block (p + n) n b (moved b n) (omega arith) (omega arith) (subst (λ (q : ℕ). Shows block q b) here shows) refl refl in
      let second = more.is block (p + n) (moved b n) after (lower_bits b.bits code rest n spare (omega arith) lt front-is) (omega arith) in
      record {
        few = omega (arith, first.few, second.few);
        skips = rw (values-is, bits-is) (skip_both d block p n (run_bits run) (run_values single) (run_values run) first.skips second.skips);
      };
}

-- a code alone
pub code_run : (d : Pairing) (counts : List ℕ) (code s n : ℕ) (single : CodeRun) → AreCounts d.symbols counts → 1 ≤ d.least → IsCode d n code s → run_bits single ≡ n → n ≤ 32 → run_values single ≡ get_or counts s 0 → IsCodeRun d code single
code_run d counts code s n single h some is bits-is small values-is = record {
  some = omega (arith, is.shortest);
  alone = record {
    short = omega arith;
    few = omega (arith, is.shortest, h.few s is.known);
    is = λ block p b shows front-is held.
        let one : 1 ≤ run_values single = omega (arith, h.some s is.known) in
        let shown : bits block p n ≡ code = sym (shows.same n (omega arith)) ∙ ap (λ (i : ℕ). b.bits / 2 ^ (64 - i)) (sym bits-is) ∙ front-is in
        let within : p + n ≤ 8 * length block = omega (arith, shows.within) in
        let there = code_complete d block p n s (rw shown is) within in
        let len : length (values_of d.symbols s) ≡ run_values single = length-values_of d.symbols counts h s is.known ∙ sym values-is in
        record {
          few = omega arith;
          skips = rw bits-is (λ left offset enough rest. rw len at (left_next d block p left offset s n there (omega (arith, is.shortest)) within (rw len enough) rest));
        };
  };
}

-- a code stands below the top, and at least at the first number of its length
code_within : (code top n : ℕ) → n ≤ 32 → top ≤ 2 ^ 32 → code < top / 2 ^ (32 - n) → (code * 2 ^ (32 - n) < top) × (code < 2 ^ n)
code_within code top n few small before =
    let w = 2 ^ (32 - n) in
    let up : (code + 1) * w ≤ top = (le-div_iff_mul-le {k = w} {x = code + 1} {y = top} (pow_pos (32 - n))).0 (omega arith) in
    let one : (code + 1) * w ≡ code * w + w = omega arith in
    let below : code * w < top = omega (arith, up, one, pow_pos (32 - n)) in
    let under : code * w < 2 ^ n * w = omega (arith, below, small, split_32 n few) in
    (below, rw (shl-shr code (32 - n)) at ((div-lt_iff_lt-mul {k = w} {x = code * w} {y = 2 ^ n} (pow_pos (32 - n))).1 under))

code_base : (n base first code : ℕ) → IsLeastWithPrefix n base first → n ≤ 32 → code < 2 ^ n → first / 2 ^ (32 - n) ≤ code → first / 2 ^ (32 - n) ≡ base
code_base n base first code is few high from =
    elim (cases_lt base (2 ^ n)) [
      | inl lt ↦ ap (λ (x : ℕ). x / 2 ^ (32 - n)) (is.possible lt) ∙ shl-shr base (32 - n)
      | inr past ↦
          let all : first / 2 ^ (32 - n) ≡ 2 ^ n = ap (λ (x : ℕ). x / 2 ^ (32 - n)) (is.impossible past ∙ split_32 n few) ∙ shl-shr (2 ^ n) (32 - n) in
          absurd (omega (arith, all, from, high))
    ]

-- numbers between the first ones of a length and of all lesser lengths are codes
pub is_code : (d : Pairing) (firsts : List ℕ) (i top code low : ℕ) → AreFirsts d.least d.lowest firsts → IsTop firsts i top → i < length firsts → d.least + i ≤ 13
    → get_or firsts i 0 / 2 ^ (32 - (d.least + i)) ≤ code → code < top / 2 ^ (32 - (d.least + i)) → low ≡ get_or d.lowest i 0
    → low + (code - get_or firsts i 0 / 2 ^ (32 - (d.least + i))) < symbol_count d.symbols → IsCode d (d.least + i) code (low + (code - get_or firsts i 0 / 2 ^ (32 - (d.least + i))))
is_code d firsts i top code low are is-top lt few from before low-is known =
    let n = d.least + i in
    let within = code_within code top n (omega arith) is-top.few before in
    let base-is : get_or firsts i 0 / 2 ^ (32 - n) ≡ get_or (bases d.lowest) i 0 = code_base n (get_or (bases d.lowest) i 0) (get_or firsts i 0) code (are.each i (omega (arith, are.lengths))) (omega arith) within.1 from in
    let i-is : n - d.least ≡ i = omega arith in
    record {
      longest = omega (arith, are.lengths);
      shortest = omega arith;
      low = rw (i-is, ← base-is) from;
      high = within.1;
      first = λ m ge m-lt.
          let j = m - d.least in
          let m-is : d.least + j ≡ m = omega arith in
          let up : 32 - m ≡ (32 - n) + (n - m) = omega arith in
          let is-first : IsLeastWithPrefix m (get_or (bases d.lowest) j 0) (get_or firsts j 0) = rw m-is at (are.each j (omega (arith, are.lengths))) in
          let missed = first_missed m (get_or (bases d.lowest) j 0) (get_or firsts j 0) (code * 2 ^ (32 - n)) is-first (omega arith) (omega (arith, within.0, is-top.few)) (omega (arith, within.0, is-top.below j (omega arith))) in
          let same : code * 2 ^ (32 - n) / 2 ^ (32 - m) ≡ code / 2 ^ (n - m) =
          ap (λ (x : ℕ). code * 2 ^ (32 - n) / 2 ^ x) up ∙ sym (shr-shr (code * 2 ^ (32 - n)) (32 - n) (n - m)) ∙ ap (λ (x : ℕ). x / 2 ^ (n - m)) (shl-shr code (32 - n)) in
          rw same at missed;
      symbol = rw i-is (omega (arith, low-is, base-is, from));
      known = known;
    }

-- one length more
pub top_more : (firsts : List ℕ) (i top next : ℕ) → IsTop firsts i top → next ≡ min top (get_or firsts i 0) → IsTop firsts (i + 1) next
top_more firsts i top next is next-is = record {
  few = omega (arith, next-is, is.few);
  below = λ j lt. elim (cases_lt j i) [
    | inl before ↦ omega (arith, next-is, is.below j before)
    | inr past ↦
        let last : j ≡ i = omega arith in
        rw last (omega (arith, next-is))
  ];
}

-- a place belongs to one number of bits
one_width : (w v f g : ℕ) → f < 2 ^ w → 2 ^ w + f ≡ 2 ^ v + g → w < v → ⊥
one_width w v f g f-lt same lt =
    let more : 2 ^ (w + 1) ≤ 2 ^ v = pow-le-pow_right {n = 2} (omega arith) (omega arith) in
    let twice : 2 ^ (w + 1) ≡ 2 ^ w * 2 = pow-add 2 w 1 in
    omega (arith, more, twice)

same_width : (w v f g : ℕ) → f < 2 ^ w → g < 2 ^ v → 2 ^ w + f ≡ 2 ^ v + g → w ≡ v
same_width w v f g f-lt g-lt same =
    elim (cases_lt w v) [
      | inl less ↦ absurd (one_width w v f g f-lt same less)
      | inr ge ↦ elim (cases_lt v w) [
        | inl more ↦ absurd (one_width v w g f g-lt (sym same) more)
        | inr le ↦ omega arith
      ]
    ]

-- where the runs that begin with a code stand
pub code_place : (code rest n spare width : ℕ) → code < 2 ^ n → rest < 2 ^ spare → n + spare ≡ width → code * 2 ^ spare + rest < 2 ^ width
code_place code rest n spare width code-lt rest-lt sum =
    let whole : 2 ^ width ≡ 2 ^ spare * 2 ^ n = ap (λ (x : ℕ). 2 ^ x) (sym sum ∙ add_comm n spare) ∙ pow-add 2 spare n in
    rw whole (mul-add-lt code (2 ^ spare) rest (2 ^ n) code-lt rest-lt)

-- the bits behind a code are fewer
rest_place : (rest n spare width room : ℕ) → 1 ≤ n → n + spare ≡ width → rest < 2 ^ spare → 2 * 2 ^ width ≤ room → 2 ^ spare + rest < room
rest_place rest n spare width room some sum lt le =
    let more : 2 ^ (spare + 1) ≤ 2 ^ width = pow-le-pow_right {n = 2} (omega arith) (omega arith) in
    let twice : 2 ^ (spare + 1) ≡ 2 ^ spare * 2 = pow-add 2 spare 1 in
    omega (arith, more, twice)

pub behind_within : (runs : List CodeRun) (width n spare rest behind : ℕ) → behind ≡ 2 ^ spare → rest < behind → 1 ≤ n → n + spare ≡ width → 2 * 2 ^ width ≤ length runs → behind + rest < length runs
behind_within runs width n spare rest behind behind-is lt some sum room =
    let few : rest < 2 ^ spare = rw behind-is at lt in
    rw behind-is (rest_place rest n spare width (length runs) some sum few room)

-- a run of bits without the last one is one of all of them
fewer_bits : (d : Pairing) (width front : ℕ) (run : CodeRun) → 1 ≤ width → width ≤ 64 → IsRun d (width - 1) (front / 2) run → IsRun d width front run
fewer_bits d width front run some few shorter = record {
  short = omega (arith, shorter.short);
  few = shorter.few;
  is = λ block p b shows front-is held.
      let up : 64 - (width - 1) ≡ (64 - width) + 1 = omega arith in
      let upper : b.bits / 2 ^ (64 - (width - 1)) ≡ front / 2 = ap (λ (x : ℕ). b.bits / 2 ^ x) up ∙ sym (shr-shr b.bits (64 - width) 1) ∙ ap (λ (x : ℕ). x / 2) front-is in
      shorter.is block p b shows upper held;
}

-- half the place is that of the bits without the last one
pub half_place : (d : Pairing) (place : ℕ) (run : CodeRun) → 2 ≤ place → IsRunOf d (place / 2) run → IsRunOf d place run
half_place d place run two of width front few lt is =
    elim (cases_eq width 0) [
      | inl none ↦
          let one : 2 ^ width ≡ 1 = ap (λ (x : ℕ). 2 ^ x) none in
          absurd (omega (arith, one))
      | inr ne ↦
          let w = width - 1 in
          let next : w + 1 ≡ width = omega (arith, ne) in
          let twice : 2 ^ width ≡ 2 ^ w * 2 = ap (λ (x : ℕ). 2 ^ x) (sym next) ∙ pow-add 2 w 1 in
          fewer_bits d width front run (omega (arith, ne)) few (of w (front / 2) (omega arith) (omega (arith, twice)) (omega (arith, twice)))
    ]

-- a run that stands at the place of no bits has no values
pub first_place : (d : Pairing) (runs : List CodeRun) (place : ℕ) (other : CodeRun) → AreJoined d runs → place < length runs → 1 ≤ place → 1 ≤ run_values (get_or runs place other) → 2 ≤ place
first_place d runs place other joined within some more =
    elim (cases_lt 1 place) [
      | inl lt ↦ lt
      | inr le ↦
          let one : place ≡ 1 = omega arith in
          let none = joined 0 0 other (omega arith) (omega (arith, one)) in
          absurd (omega (arith, none.short, none.few, rw one at more))
    ]

-- one run more
pub joined_more : (d : Pairing) (runs : List CodeRun) (width front place : ℕ) (run : CodeRun) → AreJoined d runs → front < 2 ^ width → place ≡ 2 ^ width + front → place < length runs → IsRun d width front run → AreJoined d (set runs place run)
joined_more d runs width front place run all front-lt place-is within next w f other f-lt f-within =
    elim (cases_eq (2 ^ w + f) place) [
      | inl same ↦
          let width-is : w ≡ width = same_width w width f front f-lt front-lt (same ∙ place-is) in
          let front-is : f ≡ front = omega (arith, ap (λ (x : ℕ). 2 ^ x) width-is) in
          rw (same, get_or-set_same runs place run other within, width-is, front-is) next
      | inr ne ↦ rw (get_or-set_other runs place (2 ^ w + f) run other ne) (all w f other f-lt (omega (arith, f-within, length-set runs place run)))
    ]

-- runs of fewer bits stay as they are
pub within_put : (runs : List CodeRun) (width n spare behind most place : ℕ) (run : CodeRun) → behind ≡ 2 ^ spare → 1 ≤ n → n + spare ≡ width → 2 ^ width ≤ place → AreRunsWithin runs behind most → AreRunsWithin (set runs place run) behind most
within_put runs width n spare behind most place run behind-is some sum far h rest lt other =
    let more : 2 ^ (spare + 1) ≤ 2 ^ width = pow-le-pow_right {n = 2} (omega arith) (omega arith) in
    let twice : 2 ^ (spare + 1) ≡ 2 ^ spare * 2 = pow-add 2 spare 1 in
    let ne : behind + rest ≢ place = λ same. omega (arith, more, twice, behind-is, lt, far, same) in
    rw (get_or-set_other runs place (behind + rest) run other ne) (h rest lt other)
