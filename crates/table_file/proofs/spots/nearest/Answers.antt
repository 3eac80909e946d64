use Rattle.std.proofs.Common.{◌≡◌, ◌≤◌, ◌<◌, ◌-◌, ◌+◌, ◌*◌, ◌/◌, ℕ, min, arith}
use Rattle.std.proofs.lemmas.Nat.{div_below, div-add-mod', mod_below}
use Rattle.table_file.specs.Sparse.{sizes_of}
use Rattle.table_file.proofs.Before.{length-sizes, some_points, entry_here, covered}
use Rattle.table_file.proofs.spots.nearest.Goals as goal

pub returns-clause-block : goal.returns-clause-block
returns-clause-block c =
    let s = c.span-span.result in
    let n = c.points.result in
    let n-is : n ≡ (c.args.size + (s - 1)) / s = rw c.span-span.ensures.is c.points.ensures.is in
    let fit = rw (← c.span-span.ensures.is, ← n-is) at c.requires.right in
    let some : 1 ≤ n = some_points c.args.size s n (omega (arith, c.span-span.ensures.some)) c.requires.some n-is in
    let e = entry_here (sizes_of c.args.lengths.now) s n c.args.entries.now c.spans_in.result c.min-k.result c.entry-block.result.0 c.entry-block.result.1 fit c.min-k.ensures some c.entry-block.ensures.block c.entry-block.ensures.offset in
    omega (arith, e.known, length-sizes c.args.lengths.now)

pub returns-clause-place : goal.returns-clause-place
returns-clause-place c =
    let s = c.span-span.result in
    let n = c.points.result in
    let n-is : n ≡ (c.args.size + (s - 1)) / s = rw c.span-span.ensures.is c.points.ensures.is in
    let fit = rw (← c.span-span.ensures.is, ← n-is) at c.requires.right in
    let some : 1 ≤ n = some_points c.args.size s n (omega (arith, c.span-span.ensures.some)) c.requires.some n-is in
    let e = entry_here (sizes_of c.args.lengths.now) s n c.args.entries.now c.spans_in.result c.min-k.result c.entry-block.result.0 c.entry-block.result.1 fit c.min-k.ensures some c.entry-block.ensures.block c.entry-block.ensures.offset in
    e.place

-- the span of an index
in_span : (size s n index q k : ℕ) → 1 ≤ s → n ≡ (size + (s - 1)) / s → q ≡ index / s → k ≡ min q (n - 1) → index < size → (k * s ≤ index) × (index < k * s + s)
in_span size s n index q k some n-is q-is k-is lt =
    let all : size ≤ n * s = rw n-is (covered size s some) in
    let few : index / s < n = div_below index s n (omega (arith, some)) (omega (arith, lt, all)) in
    let same : k ≡ index / s = omega (arith, k-is, q-is, few) in
    let parts = div-add-mod' index s in
    let rest = mod_below index s some in
    rw same (omega (arith, parts, rest), omega (arith, parts, rest))

pub returns-clause-on : goal.returns-clause-on
returns-clause-on c = λ lt le.
    let s = c.span-span.result in
    let n-is : c.points.result ≡ (c.args.size + (s - 1)) / s = rw c.span-span.ensures.is c.points.ensures.is in
    let q-is : c.spans_in.result ≡ c.args.index / s = rw c.span-span.ensures.is c.spans_in.ensures.is in
    let h = in_span c.args.size s c.points.result c.args.index c.spans_in.result c.min-k.result (omega (arith, c.span-span.ensures.some)) n-is q-is c.min-k.ensures lt in
    rw (← c.span-span.ensures.is) (omega (arith, h.0, h.1, le, c.span-span.ensures.even))

pub returns-clause-back : goal.returns-clause-back
returns-clause-back c = λ lt gt.
    let s = c.span-span.result in
    let n-is : c.points.result ≡ (c.args.size + (s - 1)) / s = rw c.span-span.ensures.is c.points.ensures.is in
    let q-is : c.spans_in.result ≡ c.args.index / s = rw c.span-span.ensures.is c.spans_in.ensures.is in
    let h = in_span c.args.size s c.points.result c.args.index c.spans_in.result c.min-k.result (omega (arith, c.span-span.ensures.some)) n-is q-is c.min-k.ensures lt in
    rw (← c.span-span.ensures.is) (omega (arith, h.0, gt))
