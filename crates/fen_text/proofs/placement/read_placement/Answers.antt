use Rattle.std.proofs.Common.{◌≡◌, ◌≤◌, ℕ, ◌*◌, ◌-◌, ◌∙◌, None, refl, subst, drop, take, arith, lit≤}
use Rattle.std.specs.Prelude.{replicate}
use Rattle.fen_text.specs.Cuts.{cut_at}
use Rattle.fen_text.proofs.RanksLaws.{ReadsRanks, reads_none, reads_is_filled, reads_next, reads_last, first_left, too_few, no_rank, no_last, rank_cells}
use Rattle.fen_text.proofs.placement.read_placement.Goals as goal

pub loop-above-init : goal.loop-above-init
loop-above-init c = record { read = rw c.none-men.ensures (reads_none _); left = refl }

pub returns-in_default-clause-none : goal.returns-in_default-clause-none
returns-in_default-clause-none c =
    too_few c.args.text.now c.loop-above.above c.loop-above.rest.now (omega arith) c.loop-above.invariant.left c.in_default.ensures.none

pub returns-then-not-read_rank-clause-none : goal.returns-then-not-read_rank-clause-none
returns-then-not-read_rank-clause-none c =
    no_rank c.args.text.now c.loop-above.above c.in-Some.rank_text.now _ (c.loop-above.invariant.left ∙ c.in-Some.ensures.some) c.if-not-read_rank.ensures.no

pub loop-above-preserved : goal.loop-above-preserved
loop-above-preserved c =
    let texts = cut_at 47 c.args.text.now in
    let n = c.loop-above.above in
    let le : n ≤ 7 = omega arith in
    let left = c.loop-above.invariant.left ∙ c.in-Some.ensures.some in
    let filled = reads_is_filled texts n c.loop-above.men le c.loop-above.invariant.read in
    record {
      read = reads_next texts n c.in-Some.rank_text.now _ c.loop-above.men c.read_rank.new.men le c.loop-above.invariant.read left c.if-not-read_rank.ensures.rank
          (c.if-not-read_rank.ensures.puts (replicate (8 * (7 - n)) None) (rank_cells (take n texts)) filled);
      left = (first_left texts n c.in-Some.rank_text.now _ left).after;
    }

pub returns-then-not-read_rank-2-clause-none : goal.returns-then-not-read_rank-2-clause-none
returns-then-not-read_rank-2-clause-none c =
    let texts = cut_at 47 c.args.text.now in
    let seven : c.loop-above.above ≡ 7 = omega arith in
    no_last c.args.text.now c.loop-above.rest.now (subst (λ (k : ℕ). drop k texts ≡ cut_at 47 c.loop-above.rest.now) seven c.loop-above.invariant.left) c.if-not-read_rank-2.ensures.no

pub returns-clause-some : goal.returns-clause-some
returns-clause-some c =
    let texts = cut_at 47 c.args.text.now in
    let seven : c.loop-above.above ≡ 7 = omega arith in
    let left = subst (λ (k : ℕ). drop k texts ≡ cut_at 47 c.loop-above.rest.now) seven c.loop-above.invariant.left in
    let read = subst (λ (k : ℕ). ReadsRanks texts k (8 - k) c.loop-above.men) seven c.loop-above.invariant.read in
    let filled = reads_is_filled texts 7 c.loop-above.men (lit≤ tt) read in
    reads_last c.args.text.now c.loop-above.men c.read_rank-2.new.men c.loop-above.rest.now read left c.if-not-read_rank-2.ensures.rank
    (c.if-not-read_rank-2.ensures.puts _ (rank_cells (take 7 texts)) filled)
