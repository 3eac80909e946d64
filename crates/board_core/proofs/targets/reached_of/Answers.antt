use Rattle.std.proofs.Common.{arith, inl, inr, ◌≡◌}
use Rattle.std.proofs.lemmas.Bool.{cases_lt}
use Rattle.std.proofs.lemmas.Nat.Bits.{bit_at-zero}
use Rattle.board_core.proofs.Sweep.{Rests-begin, Rests-without, Rests-between, Rests-empty, zero_one}
use Rattle.board_core.proofs.Steps.{and_both, and_left}
use Rattle.board_core.proofs.targets.reached_of.Goals as goal

pub squares-init : goal.squares-init
squares-init c = record {
  rests = Rests-begin _ _ (λ s b q. rw c.bitand-rest.ensures (and_both _ _ s q.0 (c.reached.ensures c.args.men.now s b q.1)));
  within = λ s bit. and_left _ _ s (rw c.bitand-rest.ensures at bit);
  reached = λ s lt. absurd (omega arith);
  only = λ s bit. absurd (zero_one _ (bit_at-zero s) (rw c.empty-reached.ensures at bit));
}

pub squares-preserved : goal.squares-preserved
squares-preserved c =
    let i = c.squares.invariant in
    record {
      rests = rw c.number-next.ensures.value (Rests-without _ _ _ _ _ (omega arith) i.rests c.lowest-to.ensures.first c.lowest-to.ensures.here c.without-rest.ensures.gone c.without-rest.ensures.kept);
      within = λ s bit. i.within s (c.without-rest.ensures.only s bit);
      reached = λ s lt bit reaches. elim (cases_lt s c.squares.next) [
        | inl before ↦ c.with_reached-reached.ensures.kept s (i.reached s before bit reaches)
        | inr ge ↦ elim (cases_lt s c.lowest-to.result) [
          | inl between ↦ absurd (Rests-between _ _ _ _ s i.rests c.lowest-to.ensures.first (omega arith) ge between (bit, reaches))
          | inr past ↦
              let e : s ≡ c.lowest-to.result = omega (arith, lt, c.number-next.ensures.value) in
              rw e (c.with_reached-reached.ensures.reached (rw e at reaches))
        ]
      ];
      only = λ s bit. elim (c.with_reached-reached.ensures.only s bit) [
        | inl before ↦ i.only s before
        | inr here ↦ rw here.0 (i.within c.lowest-to.result c.lowest-to.ensures.here, here.1)
      ];
    }

pub returns-clause-reached : goal.returns-clause-reached
returns-clause-reached c = λ s b bit reaches. elim (cases_lt s c.squares.next) [
  | inl before ↦ c.squares.invariant.reached s before bit reaches
  | inr ge ↦ absurd (Rests-empty _ _ _ s c.squares.invariant.rests (c.is_empty.ensures.0 c.squares-test.false) b ge (bit, reaches))
]
