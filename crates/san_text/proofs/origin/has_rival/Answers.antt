use Rattle.std.proofs.Common.{arith, sym, ◌∙◌}
use Rattle.board_core.proofs.Sweep.{Rests-without, none_on}
use Rattle.san_text.specs.Inside.Written.{is_among}
use Rattle.san_text.proofs.Rivals.{RivalAmong, Decides-found, none_found}
use Rattle.san_text.proofs.origin.has_rival.Goals as goal
use Rattle.san_text.proofs.origin.has_rival.Goals.{else-is_among-via-then-is_among+else-is_rival, else-is_among-via-else-is_among}

pub returns-then-is_rival : goal.returns-then-is_rival
returns-then-is_rival c = Decides-found _ _ _ c.lowest-from.result (c.is_rival.ensures.0 c.if-is_rival.true) (sym c.is_among.ensures ∙ c.if-is_among.true)

none_here : (c : goal.After-number-next) → RivalAmong c.args.position.now c.args.m.now (is_among c.args.among c.args.m.now.from) c.lowest-from.result → ⊥
none_here c q = elim c.else-is_among.branch [
  | else-is_among-via-then-is_among+else-is_rival w ↦ let t = sym w.if-is_rival.false ∙ w.is_rival.ensures.1 q.rival in cc
  | else-is_among-via-else-is_among w ↦ let t = sym w.if-is_among.false ∙ c.is_among.ensures ∙ q.among in cc
]

pub rivals-preserved : goal.rivals-preserved
rivals-preserved c = record {
  rests = rw c.number-next.ensures.value (Rests-without _ _ _ _ _ (omega arith) c.rivals.invariant.rests c.lowest-from.ensures.first c.lowest-from.ensures.here c.without-rest.ensures.gone c.without-rest.ensures.kept);
  none = rw c.number-next.ensures.value (none_on _ _ _ _ (omega arith) c.rivals.invariant.rests c.lowest-from.ensures.first c.rivals.invariant.none (none_here c));
}

pub returns : goal.returns
returns c = none_found _ _ _ _ _ c.rivals.invariant.rests (c.is_empty.ensures.0 c.rivals-test.false) c.rivals.invariant.none
