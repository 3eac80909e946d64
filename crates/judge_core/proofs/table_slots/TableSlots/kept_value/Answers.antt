use Rattle.std.proofs.Common.{subst, ap, ◌∙◌}
use Rattle.std.specs.Prelude.{Contains}
use Rattle.lru.proofs.CallerLemmas.{Contains-promoted}
use Rattle.judge_core.proofs.KeptBlocks.{right_found, right_values}
use Rattle.judge_core.proofs.table_slots.TableSlots.kept_value.Goals as goal

pub returns-in_err-values-clause-right : goal.returns-in_err-values-clause-right
returns-in_err-values-clause-right c = record {
  cap = ap (λ x. x.cap) c.get.follows.holds-at-none ∙ c.requires.right.cap;
  places = c.requires.right.places;
  marked = c.requires.right.marked;
  right = λ kept d. c.requires.right.right kept (Contains-promoted _ c.args.blocks.now.kept.entries kept (subst (λ x. Contains x.entries kept) c.get.follows.holds-at-none d));
}

pub value_among-requires : goal.value_among-requires
value_among-requires c = record {
  values =
      c.deref.ensures.value
      ∙ right_values c.args.self.now.tables c.args.key.now c.args.part.now c.in_ok-values.values.now.items c.requires.on
      (right_found (λ v. v.items) c.args.self.now.tables c.args.blocks.now.kept.entries c.args.key.now c.in_ok-values.values.now c.requires.right.right c.in_ok-values.ensures.value);
}

pub returns-clause-right : goal.returns-clause-right
returns-clause-right c = record {
  cap = ap (λ x. x.cap) c.get.follows.holds-at-none ∙ c.requires.right.cap;
  places = c.requires.right.places;
  marked = c.requires.right.marked;
  right = λ kept d. c.requires.right.right kept (Contains-promoted _ c.args.blocks.now.kept.entries kept (subst (λ x. Contains x.entries kept) c.get.follows.holds-at-none d));
}
