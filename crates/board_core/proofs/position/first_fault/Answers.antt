use Rattle.std.proofs.Common.{refl, ap, arith}
use Rattle.board_core.specs.declared.census.Census.{Census}
use Rattle.std.proofs.lemmas.Bool.{false≢true}
use Rattle.board_core.proofs.position.first_fault.Goals as goal

pub returns-then-not-has_one_king_each-clause-found : goal.returns-then-not-has_one_king_each-clause-found
returns-then-not-has_one_king_each-clause-found c = λ h. false≢true ((c.if-not-has_one_king_each.ensures _ c.requires).1 h)

pub returns-then-not-has_few_men-clause-found : goal.returns-then-not-has_few_men-clause-found
returns-then-not-has_few_men-clause-found c = (
  (c.if-not-has_one_king_each.ensures _ c.requires).0 refl,
  λ h. false≢true ((c.if-not-has_few_men.ensures _ (ap (λ (x : Census). x.sides) c.requires)).1 h),
)

pub returns-then-not-has_no_pawn_on_edge-clause-found : goal.returns-then-not-has_no_pawn_on_edge-clause-found
returns-then-not-has_no_pawn_on_edge-clause-found c = (
  (c.if-not-has_one_king_each.ensures _ c.requires).0 refl,
  (c.if-not-has_few_men.ensures _ (ap (λ (x : Census). x.sides) c.requires)).0 refl,
  λ h. false≢true ((c.if-not-has_no_pawn_on_edge.ensures _ c.requires).1 h),
)

pub returns-then-not-has_valid_rights-clause-found : goal.returns-then-not-has_valid_rights-clause-found
returns-then-not-has_valid_rights-clause-found c = (
  (c.if-not-has_one_king_each.ensures _ c.requires).0 refl,
  (c.if-not-has_few_men.ensures _ (ap (λ (x : Census). x.sides) c.requires)).0 refl,
  (c.if-not-has_no_pawn_on_edge.ensures _ c.requires).0 refl,
  λ h. false≢true (c.if-not-has_valid_rights.ensures.1 h),
)

pub returns-then-not-has_valid_en_passant-clause-found : goal.returns-then-not-has_valid_en_passant-clause-found
returns-then-not-has_valid_en_passant-clause-found c = (
  (c.if-not-has_one_king_each.ensures _ c.requires).0 refl,
  (c.if-not-has_few_men.ensures _ (ap (λ (x : Census). x.sides) c.requires)).0 refl,
  (c.if-not-has_no_pawn_on_edge.ensures _ c.requires).0 refl,
  c.if-not-has_valid_rights.ensures.0 refl,
  λ h. false≢true (c.if-not-has_valid_en_passant.ensures.1 h),
)

pub returns-then-not-is_opponent_safe-clause-found : goal.returns-then-not-is_opponent_safe-clause-found
returns-then-not-is_opponent_safe-clause-found c = (
  (c.if-not-has_one_king_each.ensures _ c.requires).0 refl,
  (c.if-not-has_few_men.ensures _ (ap (λ (x : Census). x.sides) c.requires)).0 refl,
  (c.if-not-has_no_pawn_on_edge.ensures _ c.requires).0 refl,
  c.if-not-has_valid_rights.ensures.0 refl,
  c.if-not-has_valid_en_passant.ensures.0 refl,
  λ h. false≢true (c.if-not-is_opponent_safe.ensures.1 h),
)

pub returns-then-not-has_valid_counters-clause-found : goal.returns-then-not-has_valid_counters-clause-found
returns-then-not-has_valid_counters-clause-found c = (
  (c.if-not-has_one_king_each.ensures _ c.requires).0 refl,
  (c.if-not-has_few_men.ensures _ (ap (λ (x : Census). x.sides) c.requires)).0 refl,
  (c.if-not-has_no_pawn_on_edge.ensures _ c.requires).0 refl,
  c.if-not-has_valid_rights.ensures.0 refl,
  c.if-not-has_valid_en_passant.ensures.0 refl,
  c.if-not-is_opponent_safe.ensures.0 refl,
  λ h. false≢true (c.if-not-has_valid_counters.ensures.1 h),
)

pub returns-clause-none : goal.returns-clause-none
returns-clause-none c = record {
  squares = omega arith;
  kings = (c.if-not-has_one_king_each.ensures _ c.requires).0 refl;
  few = (c.if-not-has_few_men.ensures _ (ap (λ (x : Census). x.sides) c.requires)).0 refl;
  pawns = (c.if-not-has_no_pawn_on_edge.ensures _ c.requires).0 refl;
  rights = c.if-not-has_valid_rights.ensures.0 refl;
  en_passant = c.if-not-has_valid_en_passant.ensures.0 refl;
  quiet = c.if-not-is_opponent_safe.ensures.0 refl;
  counters = c.if-not-has_valid_counters.ensures.0 refl;
}
