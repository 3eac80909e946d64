use Rattle.std.proofs.Common.{arith, ◌≡◌, refl, sym}
use Rattle.std.proofs.lemmas.Bool.{false≢true}
use Rattle.std.proofs.lemmas.Nat.Bits.{bit_at-zero}
use Rattle.board_core.proofs.Sweep.{zero_one}
use Rattle.board_core.proofs.Listing.{HasListedBelow-skip, IsLegal-stands, IsLegal-from}
use Rattle.board_core.proofs.Taken.{stands_if, free_else, free_where_none}
use Rattle.board_core.proofs.generation.add_from.Goals as goal

pub returns-in-None-clause-moves : goal.returns-in-None-clause-moves
returns-in-None-clause-moves c =
    HasListedBelow-skip _ _ _ _ _ c.requires.below (omega arith) (λ m l low high.
    let own = rw (IsLegal-from _ m _ l.0 low high) at (IsLegal-stands _ m l.0) in
    free_where_none c.args.p.now.men c.args.p.now.side c.args.from (sym c.in-None.ensures.man) own.0 own.1)

pub returns-in-None-clause-memory : goal.returns-in-None-clause-memory
returns-in-None-clause-memory c = tt

pub returns-in-None-clause-known : goal.returns-in-None-clause-known
returns-in-None-clause-known c = c.requires.known

pub returns-then-not-is_of-clause-moves : goal.returns-then-not-is_of-clause-moves
returns-then-not-is_of-clause-moves c =
    HasListedBelow-skip _ _ _ _ _ c.requires.below (omega arith) (λ m l low high.
    let own = rw (IsLegal-from _ m _ l.0 low high) at (IsLegal-stands _ m l.0) in
    free_else c.args.p.now.men c.args.p.now.side c.args.from c.in-Some.man (sym c.in-Some.ensures.man) (λ e. false≢true (c.if-not-is_of.ensures.relation.1 e)) own.0 own.1)

pub returns-then-not-is_of-clause-memory : goal.returns-then-not-is_of-clause-memory
returns-then-not-is_of-clause-memory c = tt

pub returns-then-not-is_of-clause-known : goal.returns-then-not-is_of-clause-known
returns-then-not-is_of-clause-known c = c.requires.known

pub candidates-set-requires-clause-survey : goal.candidates-set-requires-clause-survey
candidates-set-requires-clause-survey c = c.requires.survey

pub candidates-set-requires-clause-stands : goal.candidates-set-requires-clause-stands
candidates-set-requires-clause-stands c = stands_if c.args.p.now.men c.args.p.now.side c.args.from c.in-Some.man (sym c.in-Some.ensures.man) (c.if-not-is_of.ensures.relation.0 refl)

pub returns-then-is_empty-clause-moves : goal.returns-then-is_empty-clause-moves
returns-then-is_empty-clause-moves c =
    let none : c.candidates-set.result ≡ 0 = c.is_empty.ensures.0 c.if-is_empty.true in
    HasListedBelow-skip _ _ _ _ _ c.requires.below (omega arith) (λ m l low high.
    zero_one _ (bit_at-zero m.to) (rw none at (c.candidates-set.ensures m l (IsLegal-from _ m _ l.0 low high))))

pub returns-then-is_empty-clause-memory : goal.returns-then-is_empty-clause-memory
returns-then-is_empty-clause-memory c = tt

pub returns-then-is_empty-clause-known : goal.returns-then-is_empty-clause-known
returns-then-is_empty-clause-known c = c.requires.known

pub guard_in-guard-requires-clause-survey : goal.guard_in-guard-requires-clause-survey
guard_in-guard-requires-clause-survey c = c.requires.survey

pub guard_in-guard-requires-clause-known : goal.guard_in-guard-requires-clause-known
guard_in-guard-requires-clause-known c = c.requires.known

pub add_targets-requires-clause-position : goal.add_targets-requires-clause-position
add_targets-requires-clause-position c = c.requires.position

pub add_targets-requires-clause-guard : goal.add_targets-requires-clause-guard
add_targets-requires-clause-guard c = c.guard_in-guard.ensures.guard

pub add_targets-requires-clause-below : goal.add_targets-requires-clause-below
add_targets-requires-clause-below c = c.requires.below

pub add_targets-requires-clause-whole : goal.add_targets-requires-clause-whole
add_targets-requires-clause-whole c = c.candidates-set.ensures

pub returns-else-is_empty-clause-moves : goal.returns-else-is_empty-clause-moves
returns-else-is_empty-clause-moves c = c.add_targets.ensures.added

pub returns-else-is_empty-clause-memory : goal.returns-else-is_empty-clause-memory
returns-else-is_empty-clause-memory c = c.add_targets.ensures.memory

pub returns-else-is_empty-clause-known : goal.returns-else-is_empty-clause-known
returns-else-is_empty-clause-known c = c.guard_in-guard.ensures.known

pub add_piece_moves-requires : goal.add_piece_moves-requires
add_piece_moves-requires c = record {
  position = c.requires.position;
  survey = c.requires.survey;
  stands = stands_if c.args.p.now.men c.args.p.now.side c.args.from c.in-Some.man (sym c.in-Some.ensures.man) (c.if-not-is_of.ensures.relation.0 refl);
  piece = (c.in_default.not-Pawn, c.in_default.not-King);
  known = c.requires.known;
  below = c.requires.below;
}

pub returns-in_default : goal.returns-in_default
returns-in_default c = c.add_piece_moves.ensures
