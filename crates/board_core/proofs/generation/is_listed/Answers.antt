use Rattle.std.proofs.Common.{arith, rules}
use Rattle.board_core.specs.Moves.{IsMove}
use Rattle.board_core.proofs.Safety.{safe_legal, legal_safe, same_case}
use Rattle.board_core.proofs.generation.is_listed.Goals as goal

pub returns-in-Some : goal.returns-in-Some
returns-in-Some c =
    let rule : IsMove c.args.p.now c.args.m.now c.in-Some.case = search (rules, c.in-Some.ensures) in (
      λ t. (safe_legal _ _ c.in-Some.case (omega arith) (omega arith) rule (c.is_safe.ensures.0 t), c.if-not-is_wanted.ensures.0 (search rules)),
      λ l. c.is_safe.ensures.1 (legal_safe c.args.p.now c.args.m.now c.in-Some.case l.0 (same_case c.args.p.now c.args.m.now c.case_of.result c.in-Some.case c.case_of.ensures.only c.in-Some.is l.0)),
    )
