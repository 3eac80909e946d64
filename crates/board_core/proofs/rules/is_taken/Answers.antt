use Rattle.std.proofs.Common.{sym}
use Rattle.std.proofs.lemmas.Bool.{false≢true}
use Rattle.board_core.proofs.Taken.{taken_if, free_else, free_where_none}
use Rattle.board_core.proofs.rules.is_taken.Goals as goal

pub returns-in-Some-clause-taken : goal.returns-in-Some-clause-taken
returns-in-Some-clause-taken c = λ t. taken_if c.args.men.now c.args.side c.args.square c.in-Some.man (sym c.in-Some.ensures.man) (c.is_of.ensures.relation.0 t)

pub returns-in-Some-clause-free : goal.returns-in-Some-clause-free
returns-in-Some-clause-free c = λ f. free_else c.args.men.now c.args.side c.args.square c.in-Some.man (sym c.in-Some.ensures.man) (λ e. f (c.is_of.ensures.relation.1 e))

pub returns-in-None-clause-taken : goal.returns-in-None-clause-taken
returns-in-None-clause-taken c = λ t. absurd (false≢true t)

pub returns-in-None-clause-free : goal.returns-in-None-clause-free
returns-in-None-clause-free c = λ _. free_where_none c.args.men.now c.args.side c.args.square (sym c.in-None.ensures.man)
