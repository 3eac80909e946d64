use Rattle.std.proofs.Common.{sym, ◌∙◌, ap, ◌++◌, ◌∷◌, List, ℕ, take, ◌+◌}
use Rattle.move_msg.proofs.CutBytes.{there, not_there, rest_is}
use Rattle.move_msg.proofs.table_name.cut.Goals as goal

pub returns-in_default-clause-none : goal.returns-in_default-clause-none
returns-in_default-clause-none c = not_there c.args.byte c.args.bytes.now (sym c.place_of.ensures ∙ c.in_default.is)

pub returns-clause-some : goal.returns-clause-some
returns-clause-some c =
    let h = there c.args.byte c.args.bytes.now c.in-Some.at (sym c.place_of.ensures ∙ c.in-Some.is) in
    (h.0 ∙ ap (λ (rest : List ℕ). take c.in-Some.at c.args.bytes.now ++ c.args.byte ∷ rest) (sym (rest_is (c.in-Some.at + 1) c.args.bytes.now)), h.1)
