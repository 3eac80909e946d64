use Rattle.std.proofs.Common.{◌∙◌, sym, length, arith, ◌-◌}
use Rattle.place_index.specs.Material.{men_of}
use Rattle.table_file.proofs.NameLemmas.{no_title, title_is, long_name, name_front, name_back, joined_name}
use Rattle.table_file.proofs.kind.title.Goals as goal

pub returns-then-name-lt-ENDING-clause-is : goal.returns-then-name-lt-ENDING-clause-is
returns-then-name-lt-ENDING-clause-is c =
    no_title c.args.name.now (λ kind m lt e. omega (arith, c.if-name-lt-ENDING.true, long_name kind m c.args.name.now e))

pub returns-in_default-clause-is : goal.returns-in_default-clause-is
returns-in_default-clause-is c =
    no_title c.args.name.now (λ kind m lt e. c.in_default.ensures.none kind (c.split_at.ensures.back ∙ name_back kind m c.args.name.now e))

pub returns-in_default-from_name-clause-is : goal.returns-in_default-from_name-clause-is
returns-in_default-from_name-clause-is c =
    no_title c.args.name.now (λ kind m lt e.
    c.in_default-from_name.ensures.none (men_of m) (c.tables_are_numbered.ensures.0 m lt) (sym (c.split_at.ensures.front ∙ name_front kind m c.args.name.now e)))

pub returns-clause-is : goal.returns-clause-is
returns-clause-is c =
    let m = c.in-Some-from_name.material in
    title_is c.tables_are_numbered.ensures c.in-Some.kind m c.args.name.now (omega (arith, c.key.ensures.is, c.key.ensures.below))
    (joined_name c.in-Some.kind m (length c.args.name.now - 5) c.args.name.now (sym c.split_at.ensures.front ∙ sym c.in-Some-from_name.ensures.found) (sym c.split_at.ensures.back ∙ c.in-Some.ensures.found))
