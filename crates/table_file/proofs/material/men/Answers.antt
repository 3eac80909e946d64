use Rattle.std.proofs.Common.{◌<◌, ◌∙◌, ap, length, arith}
use Rattle.table_file.proofs.NameLemmas.{men_by_name, few_men}
use Rattle.table_file.proofs.material.men.Goals as goal

pub returns-clause-is : goal.returns-clause-is
returns-clause-is c =
    let m = c.args.material.now in
    let known : m < 145 = omega (arith, c.key.ensures.is, c.key.ensures.below) in
    omega (arith, ap length (c.as_str.ensures.value ∙ c.name-name.ensures), men_by_name m known)

pub returns-clause-few : goal.returns-clause-few
returns-clause-few c =
    let m = c.args.material.now in
    let known : m < 145 = omega (arith, c.key.ensures.is, c.key.ensures.below) in
    omega (arith, ap length (c.as_str.ensures.value ∙ c.name-name.ensures), men_by_name m known, few_men m known)
