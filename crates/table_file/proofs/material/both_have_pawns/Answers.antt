use Rattle.std.proofs.Common.{◌<◌, ◌∙◌, ap, arith}
use Rattle.table_file.proofs.NameLemmas.{both_is, both_by_name, both_then, both_else}
use Rattle.table_file.proofs.material.both_have_pawns.Goals as goal

pub returns-then-letters-eq80 : goal.returns-then-letters-eq80
returns-then-letters-eq80 c =
    let m = c.args.material.now in
    let known : m < 145 = omega (arith, c.key.ensures.is, c.key.ensures.below) in
    let letters = c.as_bytes-letters.result.now in
    let is = c.as_bytes-letters.ensures.value ∙ c.as_str.ensures.value ∙ c.name-name.ensures in
    both_then letters c.if-letters-eq80.true ∙ ap both_by_name is ∙ both_is m known

pub returns-else-letters-eq80 : goal.returns-else-letters-eq80
returns-else-letters-eq80 c =
    let m = c.args.material.now in
    let known : m < 145 = omega (arith, c.key.ensures.is, c.key.ensures.below) in
    let letters = c.as_bytes-letters.result.now in
    let is = c.as_bytes-letters.ensures.value ∙ c.as_str.ensures.value ∙ c.name-name.ensures in
    both_else letters c.if-letters-eq80.false ∙ ap both_by_name is ∙ both_is m known
