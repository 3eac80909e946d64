use Rattle.std.proofs.Common.{rules, ◌≡◌, ◌<◌, ◌^◌, ap, sym, ◌∙◌, arith}
use Rattle.std.specs.Fmt.{decimal}
use Rattle.fen_text.proofs.CounterLaws.{number_utf8, number_parsed}
use Rattle.fen_text.proofs.counters.read_number.Goals as goal

pub returns-in_default-clause-none : goal.returns-in_default-clause-none
returns-in_default-clause-none c = λ n h.
    let fits : c.args.most < 2 ^ 32 = search rules in
    c.in_default.ensures.cases.0 (number_utf8 c.args.most c.args.text.now n fits h)

pub returns-in_default-parse-clause-none : goal.returns-in_default-parse-clause-none
returns-in_default-parse-clause-none c = λ n h.
    let fits : c.args.most < 2 ^ 32 = search rules in
    let ok = number_parsed c.args.most c.args.text.now c.in-Ok.word.now n c.parse.result fits h c.in-Ok.ensures.cases.0 c.parse.ensures.value.0 in
    absurd cc

pub returns-then-number-most-clause-none : goal.returns-then-number-most-clause-none
returns-then-number-most-clause-none c = λ n h.
    let fits : c.args.most < 2 ^ 32 = search rules in
    let ok = number_parsed c.args.most c.args.text.now c.in-Ok.word.now n c.parse.result fits h c.in-Ok.ensures.cases.0 c.parse.ensures.value.0 in
    let same : c.in-Ok-parse.number ≡ n = cc in
    omega (arith, h.small)

pub returns-then-ne-clause-none : goal.returns-then-ne-clause-none
returns-then-ne-clause-none c = λ n h.
    let fits : c.args.most < 2 ^ 32 = search rules in
    let ok = number_parsed c.args.most c.args.text.now c.in-Ok.word.now n c.parse.result fits h c.in-Ok.ensures.cases.0 c.parse.ensures.value.0 in
    let same : c.in-Ok-parse.number ≡ n = cc in
    let text : c.as_str.result.now ≡ c.in-Ok.word.now = c.as_str.ensures.value ∙ c.digits.ensures ∙ ap decimal same ∙ sym h.text ∙ sym c.in-Ok.ensures.cases.0 in
    search rules
