use Rattle.std.proofs.Common.{◌≡◌, ◌≤◌, ℕ, ◌+◌, ◌/◌, ◌%◌, List, [], ◌∷◌, ◌++◌, length, ap, sym, ◌∙◌, arith, lit<}
use Rattle.std.specs.Fmt.{decimal}
use Rattle.std.proofs.lemmas.Fmt.{length-decimal-le, decimal_digit, decimal_step}
use Rattle.fen_text.proofs.counters.+digits.Goals as goal
use Rattle.fen_text.proofs.counters.+digits.Goals.{then-number-lt10, else-number-lt10}

pub push_digit-requires-clause-room : goal.push_digit-requires-clause-room
push_digit-requires-clause-room t c =
    let short : length c.if-number-lt10.text.bytes ≤ 9 =
    elim c.if-number-lt10.branch [
      | then-number-lt10 w ↦ (let e : c.if-number-lt10.text.bytes ≡ [] = cc in omega (arith, ap length e))
      | else-number-lt10 w ↦ (let e : c.if-number-lt10.text.bytes ≡ decimal (c.args.number / 10) = cc in let small = length-decimal-le 9 (c.args.number / 10) (lit< tt) (omega arith) (omega arith) in omega (arith, ap length e))
    ] in
    omega (arith, short)

pub returns : goal.returns
returns t c =
    let more = c.push_digit.ensures in
    elim c.if-number-lt10.branch [
      | then-number-lt10 w ↦ (let e : c.if-number-lt10.text.bytes ≡ [] = cc in more ∙ ap (λ (bytes : List ℕ). bytes ++ (48 + c.args.number % 10) ∷ []) e ∙ ap (λ (n : ℕ). (48 + n) ∷ []) {x = c.args.number % 10} {y = c.args.number} (omega arith) ∙ sym (decimal_digit c.args.number w.if-number-lt10.true))
      | else-number-lt10 w ↦ (let e : c.if-number-lt10.text.bytes ≡ decimal (c.args.number / 10) = cc in more ∙ ap (λ (bytes : List ℕ). bytes ++ (48 + c.args.number % 10) ∷ []) e ∙ sym (decimal_step c.args.number w.if-number-lt10.false (omega arith)))
    ]
