use Rattle.std.proofs.Common.{◌≡◌, ◌<◌, ◌^◌, ◌+◌, ◌-◌, ◌*◌, arith, ℕ, ap, ◌∙◌}
use Rattle.std.proofs.lemmas.Nat.{pow-add, pow_pos}
use Rattle.std.proofs.Math.Nat.{div-lt_iff_lt-mul}
use Rattle.pair_dict.proofs.window.BitBuffer.front.Goals as goal

pub returns-clause-below : goal.returns-clause-below
returns-clause-below c =
    let w = c.args.width in
    let all : 64 ≡ w + (64 - w) = omega (arith, c.requires.few) in
    let whole : 2 ^ 64 ≡ 2 ^ w * 2 ^ (64 - w) = ap (λ (x : ℕ). 2 ^ x) all ∙ pow-add 2 w (64 - w) in
    let fits : c.args.self.bits < 2 ^ w * 2 ^ (64 - w) = rw (← whole) (omega arith) in
    (div-lt_iff_lt-mul {k = 2 ^ (64 - w)} {x = c.args.self.bits} {y = 2 ^ w} (pow_pos (64 - w))).1 fits
