-- An input that was read up to one byte more than it may have.
use Rattle.std.proofs.Common.{◌≡◌, ℕ, ◌+◌, ◌≤◌, List, length, take, Option, Some, None, ap, ◌∙◌, arith}
use Rattle.std.specs.Prelude.{IfSome}
use Rattle.std.specs.Option.{option_map}
use Rattle.std.proofs.lemmas.List.{length-take, take_all}

pub whole_input : (known : Option (List ℕ)) (input : List ℕ) (limit most : ℕ) → limit ≡ most + 1 → IfSome (option_map (take limit) known) (λ all. input ≡ all) → length input ≤ most → IfSome known (λ all. input ≡ all)
whole_input None input limit most is h short = tt {0}
whole_input (Some all) input limit most is h short =
    let len : length input ≡ length (take limit all) = ap length h in
    h ∙ take_all limit all (omega (arith, length-take limit all))
