use Rattle.std.proofs.Common.{rules, ◌≡◌, ℕ, length, Fits, w8}
use Rattle.std.specs.Prelude.{slice_index}
use Rattle.move_msg.proofs.stamp.are_of_stamp.Goals as goal

pub returns : goal.returns
returns c =
    let long : length c.args.bytes ≡ 16 = search rules in
    let each : (i : ℕ) → Fits w8 (slice_index c.args.bytes i) = λ i. search rules in
    (long, λ i. (each i).fits)
