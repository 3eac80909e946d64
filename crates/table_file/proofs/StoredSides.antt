-- A file stores the side of its flags.
use Rattle.std.proofs.Common.{◌≡◌, ℕ, ◌<◌, Bool, false, eqb, sym, ◌∙◌, arith}
use Rattle.std.specs.Prelude.{◌%◌, ◌||◌}
use Rattle.std.proofs.lemmas.Bool.{false≢true, eq-eqb, or_left}
use Rattle.std.proofs.lemmas.Nat.{mod_below}
use Rattle.board_core.specs.declared.piece.Side.TheVariants.{White}
use Rattle.table_file.specs.Files.{is_symmetric}
use Rattle.table_file.specs.Tables.{part_for}
use Rattle.table_file.specs.Distances.{file_flags, stores, ASideIsStored}

not_this : (bit a : ℕ) (same : Bool) → (eqb bit a || same) ≡ false → bit ≡ a → ⊥
not_this bit a same e is = false≢true (sym e ∙ or_left (eqb bit a) same (eq-eqb bit a is))

pub a_side : ASideIsStored
unfolding stores
a_side t file =
    let flags = file_flags (part_for t White file) in
    let bit = flags % 2 in
    let small : bit < 2 = mod_below flags 2 (omega arith) in
    let same = is_symmetric t.material in (
      λ e. or_left (eqb bit 1) same (eq-eqb bit 1 (omega (arith, small, not_this bit 0 same e))),
      λ e. or_left (eqb bit 0) same (eq-eqb bit 0 (omega (arith, small, not_this bit 1 same e))),
    )
