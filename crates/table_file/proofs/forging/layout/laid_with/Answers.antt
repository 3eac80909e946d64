use Rattle.std.proofs.Common.{◌≡◌, ◌*◌, ◌^◌, refl, arith, ◌∙◌}
use Rattle.std.specs.Prelude.{◌%◌}
use Rattle.table_file.specs.PlannedFile.{figures_bytes, planned_span}
use Rattle.std.proofs.lemmas.Nat.{one_shl}
use Rattle.table_file.proofs.forging.layout.laid_with.Goals as goal

pub returns : goal.returns
unfolding figures_bytes
returns c =
    let q = c.args.plan.now in
    let span : 1 * 2 ^ q.span_exponent % 18446744073709551616 ≡ planned_span q = one_shl q.span_exponent 64 (omega (arith, c.requires.figures.span_wide)) in
    c.new.ensures ∙ rw (c.in_ok-size_record.ensures, c.in_ok-entries.ensures, c.in_ok-lengths.ensures, c.in_ok-blocks.ensures, c.requires.dictionary, c.requires.lengths, c.requires.padding, span) refl
