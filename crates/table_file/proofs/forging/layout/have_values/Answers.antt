use Rattle.std.proofs.Common.{ℕ, ◌<◌, get_or, refl, arith}
use Rattle.std.proofs.lemmas.Bool.{false≢true}
use Rattle.pair_dict.specs.declared.fault.DictFault.TheVariants.{Truncated, BadCode, BadSymbol}
use Rattle.table_file.proofs.Spelling.{read_is_good, good_is_read}
use Rattle.table_file.proofs.forging.layout.have_values.Goals.{in-Ok, in-Err-OutOfMemory, in-Err-Truncated, in-Err-BadCode, in-Err-BadSymbol}
use Rattle.table_file.proofs.forging.layout.have_values.Goals as goal

pub returns : goal.returns
returns c =
    let q = c.args.plan.now in
    let small : (i : ℕ) → get_or q.lowest.items i 0 < 65536 = λ i. let f = rw c.requires.lowest at (c.type_inv.lowest i) in omega (arith, f) in
    elim c.match-read.branch [
      | in-Ok w ↦ rw w.result-is (λ t. read_is_good (λ x. (x.0, x.1)) q w.in-Ok.field-0 c.requires.figures small c.requires.long (rw c.requires.spelled at w.in-Ok.ensures.is), λ h. refl)
      | in-Err-OutOfMemory w ↦ rw w.result-is tt
      | in-Err-Truncated w ↦ rw w.result-is (λ t. absurd (false≢true t), λ h. absurd (good_is_read q Truncated c.requires.figures small c.requires.long (rw (c.requires.spelled, w.in-Err-Truncated.field-0-is) at w.in-Err-Truncated.ensures.is) h))
      | in-Err-BadCode w ↦ rw w.result-is (λ t. absurd (false≢true t), λ h. absurd (good_is_read q BadCode c.requires.figures small c.requires.long (rw (c.requires.spelled, w.in-Err-BadCode.field-0-is) at w.in-Err-BadCode.ensures.is) h))
      | in-Err-BadSymbol w ↦ rw w.result-is (λ t. absurd (false≢true t), λ h. absurd (good_is_read q BadSymbol c.requires.figures small c.requires.long (rw (c.requires.spelled, w.in-Err-BadSymbol.field-0-is) at w.in-Err-BadSymbol.ensures.is) h))
    ]
