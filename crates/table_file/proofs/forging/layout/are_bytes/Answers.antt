use Rattle.std.proofs.Common.{ℕ, ◌<◌, List, refl, subst}
use Rattle.std.specs.List.{All}
use Rattle.std.proofs.lemmas.List.{take_all}
use Rattle.std.proofs.lemmas.List.Elements.{All-more}
use Rattle.table_file.proofs.forging.layout.are_bytes.Goals as goal

pub loop-entry-preserved : goal.loop-entry-preserved
loop-entry-preserved c = All-more (λ e. e < 256) c.args.entries.now c.loop-entry.entry-index 0 c.loop-entry-test.true c.loop-entry.invariant c.if-entry-ge256.false

pub returns : goal.returns
returns c = (λ t. subst (λ (xs : List ℕ). All (λ e. e < 256) xs) (take_all c.loop-entry.entry-index c.args.entries.now c.loop-entry-test.false) c.loop-entry.invariant, λ h. refl)
