use Rattle.std.proofs.Common.{length, sym, ap, ◌∙◌, arith}
use Rattle.place_index.specs.Material.{name_at}
use Rattle.place_index.proofs.Materials.KeyTables.{length_four, length_five, length_six}
use Rattle.place_index.proofs.material.name_length.Goals as goal

pub returns-in-0-to-4-clause-is : goal.returns-in-0-to-4-clause-is
returns-in-0-to-4-clause-is c = sym (length_four c.key.result (omega arith)) ∙ ap (λ k. length (name_at k)) c.key.ensures.is

pub returns-in-5-to-34-clause-is : goal.returns-in-5-to-34-clause-is
returns-in-5-to-34-clause-is c = sym (length_five c.key.result (omega arith) (omega arith)) ∙ ap (λ k. length (name_at k)) c.key.ensures.is

pub returns-in_default-clause-is : goal.returns-in_default-clause-is
returns-in_default-clause-is c = sym (length_six c.key.result (omega arith) c.key.ensures.below) ∙ ap (λ k. length (name_at k)) c.key.ensures.is
