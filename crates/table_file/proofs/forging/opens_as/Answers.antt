use Rattle.std.proofs.Common.{subst, sym, ◌∙◌}
use Rattle.table_file.specs.Forged.{ShowsPlan}
use Rattle.table_file.proofs.Agreeing.{is_ok}
use Rattle.table_file.proofs.Planned.{if_one}
use Rattle.table_file.proofs.forging.opens_as.Goals as goal

pub returns-in-Ok-clause-is : goal.returns-in-Ok-clause-is
returns-in-Ok-clause-is c = if_one c.shows.result c.shows.ensures.is (λ b h t. (c.in-Ok.table, rw c.requires.name at c.in-Ok.ensures.is, h t))

pub returns-in-Ok-clause-all : goal.returns-in-Ok-clause-all
returns-in-Ok-clause-all c = if_one c.shows.result c.shows.ensures.all (λ b h o.
    h (subst (λ t. ShowsPlan c.args.plan.now t) (is_ok o.0 c.in-Ok.table (sym o.1 ∙ (rw c.requires.name at c.in-Ok.ensures.is))) o.2))
