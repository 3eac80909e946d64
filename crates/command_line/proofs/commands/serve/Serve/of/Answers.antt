use Rattle.std.proofs.Common.{rules, codes, inl, inr}
use Rattle.std.proofs.lemmas.Result.{IfErr-weaker}
use Rattle.clap.specs.Words.{first_value, found_of}
use Rattle.command_line.specs.declared.words.usage.Wanted.TheVariants as wanted
use Rattle.command_line.specs.Misuses.{Holds, IsFirstMisuse, IsToldMisuse, NoOption, Unfit, WithoutGames, fault_words}
use Rattle.command_line.specs.Commands.Serve.{faults}
use Rattle.command_line.proofs.commands.serve.Serve.of.Goals as goal

pub returns-in_err-other_in-clause-err : goal.returns-in_err-other_in-clause-err
returns-in_err-other_in-clause-err c =
    let value = first_value (found_of c.args.matches.now) in
    let no_tables : Holds value (NoOption (codes "tables")) → ⊥ = search rules in
    let no_bind : Holds value (NoOption (codes "bind")) → ⊥ = search rules in
    let no_address : Holds value (Unfit wanted.Address) → ⊥ = search rules in
    let no_memory : Holds value (Unfit wanted.Memory) → ⊥ = search rules in
    let no_requests : Holds value (Unfit wanted.Requests) → ⊥ = search rules in
    IfErr-weaker c.from_residual-in_err-other_in.result (λ fault. IsToldMisuse value (WithoutGames (codes "other")) (fault_words fault)) (λ fault. IsFirstMisuse value faults (fault_words fault))
    (λ fault told. inr (no_tables, inr (no_bind, inr (no_address, inr (no_memory, inr (no_requests, inl told)))))) (search rules)
