use Rattle.std.proofs.Common.{◌≡◌, ◌∙◌, Some, None, ap, sym}
use Rattle.std.specs.Prelude.{option_map}
use Rattle.answer_commands.specs.Answers.{key_of}
use Rattle.answer_commands.specs.Sealed.{Bare, Sealed}
use Rattle.answer_commands.proofs.sealing.answer.Goals as goal

pub returns-in-None : goal.returns-in-None
returns-in-None g c =
    let none : key_of c.args.task.now ≡ None = sym c.key.ensures ∙ ap (option_map (λ s. s.now)) c.in-None.is in
    Bare none c.answer_bare.ensures

pub returns-in-Some : goal.returns-in-Some
returns-in-Some g c =
    let named : key_of c.args.task.now ≡ Some c.in-Some.path.now = sym c.key.ensures ∙ ap (option_map (λ s. s.now)) c.in-Some.is in
    Sealed c.in-Some.path.now named c.answer_sealed.ensures
