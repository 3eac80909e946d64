use Rattle.std.proofs.Common.{ap, ◌∙◌, ◌++◌, ℕ, List}
use Rattle.std.specs.Prelude.{codes}
use Rattle.hex.specs.Hex.{encode_lower}
use Rattle.arbiter_server.proofs.Lines.{ends_behind}
use Rattle.arbiter_server.proofs.line.stamped.Goals as goal

pub returns : goal.returns
returns c = λ line is.
    c.joined.ensures ∙ ap (λ (l : List ℕ). l ++ c.args.words.now) (c.deref.ensures.0 ∙ c.marked.ensures.is) ∙ ends_behind (encode_lower c.args.stamp) (codes " ") line c.args.words.now is
