use Rattle.std.proofs.Common.{◌++◌, ◌∙◌, ℕ, List, ap, append_assoc, codes}
use Rattle.std.specs.Prelude.{Bool, cond}
use Rattle.std.specs.Fmt.{decimal}
use Rattle.answer_commands.proofs.sending.silence_line.Goals as goal

pub returns-then-is_silent : goal.returns-then-is_silent
returns-then-is_silent c =
    let words = λ (b : Bool). c.args.front.now ++ cond b (codes "no answer came") (codes "last acknowledged " ++ decimal c.args.told.now.count) in
    c.add.ensures.is ∙ ap (λ (l : List ℕ). l ++ codes "no answer came") c.of-line.ensures.is ∙ ap words c.if-is_silent.ensures

pub returns-else-is_silent : goal.returns-else-is_silent
returns-else-is_silent c =
    let words = λ (b : Bool). c.args.front.now ++ cond b (codes "no answer came") (codes "last acknowledged " ++ decimal c.args.told.now.count) in
    let number = decimal c.args.told.now.count in
    c.add_counted.ensures.is ∙ ap (λ (l : List ℕ). l ++ codes "last acknowledged " ++ number) c.of-line.ensures.is ∙ append_assoc c.args.front.now (codes "last acknowledged ") number ∙ ap words c.if-is_silent.ensures
