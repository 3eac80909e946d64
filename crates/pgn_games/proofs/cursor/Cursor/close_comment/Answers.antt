use Rattle.std.proofs.Common.{All, ◌≢◌, ◌<◌, ◌∙◌, ap, sym, drop, subst, List, ◌≡◌, Some, None, ◌++◌}
use Rattle.std.specs.Prelude.{◌==◌, position}
use Rattle.std.proofs.lemmas.List.Elements.{All-drop}
use Rattle.pgn_games.specs.Tokens.{Token}
use Rattle.pgn_games.specs.Inside.Lines.{OneLine}
use Rattle.pgn_games.specs.Inside.Steps.{comment_closed}
use Rattle.pgn_games.proofs.RunLaws.{rest_of}
use Rattle.pgn_games.proofs.TokenLaws.{further_on}
use Rattle.pgn_games.proofs.CommentLaws.{none_closes, some_closes}
use Rattle.pgn_games.proofs.cursor.Cursor.close_comment.Goals as goal

pub returns-in-None-clause-closes : goal.returns-in-None-clause-closes
returns-in-None-clause-closes c =
    let self = c.args.self.now in
    let rest = rest_of c.deref.result.now self.line.items self.place c.deref.ensures.value in
    let one : OneLine (drop self.place self.line.items) = All-drop (λ b. b ≢ 10) self.place self.line.items c.requires.one in
    let small : All (λ b. b < 256) (drop self.place self.line.items) = subst (All (λ b. b < 256)) rest c.brace_in.ensures.bytes in
    let none : position (λ b. b == 125) (drop self.place self.line.items) ≡ None = sym (c.in-None.ensures.is ∙ ap (position (λ b. b == 125)) rest) in
    λ from long more. none_closes from long self.number (drop self.place self.line.items) more one small none

pub returns-in-Some-clause-closes : goal.returns-in-Some-clause-closes
returns-in-Some-clause-closes c =
    let self = c.args.self.now in
    let n = c.in-Some.len in
    let rest = rest_of c.deref.result.now self.line.items self.place c.deref.ensures.value in
    let one : OneLine (drop self.place self.line.items) = All-drop (λ b. b ≢ 10) self.place self.line.items c.requires.one in
    let small : All (λ b. b < 256) (drop self.place self.line.items) = subst (All (λ b. b < 256)) rest c.brace_in.ensures.bytes in
    let some : position (λ b. b == 125) (drop self.place self.line.items) ≡ Some n = sym (c.in-Some.ensures.is ∙ ap (position (λ b. b == 125)) rest) in
    λ from long more.
    some_closes from long self.number (drop self.place self.line.items) more n one small some ∙ ap (λ (ts : List Token). comment_closed from long ++ ts) (further_on self.number self.place n self.line.items more)
