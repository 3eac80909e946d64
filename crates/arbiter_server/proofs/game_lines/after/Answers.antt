use Rattle.std.proofs.lemmas.Bool.Decides.{Decides-eqb}
use Rattle.std.proofs.lemmas.Slice.Eq.{strip_prefix_is}
use Rattle.std.specs.Prelude.{ℕ, List, ◌≡◌, ◌++◌, ◌≢◌, Option, Some, None, IfSome, IfNone}
use Rattle.std.specs.Borrow.{Bor}
use Rattle.std.specs.Option.{MatchOption}
use Rattle.arbiter_server.proofs.game_lines.after.Goals as goal

some_of : (line word : List ℕ) (r : Option (Bor (List ℕ))) → MatchOption r ((value : List ℕ) → line ≢ word ++ value) (λ x. line ≡ word ++ x.now) → IfSome r (λ x. line ≡ word ++ x.now)
some_of line word None h = tt
some_of line word (Some x) h = h

none_of : (line word : List ℕ) (r : Option (Bor (List ℕ))) → MatchOption r ((value : List ℕ) → line ≢ word ++ value) (λ x. line ≡ word ++ x.now) → IfNone r ((value : List ℕ) → line ≡ word ++ value → ⊥)
none_of line word None h = h
none_of line word (Some x) h = tt

pub returns-clause-some : goal.returns-clause-some
returns-clause-some c = some_of _ _ c.strip_prefix.result (strip_prefix_is Decides-eqb c.args.line.now c.args.word.now c.strip_prefix.result c.strip_prefix.ensures.cases)

pub returns-clause-none : goal.returns-clause-none
returns-clause-none c = none_of _ _ c.strip_prefix.result (strip_prefix_is Decides-eqb c.args.line.now c.args.word.now c.strip_prefix.result c.strip_prefix.ensures.cases)
