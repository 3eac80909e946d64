use Rattle.std.proofs.Common.{◌∙◌, ℕ, List, subst, sym}
use Rattle.std.proofs.lemmas.Option.{IfSome_then}
use Rattle.http_answer.specs.Games.{AskedOfGames, AsksBelow, ForMore}
use Rattle.http_answer.specs.Inside.{asked_of_games}
use Rattle.http_answer.proofs.RouterLaws.{not_asked}
use Rattle.http_answer.proofs.SeenLaws.{if_none}
use Rattle.http_answer.proofs.router.topic_at.Goals as goal

pub returns-else-is_watch-clause-some : goal.returns-else-is_watch-clause-some
returns-else-is_watch-clause-some c =
    IfSome_then c.topic_below.result c.topic_below.ensures.some
    (λ topic h. ForMore (sym c.is_games.ensures ∙ c.if-is_games.false) (sym c.eq.ensures ∙ c.if-eq.false) (sym c.is_watch.ensures ∙ c.if-is_watch.false) (subst (λ (path : List ℕ). AsksBelow path (asked_of_games topic)) c.as_bytes.ensures.value h))

pub returns-else-is_watch-clause-none : goal.returns-else-is_watch-clause-none
returns-else-is_watch-clause-none c =
    if_none c.topic_below.result c.topic_below.ensures.none
    (λ no. not_asked c.args.path.now (sym c.is_games.ensures ∙ c.if-is_games.false) (sym c.eq.ensures ∙ c.if-eq.false) (sym c.is_watch.ensures ∙ c.if-is_watch.false) (subst (λ (path : List ℕ). (a : AskedOfGames) → AsksBelow path a → ⊥) c.as_bytes.ensures.value no))
