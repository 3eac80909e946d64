use Rattle.std.proofs.Common.{◌∙◌, ℕ, List, Some, ap, refl, subst, sym}
use Rattle.std.proofs.lemmas.Result.{on_err_weaker, on_ok_weaker}
use Rattle.http_uri.specs.Uri.{uri_path}
use Rattle.http_answer.specs.Games.{AsksOfGames, IsByMethod, MayAnswer, OfGames, OfTables, places_of}
use Rattle.http_answer.specs.Inside.{asked_of_games}
use Rattle.http_answer.proofs.RouterLaws.{by_action_stays, elsewhere, router_same}
use Rattle.http_answer.proofs.ReadLaws.{games_asked, none_named, tables_asked}
use Rattle.http_answer.proofs.router.Router.route.Goals as goal

pub returns-in-Some-topic_at-clause-answered : goal.returns-in-Some-topic_at-clause-answered
returns-in-Some-topic_at-clause-answered g c =
    let a = asked_of_games c.in-Some-topic_at.topic in
    let was = c.in-Some.games in
    let now = c.answer_by_method.new.games in
    let asks = subst (λ (path : List ℕ). AsksOfGames path a) (c.path.ensures.value ∙ ap uri_path c.uri.ensures) c.in-Some-topic_at.ensures.some in
    on_ok_weaker c.answer_by_method.result
    (λ answered. record {
      served = OfGames was now c.in-Some.is refl a asks (subst (λ (method : List ℕ). IsByMethod method (MayAnswer g.S.System.outside g.C.Times.says c.args.self.now.answerer a) was now c.answer_by_method.new.response) (c.as_str.ensures.value ∙ c.method.ensures) answered);
      tables_stay = c.answer_by_method.ensures.same;
      games_stay = ap Some (by_action_stays g.S.System.outside g.C.Times.says c.args.self.now.answerer was now c.answer_by_method.new.response _ a answered) ∙ sym (ap places_of c.in-Some.is);
    })
    c.answer_by_method.ensures.answer

pub returns-in-None-clause-answered : goal.returns-in-None-clause-answered
returns-in-None-clause-answered g c =
    on_ok_weaker c.answer-in-None.result
    (λ reply. record {
      served = OfTables (elsewhere c.args.self.now.games c.in-Some.games _ c.path.result.now c.in-Some.is (c.path.ensures.value ∙ ap uri_path c.uri.ensures) c.in-None.ensures.none) reply (sym c.in-Some.is);
      tables_stay = c.answer-in-None.ensures.same;
      games_stay = sym (ap places_of c.in-Some.is);
    })
    c.answer-in-None.ensures.replied

pub returns-in-Some-topic_at-clause-same : goal.returns-in-Some-topic_at-clause-same
returns-in-Some-topic_at-clause-same g c =
    on_err_weaker c.answer_by_method.result (λ same. router_same c.args.self.now _ _ _ c.answer_by_method.ensures.same same c.in-Some.is) c.answer_by_method.ensures.same_games

pub returns-in-Some-topic_at-clause-made : goal.returns-in-Some-topic_at-clause-made
returns-in-Some-topic_at-clause-made g c =
    let a = asked_of_games c.in-Some-topic_at.topic in
    let asks = subst (λ (path : List ℕ). AsksOfGames path a) (c.path.ensures.value ∙ ap uri_path c.uri.ensures) c.in-Some-topic_at.ensures.some in
    games_asked g.S.System.outside c.args.self.now.answerer c.args.self.now.games c.in-Some.games _ _ _ _ a c.in-Some.is asks (c.as_str.ensures.value ∙ c.method.ensures) c.answer_by_method.ensures.made

pub returns-in-None-clause-made : goal.returns-in-None-clause-made
returns-in-None-clause-made g c =
    tables_asked g.S.System.outside c.args.self.now.answerer c.args.self.now.games _ _ _ (elsewhere c.args.self.now.games c.in-Some.games _ c.path.result.now c.in-Some.is (c.path.ensures.value ∙ ap uri_path c.uri.ensures) c.in-None.ensures.none) c.answer-in-None.ensures.made

pub returns-in_default-clause-made : goal.returns-in_default-clause-made
returns-in_default-clause-made g c = tables_asked g.S.System.outside c.args.self.now.answerer c.args.self.now.games _ _ _ (none_named c.args.self.now.games _ c.in_default.is) c.answer.ensures.made
