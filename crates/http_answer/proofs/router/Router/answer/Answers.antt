use Rattle.std.proofs.Common.{ap}
use Rattle.http_answer.specs.Games.{ByFolders, ForWantOfMemory, places_of}
use Rattle.http_answer.proofs.router.Router.answer.Goals as goal

pub returns-in-Ok-clause-answered : goal.returns-in-Ok-clause-answered
returns-in-Ok-clause-answered g c =
    let routes = c.in-Ok.ensures.answered in
    record { answered = ByFolders routes.served; tables_stay = routes.tables_stay; games_stay = routes.games_stay }

pub returns-in-Err-clause-answered : goal.returns-in-Err-clause-answered
returns-in-Err-clause-answered g c =
    let same = c.in-Err.ensures.same in
    record {
      answered = ForWantOfMemory c.fill_starved.ensures (ap (λ r. r.games) same);
      tables_stay = ap (λ r. r.answerer) same;
      games_stay = ap (λ r. places_of r.games) same;
    }
