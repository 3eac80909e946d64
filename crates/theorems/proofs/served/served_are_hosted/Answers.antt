use Rattle.theorems.proofs.Serving.{fronts_are_hosted, served_are_hosted}
use Rattle.theorems.proofs.served.served_are_hosted.Goals as goal

pub returns : goal.returns
returns g c =
    let o = g.S.System.outside c.args._system.now in
    let facts = g.G.Games.facts c.args._system.now in
    record { run = served_are_hosted o facts; front = fronts_are_hosted o facts }
