use Rattle.std.proofs.Common.{◌≡◌, ◌∙◌, ℕ, List, ap, set}
use Rattle.std.proofs.lemmas.List.{map-set}
use Rattle.arbiter_server.specs.LineLogs.{remembered_place}
use Rattle.arbiter_server.proofs.last_lines.LastLines.repeats.Goals as goal

pub returns-clause-lasts : goal.returns-clause-lasts
returns-clause-lasts c =
    let is : c.place_of-place.result ≡ remembered_place c.args.text.now.items = c.place_of-place.ensures.is ∙ ap remembered_place c.as_slice.ensures.value in
    map-set _ c.self.inside.places.items c.place_of-place.result c.copied.result
    ∙ ap (λ r. set r.lasts c.place_of-place.result c.copied.result.items) c.self.view_is
    ∙ ap (λ p. set c.args.self.now.lasts p c.copied.result.items) is
    ∙ ap (λ (t : List ℕ). set c.args.self.now.lasts (remembered_place c.args.text.now.items) t) c.copied.ensures
