use Rattle.std.specs.Prelude.{codes}
use Rattle.std.proofs.lemmas.Result.{on_ok_weaker}
use Rattle.http_answer.specs.Inside.{place_for}
use Rattle.http_answer.specs.Places.{any_origin, listed, methods_of}
use Rattle.http_answer.proofs.Fields.{three_more}
use Rattle.http_answer.proofs.filling.add_preflight.Goals as goal

pub returns-clause-fields : goal.returns-clause-fields
returns-clause-fields c =
    on_ok_weaker c.add_header-2.result
    (λ last. three_more _ _ _ _ any_origin (codes "access-control-allow-methods", listed (methods_of (place_for c.args.place))) (codes "access-control-allow-headers", codes "content-type")
    c.in_ok-add_any_origin.ensures.fields (rw c.methods_at.ensures at c.in_ok-add_header.ensures.headers) (rw c.from_static.ensures at last))
    c.add_header-2.ensures.headers
