use Rattle.std.proofs.Common.{sym, ◌∙◌}
use Rattle.san_text.proofs.ReadingLaws.{spelled_read}
use Rattle.san_text.proofs.laws.one_thing.Goals as goal

pub returns : goal.returns
returns c = λ t a b h k. let e = sym (spelled_read t a h) ∙ spelled_read t b k in cc
