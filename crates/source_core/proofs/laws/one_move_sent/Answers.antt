use Rattle.std.proofs.Common.{◌≡◌, ap}
use Rattle.std.specs.Prelude.{slice_get}
use Rattle.source_core.specs.Turns.{move_message}
use Rattle.source_core.proofs.laws.one_move_sent.Goals as goal

pub returns : goal.returns
returns c = λ stamp moves all to v s t number m n only in_s in_t says_s says_t.
    let a = only to s in_s in
    let b = only v t in_t in
    let e : move_message stamp a.0 a.1 ≡ move_message stamp number m = c.one_message.ensures s _ _ a.3 says_s in
    let f : move_message stamp b.0 b.1 ≡ move_message stamp number n = c.one_message.ensures t _ _ b.3 says_t in
    let same : a.0 ≡ b.0 = cc in
    let there : slice_get moves a.0 ≡ slice_get moves b.0 = ap (slice_get moves) same in
    cc (a.2, b.2)
