use Rattle.std.proofs.Common.{rules, ◌≡◌, ◌≤◌, length, subst}
use Rattle.std.specs.Prelude.{IfSome}
use Rattle.system_io.proofs.InputLaws.{whole_input}
use Rattle.system_io.proofs.reading.read_at_most.Goals as goal

pub returns-clause-whole : goal.returns-clause-whole
returns-clause-whole g c =
    let short : length c.read_to_end.new.buf.items ≤ c.args.most = search rules in
    subst (λ r. IfSome (g.R.Read.remaining r) (λ all. c.read_to_end.new.buf.items ≡ all)) c.take.ensures.inner (whole_input _ _ _ _ c.take.ensures.limit (simp c.in_ok-bytes.ensures.items at c.in-Ok.ensures.bytes) short)
