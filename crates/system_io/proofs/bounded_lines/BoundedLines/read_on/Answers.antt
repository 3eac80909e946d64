use Rattle.std.proofs.Common.{rules, ◌≤◌, length, subst, sym, take}
use Rattle.std.specs.Prelude.{option_map}
use Rattle.std.specs.Io.KnownBytes.{Consumes}
use Rattle.system_io.specs.ShortLines.{short_lines}
use Rattle.system_io.proofs.ShortLineLaws.{at_end, consumed, kept, none_consumed}
use Rattle.system_io.proofs.bounded_lines.BoundedLines.read_on.Goals as goal

pub returns-then-count-eq0 : goal.returns-then-count-eq0
returns-then-count-eq0 g c =
    let left = g.R.Read.remaining in
    let came = c.args.self.now.came in
    let old = left c.args.self.now.reader in
    let new = left c.read.new.self in
    let none = c.if-count-eq0.true in
    let read = c.in_ok-count.ensures.bytes in
    (kept came old new (none_consumed old new (subst (λ n. Consumes old new (take n c.read.new.buf)) none read.0)), λ some. at_end came new (read.1 none some))

pub returns : goal.returns
returns g c =
    let left = g.R.Read.remaining in
    let came = c.args.self.now.came in
    let bytes = take c.in_ok-count.count c.read.new.buf in
    let fits : c.shorten-given.result.0 ≤ length c.shorten-given.new.buf = search rules in
    let given = subst (λ n. Consumes (option_map (short_lines came) (left c.args.self.now.reader)) (option_map (short_lines n) (left c.read.new.self)) (short_lines came bytes)) (sym c.shorten-given.ensures.came) (consumed came (left c.args.self.now.reader) (left c.read.new.self) bytes c.in_ok-count.ensures.bytes.0) in
    (fits, subst (Consumes _ _) (sym c.shorten-given.ensures.given) given)
