use Rattle.std.proofs.Common.{rules, ◌≡◌, ◌<◌, [], ◌++◌, length, drop, ap, sym, subst, IfSome}
use Rattle.std.specs.Io.{StopsAt, appended_bytes}
use Rattle.std.specs.Io.KnownBytes.{Consumes}
use Rattle.std.specs.Io.BufRead.{take_through}
use Rattle.std.specs.Io.Buffered.{reader_remaining}
use Rattle.system_io.specs.LineReaders.{ReadsLine}
use Rattle.system_io.proofs.LineLaws.{line_read}
use Rattle.system_io.proofs.line_reader.BufReaderGlobalLineReader.next_line.Goals as goal

pub returns-in-Ok-clause-read : goal.returns-in-Ok-clause-read
returns-in-Ok-clause-read g c =
    let part = c.read_until.new.buf.items in
    let old = c.clear.new.self.items in
    let none : old ≡ [] = c.clear.ensures.items in
    let all : appended_bytes old part ≡ part = ap (λ l. drop (length l) part) none in
    let some : 0 < length part = search rules in
    subst (ReadsLine _ _) (sym c.drop_line_feed.ensures) (line_read _ _ part (subst (Consumes _ _) all c.in-Ok.ensures.none_lost) (subst (λ l. StopsAt l 10) all c.in-Ok.ensures.stops) some (subst (λ l. IfSome (reader_remaining g.R.Read.remaining c.args.self.now) (λ xs. part ≡ l ++ take_through 10 xs)) none c.in-Ok.ensures.bytes))
