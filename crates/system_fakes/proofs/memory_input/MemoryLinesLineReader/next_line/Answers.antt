use Rattle.std.proofs.Common.{rules, ◌≡◌, ◌<◌, [], ◌++◌, length, drop, ap, sym, subst, IfSome, Some}
use Rattle.std.specs.Io.{StopsAt, appended_bytes}
use Rattle.std.specs.Io.KnownBytes.{Consumes}
use Rattle.std.specs.Io.BufRead.{take_through}
use Rattle.system_io.specs.LineReaders.{ReadsLine}
use Rattle.system_io.proofs.LineLaws.{if_known, line_read}
use Rattle.system_fakes.proofs.memory_input.MemoryLinesLineReader.next_line.Goals as goal

pub returns-else-self-2-clause-read : goal.returns-else-self-2-clause-read
returns-else-self-2-clause-read c =
    let part = c.read_until.new.buf.items in
    let old = c.clear.new.self.items in
    let none : old ≡ [] = c.clear.ensures.items in
    let all : appended_bytes old part ≡ part = ap (λ l. drop (length l) part) none in
    let some : 0 < length part = search rules in
    if_known c.args.self.now.fails _ _ _
    (subst (ReadsLine _ _) (sym c.drop_line_feed.ensures) (line_read (Some c.args.self.now.left.now) (Some c.read_until.new.self.now) part (subst (Consumes (Some c.args.self.now.left.now) (Some c.read_until.new.self.now)) all c.in-Ok.ensures.none_lost) (subst (λ l. StopsAt l 10) all c.in-Ok.ensures.stops) some (subst (λ l. IfSome (Some c.args.self.now.left.now) (λ xs. part ≡ l ++ take_through 10 xs)) none c.in-Ok.ensures.bytes)))
