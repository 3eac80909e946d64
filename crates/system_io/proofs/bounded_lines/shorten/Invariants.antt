use Rattle.std.proofs.Common.{◌≡◌, ◌≤◌, drop, length, take}
use Rattle.system_io.specs.ShortLines.{short_lines, unended_after_all}
use Rattle.system_io.proofs.bounded_lines.shorten.Given as goal

-- what is given for the bytes before this place stands in front, and the bytes from there on are as they were
abbrev pub invariant-loop-place : goal.invariant-loop-place
invariant-loop-place l =
    (l.given ≤ l.place) × (take l.given l.buf ≡ short_lines l.fn.came (take l.place l.fn.buf)) × (drop l.place l.buf ≡ drop l.place l.fn.buf) × (l.now ≡ unended_after_all l.fn.came (take l.place l.fn.buf)) × (length l.buf ≡ length l.fn.buf)
