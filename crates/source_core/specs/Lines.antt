-- The lines of a run (this project's own).
use Rattle.std.specs.Prelude.{ℕ, List, ◌++◌, codes}
use Rattle.std.specs.Fmt.{decimal}
use Rattle.board_core.specs.Verdicts.{verdict_name}
use Rattle.source_core.specs.declared.report.Ruling.{Ruling}
use Rattle.source_core.specs.declared.known.Clash.{Clash}
use Rattle.source_core.specs.declared.known.Known.{Known}
use Rattle.source_core.specs.declared.origin.Started.{Started}
use Rattle.source_core.specs.declared.lines.Ended.{Ended}
use Rattle.source_core.specs.declared.lines.Ended.TheVariants as run
use Rattle.source_core.specs.declared.lines.End.{End}
use Rattle.source_core.specs.declared.lines.End.TheVariants as at_end
use Rattle.source_core.specs.declared.lines.Line.{Line}
use Rattle.source_core.specs.declared.lines.Line.TheVariants as line

-- so many moves are acknowledged by both
abbrev pub acked_words : ℕ → List ℕ
acked_words count = decimal count ++ codes " acked"

abbrev pub ruling_words : Ruling → List ℕ
ruling_words r = decimal r.ply ++ codes " " ++ verdict_name r.verdict

abbrev pub clash_words : Clash → List ℕ
clash_words c = codes "disagree " ++ ruling_words c.first ++ codes " " ++ ruling_words c.second

-- an arbiter has more moves than were sent: how many, and its address
abbrev pub started_words : Started → List ℕ
started_words s = codes "refused started " ++ decimal s.count ++ codes " " ++ s.at.bytes

-- the line with which a run ends
abbrev pub end_words : End → List ℕ
end_words (at_end.Open count) = codes "open " ++ decimal count
end_words (at_end.Ruled r) = codes "verdict " ++ ruling_words r
end_words (at_end.Clashed c) = clash_words c
end_words (at_end.Started s) = started_words s
end_words (at_end.Belied r) = codes "disagree " ++ ruling_words r
end_words (at_end.NotAMove number) = codes "refused move " ++ decimal number
end_words (at_end.Illegal number) = codes "illegal " ++ decimal number
end_words at_end.TooLong = codes "refused TooLong"
end_words at_end.Lost = codes "refused lost"
end_words at_end.PortLost = codes "refused port"
end_words at_end.Unread = codes "refused files"
end_words at_end.OutOfMemory = codes "refused memory"

abbrev pub sending_line_words : Line → List ℕ
sending_line_words (line.Acked count) = acked_words count
sending_line_words (line.Ends end) = end_words end

-- 0 where the game goes on at the input's end, or has its verdict
abbrev pub status_by : End → ℕ
status_by (at_end.Open count) = 0
status_by (at_end.Ruled r) = 0
status_by (at_end.Clashed c) = 1
status_by (at_end.Started s) = 1
status_by (at_end.Belied r) = 1
status_by (at_end.NotAMove number) = 1
status_by (at_end.Illegal number) = 1
status_by at_end.TooLong = 1
status_by at_end.Lost = 1
status_by at_end.PortLost = 1
status_by at_end.Unread = 1
status_by at_end.OutOfMemory = 1

-- what a run comes to: a status, or where an arbiter doesn't answer what is known of both
abbrev pub ended_by : End → Known → Ended
ended_by (at_end.Open count) known = run.With 0
ended_by (at_end.Ruled r) known = run.With 0
ended_by (at_end.Clashed c) known = run.With 1
ended_by (at_end.Started s) known = run.With 1
ended_by (at_end.Belied r) known = run.With 1
ended_by (at_end.NotAMove number) known = run.With 1
ended_by (at_end.Illegal number) known = run.With 1
ended_by at_end.TooLong known = run.With 1
ended_by at_end.Lost known = run.Lost known
ended_by at_end.PortLost known = run.With 1
ended_by at_end.Unread known = run.With 1
ended_by at_end.OutOfMemory known = run.With 1

abbrev pub ended_status : Ended → ℕ
ended_status (run.With status) = status
ended_status (run.Lost known) = 1
