-- `probe --tables DIR [--manifest FILE] [--lazy] FEN`: what tables tell of a position (this project's own).
use Rattle.std.specs.Prelude.{◌≡◌, ℕ, List, [], ◌∷◌, Option, Some, None, codes}
use Rattle.board_core.specs.declared.parts.Parts.{Parts}
use Rattle.judge_core.specs.declared.probe_result.ProbeResult.{ProbeResult}
use Rattle.judge_core.specs.ProbeResult.{IsProbed, has_both}
use Rattle.judge_core.specs.Tables.{Tables}
use Rattle.move_msg.specs.TextLines.{text_of}
use Rattle.task_files.specs.Given.{Given}
use Rattle.answer_parts.specs.Lines.{refusal_words, told_words}
use Rattle.std.specs.Borrow.{Bor}
use Rattle.system_io.specs.Disks.{DiskFacts}
use Rattle.table_folder.specs.Settled.{IsAlone}
use Rattle.table_commands.specs.FolderReads.{MakesForText, fen_refusal, MakesInFolder, MakesOfGiven}
use Rattle.task_files.specs.InputReads.{Reading}
use Rattle.command_line.specs.LazyFolders.{read_when_asked}
use Rattle.answer_parts.specs.Looks.{gathered}
use Rattle.answer_parts.specs.Reply.{Reply, status_if}
use Rattle.command_line.specs.declared.commands.probe.Probe.{Probe}

-- a line a question, the value and then the distance
abbrev pub probed_reply : ProbeResult → Reply
probed_reply probed = record {
  text = text_of (told_words (codes "wdl") probed.wdl ∷ told_words (codes "dtz") probed.dtz ∷ []);
  status = status_if (has_both probed);
}

-- what both probes answer, told
abbrev pub IsProbeReply : Tables → Parts → Reply → Type 0
IsProbeReply tables p r = (probed : ProbeResult) × IsProbed tables p probed × (r ≡ probed_reply probed)

abbrev pub ProbedBy : Parts → Tables → Reply → Type 0
ProbedBy p tables r = IsProbeReply tables p r

-- by the tables of the folder that are read when the position asks for them, or by those that were given
abbrev pub ProbesAt : DiskFacts → Given → Option (Bor (List ℕ)) → Parts → Reading Reply
ProbesAt disk given (Some path) p = MakesInFolder disk path.now given.told refusal_words (IsAlone p) (ProbedBy p)
ProbesAt disk given None p = MakesOfGiven (gathered given) IsProbeReply p

abbrev pub ProbesGiven : DiskFacts → Probe → Given → Parts → Reading Reply
ProbesGiven disk t given = ProbesAt disk given (read_when_asked t.lazy (Some t.tables))

-- its reply after what it names was read, by what happens outside
abbrev pub Probes : DiskFacts → Probe → Given → Reading Reply
Probes disk t given = MakesForText t.fen.now fen_refusal (ProbesGiven disk t given)
