use Rattle.std.proofs.Common.{◌≡◌, ◌&&◌, map, take}
use Rattle.std.specs.List.{list_all}
use Rattle.judge_core.specs.ProbeResult.{has_both}
use Rattle.answer_parts.specs.Lines.{root_words, words_of}
use Rattle.table_commands.proofs.RootLines.{is_told}
use Rattle.table_commands.proofs.root.lines_of.Given as goal

abbrev pub invariant-loop-m : goal.invariant-loop-m
invariant-loop-m l = (map words_of l.lines.items ≡ map root_words (take l.m-index l.moves)) × (l.done ≡ (has_both l.columns.probed && list_all is_told (take l.m-index l.moves)))
