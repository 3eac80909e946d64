use Rattle.std.proofs.Common.{◌≡◌, map, take}
use Rattle.std.specs.Prelude.{is_none}
use Rattle.std.specs.List.{list_all}
use Rattle.move_msg.specs.Manifests.{entry_of}
use Rattle.answer_commands.specs.Inside.Looking.{fault_seen, sight_of}
use Rattle.answer_parts.specs.Lines.{look_words, words_of}
use Rattle.answer_commands.proofs.check.check_lines.Given as goal

abbrev pub invariant-loop-entry : goal.invariant-loop-entry
invariant-loop-entry l =
    let entries = map entry_of (take l.entry-index l.entries) in
    let sights = map sight_of l.seen in
    record {
      lines : map words_of l.lines.items ≡ map (λ e. look_words e.name (fault_seen sights e)) entries;
      done : l.done ≡ list_all (λ e. is_none (fault_seen sights e)) entries;
    }
