use Rattle.std.proofs.Common.{◌≡◌, map, take}
use Rattle.move_msg.specs.Files.{table_file_of}
use Rattle.relay_world.specs.Gathering.{file_as}
use Rattle.answer_commands.proofs.run.named_bytes.Given as goal

abbrev pub invariant-loop-file : goal.invariant-loop-file
invariant-loop-file l = map (λ f. file_as f.0.now f.1.now) l.named.items ≡ map table_file_of (take l.file-index l.files)
