use Rattle.std.proofs.Common.{◌≡◌, map, take}
use Rattle.std.specs.List.{All}
use Rattle.system_io.specs.Recipients.{IsAddressed, addressed_word}
use Rattle.system_io.proofs.recipient.all_addressed.Given as goal

-- the words before this place are there, and each names the one beside it
abbrev pub invariant-loop-word : goal.invariant-loop-word
invariant-loop-word g l = (map addressed_word l.all.items ≡ map (λ s. s.now) (take l.word-index l.words)) × All (IsAddressed l.fn.own) l.all.items
