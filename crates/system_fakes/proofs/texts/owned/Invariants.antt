use Rattle.std.proofs.Common.{◌≡◌, map, string_bytes, take}
use Rattle.system_fakes.proofs.texts.owned.Given as goal

-- those before this place are there
abbrev pub invariant-loop-text : goal.invariant-loop-text
invariant-loop-text l = map string_bytes l.all.items ≡ map (λ s. s.now) (take l.text-index l.texts)
