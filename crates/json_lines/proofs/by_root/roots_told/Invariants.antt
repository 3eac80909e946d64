use Rattle.std.proofs.Common.{◌≡◌, map, take}
use Rattle.judge_core.specs.declared.ask.Ask.TheVariants.{Strict}
use Rattle.json_lines.specs.Told.{AreMovesTold, played_in}
use Rattle.json_lines.proofs.by_root.roots_told.Given as goal

abbrev pub invariant-loop-root : goal.invariant-loop-root
invariant-loop-root l = AreMovesTold Strict l.fn.set.tables l.position (map played_in (take l.root-index l.roots)) l.told.items × (l.set ≡ l.fn.set)
