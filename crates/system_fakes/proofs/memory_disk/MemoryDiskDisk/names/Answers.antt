use Rattle.std.proofs.Common.{rules, List, ℕ, map, subst, sym}
use Rattle.system_fakes.specs.MemoryDisks.{IsFolderAt}
use Rattle.system_fakes.proofs.RowLaws.{found_as}
use Rattle.system_fakes.proofs.memory_disk.MemoryDiskDisk.names.Goals as goal

pub returns-in_ok-owned-in-Some-clause-listed : goal.returns-in_ok-owned-in-Some-clause-listed
returns-in_ok-owned-in-Some-clause-listed c =
    let there : IsFolderAt c.args.self.now c.args.folder.now (map (λ n. n.now) c.in-Some.names.now) = found_as _ _ (λ b. map (λ n. n.now) b.now) c.args.self.now.folders.now c.args.folder.now c.in-Some.names c.in-Some.ensures.found in
    (subst (λ (l : List (List ℕ)). IsFolderAt c.args.self.now c.args.folder.now l) (sym c.in_ok-owned-in-Some.ensures) there, search rules)
