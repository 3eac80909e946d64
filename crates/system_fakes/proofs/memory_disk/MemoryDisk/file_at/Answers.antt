use Rattle.std.proofs.Common.{rules, ◌≤◌, length, inl, inr}
use Rattle.system_io.specs.Disks.{most_bytes}
use Rattle.system_fakes.specs.MemoryDisks.{IsFileAt}
use Rattle.system_fakes.proofs.RowLaws.{found_as}
use Rattle.system_fakes.proofs.memory_disk.MemoryDisk.file_at.Goals as goal

pub returns-then-bytes-gt-MOST_BYTES-clause-none : goal.returns-then-bytes-gt-MOST_BYTES-clause-none
returns-then-bytes-gt-MOST_BYTES-clause-none c =
    let there : IsFileAt c.args.self.now c.args.path.now c.in_ok-bytes.bytes.now = found_as _ _ (λ b. b.now) c.args.self.now.files.now c.args.path.now c.in_ok-bytes.bytes c.in_ok-bytes.ensures.found in
    inr (inl (c.in_ok-bytes.bytes.now, there, search rules))

pub returns-clause-some : goal.returns-clause-some
returns-clause-some c =
    let there : IsFileAt c.args.self.now c.args.path.now c.in_ok-bytes.bytes.now = found_as _ _ (λ b. b.now) c.args.self.now.files.now c.args.path.now c.in_ok-bytes.bytes c.in_ok-bytes.ensures.found in
    let short : length c.in_ok-bytes.bytes.now ≤ most_bytes = search rules in
    (there, short, search rules, (c.in_ok-_mode._mode, c.in_ok-_mode.ensures.some))
