-- The descriptors of open files (this project's own).
use Rattle.std.specs.Prelude.{◌<ℤ◌, pos}
use Rattle.std.specs.Fd.{file_raw_fd}
use Rattle.std.specs.declared.fs.File.{File}

-- the file is open under a descriptor that is none of 0, 1 and 2, those of standard input, output and errors
abbrev pub IsAboveStandard : File → Type 0
IsAboveStandard file = pos 2 <ℤ file_raw_fd file
