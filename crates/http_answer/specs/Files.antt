-- The files of a system (this project's own).
use Rattle.system_io.specs.Disks.{DiskFacts}
use Rattle.table_folder.specs.declared.files.SystemFiles.{SystemFiles}
use Rattle.timeline.specs.Outsides.{Outside}

-- what is known of them, by what is known outside of each system
abbrev pub files_of : {G T P F K S L : Type 0} → (G → Outside T P F K S L) → SystemFiles G → DiskFacts
files_of outside files = (outside files.system.now).disk
