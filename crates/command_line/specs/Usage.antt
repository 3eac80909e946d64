-- Refused memory is distinguished from every other fault of the words.
use Rattle.command_line.specs.declared.commands.Name.{Name}
use Rattle.command_line.specs.declared.words.usage.Usage.{Usage}
use Rattle.command_line.specs.declared.words.usage.Usage.TheVariants.{Misuse, OutOfMemory}
use Rattle.command_line.specs.declared.words.usage.Misuse.TheVariants.{Refused}
use Rattle.clap.specs.Words.{kind_of}
use Rattle.clap.specs.declared.error.Error.{Error}
use Rattle.clap.specs.declared.error.kind.ErrorKind.{ErrorKind}
use Rattle.clap.specs.declared.error.kind.ErrorKind.TheVariants as kind

abbrev pub usage_by : ErrorKind → Name → Error → Usage
usage_by kind.OutOfMemory command e = OutOfMemory
usage_by _ command e = Misuse (Refused command e)

abbrev pub usage_of : Name → Error → Usage
usage_of command e = usage_by (kind_of e) command e
