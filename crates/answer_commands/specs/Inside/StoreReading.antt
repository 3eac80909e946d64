-- What is known of records; cited by private functions alone.
use Rattle.system_io.specs.Records.{records_of}
use Rattle.answer_commands.specs.StoreReads.{Known, Read, Unasked, Unread}
use Rattle.answer_commands.specs.declared.store_reading.Records.{Records}
use Rattle.answer_commands.specs.declared.store_reading.Records.TheVariants as records

abbrev pub known_of : Records → Known
known_of records.Unasked = Unasked
known_of records.Unread = Unread
known_of (records.Read entries) = Read (records_of entries.items)
