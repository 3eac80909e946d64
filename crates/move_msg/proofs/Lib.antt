pub mod WordLaws
pub mod MessageLaws
pub mod WordsLaws
pub mod RecordLaws
pub mod WrittenLaws
pub mod HeardLaws
pub mod StreamLaws
pub mod CutBytes
pub mod TableNameLaws
pub mod HexDigits
pub mod ManifestLaws
pub mod FileLaws
pub mod GameTextLaws
pub mod ManifestFaults
pub mod LineLaws
mod WorkedRows
