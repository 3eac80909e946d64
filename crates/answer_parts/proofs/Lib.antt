pub mod PrintLaws
pub mod ReplyLaws
pub mod TableLaws
pub mod TextLaws
pub mod LookLaws
