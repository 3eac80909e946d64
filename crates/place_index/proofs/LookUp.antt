-- The men of a position, and the material and colours in which it is looked up.
pub mod Colours
pub mod Covered
pub mod Exchanging
pub mod MenOn
pub mod TallyKeys
