-- The 145 materials, by their keys and by their men.
pub mod Arranging
pub mod Coded
pub mod Comparing
pub mod KeyTables
pub mod KeyWalk
pub mod MenTables
pub mod Symmetric
pub mod TableLaw
pub mod Tallies
