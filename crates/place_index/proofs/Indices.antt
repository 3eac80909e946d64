-- The numbers of the groups, and the index that they make.
pub mod Collecting
pub mod Factors
pub mod HigherMen
pub mod IndexLaw
pub mod IndexTables
pub mod KingOrder
pub mod KingTable
pub mod LoneGroups
pub mod LoneSquares
pub mod Numbering
pub mod PawnOrder
pub mod Settled
pub mod ShortLists
pub mod Summing
pub mod ThreeOrder
pub mod WorkedRows
