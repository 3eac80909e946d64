-- Men before and after the mirrorings.
pub mod Alone
pub mod Board
pub mod LeadSquares
pub mod LeadingPieces
pub mod Mirrorings
pub mod TurnTable
pub mod TurnedMen
pub mod TurnedPawns
pub mod TurnedPieces
