pub mod Drafts
pub mod Places
pub mod Holdings
pub mod RecordFiles
pub mod FolderGames
pub mod OneGame
pub mod StoreGames
