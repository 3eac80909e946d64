pub mod NotationLaws
pub mod FollowLaws
pub mod AgreeLaws
pub mod StepLaws
pub mod LineLaws
