pub mod StoreLaws
pub mod SendLaws
pub mod FeedLaws
pub mod WordLaws
pub mod CommitLaws
pub mod NoteLaws
