pub mod FolderLaws
pub mod NotedLaws
pub mod RecordLaws
pub mod StoreLaws
