pub mod CallLaws
pub mod Replying
pub mod SeenLaws
pub mod ServeLaws
