pub mod Commits
pub mod After
