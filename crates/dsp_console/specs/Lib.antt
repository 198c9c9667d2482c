pub mod Fresh
pub mod Outcomes
pub mod Lawful
pub mod Headline
pub mod Consoles
pub mod Hosts
pub mod Runs
pub mod HeadlineLaws
