pub mod GivenText
pub mod Mentions
pub mod Numbers
pub mod Plan
pub mod User
