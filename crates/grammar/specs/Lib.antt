pub mod Tests
pub mod Refusals
pub mod Listed
pub mod Model
pub mod Forms
pub mod Rows
pub mod Scopes
pub mod Sentences
