pub mod Changes
pub mod Before
pub mod Told
