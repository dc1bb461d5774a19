pub mod Before
pub mod Sound
