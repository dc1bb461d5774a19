pub mod Answers
pub mod Form
pub mod Matched
pub mod Shapes
pub mod Table
pub mod Word
