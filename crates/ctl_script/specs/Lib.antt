pub mod Answers
pub mod Before
pub mod Law
pub mod Numeral
pub mod Order
pub mod Print
pub mod Script
