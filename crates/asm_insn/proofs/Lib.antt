pub mod Printed
pub mod Same
pub mod Spelled
pub mod Speller
pub mod Trees
