pub mod Board
pub mod Calls
pub mod Going
pub mod Homes
pub mod Pages
pub mod View
pub mod Turn
