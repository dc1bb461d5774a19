pub mod Chairs
pub mod Closing
pub mod Done
pub mod Firsts
pub mod Joining
pub mod Whys
