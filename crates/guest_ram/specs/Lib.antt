pub mod GuestRam
pub mod Pages
