-- What only the proof of the encoder speaks of: the plain spelling of an instruction by a row, and the search for the
-- least of them. No public contract cites these.
pub mod Place
pub mod Plain
pub mod Seen
pub mod Selecting
