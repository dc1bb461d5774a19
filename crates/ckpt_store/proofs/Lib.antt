pub mod Gates
mod Moments
mod Streams
mod Torns
