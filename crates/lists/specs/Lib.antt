-- Lists: what holds at each place, what is gathered from each element, and a list in a longer array.
pub mod Each
pub mod Gathered
pub mod Padded
pub mod Placed
