-- Records written and read: the two round trips, our own envelopes, and the calls as they stand.
pub mod TripLaws
pub mod DrawnLaws
pub mod HouseLaws
