-- What follows from the most bytes of a record.
pub mod RoomLaws
