pub mod OwnBoards
pub mod OwnSeats
