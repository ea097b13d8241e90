pub mod Left
pub mod Play
pub mod Run
pub mod Turn
