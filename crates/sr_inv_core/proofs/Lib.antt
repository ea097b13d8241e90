pub mod Leading
mod Standing
