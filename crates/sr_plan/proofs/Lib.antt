mod Clearing
mod PassingOver
