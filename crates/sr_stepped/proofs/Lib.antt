mod OneRound
mod Opened
mod Settled
mod Told
mod WholeRun
