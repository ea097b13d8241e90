mod Endings
mod Going
mod Laws
mod Machines
mod Reasons
mod Telling
mod Turning
