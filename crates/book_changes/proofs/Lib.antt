mod Copies
mod Writes
mod Leaders
