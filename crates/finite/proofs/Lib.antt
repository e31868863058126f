-- Laws that the proof of the finite test cites.
mod Positions
