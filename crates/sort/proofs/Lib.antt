-- Laws of sorting.
mod Moves
