-- Laws of closing the gaps of a table.
-- Moves: the pass over the slots, from its start over each turn to its end.
-- Closes: what a call answers and leaves, refused or accepted.
mod Moves
mod Closes
