-- Laws of the pass over the flags of a table.
mod Pass
mod Heads
