-- Laws of the gap to a box, and of the boxes of a level.
-- Gap: the gap of a row to a box is at most its squared distance to each row that the box holds (gap-law, row-gap-law).
-- Weak: the order of values that are no NaN (lt-self, lt-back, le-on).
-- BoxHolds: each row lies in the inherited box of each domain that has it (box-holds).
mod Signs
mod Monotone
mod Axis
pub mod Gap
pub mod Weak
mod Extremes
mod Planes
pub mod BoxHolds
