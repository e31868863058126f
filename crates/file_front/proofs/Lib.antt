-- Laws on the head and the points of a file.
pub mod Points
pub mod Takes
pub mod Tested
pub mod Compared
pub mod PresentPoints
