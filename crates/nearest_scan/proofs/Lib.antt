-- Laws of the scan.
pub mod Placed
pub mod Shifts
pub mod Scans
pub mod Takes
