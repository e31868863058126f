-- Laws on the runs of records that the writer's loops write, and on the whole file.
pub mod Turns
pub mod Runs
pub mod Levels
