-- Right and wrong lists.
pub mod RightLists
pub mod Shuts
pub mod LoadedShuts
pub mod DepthShuts
pub mod RenamedShuts
