-- Laws on the settings record: its policy, and compared.
pub mod Policies
pub mod Compared
