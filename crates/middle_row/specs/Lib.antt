-- What the contracts of the search for the middle row cite.
pub mod Middle
