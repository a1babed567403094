pub mod Demand3
pub mod Bound
pub mod RefusedSets
pub mod Causes
pub mod Places
pub mod StoredTrees
