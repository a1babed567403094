pub mod IsTree
pub mod Arms
