pub mod Making
pub mod Trees
pub mod Arms
