pub mod Mapped
pub mod ReadLaws
pub mod NormalLaws
pub mod CompareLaws
pub mod Demands
pub mod Refusals
pub mod Together
