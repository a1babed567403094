pub mod RuleReads
pub mod BlocksLaws
pub mod SourceLaws
pub mod PropLaws
