pub mod RuleLemmas
pub mod RunLemmas
pub mod ItemLemmas
