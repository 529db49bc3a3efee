pub mod MapLemmas
pub mod ChangeLemmas
pub mod ExchangeLemmas
pub mod SizeLemmas
