mod NumberLemmas
mod ValueLemmas
mod CommandLemmas
mod Simple
mod Rows
