mod GeneratorLemmas
mod WorkloadLemmas
mod ScheduleLemmas
mod JoinedLemmas
mod CountLemmas
