mod ThroughoutLemmas
mod ViewLemmas
mod OpeningLemmas
mod AnswerLemmas
mod CountLemmas
