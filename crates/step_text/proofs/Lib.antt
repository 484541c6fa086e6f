mod AscendingLemmas
mod CommonLemmas
mod Outcomes
