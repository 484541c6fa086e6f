mod CommandsKeep
mod Ends
mod Losses
mod NameLemmas
mod Outcomes
mod TwinEnds
mod WordWorkers
