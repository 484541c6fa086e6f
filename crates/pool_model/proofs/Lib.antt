mod ActLeaves
pub mod AfterActs
pub mod Alone
pub mod Balance
mod BasesDirect
mod CacheBags
pub mod CacheRules
mod DeskLemmas
mod DeskStays
mod DeskWaits
mod DesksLeave
pub mod GuestHolders
pub mod GuestsListed
pub mod HeldBags
mod HoldersOrder
mod Leaves
mod LinkSteps
mod Links
pub mod Listed
pub mod ListedPackets
pub mod LocalPools
pub mod NewMembers
pub mod Numbered
mod PacketsKeep
pub mod PacketsStand
mod PacketsStay
mod Pairs
pub mod Placed
mod PoolActs
mod Refusals
pub mod SharedKeep
mod SlotsLeft
mod Sound
mod SoundStatement
mod TwinRows
