mod AddedHolders
mod Alone
mod BrokenWalks
mod Clean
mod ClosedPools
mod ElemFaults
pub mod FirstFaults
pub mod FollowedLinks
mod Gathered
mod HeldEntries
mod HoldBounds
mod HostedGuests
mod InOrder
mod Lawful
mod ListedPackets
mod LocalHolds
mod MappedSums
mod Marks
mod Meetings
mod NamedSums
mod Notes
mod PlacedShares
mod Shown
mod TalliedFaults
pub mod Times
mod Told
mod ToldKinds
mod ToldLaws
pub mod Walks
