pub mod OwnAtSite
