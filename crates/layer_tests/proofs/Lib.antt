mod BesideLemmas
mod NewSites
