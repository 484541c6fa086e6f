-- A run of the reference model, as the code keeps it. No public clause cites this module.
use Rattle.std.specs.Prelude.{Some, None}
use Rattle.share_book.specs.AsModel.{pools_of}
use Rattle.script.specs.Replay.{One, Run, Stock, Two, none_stands}
use Rattle.script.specs.declared.names.Names.{Names}
use Rattle.script.specs.declared.sites.Sites.{Sites}
use Rattle.script.specs.declared.sites.Sites.TheVariants as sites
use Rattle.script.specs.Stands.{stands_in}
use Rattle.script_text.specs.declared.lines.Pools.{Pools}

-- pools on lists, as the model has them
abbrev pub stock_of : Sites → Stock
stock_of (sites.One pool) = One pool
stock_of (sites.Two twins) = Two (pools_of twins)

-- their limits
abbrev pub limits_in : Stock → Pools
limits_in (One pool) = record { first = pool.limits; second = None }
limits_in (Two twins) = record { first = twins.first.limits; second = Some twins.second.limits }

-- pools, and what their names stand for
abbrev pub run_of : Sites → Names → Run
run_of sites names = record { stock = stock_of sites; stands = stands_in names }

-- pools in which no name stands for anything
abbrev pub fresh_run : Sites → Run
fresh_run sites = record { stock = stock_of sites; stands = none_stands }
