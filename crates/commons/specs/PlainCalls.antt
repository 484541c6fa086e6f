-- One worker's calls on the lists, one after another.
use Rattle.std.specs.Prelude.{ℕ, ◌≡◌, List, [], ◌∷◌}
use Rattle.commons.specs.Calls.{Call}
use Rattle.commons.specs.Lists.{Lists, IsTable, DidPlain}

-- the calls lead a worker's lists, which are a table before and after each, from one state to the
-- other
abbrev pub LeadsPlain : ℕ → Lists → List Call → Lists → Type 0
LeadsPlain w before [] after = before ≡ after
LeadsPlain w before (call ∷ calls) after =
    (between : Lists) × DidPlain w before call between × IsTable before × IsTable between
    × LeadsPlain w between calls after
