-- What was read in a take or in a gift is a cause to refuse the call.
use Rattle.std.proofs.Common.{◌≢◌, ℕ, refl, arith}
use Rattle.depot.specs.declared.cause.Cause.{Cause}
use Rattle.depot.specs.declared.cause.Cause.TheVariants.{NoEntries, NoMagazine, Contended, HeadSpent}
use Rattle.depot.specs.declared.view.Stack.{Stack}
use Rattle.depot.specs.declared.view.Stack.TheVariants.{Full, Partial, Empty}
use Rattle.depot.specs.declared.view.View.{View}
use Rattle.depot.specs.Seats.{Logs, LastRead, IsCause, IsCauseAt, IsGiveCause, IsEmptyHead}
use Rattle.depot.proofs.Logging.{last-read, read-on, read-then}

-- what a take of an empty magazine is refused for, but for want of entries
pub take-cause : (tries : ℕ) (k : Stack) (cause : Cause) (v w : View) → cause ≢ NoEntries → IsCauseAt tries k cause v w →
    IsCause tries cause v w
take-cause tries k NoEntries v w some a = absurd (some refl)
take-cause tries k NoMagazine v w some a = last-read v w Empty IsEmptyHead a.1
take-cause tries k Contended v w some a = a
take-cause tries k HeadSpent v w some a = (k, last-read v w k _ a)

-- what a gift is refused for
pub give-cause : (tries : ℕ) (k : Stack) (cause : Cause) (v w : View) → IsGiveCause tries k cause v w → IsCause tries cause v w
give-cause tries k NoEntries v w a = absurd a
give-cause tries k NoMagazine v w a = absurd a
give-cause tries k Contended v w a = a
give-cause tries k HeadSpent v w a = (k, last-read v w k _ a)

-- what a take from the stack of partial ones is refused for, once that of full ones was read empty
pub after-full : (tries : ℕ) (cause : Cause) (u v w : View) → LastRead u v Full IsEmptyHead → Logs u v → Logs v w →
    IsCauseAt tries Partial cause v w → IsCause tries cause u w
after-full tries NoEntries u v w read a b last =
    (read-then u v w Full _ (last-read u v Full _ read) b, read-on u v w Partial _ a (last-read v w Partial _ last))
after-full tries NoMagazine u v w read a b last = read-on u v w Empty _ a (last-read v w Empty _ last.1)
after-full tries Contended u v w read a b last = let x = a.lost in omega arith
after-full tries HeadSpent u v w read a b last = (Partial, read-on u v w Partial _ a (last-read v w Partial _ last))
