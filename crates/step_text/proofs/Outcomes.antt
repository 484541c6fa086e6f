-- Both outcomes of a call at once.
use Rattle.std.proofs.Common.{Result, Ok, Err, IfOk, IfErr, MatchResult}

pub both_outcomes : {A B : Type 0} (P : A → Type 0) (Q : B → Type 0) (r : Result A B) → IfOk r P → IfErr r Q →
    MatchResult r P Q
both_outcomes P Q (Ok a) ok err = ok
both_outcomes P Q (Err b) ok err = err
