-- What several reads took, and several writes added, one after another.
use Rattle.std.proofs.Common.{◌≡◌, ◌≤◌, ◌+◌, ◌-◌, ℕ, List, [], ◌∷◌, ◌++◌, Err, IfSome, None, Ok, Option, Some, append_assoc, ap, append-nil, arith, drop, length, length-append, subst, sym, take, take_all, ◌∙◌}
use Rattle.std.proofs.Math.Seq.{take-add, take-append_seam}
use Rattle.std.proofs.lemmas.List.{take_rest}
use Rattle.std.proofs.lemmas.List.Elements.{All-append, All-cons, All-nil}
use Rattle.std.proofs.KnownBytes.{Appends-trans, Consumes-trans}
use Rattle.std.specs.Io.KnownBytes.{Appends, Consumes, IsAtEnd}
use Rattle.script_io.specs.Readings.{LosesSome, ReadsMore}
use Rattle.script_io.specs.Told.{EndsFailed, TakesBytes, AddsCalls, Told, Took, Writes}

-- a reader that is at its end gave all that it had, which is no more than the limit
pub read_whole : (old new : Option (List ℕ)) (bytes : List ℕ) (limit : ℕ) → Consumes old new bytes → IsAtEnd new → length bytes ≤ limit
    → IfSome old (λ known. bytes ≡ take limit known)
read_whole None new bytes limit taken end short = tt
read_whole (Some all) None bytes limit taken end short = absurd taken
read_whole (Some all) (Some rest) bytes limit taken end short =
    let same : all ≡ bytes = taken ∙ ap (λ l. bytes ++ l) end ∙ append-nil bytes in
    sym (ap (take limit) same ∙ take_all limit bytes short)

-- a reader that gave as many bytes as the limit gave the first of what it had
pub read_up_to : (old new : Option (List ℕ)) (bytes : List ℕ) (limit : ℕ) → Consumes old new bytes → length bytes ≡ limit
    → IfSome old (λ known. bytes ≡ take limit known)
read_up_to None new bytes limit taken full = tt
read_up_to (Some all) None bytes limit taken full = absurd taken
read_up_to (Some all) (Some rest) bytes limit taken full =
    sym (ap (take limit) taken ∙ ap (λ n. take n (bytes ++ rest)) (sym full) ∙ take-append_seam bytes rest)

-- what a read gave stands behind what was read before
pub read_further : (old mid new : Option (List ℕ)) (before after : List ℕ) (count : ℕ) → Consumes old mid before → ReadsMore mid new before after count
    → Consumes old new after
read_further old mid new before after count taken more =
    subst (Consumes old new) (sym more.behind) (Consumes-trans old mid new before more.piece taken more.taken)

-- what a refused request loses is lost with what was read before
pub lost_with : (old mid new : Option (List ℕ)) (before : List ℕ) → Consumes old mid before → LosesSome mid new → LosesSome old new
lost_with old mid new before taken loses = record {
  lost = before ++ loses.lost;
  some = omega (arith, length-append before loses.lost, loses.some);
  taken = Consumes-trans old mid new before loses.lost taken loses.taken;
}

-- a write of the rest took so many bytes more of the text
pub written_further : (old mid new : Option (List ℕ)) (text : List ℕ) (count more : ℕ) → Appends old mid (take count text)
    → Appends mid new (take more (take (length text - count) (drop count text))) → Appends old new (take (count + more) text)
written_further old mid new text count more before after =
    let joined : take count text ++ take more (take (length text - count) (drop count text)) ≡ take (count + more) text =
    ap (λ l. take count text ++ take more l) (take_rest text count) ∙ sym (take-add count more text) in
    subst (Appends old new) joined (Appends-trans old mid new (take count text) _ before after)

-- as many bytes of a text as it has are the text
pub written_whole : (old new : Option (List ℕ)) (text : List ℕ) (count : ℕ) → length text ≤ count → Appends old new (take count text) → Appends old new text
written_whole old new text count all written = subst (Appends old new) (take_all count text all) written

-- calls that are told, and then others, are told one after another
pub told_further : (a b c : Option (List Told)) (xs ys : List Told) → AddsCalls a b xs → AddsCalls b c ys → AddsCalls a c (xs ++ ys)
told_further None b c xs ys p q = tt
told_further (Some x) None c xs ys p q = absurd p
told_further (Some x) (Some y) None xs ys p q = absurd q
told_further (Some x) (Some y) (Some z) xs ys p q = q ∙ ap (λ l. l ++ ys) p ∙ append_assoc x xs ys

-- one write more took bytes
pub takes_more : (a b c : Option (List Told)) → TakesBytes a b → (call : Told) → Took call → AddsCalls b c (call ∷ []) → TakesBytes a c
takes_more a b c before call took told = record {
  calls = before.calls ++ call ∷ [];
  took = All-append Took before.calls (call ∷ []) before.took (All-cons Took call [] took (All-nil Took));
  told = told_further a b c before.calls (call ∷ []) before.told told;
}

-- all writes took bytes
pub writes_all : (a b : Option (List Told)) → TakesBytes a b → Writes {E = ℕ} a b (Ok tt)
writes_all a b before = record { calls = before.calls; took = before.took; end = before.told }

-- after those that took bytes one failed
pub writes_part : (a b c : Option (List Told)) → TakesBytes a b → EndsFailed b c [] → (count : ℕ) → Writes {E = ℕ} a c (Err count)
writes_part a b c before ends count = record {
  calls = before.calls;
  took = before.took;
  end = record { last = ends.last; failed = ends.failed; told = told_further a b c before.calls (ends.last ∷ []) before.told ends.told };
}
