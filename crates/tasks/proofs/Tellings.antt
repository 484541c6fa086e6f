-- What becomes of texts on the errors, one after another.
use Rattle.std.proofs.Common.{◌≡◌, ◌≢◌, ◌↔◌, ℕ, Bool, List, [], ◌∷◌, ◌++◌, Option, Some, None, Result, Ok, Err, IsErr, T, not, false, true, refl, sym, subst, ap, ◌∙◌, append_assoc}
use Rattle.std.proofs.KnownBytes.{Appends-trans}
use Rattle.std.proofs.lemmas.List.Elements.{All-append}
use Rattle.commons.specs.declared.refusal.Refusal.{Refusal}
use Rattle.commons.specs.declared.refusal.Refusal.TheVariants.{MissingShare, ScriptFault}
use Rattle.commons.specs.Refusals.{place_text}
use Rattle.script_io.specs.Told.{AddsCalls, TakesBytes, Told, Took}
use Rattle.tasks.specs.Telling.{Heard, IsTold, LastFailed, Puts}

-- calls that are told, and then others, are told one after another
told_further : (a b c : Option (List Told)) (xs ys : List Told) → AddsCalls a b xs → AddsCalls b c ys → AddsCalls a c (xs ++ ys)
told_further None b c xs ys p q = tt
told_further (Some x) None c xs ys p q = absurd p
told_further (Some x) (Some y) None xs ys p q = absurd q
told_further (Some x) (Some y) (Some z) xs ys p q = q ∙ ap (λ l. l ++ ys) p ∙ append_assoc x xs ys

-- writes that took bytes, and others behind them
takes_then : (a b c : Option (List Told)) → TakesBytes a b → TakesBytes b c → TakesBytes a c
takes_then a b c first second = record {
  calls = first.calls ++ second.calls;
  took = All-append Took first.calls second.calls first.took second.took;
  told = told_further a b c first.calls second.calls first.told second.told;
}

-- writes that took bytes, and behind them some of which the last failed
fails_then : (a b c : Option (List Told)) → TakesBytes a b → LastFailed b c → LastFailed a c
fails_then a b c first second = record {
  calls = first.calls ++ second.calls;
  ends = record {
    last = second.ends.last;
    failed = second.ends.failed;
    told =
        subst (AddsCalls a c) (sym (append_assoc first.calls second.calls (second.ends.last ∷ [])))
        (told_further a b c first.calls (second.calls ++ second.ends.last ∷ []) first.told second.ends.told);
  };
}

-- errors that haven't failed, or have
by_failed : (P : Bool → Type 0) (b : Bool) → (b ≡ true → P b) → (b ≡ false → P b) → P b
by_failed P true broken sound = broken refl
by_failed P false broken sound = sound refl

-- a text was put, and another behind it
pub puts_then : (a b c : Heard) (xs ys : List ℕ) → Puts a b xs → Puts b c ys → Puts a c (xs ++ ys)
puts_then a b c xs ys first second = record {
  whole = λ well. Appends-trans a.contents b.contents c.contents xs ys (first.whole (second.sound well)) (second.whole well);
  sound = λ well. first.sound (second.sound well);
  took = λ well. takes_then a.told b.told c.told (first.took (second.sound well)) (second.took well);
  broke = λ broken. record {
    failed = broken;
    last = λ well. by_failed (λ f. b.failed ≡ f → LastFailed a.told c.told) b.failed
        (λ before same. subst (λ (h : Heard). LastFailed a.told h.told) (sym (second.stays before)) ((first.broke before).last well))
        (λ sound same. fails_then a.told b.told c.told (first.took sound) ((second.broke broken).last sound)) refl;
  };
  stays = λ before. second.stays (ap (λ (h : Heard). h.failed) (first.stays before) ∙ before) ∙ first.stays before;
}

-- what was put is told, unless the errors failed
pub told_of : {E : Type 0} (a b : Heard) (xs : List ℕ) (r : Result Unit E) → Puts a b xs → IsErr r ↔ (b.failed ≡ true) → IsTold a b xs r
told_of a b xs (Ok done) puts tells =
    let well : b.failed ≡ false =
    by_failed (λ f. b.failed ≡ f → b.failed ≡ false) b.failed
    (λ broken same. absurd (subst (λ (f : Bool). T (not f)) (tells.1 broken) tt)) (λ sound same. sound) refl in
    record { whole = puts.whole well; sound = well; untold = tt }
told_of a b xs (Err broken) puts tells = record { whole = tt; sound = tt; untold = puts.broke (tells.0 refl) }

-- a refusal that is none of the two that tell where
pub place_of_others : (refusal : Refusal) → ((worker : ℕ) → refusal ≢ MissingShare worker) → ((line : ℕ) → refusal ≢ ScriptFault line) →
    place_text refusal ≡ []
place_of_others (MissingShare worker) none other = absurd (none worker refl)
place_of_others (ScriptFault line) none other = absurd (other line refl)
place_of_others _ none other = refl
