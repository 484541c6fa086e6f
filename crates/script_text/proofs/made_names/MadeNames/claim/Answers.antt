use Rattle.std.proofs.Common.{◌≡◌, ℕ, ◌+◌, Bool, false, List, [], ◌∷◌, ◌++◌, take, drop, sym, ap, ◌∙◌}
use Rattle.std.specs.Prelude.{◌&&◌, ◌||◌, ◌==◌}
use Rattle.std.specs.Str.{bytes_eq}
use Rattle.std.proofs.lemmas.List.{take_all, take_more, drop_more}
use Rattle.script_text.specs.inside.ScriptReading.{repeats, with_name}
use Rattle.script_text.specs.inside.Agreement.{has_made}
use Rattle.script_text.proofs.NameRuns.{not_so, with_names, with_names-more, with_names-made}
use Rattle.script_text.proofs.made_names.MadeNames.claim.Goals as goal

-- The name was new, so the set has what the lines and the names so far make; whether one repeats
-- is left to the names behind.
pub loop-name-preserved : goal.loop-name-preserved
loop-name-preserved c =
    let inv = c.loop-name.invariant in
    let names = c.args.names.now in
    let worker = c.args.worker in
    let made = has_made c.args.self.now in
    let i = c.loop-name.name-index in
    let name = c.name-item.result in
    let within = c.loop-name-test.true in
    let so_far = with_names made worker (take i names) in
    let more : take (i + 1) names ≡ take i names ++ name ∷ [] =
    take_more names i name within
    ∙ ap (λ (n : List ℕ). take i names ++ n ∷ []) (sym c.name-item.is) in
    let next : with_names made worker (take (i + 1) names) ≡ with_name so_far worker name =
    ap (with_names made worker) more ∙ with_names-more (take i names) made worker name in
    let here : drop i names ≡ name ∷ drop (i + 1) names =
    drop_more names i name within
    ∙ ap (λ (n : List ℕ). n ∷ drop (i + 1) names) (sym c.name-item.is) in
    let done = rw c.as_slice.ensures at c.in_ok-add.ensures in
    let anew : so_far worker name ≡ false =
    sym (inv.made worker name) ∙ not_so _ (sym done.added ∙ c.if-not-branch.false) in
    record {
      made =
          λ w other. done.more w other
          ∙ ap (λ (b : Bool). (w == worker && bytes_eq other name) || b) (inv.made w other)
          ∙ sym (ap (λ (m : ℕ → List ℕ → Bool). m w other) next);
      left = ap (λ (m : ℕ → List ℕ → Bool). repeats m worker (drop (i + 1) names)) next
          ∙ sym (ap (λ (b : Bool). b || repeats (with_name so_far worker name) worker (drop (i + 1) names)) anew)
          ∙ sym (ap (repeats so_far worker) here) ∙ inv.left;
    }

-- no name is left, so the set has what the lines and all these names make
pub returns-clause-made : goal.returns-clause-made
returns-clause-made c = λ e other name.
    let names = c.args.names.now in
    let made = has_made c.args.self.now in
    c.loop-name.invariant.made other name
    ∙ ap (λ (ns : List (List ℕ)). with_names made c.args.worker ns other name)
    (take_all c.loop-name.name-index names c.loop-name-test.false)
    ∙ with_names-made names made c.args.worker other name
