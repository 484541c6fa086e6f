use Rattle.std.proofs.Common.{◌++◌, ap, map, ◌∙◌}
use Rattle.std.proofs.lemmas.List.{take_all}
use Rattle.snapshot.specs.declared.fault.Fault.TheVariants.{BadElem}
use Rattle.snapshot.proofs.all_faults.notes.note_strangers.Goals as goal

-- all of them were added
pub returns : goal.returns
returns c =
    let elems = c.in_ok-elems.elems.items in
    let old = c.args.faults.now.items in
    let all = rw c.as_slice-elem-items.ensures.value at c.loop-elem-test.false in
    let added = rw c.as_slice-elem-items.ensures.value at c.loop-elem.invariant in
    record {
      elems = elems;
      ascending = c.in_ok-elems.ensures.ascending;
      exactly = c.in_ok-elems.ensures.exactly;
      is = added ∙ ap (λ xs. old ++ map BadElem xs) (take_all c.loop-elem.elem-index elems all);
    }
