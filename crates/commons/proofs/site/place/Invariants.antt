use Rattle.std.proofs.Common.{◌≡◌, drop, vec_len}
use Rattle.commons.specs.Lists.{placed}
use Rattle.commons.proofs.site.place.Given as goal

-- the places so far, with the rest of the list, are those of the whole list
abbrev pub invariant-loop-x : goal.invariant-loop-x
invariant-loop-x l = record {
  rest : placed (drop l.x-index l.list) l.place l.places.items ≡ placed l.list l.place l.fn.places.items;
  len : vec_len l.places ≡ vec_len l.fn.places;
}
