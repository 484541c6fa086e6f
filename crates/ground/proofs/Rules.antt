-- The three rules are the machine's law, with the law of headers, of a world with as many desks as
-- its limits say.
use Rattle.std.proofs.Common.{◌≡◌, length}
use Rattle.step_core.specs.World.{World}
use Rattle.step_core.specs.Law.{Lawful}
use Rattle.step_core.specs.Headers.{HeaderLaw}
use Rattle.ground.specs.StackRule.{StackRule}
use Rattle.ground.specs.CountRule.{CountRule}
use Rattle.ground.specs.DeskRule.{DeskRule}

pub lawful_of : (w : World) → StackRule w → CountRule w → DeskRule w → Lawful w
lawful_of w s c d = record {
  common = s.common;
  places = s.places;
  counts = c.counted;
  lengths = s.lengths;
  looks = s.looks;
  chains = s.chains;
  desks = d.desks;
  parts = record {
    parts = s.parts;
    idle =
        λ k e. record {
          hand = s.no_hand k e;
          zeros = c.no_zeros k e;
          holds = c.no_holds k e;
          credit = s.no_credit k e;
          look = s.no_look k e;
          chain = s.no_chain k e;
          work = d.no_work k e;
        };
  };
  ranges = record {
    links = s.links;
    links_in_range = s.links_in_range;
    counts = c.counts;
    counts_in_range = c.in_range;
    ref_limit = c.ref_limit;
    top = s.top;
    looks = s.look_range;
    chains = s.chain_range;
  };
}

pub stack_of : (w : World) → Lawful w → StackRule w
stack_of w law = record {
  common = law.common;
  places = law.places;
  lengths = law.lengths;
  looks = law.looks;
  chains = law.chains;
  links = law.ranges.links;
  links_in_range = law.ranges.links_in_range;
  top = law.ranges.top;
  look_range = law.ranges.looks;
  chain_range = law.ranges.chains;
  parts = law.parts.parts;
  no_hand = λ k e. (law.parts.idle k e).hand;
  no_credit = λ k e. (law.parts.idle k e).credit;
  no_look = λ k e. (law.parts.idle k e).look;
  no_chain = λ k e. (law.parts.idle k e).chain;
}

pub counts_of : (w : World) → Lawful w → HeaderLaw w → CountRule w
counts_of w law headers = record {
  counted = law.counts;
  headers = headers;
  counts = law.ranges.counts;
  in_range = law.ranges.counts_in_range;
  ref_limit = law.ranges.ref_limit;
  no_zeros = λ k e. (law.parts.idle k e).zeros;
  no_holds = λ k e. (law.parts.idle k e).holds;
}

pub desks_of : (w : World) → Lawful w → length w.desks ≡ w.limits.desks → DeskRule w
desks_of w law count = record {
  desks = law.desks;
  count = count;
  no_work = λ k e. (law.parts.idle k e).work;
}
