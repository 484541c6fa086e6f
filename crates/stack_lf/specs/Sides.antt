-- What the worker of a seat has of its pool.
use Rattle.commons.specs.Bag.{bag}
use Rattle.commons.specs.Calls.{Side}
use Rattle.ground.specs.Seats.{Seated}

abbrev pub side_of : Seated → Side
side_of s = record {
  limits = s.known.limits;
  hand = bag s.known.view.hand;
  holds = bag s.known.view.holds;
  headers = bag s.known.view.headers;
}
