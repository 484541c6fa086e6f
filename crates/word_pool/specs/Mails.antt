-- The ground that a type names where nobody picks one: none that was ever made.
use Rattle.std.specs.Prelude.{[]}
use Rattle.commons.specs.declared.limits.PutRule.TheVariants.{Keep}
use Rattle.ground.specs.Seats.{Grounded}

abbrev pub nowhere : Grounded
nowhere = record {
  table = record { words = 0; slots = 0; views_name = 0; atom = 0; block = 0; offset = 0; slot_names = [] };
  limits = record {
    population = 0;
    cache = 0;
    workers = 0;
    desks = 0;
    buf = 0;
    ref_limit = 0;
    tries = 0;
    start_count = 0;
    put_rule = Keep;
  };
}
