-- What the rule says of a state.
use Rattle.ground.specs.Ruling.{WordsAreLedTo}
use Rattle.ground.proofs.Rules.{lawful_of}

pub words_are_led_to : WordsAreLedTo
words_are_led_to l s r = record {
  world = r.world;
  limits = r.limits;
  words = r.words_are;
  homes = r.homes_are;
  views = r.views_are;
  law = lawful_of r.world r.stack r.counts r.desks;
  headers = r.counts.headers;
  history = r.history;
  led = r.led;
}
