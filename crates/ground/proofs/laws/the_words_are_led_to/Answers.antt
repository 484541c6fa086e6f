use Rattle.ground.proofs.Ruling.{words_are_led_to}
use Rattle.ground.proofs.laws.the_words_are_led_to.Goals as goal

pub returns : goal.returns
returns c = words_are_led_to
