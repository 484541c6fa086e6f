-- The settings that words give, one pair after another.
use Rattle.std.proofs.Common.{◌≡◌, ℕ, List, [], ◌∷◌, Option, Some, None, refl, ap, ◌∙◌}
use Rattle.std.specs.Prelude.{option_and_then}
use Rattle.script_text.specs.declared.commands.Key.{Key}
use Rattle.script_text.specs.declared.pool_line.Settings.{Settings}
use Rattle.script_text.specs.inside.Reading.{key_at, number_at, add_value, add_pair, settings_from}

-- without words the settings are as before
pub no_settings : (settings : Settings) → settings_from settings [] ≡ Some settings
unfolding settings_from
no_settings settings = refl

-- a key without a number gives no settings
pub no_number : (settings : Settings) (key : List ℕ) → settings_from settings (key ∷ []) ≡ None
unfolding settings_from
no_number settings key = refl

-- words that begin with a pair are read on with the settings that the pair gives
pub one_pair : (settings : Settings) (key number : List ℕ) (words : List (List ℕ)) →
    settings_from settings (key ∷ number ∷ words)
    ≡ option_and_then (λ more. settings_from more words) (add_pair settings key number)
unfolding settings_from
one_pair settings key number words = refl

-- a word that is no key gives no settings, whatever stands behind it
pub no_key : (settings : Settings) (key : List ℕ) (words : List (List ℕ)) → key_at key ≡ None →
    settings_from settings (key ∷ words) ≡ None
no_key settings key [] e = no_number settings key
no_key settings key (number ∷ words) e =
    one_pair settings key number words
    ∙ ap (λ k.
    option_and_then (λ more. settings_from more words) (option_and_then
    (λ k'. option_and_then (λ value. add_value settings k' value) (number_at number)) k))
    e

-- a key and a number give the key that value, before the words behind them
pub with_pair : (settings : Settings) (key number : List ℕ) (words : List (List ℕ)) (k : Key)
    (n : Option ℕ) → key_at key ≡ Some k → number_at number ≡ n →
    settings_from settings (key ∷ number ∷ words)
    ≡ option_and_then (λ more. settings_from more words)
    (option_and_then (λ value. add_value settings k value) n)
with_pair settings key number words k n e f =
    one_pair settings key number words ∙ ap (λ k'.
    option_and_then (λ more. settings_from more words) (option_and_then
    (λ k''. option_and_then (λ value. add_value settings k'' value) (number_at number))
    k')) e
    ∙ ap (λ n'.
    option_and_then (λ more. settings_from more words)
    (option_and_then (λ value. add_value settings k value) n')) f
