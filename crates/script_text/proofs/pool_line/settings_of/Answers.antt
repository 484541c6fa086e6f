use Rattle.std.proofs.Common.{List, ℕ, ◌∷◌, Some, None, sym, ap, ◌∙◌}
use Rattle.std.specs.Prelude.{option_and_then}
use Rattle.script_text.specs.inside.Reading.{words_of, settings_from}
use Rattle.script_text.proofs.SettingsLemmas.{no_settings, no_number, no_key, with_pair}
use Rattle.script_text.proofs.pool_line.settings_of.Goals as goal

-- a word in the place of a key that is none gives no settings
pub returns-in_err-key : goal.returns-in_err-key
returns-in_err-key c =
    let s = c.loop-word.settings in
    c.from_residual.ensures ∙ sym (sym c.loop-word.invariant
    ∙ ap (settings_from s) c.in-Some.ensures.words
    ∙ no_key s c.in-Some.word.now (words_of c.in-Some.after.now) (sym c.in_err-key.ensures))

-- a key with no word behind it gives no settings
pub returns-in_err-word : goal.returns-in_err-word
returns-in_err-word c =
    let s = c.loop-word.settings in
    c.from_residual-in_err-word.ensures
    ∙ sym (sym c.loop-word.invariant ∙ ap (settings_from s) (c.in-Some.ensures.words
    ∙ ap (λ (ws : List (List ℕ)). c.in-Some.word.now ∷ ws) c.in_err-word.ensures.words)
    ∙ no_number s c.in-Some.word.now)

-- a key with a word behind it that is no number gives no settings
pub returns-in_err-value : goal.returns-in_err-value
returns-in_err-value c =
    let s = c.loop-word.settings in
    let two =
    c.in-Some.ensures.words
    ∙ ap (λ (ws : List (List ℕ)). c.in-Some.word.now ∷ ws) c.in_ok-word.ensures.words in
    c.from_residual-in_err-value.ensures
    ∙ sym (sym c.loop-word.invariant ∙ ap (settings_from s) two
    ∙ with_pair s c.in-Some.word.now c.in_ok-word.word.now (words_of c.in_ok-word.after.now)
    c.in_ok-key.key None (sym c.in_ok-key.ensures) (sym c.in_err-value.ensures))

-- a key that has a value already takes no second one
pub returns-in_err-settings : goal.returns-in_err-settings
returns-in_err-settings c =
    let s = c.loop-word.settings in
    let rest = words_of c.in_ok-word.after.now in
    let two =
    c.in-Some.ensures.words
    ∙ ap (λ (ws : List (List ℕ)). c.in-Some.word.now ∷ ws) c.in_ok-word.ensures.words in
    c.from_residual-in_err-settings.ensures
    ∙ sym (sym c.loop-word.invariant ∙ ap (settings_from s) two
    ∙ with_pair s c.in-Some.word.now c.in_ok-word.word.now rest c.in_ok-key.key
    (Some c.in_ok-value.value) (sym c.in_ok-key.ensures) (sym c.in_ok-value.ensures)
    ∙ ap (option_and_then (λ more. settings_from more rest)) (sym c.in_err-settings.ensures))

-- one pair more is read, and the settings with it are those of what is left
pub loop-word-preserved : goal.loop-word-preserved
loop-word-preserved c =
    let s = c.loop-word.settings in
    let rest = words_of c.in_ok-word.after.now in
    let two =
    c.in-Some.ensures.words
    ∙ ap (λ (ws : List (List ℕ)). c.in-Some.word.now ∷ ws) c.in_ok-word.ensures.words in
    sym (sym c.loop-word.invariant ∙ ap (settings_from s) two
    ∙ with_pair s c.in-Some.word.now c.in_ok-word.word.now rest c.in_ok-key.key
    (Some c.in_ok-value.value) (sym c.in_ok-key.ensures) (sym c.in_ok-value.ensures)
    ∙ ap (option_and_then (λ more. settings_from more rest)) (sym c.in_ok-settings.ensures))

-- no word is left, so the settings are those read so far
pub returns : goal.returns
returns c =
    let s = c.loop-word.settings in
    sym (sym c.loop-word.invariant ∙ ap (settings_from s) c.in_default.ensures.words ∙ no_settings s)
