-- A text of JSON that doesn't nest too deep is one value for both readers.
use Rattle.std.proofs.Common.{ℕ, ◌≡◌, List, [], ◌∷◌, Option, None, Some, option_map, option_and_then, ap, ◌∙◌}
use Rattle.json.specs.Json as json
use Rattle.json.specs.Json.{Json, document, if_last, value}
use Rattle.json.specs.Lex.{tokens}
use Rattle.json.specs.Token.{Token}
use Rattle.json.proofs.Found.{Some_inj, one_reading}
use Rattle.serde_json.specs.Data.{Data}
use Rattle.serde_json.specs.Read.{max_depth, read}
use Rattle.snapshot_json.specs.Dumped.{IsLow, IsOf}

-- a reading that leaves nothing
passed : (o : Option (Json × List Token)) → option_map (λ p. p.1) o ≡ Some [] → (j : Json) × (o ≡ Some (j, []))
passed None e = absurd cc
passed (Some p) e = (p.0, ap (λ (r : List Token). Some (p.0, r)) (Some_inj p.1 [] e))

-- a value behind which nothing is
whole_of : (j : Json) (r : List Token) (k : Json) → if_last j r ≡ Some k → ◌≡◌ {A = Json × List Token} (j, r) (k, [])
whole_of j [] k e = cc
whole_of j (t ∷ r) k e = absurd cc

alone : (o : Option (Json × List Token)) (k : Json) → option_and_then (λ p. if_last p.0 p.1) o ≡ Some k → o ≡ Some (k, [])
alone None k e = absurd cc
alone (Some p) k e = ap Some (whole_of p.0 p.1 k e)

pub read_low : (text : List ℕ) (j : Json) (d : Data) → IsLow text → document text ≡ Some j → IsOf j d → read text ≡ Some d
read_low text j d low is of =
    let found : (k : Json) × (value max_depth (tokens text) ≡ Some (k, [])) = passed (value max_depth (tokens text)) low in
    let deeper : ◌≡◌ {A = Option (Json × List Token)} (value json.max_depth (tokens text)) (Some (j, [])) = alone (value json.max_depth (tokens text)) j is in
    let same : ◌≡◌ {A = Option (Json × List Token)} (Some (found.0, [])) (Some (j, [])) =
    one_reading max_depth json.max_depth (tokens text) (found.0, []) (j, []) found.1 deeper in
    let low_is : ◌≡◌ {A = Option (Json × List Token)} (value max_depth (tokens text)) (Some (j, [])) = found.1 ∙ same in
    rw low_is of
