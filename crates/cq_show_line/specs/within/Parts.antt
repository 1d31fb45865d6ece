-- What a serializer is sent of an object or an array.
use Rattle.std.specs.Prelude.{◌≡◌, ℕ, List, [], ◌∷◌}
use Rattle.serde.specs.Event.{Log, Logs, field_key}
use Rattle.serde.specs.declared.name.Case.TheVariants.{AsIs}
use Rattle.serde_json.specs.Data.{Data}
use Rattle.serde_json.specs.Events.{SendsValue}

-- this key, and this value
abbrev pub SendsMember : List ℕ → Data → Log → Log → Type 0
SendsMember key d old new = (named : Log) × Logs old named (field_key key AsIs) × SendsValue d named new

-- these values, one after the other
abbrev pub SendsEach : List Data → Log → Log → Type 0
SendsEach [] old new = new ≡ old
SendsEach (d ∷ ds) old new = (mid : Log) × SendsValue d old mid × SendsEach ds mid new
