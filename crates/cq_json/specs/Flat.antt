-- The data of a flat object, whose members are kept in the order of its text.
use Rattle.std.specs.Prelude.{◌≡◌, ℕ, List, [], ◌∷◌, cond, Bool, true, false, Option, Some, None, Result, Ok, Err}
use Rattle.std.specs.Str.{bytes_eq}
use Rattle.serde_json.specs.Data.{Data, unsigned, null, boolean, number, string, object, Members, no_members, put}
use Rattle.serde_json.specs.Find.{as_object}
use Rattle.cq_base.specs.declared.ask.Ask.{Ask}
use Rattle.cq_json.specs.Fields.{Reason, bad, member_at, ◌>>=◌}
use Rattle.cq_json.specs.Asks.{ask_in}
use Rattle.cq_json.specs.Keys.{key_text}
use Rattle.cq_json.specs.declared.flat.Scalar.{Scalar}
use Rattle.cq_json.specs.declared.flat.Scalar.TheVariants.{Text, Number, Truth, Null, Inner}
use Rattle.cq_json.specs.declared.flat.Member.{Member}
use Rattle.cq_json.specs.declared.flat.Flat.{Flat}
use Rattle.cq_json.specs.declared.flat_reading.FlatObject.{FlatObject}

-- the data of a value, where the inner object has these members
abbrev pub scalar_data : Members → Scalar → Data
scalar_data inner (Text text) = string text.now
scalar_data inner (Number n) = number (unsigned n)
scalar_data inner (Truth truth) = boolean truth
scalar_data inner Null = null
scalar_data inner Inner = object inner

-- whether it is the inner object
abbrev pub is_inner : Scalar → Bool
is_inner (Text text) = false
is_inner (Number n) = false
is_inner (Truth truth) = false
is_inner Null = false
is_inner Inner = true

-- the members that were found, and then these: of a name that comes twice the last value stays
abbrev pub puts : Members → List Member → Members → Members
puts inner [] found = found
puts inner (m ∷ ms) found = puts inner ms (put (key_text m.key) (scalar_data inner m.value) found)

-- the members of an inner object, in which there is none
abbrev pub inner_members : List Member → Members
inner_members ms = puts no_members ms no_members

-- the data of the object
abbrev pub flat_data : Flat → Data
flat_data flat = object (puts (inner_members flat.inner.now) flat.members.now no_members)

-- the data of the inner object
abbrev pub inner_data : Flat → Data
inner_data flat = object (inner_members flat.inner.now)

-- the data of an object with these members, where the object in it has the inner ones
abbrev pub data_of : List Member → List Member → Data
data_of members inner = object (puts (inner_members inner) members no_members)

-- the data of the object and of the one in it
abbrev pub object_data : FlatObject → Data
object_data flat = data_of flat.members.items flat.inner.items

-- it has no members
abbrev pub IsEmpty : FlatObject → Type 0
IsEmpty flat = (flat.members.items ≡ []) × (flat.inner.items ≡ [])

-- the value of the last member of that name, or what was found before
abbrev pub last_named : List ℕ → Option Scalar → List Member → Option Scalar
last_named key found [] = found
last_named key found (m ∷ ms) = last_named key (cond (bytes_eq (key_text m.key) key) (Some m.value) found) ms

-- there is no value, or it has no members
abbrev pub IsNoObject : Result Data Reason → Type 0
IsNoObject (Ok d) = as_object d ≡ None
IsNoObject (Err reason) = reason ≡ bad

-- the ask that the value under the key says
abbrev pub ask_at : List ℕ → Data → Result Ask Reason
ask_at key d = member_at key d >>= ask_in
