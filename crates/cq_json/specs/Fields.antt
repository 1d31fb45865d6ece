-- What the members of a JSON object say, one reading for each kind of member. A reading gives the
-- value, or why there is none.
use Rattle.std.specs.Prelude.{ℕ, ◌&&◌, codes, List, Bool, true, false, nat_le, if◌then◌else◌, Option, Some, None, Result, Ok, Err, option_map, option_and_then, unwrap_or}
use Rattle.std.specs.List.{list_any}
use Rattle.std.specs.Str.{bytes_eq, is_utf8}
use Rattle.serde_json.specs.Data.{Data, Members, no_members, member}
use Rattle.serde_json.specs.Read.{read}
use Rattle.serde_json.specs.Find.{get, as_bool, as_number, as_u64, as_str, as_object}
use Rattle.cq_base.specs.Texts.{is_queue_name, is_id, has_body_characters, has_body_length}
use Rattle.cq_base.specs.declared.fault.BaseFault.{BaseFault}
use Rattle.cq_base.specs.declared.fault.BaseFault.TheVariants.{BadQueueName, BadGroup, BadDedup, InvalidMessageContents, BodyLength}
use Rattle.cq_base.specs.declared.limits.TheConstants.{PARTY_LIMIT}
use Rattle.cq_base.specs.declared.party.Party.{Party}
use Rattle.cq_base.specs.declared.party.Party.TheVariants as parties

-- Why a line says no event: it is none of the script's, or a text in it breaks that text's rule.
pub data Reason : Type 0 where
  bad : Reason
  refused : BaseFault → Reason

-- what the second reading gives at what the first one gave
infixl 10 ◌>>=◌
abbrev pub ◌>>=◌ : {A B : Type 0} → Result A Reason → (A → Result B Reason) → Result B Reason
(Ok x) >>= f = f x
(Err reason) >>= f = Err reason

-- where there is nothing, the line is bad
abbrev pub or_bad : {A : Type 0} → Option A → Result A Reason
or_bad None = Err bad
or_bad (Some x) = Ok x

-- ---- values

-- The value that the bytes are as JSON, by serde_json's rules: of a key that an object has twice the
-- last value stands, arrays and objects nest to 127 levels, and each number fits a double.
abbrev pub json_of : List ℕ → Option Data
json_of bytes = if is_utf8 bytes then read bytes else None

-- ---- members

-- each name is one of the keys
abbrev pub members_among : List (List ℕ) → Members → Bool
members_among keys no_members = true
members_among keys (member name d ms) = list_any (λ key. bytes_eq key name) keys && members_among keys ms

-- an object that has no key but these
abbrev pub has_only : List (List ℕ) → Data → Bool
has_only keys d = unwrap_or (option_map (members_among keys) (as_object d)) false

-- the value under the key
abbrev pub member_at : List ℕ → Data → Result Data Reason
member_at key d = or_bad (get key d)

-- the text under the key
abbrev pub text_at : List ℕ → Data → Result (List ℕ) Reason
text_at key d = member_at key d >>= λ e. or_bad (as_str e)

-- the number, where it is from low to high
abbrev pub within : ℕ → ℕ → ℕ → Result ℕ Reason
within low high n = if nat_le low n && nat_le n high then Ok n else Err bad

-- A whole number from low to high, written in digits alone: `1.0`, `1e0` and `-0` say none (a choice
-- of this project).
abbrev pub whole : ℕ → ℕ → Data → Result ℕ Reason
whole low high d = or_bad (option_and_then as_u64 (as_number d)) >>= within low high

-- the whole number under the key
abbrev pub number_at : ℕ → ℕ → List ℕ → Data → Result ℕ Reason
number_at low high key d = member_at key d >>= whole low high

-- the whole number that is there
abbrev pub whole_if : ℕ → ℕ → Option Data → Result (Option ℕ) Reason
whole_if low high None = Ok None
whole_if low high (Some d) = whole low high d >>= λ n. Ok (Some n)

-- the whole number under a key that may be missing
abbrev pub number_if_at : ℕ → ℕ → List ℕ → Data → Result (Option ℕ) Reason
number_if_at low high key d = whole_if low high (get key d)

-- the text that is there
abbrev pub text_if : Option Data → Result (Option (List ℕ)) Reason
text_if None = Ok None
text_if (Some d) = or_bad (as_str d) >>= λ text. Ok (Some text)

-- the text under a key that may be missing
abbrev pub text_if_at : List ℕ → Data → Result (Option (List ℕ)) Reason
text_if_at key d = text_if (get key d)

-- the truth value that is there: `true` or `false`
abbrev pub truth_if : Option Data → Result (Option Bool) Reason
truth_if None = Ok None
truth_if (Some d) = or_bad (as_bool d) >>= λ truth. Ok (Some truth)

-- the truth value under a key that may be missing
abbrev pub truth_if_at : List ℕ → Data → Result (Option Bool) Reason
truth_if_at key d = truth_if (get key d)

-- the party with that name
abbrev pub party_named : List ℕ → Result Party Reason
party_named name = if bytes_eq name (codes "master") then Ok parties.Master else (if bytes_eq name (codes "clients") then Ok parties.Clients else Err bad)

-- the party that the value says, which has that text, if it is one: a server is said by its number
abbrev pub party_said : Data → Option (List ℕ) → Result Party Reason
party_said d (Some name) = party_named name
party_said d None = whole 1 PARTY_LIMIT d >>= λ id. Ok (parties.Server id)

-- the party that the value says
abbrev pub party_in : Data → Result Party Reason
party_in d = party_said d (as_str d)

-- the party under the key
abbrev pub party_at : List ℕ → Data → Result Party Reason
party_at key d = member_at key d >>= party_in

-- ---- texts

-- the queue name with that text
abbrev pub queue_name : List ℕ → Result (List ℕ) Reason
queue_name text = if is_queue_name text then Ok text else Err (refused BadQueueName)

-- the message group id with that text
abbrev pub group_id : List ℕ → Result (List ℕ) Reason
group_id text = if is_id text then Ok text else Err (refused BadGroup)

-- the message deduplication id with that text
abbrev pub dedup_id : List ℕ → Result (List ℕ) Reason
dedup_id text = if is_id text then Ok text else Err (refused BadDedup)

-- the same, if there is a text
abbrev pub dedup_id_if : Option (List ℕ) → Result (Option (List ℕ)) Reason
dedup_id_if None = Ok None
dedup_id_if (Some text) = dedup_id text >>= λ id. Ok (Some id)

-- the message body with that text; its characters are looked at before its length
abbrev pub message_body : List ℕ → Result (List ℕ) Reason
message_body text = if has_body_characters text then (if has_body_length text then Ok text else Err (refused BodyLength)) else Err (refused InvalidMessageContents)
