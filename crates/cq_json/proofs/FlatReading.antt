-- The members of a flat object, as they are read.
use Rattle.std.proofs.Common.{◌≡◌, ℕ, ◌-◌, ◌<◌, ◌≤◌, List, [], ◌∷◌, length, false, Option, Some, None, option_map, option_and_then, IsUtf8, refl, ap, ◌∙◌}
use Rattle.std.specs.Fmt.{decimal}
use Rattle.json.specs.Token.{Token}
use Rattle.json.specs.Lex.{tokens}
use Rattle.json.specs.Json as json
use Rattle.json.specs.Json.{read_key, parse_map, if_last}
use Rattle.json.proofs.Grammar.{value_is, value-begin_object, members_end, members_more}
use Rattle.serde_json.specs.Data.{Data, object, Members, no_members, put}
use Rattle.serde_json.specs.Read.{of_json, of_members, converted, max_depth}
use Rattle.serde_json.proofs.Numbers.{number_of-decimal}
use Rattle.cq_json.specs.Fields.{json_of}
use Rattle.cq_json.proofs.JsonText.{json_of_read}
use Rattle.cq_json.specs.Flat.{scalar_data, is_inner}
use Rattle.cq_json.specs.within.FlatText.{IsInRange}
use Rattle.cq_json.specs.declared.flat.Scalar.{Scalar}
use Rattle.cq_json.specs.declared.flat.Scalar.TheVariants.{Text, Number, Truth, Null, Inner}

-- the token of a value; of the inner object its first
abbrev pub scalar_token : Scalar → Token
scalar_token (Text text) = Token.string text.now
scalar_token (Number n) = Token.number (decimal n)
scalar_token (Truth truth) = Token.boolean truth
scalar_token Null = Token.null
scalar_token Inner = Token.begin_object

-- what the rest of an object's text gives, after the members that were found
abbrev pub rest_of : Members → ℕ → ℕ → List Token → Option (Members × List Token)
rest_of found depth n tokens = converted (λ ms. of_members ms found) (json.members (json.value depth) n tokens)

-- ---- what was read, as data

abbrev pick : {A : Type 0} → A → Option A → A
pick a None = a
pick a (Some b) = b

with_rest : {B : Type 0} (r s : List Token) (x : Option B) (b : B) → option_map {U = B × List Token} (λ y. (y, r)) x ≡ Some (b, s) → (r ≡ s) × (x ≡ Some b)
with_rest r s None b e = absurd (cc)
with_rest r s (Some y) b e = let same = ap (pick (y, r)) e in (ap (λ p. p.1) same, ap (λ p. Some p.0) same)

converted_some : {A B : Type 0} (f : A → Option B) (o : Option (A × List Token)) (b : B) (r : List Token) → converted f o ≡ Some (b, r) → (a : A) × (o ≡ Some (a, r)) × (f a ≡ Some b)
converted_some f None b r e = absurd (cc)
converted_some f (Some p) b r e = let both = with_rest p.1 r (f p.0) b e in (p.0, ap (λ s. Some (p.0, s)) both.0, both.1)

within_object : (r : List Token) (x : Option Members) → option_map (λ d. (d, r)) (option_map object x) ≡ parse_map object (option_map (λ ms. (ms, r)) x)
within_object r None = refl
within_object r (Some ms) = refl

converted-object : (o : Option (json.Members × List Token)) → converted of_json (parse_map json.object o) ≡ parse_map object (converted (λ ms. of_members ms no_members) o)
converted-object None = refl
converted-object (Some p) = within_object p.1 (of_members p.0 no_members)

with_member : (k : List ℕ) (j : json.Json) (d : Data) (found : Members) → of_json j ≡ Some d → (o : Option (json.Members × List Token))
    → converted (λ ms. of_members ms found) (parse_map (json.member k j) o) ≡ converted (λ ms. of_members ms (put k d found)) o
with_member k j d found e None = refl
with_member k j d found e (Some p) = rw e

pub member_read : (depth : ℕ) (found : Members) (n : ℕ) (k : List ℕ) (ts s r : List Token) (d : Data) → 0 < n → read_key ts ≡ Some (Some k, s) → converted of_json (json.value depth s) ≡ Some (d, r)
    → rest_of found depth n ts ≡ rest_of (put k d found) depth (n - 1) r
member_read depth found n k ts s r d some key e =
    let j = converted_some of_json (json.value depth s) d r e in
    ap (converted (λ ms. of_members ms found)) (members_more (json.value depth) n k ts s r j.0 some key j.1) ∙ with_member k j.0 d found j.2 _

pub members_over : (depth : ℕ) (found : Members) (n : ℕ) (ts r : List Token) → length ts ≤ n → read_key ts ≡ Some (None, r) → rest_of found depth n ts ≡ Some (found, r)
members_over depth found n ts r enough e = ap (converted (λ ms. of_members ms found)) (members_end (json.value depth) n ts r enough e)

abbrev whole : Option (json.Json × List Token) → Option Data
whole o = option_and_then of_json (option_and_then (λ p. if_last p.0 p.1) o)

-- a text whose tokens are those of one value
pub text_read : (text : List ℕ) (ts : List Token) (d : Data) → IsUtf8 text → ts ≡ tokens text → converted of_json (json.value max_depth ts) ≡ Some (d, []) → json_of text ≡ Some d
text_read text ts d utf8 is e =
    let j = converted_some of_json (json.value max_depth ts) d [] e in
    json_of_read text d utf8 (rw (← is) (ap whole j.1 ∙ j.2))

-- ---- one value

pub scalar_read : (inner : Members) (depth : ℕ) (s : Scalar) (ts : List Token) → IsInRange s → is_inner s ≡ false
    → converted of_json (json.value depth (scalar_token s ∷ ts)) ≡ Some (scalar_data inner s, ts)
scalar_read inner depth (Text text) ts fits not_inner = ap (converted of_json) (value_is depth _)
scalar_read inner depth (Number n) ts fits not_inner = ap (converted of_json) (value_is depth _) ∙ rw (number_of-decimal n fits)
scalar_read inner depth (Truth truth) ts fits not_inner = ap (converted of_json) (value_is depth _)
scalar_read inner depth Null ts fits not_inner = ap (converted of_json) (value_is depth _)
scalar_read inner depth Inner ts fits not_inner = absurd (cc)

-- ---- an object

pub opened : (ts r : List Token) (inner : Members) (depth : ℕ) → 0 < depth → rest_of no_members (depth - 1) (length ts) ts ≡ Some (inner, r)
    → converted of_json (json.value depth (Token.begin_object ∷ ts)) ≡ Some (object inner, r)
opened ts r inner depth positive rest =
    ap (converted of_json) (value-begin_object depth ts positive) ∙ converted-object (json.members (json.value (depth - 1)) (length ts) ts) ∙ ap (parse_map object) rest
