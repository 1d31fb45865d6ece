-- The members of a flat object, as they are looked up.
use Rattle.std.proofs.Common.{◌≡◌, ℕ, ◌+◌, ◌<◌, length, get_or, take, ◌&&◌, List, [], ◌∷◌, ◌++◌, map, cond, Bool, true, false, Option, Some, None, option_map, Ordering, Less, Equal, Greater, nat_cmp, is_eq, refl, sym, ap, ◌∙◌}
use Rattle.std.specs.List.{list_any, list_all}
use Rattle.std.specs.Str.{bytes_eq}
use Rattle.std.specs.Cmp.Lexicographic.{slice_cmp}
use Rattle.std.specs.Ordering.{match_ordering}
use Rattle.std.proofs.lemmas.Slice.Eq.{bytes_eq-Decides}
use Rattle.std.proofs.lemmas.Map.Text.{is_eq-slice_cmp}
use Rattle.std.proofs.lemmas.Bool.{false≢true}
use Rattle.std.proofs.lemmas.List.{take_more}
use Rattle.serde_json.specs.Data.{Data, Members, no_members, member, put}
use Rattle.serde_json.specs.Find.{get_member}
use Rattle.serde_json.proofs.Views.{get_member-put, get_member-put_other}
use Rattle.cq_json.specs.Fields.{members_among}
use Rattle.cq_json.specs.Keys.{key_text}
use Rattle.cq_json.specs.declared.key.Key.{Key}
use Rattle.cq_json.specs.Flat.{scalar_data, puts, last_named}
use Rattle.cq_json.specs.declared.flat.Scalar.{Scalar}
use Rattle.cq_json.specs.declared.flat.Member.{Member}

-- ---- the last member of a name

pub last_named-append : (key : List ℕ) (found : Option Scalar) (ms : List Member) (m : Member)
    → last_named key found (ms ++ m ∷ []) ≡ cond (bytes_eq (key_text m.key) key) (Some m.value) (last_named key found ms)
last_named-append key found [] m = refl
last_named-append key found (n ∷ ms) m = last_named-append key (cond (bytes_eq (key_text n.key) key) (Some n.value) found) ms m

pub last_named-next : (key : List ℕ) (ms : List Member) (i : ℕ) (blank : Member) (old new : Option Scalar) (b : Bool) → i < length ms
    → old ≡ last_named key None (take i ms) → b ≡ bytes_eq (key_text (get_or ms i blank).key) key → new ≡ cond b (Some (get_or ms i blank).value) old
    → new ≡ last_named key None (take (i + 1) ms)
last_named-next key ms i blank old new b within before is after =
    let grown : take (i + 1) ms ≡ take i ms ++ get_or ms i blank ∷ [] = take_more ms i blank within in
    rw (grown, last_named-append key None (take i ms) (get_or ms i blank), ← before, ← is) after

put_found : (inner : Members) (key : List ℕ) (m : Member) (o : Option Scalar) (found : Members) (b : Bool) → bytes_eq (key_text m.key) key ≡ b
    → option_map (scalar_data inner) o ≡ get_member key found
    → option_map (scalar_data inner) (cond b (Some m.value) o) ≡ get_member key (put (key_text m.key) (scalar_data inner m.value) found)
put_found inner key m o found true is e =
    let same : (key_text m.key) ≡ key = (bytes_eq-Decides (key_text m.key) key).0 is in
    sym (ap (λ k. get_member k (put (key_text m.key) (scalar_data inner m.value) found)) (sym same) ∙ get_member-put (key_text m.key) (scalar_data inner m.value) found)
put_found inner key m o found false is e =
    e ∙ sym (get_member-put_other key (key_text m.key) (scalar_data inner m.value) found (λ same. false≢true (sym is ∙ (bytes_eq-Decides (key_text m.key) key).1 (sym same))))

pub found_puts : (inner : Members) (key : List ℕ) (ms : List Member) (o : Option Scalar) (found : Members) → option_map (scalar_data inner) o ≡ get_member key found
    → option_map (scalar_data inner) (last_named key o ms) ≡ get_member key (puts inner ms found)
found_puts inner key [] o found e = e
found_puts inner key (m ∷ ms) o found e = found_puts inner key ms _ _ (put_found inner key m o found _ refl e)

-- the last member of a name is the one that stays
pub found_flat : (inner : Members) (key : List ℕ) (ms : List Member) → option_map (scalar_data inner) (last_named key None ms) ≡ get_member key (puts inner ms no_members)
found_flat inner key ms = found_puts inner key ms None no_members refl

-- ---- the names

abbrev is_in : List (List ℕ) → List ℕ → Bool
is_in keys name = list_any (λ key. bytes_eq key name) keys

twice : (a b : Bool) → (a && b) ≡ (a && (a && b))
twice true b = refl
twice false b = refl

swap : (a b c : Bool) → (b && (a && c)) ≡ (a && (b && c))
swap true b c = refl
swap false true c = refl
swap false false c = refl

join : (a b c : Bool) → (b && (a && c)) ≡ ((a && b) && c)
join true b c = refl
join false true c = refl
join false false c = refl

with_true : (a : Bool) → (a && true) ≡ a
with_true true = refl
with_true false = refl

put_among_at : (o : Ordering) (keys : List (List ℕ)) (k l : List ℕ) (d e : Data) (ms : Members) → slice_cmp nat_cmp k l ≡ o
    → members_among keys (put k d ms) ≡ (is_in keys k && members_among keys ms)
    → members_among keys (match_ordering o (member k d (member l e ms)) (member l d ms) (member l e (put k d ms))) ≡ (is_in keys k && (is_in keys l && members_among keys ms))
put_among_at Less keys k l d e ms is later = refl
put_among_at Equal keys k l d e ms is later =
    let same : k ≡ l = (bytes_eq-Decides k l).0 (sym (is_eq-slice_cmp k l) ∙ ap is_eq is) in
    rw same (twice (is_in keys l) (members_among keys ms))
put_among_at Greater keys k l d e ms is later = ap (λ r. is_in keys l && r) later ∙ swap (is_in keys k) (is_in keys l) (members_among keys ms)

put_among : (keys : List (List ℕ)) (k : List ℕ) (d : Data) (ms : Members) → members_among keys (put k d ms) ≡ (is_in keys k && members_among keys ms)
put_among keys k d no_members = refl
put_among keys k d (member l e ms) = put_among_at _ keys k l d e ms refl (put_among keys k d ms)

puts_among : (inner : Members) (keys : List (List ℕ)) (ms : List Member) (found : Members)
    → members_among keys (puts inner ms found) ≡ (list_all (λ m. is_in keys (key_text m.key)) ms && members_among keys found)
puts_among inner keys [] found = refl
puts_among inner keys (m ∷ ms) found =
    puts_among inner keys ms (put (key_text m.key) (scalar_data inner m.value) found)
    ∙ ap (λ r. list_all (λ x. is_in keys (key_text x.key)) ms && r) (put_among keys (key_text m.key) (scalar_data inner m.value) found)
    ∙ join (is_in keys (key_text m.key)) (list_all (λ x. is_in keys (key_text x.key)) ms) (members_among keys found)

among_keys : (name : List ℕ) (ks : List Key) → is_in (map key_text ks) name ≡ list_any (λ k. bytes_eq (key_text k) name) ks
among_keys name [] = refl
among_keys name (k ∷ ks) = rw (among_keys name ks) refl

same_names : (ks : List Key) (ms : List Member)
    → list_all (λ m. is_in (map key_text ks) (key_text m.key)) ms ≡ list_all (λ m. list_any (λ k. bytes_eq (key_text k) (key_text m.key)) ks) ms
same_names ks [] = refl
same_names ks (m ∷ ms) = rw (among_keys (key_text m.key) ks, same_names ks ms)

-- the names are looked at one by one
pub among_flat : (inner : Members) (ks : List Key) (ms : List Member)
    → members_among (map key_text ks) (puts inner ms no_members) ≡ list_all (λ m. list_any (λ k. bytes_eq (key_text k) (key_text m.key)) ks) ms
among_flat inner ks ms = puts_among inner (map key_text ks) ms no_members ∙ with_true _ ∙ same_names ks ms
