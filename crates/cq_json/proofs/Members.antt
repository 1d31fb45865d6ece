-- The members of an object, as the program looks at them and as they are seen.
use Rattle.std.proofs.Common.{◌≡◌, ℕ, List, [], ◌∷◌, map, String, string_bytes, Global, Bor, refl}
use Rattle.std.specs.List.{list_any, list_all}
use Rattle.std.specs.Str.{bytes_eq}
use Rattle.std.specs.BTreeMap.{BTreeMap, keys}
use Rattle.serde_json.specs.View.{members_view}
use Rattle.serde_json.specs.declared.value.Value.{Value}
use Rattle.cq_json.specs.Fields.{members_among}

pub among-map : (name : List ℕ) (ks : List (Bor (List ℕ))) → list_any (λ key. bytes_eq key name) (map (λ key. key.now) ks) ≡ list_any (λ key. bytes_eq key.now name) ks
among-map name [] = refl
among-map name (k ∷ ks) = rw (among-map name ks)

members_among_entries : (ks : List (Bor (List ℕ))) (es : List (String Global × Value))
    → members_among (map (λ key. key.now) ks) (members_view es) ≡ list_all (λ name. list_any (λ key. bytes_eq key.now (string_bytes name)) ks) (map (λ e. e.0) es)
members_among_entries ks [] = refl
members_among_entries ks (e ∷ es) = rw (among-map (string_bytes e.0) ks, members_among_entries ks es)

-- the names of a map are looked at one by one
pub members_among_view : (ks : List (Bor (List ℕ))) (m : BTreeMap (String Global) Value)
    → members_among (map (λ key. key.now) ks) (members_view m.entries) ≡ list_all (λ name. list_any (λ key. bytes_eq key.now (string_bytes name)) ks) (keys m)
members_among_view ks m = members_among_entries ks m.entries
