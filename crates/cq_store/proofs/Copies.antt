-- A copy of a map, made entry by entry, finds what the map does.
use Rattle.std.proofs.Common.{◌≡◌, ℕ, ◌+◌, ◌∙◌, ap, sym, refl, List, [], ◌∷◌, length, take, slice_get, Option, None, Some, is_some, Bool, true, false, cond, ◌||◌, inl, inr, add-one, suc, zero, nat_eq, eq-eqb}
use Rattle.std.proofs.Math.Seq.{take-length}
use Rattle.std.proofs.lemmas.Bool.{cases_Bool, eqb-true}
use Rattle.std.proofs.lemmas.Slice.Eq.{bytes_eq-Decides}
use Rattle.std.specs.Map.{lookup}
use Rattle.std.specs.Str.{bytes_eq}
use Rattle.cq_store.proofs.OfLaws.Lives.{some_same}

-- where one of two is found
either_found : {X : Type 0} (b c : Bool) (x : X) (rest : Option X) → is_some rest ≡ c → is_some (cond b (Some x) rest) ≡ (b || c)
either_found true c x rest h = refl
either_found false c x rest h = h

-- the tests of three may be joined in either order
joined : (a b c : Bool) → (a || (b || c)) ≡ ((a || b) || c)
joined true b c = refl
joined false b c = refl

-- or false
or_false : (b : Bool) → (b || false) ≡ b
or_false true = refl
or_false false = refl

-- or true
or_true : (b : Bool) → (b || true) ≡ true
or_true true = refl
or_true false = refl

-- nothing isn't something
none_some : {X : Type 0} (x : X) → None ≡ Some x → ⊥
none_some x h = cc

-- what was looked for and is there, or else nothing, is what was looked for
same_or_none : {X : Type 0} (o : Option X) → cond (is_some o) o None ≡ o
same_or_none None = refl
same_or_none (Some x) = refl

-- an entry more is found, too
one_more : {K X : Type 0} (test : K → Bool) (es : List (K × X)) (i : ℕ) (key : K) (value : X) → slice_get es i ≡ Some (key, value) → is_some (lookup test (take (suc i) es)) ≡ (is_some (lookup test (take i es)) || test key)
one_more test [] i key value h = absurd (none_some (key, value) h)
one_more test (e ∷ es) zero key value h = either_found (test e.0) false e.1 None refl ∙ or_false (test e.0) ∙ ap (λ d. test d.0) (some_same e (key, value) h)
one_more test (e ∷ es) (suc i) key value h =
    either_found (test e.0) (is_some (lookup test (take i es)) || test key) e.1 (lookup test (take (suc i) es)) (one_more test es i key value h)
    ∙ joined (test e.0) (is_some (lookup test (take i es))) (test key)
    ∙ ap (λ b. b || test key) (sym (either_found (test e.0) (is_some (lookup test (take i es))) e.1 (lookup test (take i es)) refl))

-- the copy finds what the map does, of the keys of the first so many entries, and nothing else
abbrev pub IsCopied : {K X : Type 0} → (K → K → Bool) → List (K × X) → List (K × X) → ℕ → Type 0
IsCopied {K} eq entries copy count = (q : K) → lookup (eq q) copy ≡ cond (is_some (lookup (eq q) (take count entries))) (lookup (eq q) entries) None

-- equality is told by the test
pub record IsTold {K : Type 0} (eq : K → K → Bool) : Type 0 where
  pub same : (x y : K) → eq x y ≡ true → x ≡ y
  pub found : (x y : K) → x ≡ y → eq x y ≡ true

-- true isn't false
true_false : true ≡ false → ⊥
true_false h = cc

-- two that differ do so in either order
differ : {K : Type 0} (eq : K → K → Bool) → IsTold eq → (x y : K) → eq x y ≡ false → eq y x ≡ false
differ eq told x y other = elim (cases_Bool (eq y x)) [
  | inl e ↦ absurd (true_false (sym (told.found x y (sym (told.same y x e))) ∙ other))
  | inr e ↦ e
]

-- what the copy finds after an entry more
found_more : {K X : Type 0} (eq : K → K → Bool) → IsTold eq → (entries : List (K × X)) (i : ℕ) (key : K) (value : X) (old : Option X) (q : K) → lookup (eq key) entries ≡ Some value
    → is_some (lookup (eq q) (take (suc i) entries)) ≡ (is_some (lookup (eq q) (take i entries)) || eq q key)
    → old ≡ cond (is_some (lookup (eq q) (take i entries))) (lookup (eq q) entries) None
    → cond (eq key q) (Some value) old ≡ cond (is_some (lookup (eq q) (take (suc i) entries))) (lookup (eq q) entries) None
found_more eq told entries i key value old q is seen h = elim (cases_Bool (eq key q)) [
  | inl own ↦ let name = told.same key q own in
      ap (λ b. cond b (Some value) old) own
      ∙ sym is
      ∙ ap (λ k. lookup (eq k) entries) name
      ∙ sym (ap (λ b. cond b (lookup (eq q) entries) None) (seen ∙ ap (λ b. is_some (lookup (eq q) (take i entries)) || b) (told.found q key (sym name)) ∙ or_true (is_some (lookup (eq q) (take i entries)))))
  | inr other ↦ ap (λ b. cond b (Some value) old) other
      ∙ h
      ∙ sym (ap (λ b. cond b (lookup (eq q) entries) None) (seen ∙ ap (λ b. is_some (lookup (eq q) (take i entries)) || b) (differ eq told key q other) ∙ or_false (is_some (lookup (eq q) (take i entries)))))
]

-- an entry more, inserted with the same key and value
pub copied-more : {K X : Type 0} (eq : K → K → Bool) → IsTold eq → (entries copy new : List (K × X)) (i : ℕ) (key own_key : K) (value own_value : X) → Some (key, value) ≡ slice_get entries i → lookup (eq key) entries ≡ Some value
    → own_key ≡ key → own_value ≡ value → ((q : K) → lookup (eq q) new ≡ cond (eq own_key q) (Some own_value) (lookup (eq q) copy)) → IsCopied eq entries copy i → IsCopied eq entries new (i + 1)
copied-more eq told entries copy new i key own_key value own_value at is same_key same_value updates h q =
    rw add-one (updates q
    ∙ ap (λ k. cond (eq k q) (Some own_value) (lookup (eq q) copy)) same_key
    ∙ ap (λ v. cond (eq key q) (Some v) (lookup (eq q) copy)) same_value
    ∙ found_more eq told entries i key value (lookup (eq q) copy) q is (one_more (eq q) entries i key value (sym at)) (h q))

-- a copy of all entries finds what the map does
pub copied-all : {K X : Type 0} (eq : K → K → Bool) (entries copy : List (K × X)) (count : ℕ) → count ≡ length entries → IsCopied eq entries copy count → (q : K) → lookup (eq q) copy ≡ lookup (eq q) entries
copied-all eq entries copy count all h q =
    h q ∙ ap (λ es. cond (is_some (lookup (eq q) es)) (lookup (eq q) entries) None) (ap (λ n. take n entries) all ∙ take-length entries) ∙ same_or_none (lookup (eq q) entries)

-- names are told by their bytes
pub names-told : IsTold bytes_eq
names-told = record { same = λ x y. (bytes_eq-Decides x y).0; found = λ x y. (bytes_eq-Decides x y).1 }

-- and clients as numbers
pub clients-told : IsTold nat_eq
clients-told = record { same = eqb-true; found = eq-eqb }
