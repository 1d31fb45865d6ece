-- What is known of a store's parts, and what is found once a name more is kept.
use Rattle.std.proofs.Common.{◌≡◌, ℕ, ◌∙◌, ap, sym, subst, refl, List, [], ◌∷◌, ◌++◌, Option, None, Some, Bool, true, false, cond, Bor, true≢false, Result, Ok, Err}
use Rattle.std.specs.Prelude.{IfSome, IfOk, OnErr}
use Rattle.std.specs.Option.{option_or, option_copied, is_some}
use Rattle.std.specs.List.{All, IsDistinct}
use Rattle.std.specs.Map.{lookup, keys_of, values_of}
use Rattle.std.specs.Cmp.{IsEquivalence}
use Rattle.std.specs.Str.{bytes_eq}
use Rattle.std.proofs.lemmas.Map.Views.{All-values_from_lookup}
use Rattle.std.proofs.lemmas.Slice.Eq.{bytes_eq-Decides}
use Rattle.cq_store.specs.Parts.{IsWithin}
use Rattle.cq_store.specs.Stands.{QueueRecord, name_at, or_unknown}

-- equal texts are one
text_equal : IsEquivalence bytes_eq
text_equal = record {
  refl = λ x. (bytes_eq-Decides x x).1 refl;
  symm = λ x y. either x y (bytes_eq x y) (bytes_eq y x) refl refl;
  congr = λ x y z e. ap (λ w. bytes_eq w z) ((bytes_eq-Decides x y).0 e);
}
  where
    either : (x y : List ℕ) (b c : Bool) → bytes_eq x y ≡ b → bytes_eq y x ≡ c → b ≡ c
    either x y true true e f = refl
    either x y false false e f = refl
    either x y true false e f = absurd (let same : x ≡ y = (bytes_eq-Decides x y).0 e in let wrong : true ≡ false = sym ((bytes_eq-Decides y x).1 (sym same)) ∙ f in cc)
    either x y false true e f = absurd (let same : y ≡ x = (bytes_eq-Decides y x).0 f in let wrong : true ≡ false = sym ((bytes_eq-Decides x y).1 (sym same)) ∙ e in cc)

-- what is found once there is one more entry
lookup-more : {K X : Type 0} (test : K → Bool) (es : List (K × X)) (k : K) (v : X) → lookup test (es ++ (k, v) ∷ []) ≡ option_or (lookup test es) (cond (test k) (Some v) None)
lookup-more test [] k v = refl
lookup-more {K} {X} test (e ∷ es) k v = by (test e.0) (lookup-more test es k v)
  where
    by : (c : Bool) → lookup test (es ++ (k, v) ∷ []) ≡ option_or (lookup test es) (cond (test k) (Some v) None)
        → cond c (Some e.1) (lookup test (es ++ (k, v) ∷ [])) ≡ option_or (cond c (Some e.1) (lookup test es)) (cond (test k) (Some v) None)
    by true h = refl
    by false h = h

-- all names stay within the bounds with one more that is
pub within-more : (count last : ℕ) (queues more : List (List ℕ × QueueRecord)) (queue : List ℕ) (one : QueueRecord) → more ≡ queues ++ (queue, one) ∷ [] → IsWithin count last one
    → ((q : List ℕ) → IsWithin count last (or_unknown (name_at queues q))) → (q : List ℕ) → IsWithin count last (or_unknown (name_at more q))
within-more count last queues more queue one is fits h q =
    subst (λ o. IsWithin count last (or_unknown o)) (sym (ap (λ es. name_at es q) is ∙ lookup-more (λ n. bytes_eq q n) queues queue one)) (by (name_at queues q) (bytes_eq q queue) (h q))
  where
    by : (o : Option QueueRecord) (c : Bool) → IsWithin count last (or_unknown o) → IsWithin count last (or_unknown (option_or o (cond c (Some one) None)))
    by (Some r) c w = w
    by None true w = fits
    by None false w = w

-- the same where it was put, or wasn't
pub restored-within : {E : Type 0} (count last : ℕ) (queues more : List (List ℕ × QueueRecord)) (queue : List ℕ) (one : QueueRecord) (result : Result Bool E) → IfOk result (λ is. is ≡ true → more ≡ queues ++ (queue, one) ∷ [])
    → IfOk result (λ is. is ≡ false → more ≡ queues) → OnErr result (more ≡ queues) → IsWithin count last one → ((q : List ℕ) → IsWithin count last (or_unknown (name_at queues q))) → (q : List ℕ) → IsWithin count last (or_unknown (name_at more q))
restored-within count last queues more queue one (Ok true) put refused err fits h = within-more count last queues more queue one (put refl) fits h
restored-within count last queues more queue one (Ok false) put refused err fits h = λ q. subst (λ es. IsWithin count last (or_unknown (name_at es q))) (sym (refused refl)) (h q)
restored-within count last queues more queue one (Err e) put refused err fits h = λ q. subst (λ es. IsWithin count last (or_unknown (name_at es q))) (sym err) (h q)

-- nothing is there where a look finds nothing
pub none-copied : {X : Type 0} (o : Option (Bor X)) (x : Option X) → option_copied o ≡ x → false ≡ is_some o → x ≡ None
none-copied None x e none = sym e
none-copied (Some y) x e none = absurd (true≢false (sym none))

-- each name that is kept is within the bounds
pub within-all : (count last : ℕ) (queues : List (List ℕ × QueueRecord)) → IsDistinct bytes_eq (keys_of queues) → ((q : List ℕ) → IsWithin count last (or_unknown (name_at queues q))) → All (IsWithin count last) (values_of queues)
within-all count last queues distinct h = All-values_from_lookup text_equal (IsWithin count last) queues distinct (λ q. some (name_at queues q) (h q))
  where
    some : (o : Option QueueRecord) → IsWithin count last (or_unknown o) → IfSome o (IsWithin count last)
    some None w = tt
    some (Some r) w = w
