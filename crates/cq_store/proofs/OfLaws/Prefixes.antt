-- Prefixes of lists, and of what is made from lists.
use Rattle.std.proofs.Common.{◌≡◌, ℕ, ◌<◌, ◌∙◌, ap, sym, List, [], ◌∷◌, ◌++◌, map, take, drop, Bool, true, false, eqb, append_assoc, append-nil, arith, inl, inr, subst, refl}
use Rattle.std.specs.List.{filter, flat_map}
use Rattle.std.proofs.lemmas.Bool.{cases_Bool, or_cases, or_left, or_right, eqb-true, eq-eqb, not_from_true, not_from_false, not-true, both_ways, false_from_ne_true, true_from_ne_false, false≢true}
use Rattle.std.proofs.lemmas.List.{take-append-drop, map-append}
use Rattle.std.proofs.lemmas.List.Elements.{filter-append}
use Rattle.cq_store.specs.Laws.{is_in, is_new_to}
use Rattle.cq_base.specs.Relations.{Among, Pairwise, IsPrefix}
use Rattle.cq_base.proofs.Among.{among-filter, among-kept, among-right}
use Rattle.cq_base.proofs.Filters.{filter-none, filter-swapped, filter-all}
use Rattle.cq_base.proofs.Pairs.{pairwise-apart}

-- a prefix of a list is one of a longer list
pub prefix-longer : {X : Type 0} (xs ys zs : List X) → IsPrefix xs ys → IsPrefix xs (ys ++ zs)
prefix-longer xs ys zs h = (h.0 ++ zs, ap (λ us. us ++ zs) h.1 ∙ append_assoc xs h.0 zs)

-- a prefix of a prefix is one
pub prefix-prefix : {X : Type 0} (xs ys zs : List X) → IsPrefix xs ys → IsPrefix ys zs → IsPrefix xs zs
prefix-prefix xs ys zs h k = (h.0 ++ k.0, k.1 ∙ ap (λ us. us ++ k.0) h.1 ∙ append_assoc xs h.0 k.0)

-- what passes of a prefix is a prefix of what passes
pub prefix-filter : {X : Type 0} (p : X → Bool) (xs ys : List X) → IsPrefix xs ys → IsPrefix (filter p xs) (filter p ys)
prefix-filter p xs ys h = (filter p h.0, ap (λ us. filter p us) h.1 ∙ filter-append p xs h.0)

-- the image of a prefix is a prefix of the image
pub prefix-map : {X Y : Type 0} (f : X → Y) (xs ys : List X) → IsPrefix xs ys → IsPrefix (map f xs) (map f ys)
prefix-map f xs ys h = (map f h.0, ap (λ us. map f us) h.1 ∙ map-append f xs h.0)

-- the first elements are a prefix
pub prefix-take : {X : Type 0} (n : ℕ) (xs : List X) → IsPrefix (take n xs) xs
prefix-take n xs = (drop n xs, sym (take-append-drop n xs))

-- where each gives nothing, nothing is joined
flat-none : {X Y : Type 0} (f : X → List Y) (xs : List X) → ((x : X) → Among x xs → f x ≡ []) → flat_map f xs ≡ []
flat-none f [] h = refl
flat-none f (x ∷ xs) h = ap (λ ys. ys ++ flat_map f xs) (h x (inl refl)) ∙ flat-none f xs (λ y m. h y (inr m))

-- where one element at most gives the list, and the others give nothing, they give a prefix of it
pub flat-prefix : {X Y : Type 0} (p : X → Bool) (f : X → List Y) (ys : List Y) (xs : List X) → ((x : X) → p x ≡ true → f x ≡ ys) → ((x : X) → p x ≡ false → f x ≡ []) → Pairwise (λ a b. p a ≡ true → p b ≡ false) xs → IsPrefix (flat_map f xs) ys
flat-prefix p f ys [] gives lacks h = (ys, refl)
flat-prefix p f ys (x ∷ xs) gives lacks h = elim (cases_Bool (p x)) [
  | inl own ↦ ([], sym (append-nil (f x ++ flat_map f xs) ∙ ap (λ us. f x ++ us) (flat-none f xs (λ y m. lacks y (h.0 y m own))) ∙ append-nil (f x) ∙ gives x own))
  | inr other ↦ subst (λ us. IsPrefix (us ++ flat_map f xs) ys) (sym (lacks x other)) (flat-prefix p f ys xs gives lacks h.1)
]

-- the test for a number in a list, and that it is among it
pub in-among : (numbers : List ℕ) (n : ℕ) → is_in numbers n ≡ true → Among n numbers
in-among [] n h = absurd (false≢true h)
in-among (m ∷ numbers) n h = elim (or_cases (eqb m n) (is_in numbers n) h) [ inl e ↦ inl (sym (eqb-true m n e)) | inr r ↦ inr (in-among numbers n r) ]

-- what is among them is found by the test
pub among-in : (numbers : List ℕ) (n : ℕ) → Among n numbers → is_in numbers n ≡ true
among-in [] n h = absurd h
among-in (m ∷ numbers) n (inl e) = or_left (eqb m n) (is_in numbers n) (eq-eqb m n (sym e))
among-in (m ∷ numbers) n (inr h) = or_right (eqb m n) (is_in numbers n) (among-in numbers n h)

-- of a rising list, what stands after those that were seen wasn't seen
rest_new : (numbers seen rest : List ℕ) → Pairwise (λ a b. a < b) numbers → numbers ≡ filter (is_in numbers) seen ++ rest → (n : ℕ) → Among n rest → is_new_to seen n ≡ true
rest_new numbers seen rest rising split n at = not_from_false (is_in seen n) (false_from_ne_true (is_in seen n) (λ known.
    let own = among-in numbers n (subst (λ ns. Among n ns) (sym split) (among-right n (filter (is_in numbers) seen) rest at)) in
    let prefix = among-kept (is_in numbers) n seen own (in-among seen n known) in
    let less : n < n = pairwise-apart (λ a b. a < b) (filter (is_in numbers) seen) rest n n (subst (λ ns. Pairwise (λ a b. a < b) ns) split rising) prefix at in absurd (omega arith)))

-- those that weren't seen are what stands after those that were
unseen-rest : (numbers seen rest : List ℕ) → Pairwise (λ a b. a < b) numbers → numbers ≡ filter (is_in numbers) seen ++ rest → filter (is_new_to seen) numbers ≡ rest
unseen-rest numbers seen rest rising split =
    ap (λ ns. filter (is_new_to seen) ns) split
    ∙ filter-append (is_new_to seen) (filter (is_in numbers) seen) rest
    ∙ ap (λ ns. ns ++ filter (is_new_to seen) rest) (filter-none (is_new_to seen) (filter (is_in numbers) seen) (λ n m. not_from_true (is_in seen n) (among-in seen n (among-filter (is_in numbers) n seen m).0)))
    ∙ filter-all (is_new_to seen) rest (rest_new numbers seen rest rising split)

-- where what fails was seen, those that pass and weren't seen are all that weren't
unseen-kept : (kept : ℕ → Bool) (numbers seen rest : List ℕ) → Pairwise (λ a b. a < b) numbers → ((n : ℕ) → kept n ≡ false → Among n seen) → numbers ≡ filter (is_in numbers) seen ++ rest → filter (is_new_to seen) (filter kept numbers) ≡ rest
unseen-kept kept numbers seen rest rising gone split =
    filter-swapped kept (is_new_to seen) numbers
    ∙ ap (λ ns. filter kept ns) (unseen-rest numbers seen rest rising split)
    ∙ filter-all kept rest (λ n at. true_from_ne_false (kept n) (λ fails. both_ways (is_in seen n) (not-true (is_in seen n) (rest_new numbers seen rest rising split n at)) (among-in seen n (gone n fails))))

-- Where those that were seen are a prefix of a rising list, what fails was seen, and those that are handed out
-- are a prefix of those that pass, the new ones of these stand at the end of the first prefix.
pub prefix-more : (kept : ℕ → Bool) (numbers seen handed : List ℕ) → Pairwise (λ a b. a < b) numbers → ((n : ℕ) → kept n ≡ false → Among n seen) → IsPrefix (filter (is_in numbers) seen) numbers → IsPrefix (filter (is_in numbers) handed) (filter kept numbers) → IsPrefix (filter (is_in numbers) (seen ++ filter (is_new_to seen) handed)) numbers
prefix-more kept numbers seen handed rising gone old more =
    let new = filter (is_new_to seen) (filter (is_in numbers) handed) in
    let joined : filter (is_in numbers) (seen ++ filter (is_new_to seen) handed) ≡ filter (is_in numbers) seen ++ new = filter-append (is_in numbers) seen (filter (is_new_to seen) handed) ∙ ap (λ ns. filter (is_in numbers) seen ++ ns) (filter-swapped (is_new_to seen) (is_in numbers) handed) in
    let split : old.0 ≡ new ++ filter (is_new_to seen) more.0 = sym (unseen-kept kept numbers seen old.0 rising gone old.1) ∙ ap (λ ns. filter (is_new_to seen) ns) more.1 ∙ filter-append (is_new_to seen) (filter (is_in numbers) handed) more.0 in
    (filter (is_new_to seen) more.0, old.1 ∙ ap (λ ns. filter (is_in numbers) seen ++ ns) split ∙ sym (append_assoc (filter (is_in numbers) seen) new (filter (is_new_to seen) more.0)) ∙ ap (λ ns. ns ++ filter (is_new_to seen) more.0) (sym joined))
