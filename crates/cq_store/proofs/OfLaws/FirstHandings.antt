-- Messages of a group are first handed out in order of sending.
use Rattle.std.proofs.Common.{◌≡◌, ℕ, ◌<◌, ◌≤◌, ◌∙◌, ◌⊎◌, ap, sym, List, [], ◌∷◌, ◌++◌, length, map, true, false, eqb, append-nil, length-append, arith, inl, inr, subst, refl}
use Rattle.std.specs.List.{filter}
use Rattle.std.proofs.lemmas.Bool.{cases_Bool, ne_eqb, not_from_true, not_from_false, not-false, false≢true}
use Rattle.std.proofs.lemmas.List.{map-append}
use Rattle.std.proofs.lemmas.List.Sums.{fold_push}
use Rattle.cq_base.specs.queue.Outcomes.{Outcome}
use Rattle.cq_base.specs.queue.Messages.{messages, is_accepted, hands, hands_it, is_deleted, deletes_it}
use Rattle.cq_store.specs.Laws.{is_in, is_new_to, with_handed, first_handings, is_of_group, numbers_of, IsHandedInOrder, FirstHandingsInOrder}
use Rattle.cq_base.specs.Relations.{Among, Pairwise, IsPrefix}
use Rattle.cq_base.proofs.Among.{among-append, among-filter, among-kept, among-left, among-right}
use Rattle.cq_base.proofs.Deletes.{WasHanded}
use Rattle.cq_base.proofs.Lists.{by_last}
use Rattle.cq_base.proofs.Ends.{filter-passes, filter-fails, any-fails}
use Rattle.cq_base.proofs.Filters.{filter-agrees}
use Rattle.cq_store.proofs.OfLaws.Flights.{handed-among}
use Rattle.cq_store.proofs.OfLaws.Prefixes.{prefix-longer, prefix-more, in-among}
use Rattle.cq_store.proofs.OfLaws.Groups.{is_left, handed-prefix}
use Rattle.cq_base.proofs.Numbers.{IsNumbered, messages-next, messages-same, numbered-none, numbered-more}
use Rattle.cq_base.proofs.Pairs.{pairwise-filter, pairwise-map}
use Rattle.cq_base.proofs.OneMoreOutcome.{IsNext, IsStep}
use Rattle.cq_store.proofs.OfLaws.Incarnations.{by_step}

-- one more outcome adds what it hands out for the first time
first-more : (xs : List Outcome) (f : Outcome) → first_handings (xs ++ f ∷ []) ≡ with_handed (first_handings xs) f
unfolding first_handings
first-more xs f = fold_push with_handed [] xs f

-- where nothing is handed out, the first handings stay
first-same : (xs : List Outcome) (f : Outcome) → f.handed ≡ [] → first_handings (xs ++ f ∷ []) ≡ first_handings xs
first-same xs f h = first-more xs f ∙ ap (λ ns. first_handings xs ++ filter (is_new_to (first_handings xs)) ns) h ∙ append-nil (first_handings xs)

-- an accepted send of the group is one more of its numbers
numbers-own : (group : List ℕ) (xs : List Outcome) (f : Outcome) → is_accepted f ≡ true → is_of_group group f ≡ true → numbers_of group (xs ++ f ∷ []) ≡ numbers_of group xs ++ f.count ∷ []
numbers-own group xs f accepted own = ap (λ fs. map (λ x. x.count) (filter (is_of_group group) fs)) (messages-next xs f accepted) ∙ ap (λ fs. map (λ x. x.count) fs) (filter-passes (is_of_group group) (messages xs) f own) ∙ map-append (λ x. x.count) (filter (is_of_group group) (messages xs)) (f ∷ [])

-- one of another group adds nothing to them
numbers-other : (group : List ℕ) (xs : List Outcome) (f : Outcome) → is_accepted f ≡ true → is_of_group group f ≡ false → numbers_of group (xs ++ f ∷ []) ≡ numbers_of group xs
numbers-other group xs f accepted other = ap (λ fs. map (λ x. x.count) (filter (is_of_group group) fs)) (messages-next xs f accepted) ∙ ap (λ fs. map (λ x. x.count) fs) (filter-fails (is_of_group group) (messages xs) f other)

-- and neither does an outcome that is no accepted send
numbers-same : (group : List ℕ) (xs : List Outcome) (f : Outcome) → is_accepted f ≡ false → numbers_of group (xs ++ f ∷ []) ≡ numbers_of group xs
numbers-same group xs f rejected = ap (λ fs. map (λ x. x.count) (filter (is_of_group group) fs)) (messages-same xs f rejected)

-- the numbers of a group rise
numbers-rise : (group : List ℕ) (xs : List Outcome) → IsNumbered (messages xs) → Pairwise (λ a b. a < b) (numbers_of group xs)
numbers-rise group xs numbered = pairwise-map (λ a b. a < b) (λ f. f.count) (filter (is_of_group group) (messages xs)) (pairwise-filter (λ x y. x.count < y.count) (is_of_group group) (messages xs) numbered.rising)

-- no message was handed out by no outcomes
first_none : (sequence : ℕ) → WasHanded sequence [] → Among sequence (first_handings [])
unfolding hands
first_none sequence handed = absurd (handed refl)

-- a message that was handed out is among the first handings, with one more outcome
first_more : (sequence : ℕ) (xs : List Outcome) (f : Outcome) → (WasHanded sequence xs → Among sequence (first_handings xs)) → WasHanded sequence (xs ++ f ∷ []) → Among sequence (first_handings (xs ++ f ∷ []))
unfolding hands
first_more sequence xs f h handed = let seen = first_handings xs in
    subst (λ ns. Among sequence ns) (sym (first-more xs f)) (elim (cases_Bool (is_in seen sequence)) [
      | inl old ↦ among-left sequence seen (filter (is_new_to seen) f.handed) (in-among seen sequence old)
      | inr new ↦ elim (cases_Bool (hands_it sequence f)) [
        | inl own ↦ among-right sequence seen (filter (is_new_to seen) f.handed) (among-kept (is_new_to seen) sequence f.handed (not_from_false (is_in seen sequence) new) (in-among f.handed sequence own))
        | inr other ↦ among-left sequence seen (filter (is_new_to seen) f.handed) (h (λ none. handed (ap (λ fs. length fs) (filter-fails (hands_it sequence) xs f other) ∙ none)))
      ]
    ])

-- a message that was handed out is among the first handings
handed-first : (sequence : ℕ) (xs : List Outcome) → WasHanded sequence xs → Among sequence (first_handings xs)
handed-first sequence xs = by_last (λ ys. WasHanded sequence ys → Among sequence (first_handings ys)) (first_none sequence) (first_more sequence) xs

-- What stays with each step: the sends are numbered, what was handed out was sent, what was deleted was
-- handed out, and of the group what was handed out is a prefix of what was sent.
record IsOrdered (group : List ℕ) (xs : List Outcome) : Type 0 where
  numbered : IsNumbered (messages xs)
  known : (n : ℕ) → Among n (first_handings xs) → n ≤ length (messages xs)
  gone : (n : ℕ) → is_left xs n ≡ false → Among n (first_handings xs)
  prefix : IsHandedInOrder group xs

-- what is deleted with one more outcome was so before, or is by this
deleted-more : (n : ℕ) (xs : List Outcome) (f : Outcome) → is_deleted n (xs ++ f ∷ []) ≡ true → (is_deleted n xs ≡ true) ⊎ (deletes_it n f ≡ true)
unfolding is_deleted
deleted-more n xs f h = elim (cases_Bool (deletes_it n f)) [ inl own ↦ inr own | inr other ↦ inl (sym (any-fails (deletes_it n) xs f other) ∙ h) ]

-- the first handings are among those with one more outcome
first-among : (n : ℕ) (xs : List Outcome) (f : Outcome) → Among n (first_handings xs) → Among n (first_handings (xs ++ f ∷ []))
first-among n xs f at = subst (λ ns. Among n ns) (sym (first-more xs f)) (among-left n (first_handings xs) (filter (is_new_to (first_handings xs)) f.handed) at)

-- what was deleted was handed out, with one more outcome
gone-more : (xs : List Outcome) (f : Outcome) → IsStep xs f → ((n : ℕ) → is_left xs n ≡ false → Among n (first_handings xs)) → (n : ℕ) → is_left (xs ++ f ∷ []) n ≡ false → Among n (first_handings (xs ++ f ∷ []))
gone-more xs f step h n fails = elim (deleted-more n xs f (not-false (is_deleted n (xs ++ f ∷ [])) fails)) [
  | inl old ↦ first-among n xs f (h n (not_from_true (is_deleted n xs) old))
  | inr own ↦ first-among n xs f (handed-first n xs (step.deletes n own))
]

-- a new number at the end of those of the group wasn't handed out
prefix-next : (numbers seen : List ℕ) (n : ℕ) → ((m : ℕ) → Among m seen → m < n) → IsPrefix (filter (is_in numbers) seen) numbers → IsPrefix (filter (is_in (numbers ++ n ∷ [])) seen) (numbers ++ n ∷ [])
prefix-next numbers seen n below h = subst (λ ns. IsPrefix ns (numbers ++ n ∷ []))
    (sym (filter-agrees (is_in (numbers ++ n ∷ [])) (is_in numbers) seen (λ m at. let less = below m at in any-fails (λ k. eqb k m) numbers n (ne_eqb n m (λ e. omega arith)))))
    (prefix-longer (filter (is_in numbers) seen) numbers (n ∷ []) h)

-- the order, by what the first handings and the numbers are
in_order : (group : List ℕ) (xs : List Outcome) (seen numbers : List ℕ) → first_handings xs ≡ seen → numbers_of group xs ≡ numbers → IsPrefix (filter (is_in numbers) seen) numbers → IsHandedInOrder group xs
in_order group xs seen numbers handed sent h = rw (handed, sent) h

-- the order stays with an accepted send
accepted_prefix : (group : List ℕ) (xs : List Outcome) (f : Outcome) → is_accepted f ≡ true → IsNext xs f → IsOrdered group xs → IsHandedInOrder group (xs ++ f ∷ [])
accepted_prefix group xs f accepted next h = elim (cases_Bool (is_of_group group f)) [
  | inl own ↦ in_order group (xs ++ f ∷ []) (first_handings xs) (numbers_of group xs ++ f.count ∷ []) (first-same xs f next.handed) (numbers-own group xs f accepted own) (prefix-next (numbers_of group xs) (first_handings xs) f.count (λ m at. omega (arith, h.known m at, next.number)) h.prefix)
  | inr other ↦ in_order group (xs ++ f ∷ []) (first_handings xs) (numbers_of group xs) (first-same xs f next.handed) (numbers-other group xs f accepted other) h.prefix
]

-- all stays with an accepted send
ordered-accepted : (group : List ℕ) (xs : List Outcome) (f : Outcome) → is_accepted f ≡ true → IsStep xs f → IsOrdered group xs → IsOrdered group (xs ++ f ∷ [])
ordered-accepted group xs f accepted step h = record {
  numbered = numbered-more xs f step h.numbered;
  gone = gone-more xs f step h.gone;
  known = λ n at. omega (arith, h.known n (subst (λ ns. Among n ns) (first-same xs f (step.accepts accepted).handed) at), ap (λ fs. length fs) (messages-next xs f accepted), length-append (messages xs) (f ∷ []));
  prefix = accepted_prefix group xs f accepted (step.accepts accepted) h;
}

-- what an outcome hands out was sent
known-handed : (xs : List Outcome) (f : Outcome) (n : ℕ) → IsStep xs f → IsNumbered (messages xs) → Among n f.handed → n ≤ length (messages xs)
known-handed xs f n step numbered at = let found = handed-among step.visibility xs f n step.hands at in
    let own = numbered.within found.0 found.1.sent in
    let same = found.1.number in omega arith

-- and so was what was handed out with it
known-more : (group : List ℕ) (xs : List Outcome) (f : Outcome) (n : ℕ) → IsStep xs f → IsOrdered group xs → Among n (first_handings (xs ++ f ∷ [])) → n ≤ length (messages xs)
known-more group xs f n step h at = elim (among-append n (first_handings xs) (filter (is_new_to (first_handings xs)) f.handed) (subst (λ ns. Among n ns) (first-more xs f) at)) [
  | inl old ↦ h.known n old
  | inr new ↦ known-handed xs f n step h.numbered (among-filter (is_new_to (first_handings xs)) n f.handed new).0
]

-- all stays with any other outcome
ordered-handed : (group : List ℕ) (xs : List Outcome) (f : Outcome) → is_accepted f ≡ false → IsStep xs f → IsOrdered group xs → IsOrdered group (xs ++ f ∷ [])
ordered-handed group xs f rejected step h = record {
  numbered = numbered-more xs f step h.numbered;
  gone = gone-more xs f step h.gone;
  known = λ n at. subst (λ fs. n ≤ length fs) (sym (messages-same xs f rejected)) (known-more group xs f n step h at);
  prefix = in_order group (xs ++ f ∷ []) (with_handed (first_handings xs) f) (numbers_of group xs) (first-more xs f) (numbers-same group xs f rejected)
      (prefix-more (is_left xs) (numbers_of group xs) (first_handings xs) f.handed (numbers-rise group xs h.numbered) h.gone h.prefix (handed-prefix group step.visibility xs f h.numbered step.hands));
}

-- all stays with each step
ordered-more : (group : List ℕ) (xs : List Outcome) (f : Outcome) → IsStep xs f → IsOrdered group xs → IsOrdered group (xs ++ f ∷ [])
ordered-more group xs f step h = elim (cases_Bool (is_accepted f)) [ inl accepted ↦ ordered-accepted group xs f accepted step h | inr rejected ↦ ordered-handed group xs f rejected step h ]

-- all holds of no outcomes
ordered-none : (group : List ℕ) → IsOrdered group []
unfolding messages first_handings is_deleted
ordered-none group = record { numbered = numbered-none; known = λ n at. absurd at; gone = λ n fails. absurd (false≢true (sym fails)); prefix = ([], refl) }

-- on each incarnation, first handings of a group are in order of sending
pub first_in_order : FirstHandingsInOrder
first_in_order entries queue n group = (by_step queue n (IsOrdered group) (ordered-none group) (ordered-more group) entries).prefix
