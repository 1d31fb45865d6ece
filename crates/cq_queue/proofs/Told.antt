-- What is known of all that happens to an incarnation.
use Rattle.std.proofs.Common.{◌≡◌, ℕ, ◌+◌, ◌<◌, ◌≤◌, ◌∙◌, ◌||◌, ap, sym, List, [], ◌∷◌, ◌++◌, length, false, eqb, inl, inr, arith, refl, length-append}
use Rattle.std.specs.Prelude.{nat_le}
use Rattle.std.specs.List.{list_any}
use Rattle.std.proofs.lemmas.Bool.{cases_Bool}
use Rattle.std.proofs.lemmas.Bool.Decides.{nat_tests}
use Rattle.std.proofs.lemmas.List.Folds.{list_any-append}
use Rattle.cq_base.specs.declared.ask.Entry.{Entry}
use Rattle.cq_base.specs.queue.Asks.{Attributes}
use Rattle.cq_base.specs.queue.Outcomes.{Outcome}
use Rattle.cq_base.specs.queue.Incarnations.{coming, lifetime}
use Rattle.cq_base.specs.queue.Messages.{messages, is_accepted, is_numbered, is_sent, hands, hands_it, changes_it, touches, touches_it, deletes_it, is_deleted}
use Rattle.cq_base.proofs.Ends.{filter-fails, any-fails}
use Rattle.cq_base.proofs.Numbers.{IsNumbered, messages-next, messages-same, numbered-more, numbered-none}
use Rattle.cq_base.proofs.OneMoreOutcome.{IsStep, hands-on, step-on}
use Rattle.cq_queue.proofs.Lifetimes.{by_lifetime}
use Rattle.cq_queue.proofs.Spoken.{none-handed, changes-on}

-- no entry hands out, changes or deletes a message of that number
pub record IsNew (n : ℕ) (xs : List Outcome) : Type 0 where
  pub handed : hands n xs ≡ []
  pub touched : touches n xs ≡ []
  pub deleted : is_deleted n xs ≡ false

-- The accepted sends are numbered from 1 on, and the entries speak of no other numbers.
pub record IsTold (xs : List Outcome) : Type 0 where
  pub numbered : IsNumbered (messages xs)
  pub sent : (n : ℕ) → 0 < n → is_sent n xs ≡ nat_le n (length (messages xs))
  pub new : (n : ℕ) → length (messages xs) < n → IsNew n xs

-- with one more entry that doesn't speak of it, a number is still new
new_more : (n : ℕ) (xs : List Outcome) (f : Outcome) → hands_it n f ≡ false → changes_it n f ≡ false → deletes_it n f ≡ false → IsNew n xs → IsNew n (xs ++ f ∷ [])
unfolding hands touches is_deleted
new_more n xs f hands changes deletes h =
    let quiet : touches_it n f ≡ false = rw hands changes in
    record { handed = filter-fails (hands_it n) xs f hands ∙ h.handed; touched = filter-fails (touches_it n) xs f quiet ∙ h.touched; deleted = any-fails (deletes_it n) xs f deletes ∙ h.deleted }

-- a message more is sent
sent_next : (n l : ℕ) → (nat_le n l || (eqb (l + 1) n || false)) ≡ nat_le n (l + 1)
sent_next n l = grind (arith, nat_tests)

-- the messages' numbers go on with each entry
sent_more : (xs : List Outcome) (f : Outcome) → IsStep xs f → (n : ℕ) → is_sent n xs ≡ nat_le n (length (messages xs)) → is_sent n (xs ++ f ∷ []) ≡ nat_le n (length (messages (xs ++ f ∷ [])))
unfolding is_sent
sent_more xs f step n h = elim (cases_Bool (is_accepted f)) [
  | inl accepted ↦
      let number : f.count ≡ length (messages xs) + 1 = (step.accepts accepted).number in
      let more : length (messages (xs ++ f ∷ [])) ≡ length (messages xs) + 1 = ap length (messages-next xs f accepted) ∙ length-append (messages xs) (f ∷ []) in
      ap (list_any (is_numbered n)) (messages-next xs f accepted) ∙ list_any-append (is_numbered n) (messages xs) (f ∷ []) ∙ ap (λ b. b || (eqb f.count n || false)) h ∙ ap (λ k. nat_le n (length (messages xs)) || (eqb k n || false)) number ∙ sent_next n (length (messages xs)) ∙ ap (nat_le n) (sym more)
  | inr rejected ↦ ap (list_any (is_numbered n)) (messages-same xs f rejected) ∙ h ∙ ap (λ ms. nat_le n (length ms)) (sym (messages-same xs f rejected))
]

-- there are no fewer messages with one more entry
length_messages : (xs : List Outcome) (f : Outcome) → length (messages xs) ≤ length (messages (xs ++ f ∷ []))
length_messages xs f = elim (cases_Bool (is_accepted f)) [
  | inl accepted ↦ let more : length (messages (xs ++ f ∷ [])) ≡ length (messages xs) + 1 = ap length (messages-next xs f accepted) ∙ length-append (messages xs) (f ∷ []) in omega arith
  | inr rejected ↦ let same : length (messages (xs ++ f ∷ [])) ≡ length (messages xs) = ap length (messages-same xs f rejected) in omega arith
]

-- what was never handed out isn't deleted
not_deleted : (n : ℕ) (xs : List Outcome) (f : Outcome) → IsStep xs f → hands n xs ≡ [] → deletes_it n f ≡ false
not_deleted n xs f step none = elim (cases_Bool (deletes_it n f)) [ inl deletes ↦ absurd (step.deletes n deletes (ap length none)) | inr keeps ↦ keeps ]

-- no entries
told_none : IsTold []
unfolding messages is_sent hands touches is_deleted
told_none = record {
  numbered = numbered-none;
  sent = λ n positive. let none : nat_le n 0 ≡ false = grind (arith, nat_tests) in sym none;
  new = λ n above. record { handed = refl; touched = refl; deleted = refl };
}

-- one more entry
told_more : (incarnation : ℕ) (own : Attributes) (xs : List Outcome) (e : Entry) → IsTold xs → IsTold (xs ++ coming incarnation own xs e ∷ [])
told_more incarnation own xs e h =
    let f = coming incarnation own xs e in
    let step = step-on incarnation own xs e.moment e.request.client e.request.number e.request.ask in
    record {
      numbered = numbered-more xs f step h.numbered;
      sent = λ n positive. sent_more xs f step n (h.sent n positive);
      new = λ n above.
          let fewer = length_messages xs f in
          let above_all : length (messages xs) < n = omega arith in
          let new = h.new n above_all in
          new_more n xs f
          (none-handed n own.visibility xs f h.numbered above_all (hands-on incarnation own xs e.moment e.request.client e.request.number e.request.ask))
          (changes-on n incarnation own xs e.moment e.request.client e.request.number e.request.ask h.numbered above_all)
          (not_deleted n xs f step new.handed) new;
    }

-- all that happens to an incarnation is so
pub told-lifetime : (incarnation : ℕ) (own : Attributes) (entries : List Entry) → IsTold (lifetime incarnation own entries)
told-lifetime incarnation own entries = by_lifetime IsTold incarnation own told_none (told_more incarnation own) entries
