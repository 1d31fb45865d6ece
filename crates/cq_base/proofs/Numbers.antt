-- The accepted sends on an incarnation have sequence numbers in order, from 1 on.
use Rattle.std.proofs.Common.{◌≡◌, ◌+◌, ◌<◌, ◌≤◌, ◌∙◌, ap, sym, List, [], ◌∷◌, ◌++◌, length, true, false, arith, length-append, inl, inr, subst}
use Rattle.std.proofs.lemmas.Bool.{cases_Bool}
use Rattle.cq_base.specs.queue.Outcomes.{Outcome}
use Rattle.cq_base.specs.queue.Messages.{messages, is_accepted}
use Rattle.cq_base.specs.Relations.{Among, Pairwise}
use Rattle.cq_base.proofs.Among.{among-append}
use Rattle.cq_base.proofs.Ends.{filter-passes, filter-fails}
use Rattle.cq_base.proofs.Pairs.{pairwise-push}
use Rattle.cq_base.proofs.OneMoreOutcome.{IsStep}

-- the numbers rise, and none is above the count of the sends
pub record IsNumbered (sends : List Outcome) : Type 0 where
  pub rising : Pairwise (λ x y. x.count < y.count) sends
  pub within : (y : Outcome) → Among y sends → y.count ≤ length sends

-- an accepted send is a message more
pub messages-next : (xs : List Outcome) (f : Outcome) → is_accepted f ≡ true → messages (xs ++ f ∷ []) ≡ messages xs ++ f ∷ []
unfolding messages
messages-next xs f h = filter-passes is_accepted xs f h

-- no other outcome is
pub messages-same : (xs : List Outcome) (f : Outcome) → is_accepted f ≡ false → messages (xs ++ f ∷ []) ≡ messages xs
unfolding messages
messages-same xs f h = filter-fails is_accepted xs f h

-- the numbers of two sends are equal only if they are one
pub same_number : (sends : List Outcome) (x y : Outcome) → Pairwise (λ a b. a.count < b.count) sends → Among x sends → Among y sends → x.count ≡ y.count → x ≡ y
same_number [] x y rising left right e = absurd left
same_number (z ∷ zs) x y rising (inl left) (inl right) e = left ∙ sym right
same_number (z ∷ zs) x y rising (inl left) (inr right) e = let less = rising.0 y right in let own = ap (λ f. f.count) left in absurd (omega arith)
same_number (z ∷ zs) x y rising (inr left) (inl right) e = let less = rising.0 x left in let own = ap (λ f. f.count) right in absurd (omega arith)
same_number (z ∷ zs) x y rising (inr left) (inr right) e = same_number zs x y rising.1 left right e

-- one more send with the next number
pub numbered_push : (sends : List Outcome) (f : Outcome) → f.count ≡ length sends + 1 → IsNumbered sends → IsNumbered (sends ++ f ∷ [])
numbered_push sends f next h = record {
  rising = pairwise-push (λ x y. x.count < y.count) sends f h.rising (λ x m. omega (arith, h.within x m));
  within = λ y m. elim (among-append y sends (f ∷ []) m) [
    | inl old ↦ omega (arith, h.within y old, length-append sends (f ∷ []))
    | inr last ↦ elim last [ inl e ↦ omega (arith, ap (λ x. x.count) e, length-append sends (f ∷ [])) | inr none ↦ absurd none ]
  ];
}

-- they stay numbered with each step
pub numbered-more : (xs : List Outcome) (f : Outcome) → IsStep xs f → IsNumbered (messages xs) → IsNumbered (messages (xs ++ f ∷ []))
numbered-more xs f step h = elim (cases_Bool (is_accepted f)) [
  | inl accepted ↦ subst IsNumbered (sym (messages-next xs f accepted)) (numbered_push (messages xs) f (step.accepts accepted).number h)
  | inr rejected ↦ subst IsNumbered (sym (messages-same xs f rejected)) h
]

-- no sends are numbered
pub numbered-none : IsNumbered (messages [])
unfolding messages
numbered-none = record { rising = tt; within = λ y m. absurd m }
