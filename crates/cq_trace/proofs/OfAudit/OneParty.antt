-- Which events of a list are one party's.
use Rattle.std.proofs.Common.{◌≡◌, ◌∙◌, ap, sym, refl, subst, cond, List, [], ◌∷◌, ◌++◌, Bool, true, false, not}
use Rattle.std.proofs.lemmas.Bool.{false≢true}
use Rattle.cq_base.specs.declared.party.Party.{Party}
use Rattle.cq_chain.specs.Parties.{same}
use Rattle.cq_trace.specs.Audits.{is_foreign}
use Rattle.cq_events.specs.Owners.{party_of}
use Rattle.cq_events.specs.Orders.{of_party}
use Rattle.cq_events.specs.declared.event.Event.{Event}
use Rattle.cq_events.proofs.Parties.{same-true}
use Rattle.cq_trace.proofs.OfAudit.Lists.{or_none}

-- of two lists joined
pub of_append : (p : Party) (xs ys : List Event) → of_party p (xs ++ ys) ≡ of_party p xs ++ of_party p ys
of_append p [] ys = refl
of_append p (x ∷ xs) ys = go (same p (party_of x)) (of_append p xs ys) where
  go : (t : Bool) → of_party p (xs ++ ys) ≡ of_party p xs ++ of_party p ys → cond t (x ∷ of_party p (xs ++ ys)) (of_party p (xs ++ ys)) ≡ cond t (x ∷ of_party p xs) (of_party p xs) ++ of_party p ys
  go true h = ap (λ us. x ∷ us) h
  go false h = h

-- what isn't not so is so
not_false : (b : Bool) → not b ≡ false → b ≡ true
not_false true h = refl
not_false false h = absurd (false≢true (sym h))

-- of its own events, and of those of another
pub of_own : (p : Party) (xs : List Event) → is_foreign p xs ≡ false → of_party p xs ≡ xs
of_own p [] h = refl
of_own p (x ∷ xs) h = let both = or_none (not (same p (party_of x))) (is_foreign p xs) h in
    ap (λ t. cond t (x ∷ of_party p xs) (of_party p xs)) (not_false (same p (party_of x)) both.0) ∙ ap (λ us. x ∷ us) (of_own p xs both.1)

-- and of those of another
pub of_other : (p q : Party) (xs : List Event) → is_foreign q xs ≡ false → same p q ≡ false → of_party p xs ≡ []
of_other p q [] h apart = refl
of_other p q (x ∷ xs) h apart = let both = or_none (not (same q (party_of x))) (is_foreign q xs) h in
    ap (λ t. cond t (x ∷ of_party p xs) (of_party p xs)) (subst (λ r. same p r ≡ false) (same-true q (party_of x) (not_false (same q (party_of x)) both.0)) apart) ∙ of_other p q xs both.1 apart
