-- The first bad trace, and traces of which none is bad.
use Rattle.std.proofs.Common.{◌≡◌, ◌≤◌, ◌<◌, ℕ, zero, suc, ◌+◌, ◌∙◌, ap, sym, refl, subst, cond, List, [], ◌∷◌, ◌++◌, length, take, drop, slice_get, append-nil, append_assoc, Bool, true, false, Option, Some, None, nat_lt, arith}
use Rattle.std.specs.List.{list_any}
use Rattle.std.proofs.lemmas.Bool.{ltb-true, ltb-false}
use Rattle.cq_chain.specs.Parties.{same}
use Rattle.cq_trace.specs.Audits.{is_foreign, is_bad, first_bad}
use Rattle.cq_events.specs.declared.trace.Trace.{Trace}
use Rattle.cq_events.proofs.Parties.{same-turned}
use Rattle.std.proofs.lemmas.List.{drop_all, length-take-le}
use Rattle.std.proofs.lemmas.Option.{slice_get_within}
use Rattle.cq_trace.proofs.OfAudit.Lists.{none_some, some_same, or_none, no_any_at, take_at, drop_at, take_at_end}

-- no trace is bad
pub record Good (traces : List Trace) : Type 0 where
  pub apart : (j k : ℕ) (t u : Trace) → slice_get traces j ≡ Some t → slice_get traces k ≡ Some u → (j ≡ k → ⊥) → same t.party u.party ≡ false
  pub own : (k : ℕ) (t : Trace) → slice_get traces k ≡ Some t → is_foreign t.party t.events.items ≡ false

-- the first bad trace, by the trace that comes next
pub bad-first : (before : List Trace) (t : Trace) (ts : List Trace) → first_bad before (t ∷ ts) ≡ cond (is_bad before t) (Some (length before + 1)) (first_bad (before ++ t ∷ []) ts)
unfolding first_bad
bad-first before t ts = refl

-- none is bad where there are no more
pub bad-nothing : (before : List Trace) → first_bad before [] ≡ None
unfolding first_bad
bad-nothing before = refl

-- what is none is no number
not_bad : (b : Bool) (n : ℕ) (o : Option ℕ) → cond b (Some n) o ≡ None → (b ≡ false) × (o ≡ None)
not_bad false n o h = (refl, h)
not_bad true n o h = absurd (none_some (sym h))

-- no trace is bad behind those before it
good_at : (before ts : List Trace) → first_bad before ts ≡ None → (k : ℕ) (u : Trace) → slice_get ts k ≡ Some u → is_bad (before ++ take k ts) u ≡ false
good_at before [] h k u at = absurd (none_some at)
good_at before (t ∷ ts) h zero u at = subst (λ z. is_bad (before ++ []) z ≡ false) (some_same at) (ap (λ us. is_bad us t) (append-nil before) ∙ (not_bad (is_bad before t) (length before + 1) (first_bad (before ++ t ∷ []) ts) (sym (bad-first before t ts) ∙ h)).0)
good_at before (t ∷ ts) h (suc k) u at = ap (λ us. is_bad us u) (sym (append_assoc before (t ∷ []) (take k ts)))
    ∙ good_at (before ++ t ∷ []) ts (not_bad (is_bad before t) (length before + 1) (first_bad (before ++ t ∷ []) ts) (sym (bad-first before t ts) ∙ h)).1 k u at

-- a trace has another party than each one before it
later_apart : (traces : List Trace) → first_bad [] traces ≡ None → (j k : ℕ) (t u : Trace) → slice_get traces j ≡ Some t → slice_get traces k ≡ Some u → j < k → same u.party t.party ≡ false
later_apart traces h j k t u at_j at_k below = no_any_at (λ other. same u.party other.party) (take k traces) j t
    (or_none (list_any (λ other. same u.party other.party) (take k traces)) (is_foreign u.party u.events.items) (good_at [] traces h k u at_k)).0 (take_at k j traces below ∙ at_j)

-- traces of which none is bad are good
pub good : (traces : List Trace) → first_bad [] traces ≡ None → Good traces
good traces h = record {
  apart = λ j k t u at_j at_k differ. go j k t u at_j at_k differ (nat_lt j k) refl;
  own = λ k t at. (or_none (list_any (λ other. same t.party other.party) (take k traces)) (is_foreign t.party t.events.items) (good_at [] traces h k t at)).1;
} where
  go : (j k : ℕ) (t u : Trace) → slice_get traces j ≡ Some t → slice_get traces k ≡ Some u → (j ≡ k → ⊥) → (b : Bool) → nat_lt j k ≡ b → same t.party u.party ≡ false
  go j k t u at_j at_k differ true e = same-turned t.party u.party ∙ later_apart traces h j k t u at_j at_k (ltb-true j k e)
  go j k t u at_j at_k differ false e = later_apart traces h k j u t at_k at_j (omega (arith, ltb-false j k e, differ))

-- the same at a place of the traces
bad_at : (traces : List Trace) (i : ℕ) (t : Trace) → slice_get traces i ≡ Some t → first_bad (take i traces) (drop i traces) ≡ cond (is_bad (take i traces) t) (Some (i + 1)) (first_bad (take (i + 1) traces) (drop (i + 1) traces))
bad_at traces i t at = ap (first_bad (take i traces)) (drop_at traces i t at) ∙ bad-first (take i traces) t (drop (i + 1) traces)
    ∙ ap (λ n. cond (is_bad (take i traces) t) (Some (n + 1)) (first_bad (take i traces ++ t ∷ []) (drop (i + 1) traces))) (length-take-le i traces (omega (arith, slice_get_within traces i t at)))
    ∙ ap (λ us. cond (is_bad (take i traces) t) (Some (i + 1)) (first_bad us (drop (i + 1) traces))) (sym (take_at_end traces i t at))

-- the trace at that place is bad
pub bad-here : (traces : List Trace) (i : ℕ) (t : Trace) → slice_get traces i ≡ Some t → is_bad (take i traces) t ≡ true → first_bad (take i traces) (drop i traces) ≡ Some (i + 1)
bad-here traces i t at is = bad_at traces i t at ∙ ap (λ b. cond b (Some (i + 1)) (first_bad (take (i + 1) traces) (drop (i + 1) traces))) is

-- it isn't
pub bad-next : (traces : List Trace) (i : ℕ) (t : Trace) → slice_get traces i ≡ Some t → is_bad (take i traces) t ≡ false → first_bad (take (i + 1) traces) (drop (i + 1) traces) ≡ first_bad (take i traces) (drop i traces)
bad-next traces i t at is = sym (bad_at traces i t at ∙ ap (λ b. cond b (Some (i + 1)) (first_bad (take (i + 1) traces) (drop (i + 1) traces))) is)

-- there is no such place
pub bad-end : (traces : List Trace) (i : ℕ) → length traces ≤ i → first_bad (take i traces) (drop i traces) ≡ None
bad-end traces i h = ap (first_bad (take i traces)) (drop_all i traces h) ∙ bad-nothing (take i traces)
