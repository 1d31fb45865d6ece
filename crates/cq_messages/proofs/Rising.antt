-- Messages in order of their sequence numbers.
use Rattle.std.proofs.Common.{◌≡◌, ℕ, ◌<◌, ◌≤◌, ◌∙◌, ap, sym, subst, List, [], ◌∷◌, length, get_or, Bool, true, false, cond, Option, Some, None, inl, inr, arith, suc, zero}
use Rattle.std.specs.List.{filter}
use Rattle.cq_base.specs.queue.Messages.{Message}
use Rattle.cq_base.specs.Relations.{Among}
use Rattle.cq_messages.specs.declared.slot.Slot.{Slot}
use Rattle.cq_messages.specs.Ordered.{IsRising}
use Rattle.cq_messages.specs.Slots.{live, kept_before, IsOwn, IsAscending, gone}

pub rising-lower : (a b : ℕ) (ms : List Message) → a ≤ b → IsRising b ms → IsRising a ms
rising-lower a b [] l h = tt
rising-lower a b (m ∷ ms) l h = (let above = h.0 in omega arith, h.1)

rising_chosen : (b : ℕ) (m : Message) (ms : List Message) (c : Bool) → b < m.sequence → IsRising m.sequence ms → IsRising b (cond c (m ∷ ms) ms)
rising_chosen b m ms true l h = (l, h)
rising_chosen b m ms false l h = rising-lower b m.sequence ms (omega arith) h

pub rising-filter : (p : Message → Bool) (b : ℕ) (ms : List Message) → IsRising b ms → IsRising b (filter p ms)
rising-filter p b [] h = tt
rising-filter p b (m ∷ ms) h = rising_chosen b m (filter p ms) (p m) h.0 (rising-filter p m.sequence ms h.1)

pub rising-above : (b : ℕ) (ms : List Message) (m : Message) → IsRising b ms → Among m ms → b < m.sequence
rising-above b [] m h a = absurd a
rising-above b (x ∷ ms) m h (inl e) = subst (λ y. b < y.sequence) (sym e) h.0
rising-above b (x ∷ ms) m h (inr a) = let r = rising-above x.sequence ms m h.1 a in let l = h.0 in omega arith

live_rising : (b : ℕ) (s : Slot) (ss : List Slot) (o : Option Message) → b < s.sequence → IsOwn s.sequence o → IsRising s.sequence (live ss) → IsRising b (kept_before o (live ss))
live_rising b s ss None l own h = rising-lower b s.sequence (live ss) (omega arith) h
live_rising b s ss (Some m) l own h = (subst (λ n. b < n) (sym own) l, subst (λ n. IsRising n (live ss)) (sym own) h)

pub live-rising : (b : ℕ) (ss : List Slot) → IsAscending b ss → IsRising b (live ss)
live-rising b [] h = tt
live-rising b (s ∷ ss) h = live_rising b s ss s.message h.0 h.1.0 (live-rising s.sequence ss h.1.1)

kept_among : (m : Message) (o : Option Message) (ms : List Message) → o ≡ Some m → Among m (kept_before o ms)
kept_among m None ms e = absurd cc
kept_among m (Some x) ms e = inl (cc)

kept_more : (m : Message) (o : Option Message) (ms : List Message) → Among m ms → Among m (kept_before o ms)
kept_more m None ms a = a
kept_more m (Some x) ms a = inr a

pub live-among : (ss : List Slot) (k : ℕ) (m : Message) → k < length ss → (get_or ss k gone).message ≡ Some m → Among m (live ss)
live-among [] k m l e = absurd (omega arith)
live-among (s ∷ ss) zero m l e = kept_among m s.message (live ss) e
live-among (s ∷ ss) (suc k) m l e = kept_more m s.message (live ss) (live-among ss k m (omega arith) e)

pub own-number : (b : ℕ) (ss : List Slot) (k : ℕ) (m : Message) → IsAscending b ss → k < length ss → (get_or ss k gone).message ≡ Some m → m.sequence ≡ (get_or ss k gone).sequence
own-number b [] k m h l e = absurd (omega arith)
own-number b (s ∷ ss) zero m h l e = own s.message e h.1.0
  where
    own : (o : Option Message) → o ≡ Some m → IsOwn s.sequence o → m.sequence ≡ s.sequence
    own None e' i = absurd cc
    own (Some x) e' i = ap (λ y. y.sequence) (let same : x ≡ m = cc in sym same) ∙ i
own-number b (s ∷ ss) (suc k) m h l e = own-number s.sequence ss k m h.1.1 (omega arith) e
