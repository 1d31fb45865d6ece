-- The calls of a device with their answers, the newest first, and what they make of its bytes.
use Rattle.std.specs.Prelude.{◌≡◌, ◌⊎◌, ℕ, zero, suc, ◌+◌, ◌≤◌, Bool, true, false, ◌&&◌, List, [], ◌∷◌, ◌++◌, length, take, drop, replicate, bytes_eq, if◌then◌else◌, IsTrue, nat_le}
use Rattle.std.proofs.Common.{arith, ⊎_elim, refl, sym, ◌∙◌, ap, subst, append_assoc, length-append}
use mathlib.Core.Logic.{inl, inr}
use Rattle.cq_disk.specs.declared.device.TornWrites.{TornWrites}
use Rattle.cq_disk.specs.Device.{Torn, Elapses}

-- which call, a place, and bytes
abbrev pub Event : Type 0
Event = ℕ × ℕ × List ℕ

abbrev pub wrote : ℕ → List ℕ → Event
wrote at bytes = (0, at, bytes)

abbrev pub write_failed : ℕ → List ℕ → Event
write_failed at bytes = (1, at, bytes)

abbrev pub synced : Event
synced = (2, 0, [])

abbrev pub sync_failed_event : Event
sync_failed_event = (3, 0, [])

abbrev pub read : ℕ → List ℕ → Event
read at bytes = (4, at, bytes)

abbrev pub read_failed : Event
read_failed = (5, 0, [])

-- the first so many bytes, with zeros behind them where there are fewer
abbrev pub resized : ℕ → List ℕ → List ℕ
resized len bytes = take len (bytes ++ replicate len 0)

-- what reads give: all writes that ended well
abbrev pub seen_of : List ℕ → List Event → List ℕ
seen_of start [] = start
seen_of start ((zero, at, bytes) ∷ h) = take at (seen_of start h) ++ (bytes ++ drop (at + length bytes) (seen_of start h))
seen_of start ((suc k, at, bytes) ∷ h) = seen_of start h

-- each write lay within so many bytes
abbrev pub all_within : ℕ → List Event → Bool
all_within len [] = true
all_within len ((zero, at, bytes) ∷ h) = nat_le (at + length bytes) len && all_within len h
all_within len ((suc zero, at, bytes) ∷ h) = nat_le (at + length bytes) len && all_within len h
all_within len (e ∷ h) = all_within len h

-- some sync failed
abbrev pub sync_failed : List Event → Bool
sync_failed [] = false
sync_failed ((suc (suc (suc zero)), at, bytes) ∷ h) = true
sync_failed (e ∷ h) = sync_failed h

-- each read gave what was seen then
abbrev pub honest : List ℕ → List Event → Bool
honest start [] = true
honest start ((suc (suc (suc (suc zero))), at, bytes) ∷ h) = bytes_eq bytes (take (length bytes) (drop at (seen_of start h))) && honest start h
honest start (e ∷ h) = honest start h

-- How many calls failed. A sync after one that failed counts as one that does.
abbrev pub faults_of : List Event → ℕ
faults_of [] = 0
faults_of ((suc zero, at, bytes) ∷ h) = suc (faults_of h)
faults_of ((suc (suc zero), at, bytes) ∷ h) = if sync_failed h then suc (faults_of h) else faults_of h
faults_of ((suc (suc (suc zero)), at, bytes) ∷ h) = suc (faults_of h)
faults_of ((suc (suc (suc (suc (suc k)))), at, bytes) ∷ h) = suc (faults_of h)
faults_of (e ∷ h) = faults_of h

-- What the writes since the last sync made of what a crash might have left then: the seen bytes of that moment are one of these outcomes.
abbrev pub Reaches : TornWrites → (List ℕ → Type 0) → List ℕ → List Event → List ℕ → Type 0
Reaches torn beneath start [] c = beneath c × (length c ≡ length start)
Reaches torn beneath start ((zero, at, bytes) ∷ h) c = (d : List ℕ) × ((d ≡ seen_of start h) ⊎ Reaches torn beneath start h d) × Torn torn at bytes d c
Reaches torn beneath start ((suc zero, at, bytes) ∷ h) c = (d : List ℕ) × ((d ≡ seen_of start h) ⊎ Reaches torn beneath start h d) × Torn torn at bytes d c
Reaches torn beneath start ((suc (suc zero), at, bytes) ∷ h) c = IsTrue (sync_failed h) × Reaches torn beneath start h c
Reaches torn beneath start ((suc (suc (suc k)), at, bytes) ∷ h) c = Reaches torn beneath start h c

-- what a crash may leave
abbrev pub MayLeave : TornWrites → (List ℕ → Type 0) → List ℕ → List Event → List ℕ → Type 0
MayLeave torn beneath start h c = (c ≡ seen_of start h) ⊎ Reaches torn beneath start h c

-- what it might have left since t
abbrev pub Since : TornWrites → (List ℕ → Type 0) → List ℕ → List Event → ℕ → List ℕ → Type 0
Since torn beneath start [] t c = MayLeave torn beneath start [] c
Since torn beneath start (e ∷ h) t c = MayLeave torn beneath start (e ∷ h) c ⊎ ((t ≤ length h) × Since torn beneath start h t c)

pub since_now : (torn : TornWrites) (beneath : List ℕ → Type 0) (start : List ℕ) (h : List Event) (t : ℕ) (c : List ℕ) → MayLeave torn beneath start h c → Since torn beneath start h t c
since_now torn beneath start [] t c may = may
since_now torn beneath start (e ∷ h) t c may = inl may

pub only_since : (torn : TornWrites) (beneath : List ℕ → Type 0) (start : List ℕ) (h : List Event) (c : List ℕ) → Since torn beneath start h (length h) c → MayLeave torn beneath start h c
only_since torn beneath start [] c left = left
only_since torn beneath start (e ∷ h) c (inl now) = now
only_since torn beneath start (e ∷ h) c (inr early) = absurd (omega (arith, early.0))

pub elapses_event : (torn : TornWrites) (beneath : List ℕ → Type 0) (start : List ℕ) (e : Event) (h : List Event)
    → Elapses (length h) (length (e ∷ h)) (Since torn beneath start h) (Since torn beneath start (e ∷ h)) (MayLeave torn beneath start (e ∷ h))
elapses_event torn beneath start e h = record {
  later = omega arith;
  nothing_else = λ t c le left. ⊎_elim (λ now. inr now) (λ early. inl early.1) left;
  keeps = λ t c le past. inr (le, past);
}

-- the later calls are the earlier ones with some more
pub record Extends (torn new_torn : TornWrites) (len new_len : ℕ) (h new : List Event) : Type 0 where
  pub same_torn : new_torn ≡ torn
  pub same_len : new_len ≡ len
  pub calls : List Event
  pub is : new ≡ calls ++ h

pub extends_none : (torn : TornWrites) (len : ℕ) (h : List Event) → Extends torn torn len len h h
extends_none torn len h = record { same_torn = refl; same_len = refl; calls = []; is = refl }

pub extends_both : (torn1 torn2 torn3 : TornWrites) (len1 len2 len3 : ℕ) (a b c : List Event) → Extends torn1 torn2 len1 len2 a b → Extends torn2 torn3 len2 len3 b c → Extends torn1 torn3 len1 len3 a c
extends_both torn1 torn2 torn3 len1 len2 len3 a b c p q = record {
  same_torn = q.same_torn ∙ p.same_torn;
  same_len = q.same_len ∙ p.same_len;
  calls = q.calls ++ p.calls;
  is = q.is ∙ ap (λ (l : List Event). q.calls ++ l) p.is ∙ sym (append_assoc q.calls p.calls a);
}

split_calls : (torn : TornWrites) (beneath : List ℕ → Type 0) (start : List ℕ) (calls h : List Event) (t : ℕ) (c : List ℕ) → Since torn beneath start (calls ++ h) t c → Since torn beneath start h t c ⊎ Since torn beneath start (calls ++ h) (length h) c
split_calls torn beneath start [] h t c left = inl left
split_calls torn beneath start (e ∷ calls) h t c (inl now) = inr (inl now)
split_calls torn beneath start (e ∷ calls) h t c (inr early) = ⊎_elim (λ before. inl before) (λ since. inr (inr (omega (arith, length-append calls h), since))) (split_calls torn beneath start calls h t c early.1)

pub extends_splits : (beneath : List ℕ → Type 0) (shown : List ℕ) (torn new_torn : TornWrites) (len new_len : ℕ) (h new : List Event) → Extends torn new_torn len new_len h new → (t : ℕ) (c : List ℕ) → t ≤ length h
    → Since new_torn beneath (resized new_len shown) new t c → Since torn beneath (resized len shown) h t c ⊎ Since new_torn beneath (resized new_len shown) new (length h) c
extends_splits beneath shown torn new_torn len new_len h new e t c le =
    let Splits : TornWrites → ℕ → List Event → Type 0 = λ w n l. Since w beneath (resized n shown) l t c → Since torn beneath (resized len shown) h t c ⊎ Since w beneath (resized n shown) l (length h) c in
    let here : Splits torn len (e.calls ++ h) = split_calls torn beneath (resized len shown) e.calls h t c in
    subst (λ w. Splits w new_len new) (sym e.same_torn) (subst (λ n. Splits torn n new) (sym e.same_len) (subst (λ l. Splits torn len l) (sym e.is) here))
