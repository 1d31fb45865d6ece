-- What one call more makes of the bytes of a device that keeps its calls.
use Rattle.std.proofs.Common.{ap, ◌≡◌, inl, inr, ℕ, zero, suc, ◌+◌, ◌≤◌, Bool, true, false, List, [], ◌∷◌, ◌++◌, length, take, drop, refl, sym, ◌∙◌, subst, arith, length-append, length-take, leb-true, le-leb}
use Rattle.std.specs.Prelude.{replicate, nat_le, bytes_eq, IsTrue, if◌then◌else◌}
use Rattle.std.proofs.lemmas.Bool.{and_parts, and_from}
use Rattle.std.proofs.lemmas.List.{length-replicate}
use Rattle.std.proofs.lemmas.Slice.Eq.{bytes_eq-Decides}
use Rattle.cq_disk.specs.declared.device.TornWrites.{TornWrites}
use Rattle.cq_disk.specs.Device.{Torn, Follows, Only}
use Rattle.cq_disk.specs.Events.{Extends, Event, wrote, write_failed, synced, read, resized, seen_of, all_within, sync_failed, honest, MayLeave}
use Rattle.cq_disk.proofs.Tears.{done, undone, as_long}

pub resized_long : (len : ℕ) (bytes : List ℕ) → length (resized len bytes) ≡ len
resized_long len bytes = omega (arith, length-take len (bytes ++ replicate len 0), length-append bytes (replicate len 0), length-replicate {A = ℕ} len 0)

-- the length of what is seen never changes
pub seen_long : (start : List ℕ) (h : List Event) → all_within (length start) h ≡ true → length (seen_of start h) ≡ length start
seen_long start [] within = refl
seen_long start ((zero, at, bytes) ∷ h) within =
    let parts = and_parts (nat_le (at + length bytes) (length start)) (all_within (length start) h) within in
    let before = seen_long start h parts.1 in
    as_long at bytes (seen_of start h) (omega (arith, before, leb-true (at + length bytes) (length start) parts.0)) ∙ before
seen_long start ((suc zero, at, bytes) ∷ h) within = seen_long start h (and_parts (nat_le (at + length bytes) (length start)) (all_within (length start) h) within).1
seen_long start ((suc (suc k), at, bytes) ∷ h) within = seen_long start h within

pub write_follows : (torn : TornWrites) (beneath : List ℕ → Type 0) (start : List ℕ) (h : List Event) (at : ℕ) (bytes : List ℕ) → at + length bytes ≤ length (seen_of start h)
    → Follows (Torn torn at bytes) (MayLeave torn beneath start h) (MayLeave torn beneath start (wrote at bytes ∷ h))
write_follows torn beneath start h at bytes within c (inl is) = (seen_of start h, inl refl, done torn at bytes (seen_of start h) c within is)
write_follows torn beneath start h at bytes within c (inr left) = left

pub failed_follows : (torn : TornWrites) (beneath : List ℕ → Type 0) (start : List ℕ) (h : List Event) (at : ℕ) (bytes : List ℕ) → at + length bytes ≤ length (seen_of start h)
    → Follows (Torn torn at bytes) (MayLeave torn beneath start h) (MayLeave torn beneath start (write_failed at bytes ∷ h))
failed_follows torn beneath start h at bytes within c (inl is) = (seen_of start h, inl refl, undone torn at bytes (seen_of start h) c within is)
failed_follows torn beneath start h at bytes within c (inr left) = left

-- the first sync that ends well, with none that failed before it
pub sync_leaves : (torn : TornWrites) (beneath : List ℕ → Type 0) (start : List ℕ) (h : List Event) → sync_failed h ≡ false → Only (seen_of start h) (MayLeave torn beneath start (synced ∷ h))
sync_leaves torn beneath start h well c (inl is) = is
sync_leaves torn beneath start h well c (inr reached) = absurd (no reached.0)
  where
    no : IsTrue (sync_failed h) → ⊥
    no broken = grind (arith, well, broken)

pub honest_read : (start : List ℕ) (h : List Event) (at : ℕ) (bytes : List ℕ) → honest start (read at bytes ∷ h) ≡ true → bytes ≡ take (length bytes) (drop at (seen_of start h))
honest_read start h at bytes is =
    let range = take (length bytes) (drop at (seen_of start h)) in
    (bytes_eq-Decides bytes range).0 (and_parts (bytes_eq bytes range) (honest start h) is).0

-- the event of a write that ended well or failed
abbrev pub tried : Bool → ℕ → List ℕ → Event
tried well at bytes = if well then wrote at bytes else write_failed at bytes

pub no_sync : (well : Bool) (at : ℕ) (bytes : List ℕ) (h : List Event) → sync_failed (tried well at bytes ∷ h) ≡ sync_failed h
no_sync true at bytes h = refl
no_sync false at bytes h = refl

pub within_too : (len : ℕ) (well : Bool) (at : ℕ) (bytes : List ℕ) (h : List Event) → at + length bytes ≤ len → all_within len h ≡ true → all_within len (tried well at bytes ∷ h) ≡ true
within_too len true at bytes h fits before = and_from (nat_le (at + length bytes) len) (all_within len h) (le-leb (at + length bytes) len fits) before
within_too len false at bytes h fits before = and_from (nat_le (at + length bytes) len) (all_within len h) (le-leb (at + length bytes) len fits) before

pub tried_follows : (torn : TornWrites) (beneath : List ℕ → Type 0) (start : List ℕ) (h new : List Event) (well : Bool) (at : ℕ) (bytes : List ℕ) → at + length bytes ≤ length (seen_of start h) → new ≡ tried well at bytes ∷ h
    → Follows (Torn torn at bytes) (MayLeave torn beneath start h) (MayLeave torn beneath start new)
tried_follows torn beneath start h new true at bytes within is = subst (λ (l : List Event). Follows (Torn torn at bytes) (MayLeave torn beneath start h) (MayLeave torn beneath start l)) (sym is) (write_follows torn beneath start h at bytes within)
tried_follows torn beneath start h new false at bytes within is = subst (λ (l : List Event). Follows (Torn torn at bytes) (MayLeave torn beneath start h) (MayLeave torn beneath start l)) (sym is) (failed_follows torn beneath start h at bytes within)

pub seen_len : (len : ℕ) (shown : List ℕ) (h : List Event) → all_within len h ≡ true → length (seen_of (resized len shown) h) ≡ len
seen_len len shown h within = let same = resized_long len shown in seen_long (resized len shown) h (subst (λ (n : ℕ). all_within n h ≡ true) (sym same) within) ∙ same

pub one_more : (torn : TornWrites) (len : ℕ) (h new : List Event) (e : Event) → new ≡ e ∷ h → Extends torn torn len len h new
one_more torn len h new e is = record { same_torn = refl; same_len = refl; calls = e ∷ []; is = is }

pub tried_range : (torn : TornWrites) (start : List ℕ) (h new : List Event) (well : Bool) (at : ℕ) (bytes : List ℕ) → at + length bytes ≤ length (seen_of start h) → new ≡ tried well at bytes ∷ h → Torn torn at bytes (seen_of start h) (seen_of start new)
tried_range torn start h new true at bytes within is = done torn at bytes (seen_of start h) (seen_of start new) within (ap (λ (l : List Event). seen_of start l) is)
tried_range torn start h new false at bytes within is = undone torn at bytes (seen_of start h) (seen_of start new) within (ap (λ (l : List Event). seen_of start l) is)
