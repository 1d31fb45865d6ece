-- Bytes that are written over themselves.
use Rattle.std.proofs.Common.{◌≡◌, ⊎_elim, ℕ, ◌+◌, ◌≤◌, List, [], ◌∷◌, ◌++◌, length, take, drop, refl, sym, ◌∙◌, ap, subst, arith, length-take, length-drop, take-append-drop, drop-drop}
use Rattle.std.specs.Prelude.{◌⊎◌, Option, Some, None, IfSome, MatchOption}
use Rattle.cq_disk.specs.declared.device.TornWrites.TheVariants.{OldOrNew}
use Rattle.cq_disk.specs.Device.{EachOldOrNew, Only, Torn}
use Rattle.cq_disk.specs.Region.{part}
use Rattle.cq_journal.specs.declared.opening.Found.{Found}
use Rattle.cq_journal.specs.within.Refreshed.{IsRefreshed}

same_bytes : (os cs : List ℕ) → EachOldOrNew os os cs → cs ≡ os
same_bytes [] [] each = refl
same_bytes [] (c ∷ cs) each = absurd each
same_bytes (o ∷ os) [] each = absurd each
same_bytes (o ∷ os) (c ∷ cs) each = λ i. (⊎_elim (λ old. old) (λ new. new) each.0) i ∷ (same_bytes os cs each.1) i

apart : (at len : ℕ) (bytes : List ℕ) → bytes ≡ take at bytes ++ (part at len bytes ++ drop (at + len) bytes)
apart at len bytes =
    sym (take-append-drop at bytes) ∙ ap (λ (xs : List ℕ). take at bytes ++ xs) (sym (take-append-drop len (drop at bytes)) ∙ ap (λ (xs : List ℕ). part at len bytes ++ xs) (drop-drop len at bytes))

pub part_long : (at len : ℕ) (bytes : List ℕ) → at + len ≤ length bytes → length (part at len bytes) ≡ len
part_long at len bytes within = omega (arith, length-take len (drop at bytes), length-drop at bytes, within)

-- whatever became of such a write, the bytes are the same
pub torn_same : (at len : ℕ) (old new : List ℕ) → at + len ≤ length old → Torn OldOrNew at (part at len old) old new → new ≡ old
torn_same at len old new within t =
    let long = part_long at len old within in
    let range_is : t.range ≡ part at len old = same_bytes (part at len old) t.range (subst (λ (n : ℕ). EachOldOrNew (take n (drop at old)) (part at len old) t.range) long (t.each refl)) in
    t.is ∙ (λ i. take at old ++ (range_is i ++ drop (at + long i) old)) ∙ sym (apart at len old)

-- where the device was on the medium as it is seen, a crash leaves just that
settled_same : (at len : ℕ) (s c : List ℕ) (may_leave : List ℕ → Type 0) → at + len ≤ length s → Only s may_leave → IsRefreshed may_leave at (part at len s) c → c ≡ s
settled_same at len s c may_leave within only left =
    let was : left.0 ≡ s = only left.0 left.1 in
    ⊎_elim (λ (same : c ≡ left.0). same ∙ was) (λ torn. torn_same at len s c within (subst (λ (d : List ℕ). Torn OldOrNew at (part at len s) d c) was torn)) left.2

pub all_refreshed : (half : ℕ) (s c : List ℕ) (may_leave : List ℕ → Type 0) (found : Option Found) → IfSome found (λ it. (it.start ≡ 0) ⊎ (it.start ≡ half)) → half + half ≤ length s → Only s may_leave
    → MatchOption found (may_leave c) (λ it. IsRefreshed may_leave it.start (part it.start half s) c) → c ≡ s
all_refreshed half s c may_leave None start room only left = only c left
all_refreshed half s c may_leave (Some it) start room only left = settled_same it.start half s c may_leave within only left
  where
    within : it.start + half ≤ length s
    within = ⊎_elim (λ (first : it.start ≡ 0). omega (arith, first, room)) (λ (second : it.start ≡ half). omega (arith, second, room)) start
