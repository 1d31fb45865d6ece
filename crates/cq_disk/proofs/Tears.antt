-- A write that ended well, or that wrote nothing, is one of the outcomes of a torn one.
use Rattle.std.proofs.Common.{◌≡◌, inl, inr, ℕ, ◌+◌, ◌≤◌, List, [], ◌∷◌, ◌++◌, length, take, drop, refl, sym, ◌∙◌, ap, arith, length-drop, length-take, length-append, take-append-drop, drop-drop, rules}
use Rattle.cq_disk.specs.declared.device.TornWrites.{TornWrites}
use Rattle.cq_disk.specs.Device.{EachOldOrNew, Overlaid, Torn, Follows}

no_bytes : EachOldOrNew [] [] []
no_bytes = search rules

all_new : (os bs : List ℕ) → length os ≡ length bs → EachOldOrNew os bs bs
all_new [] [] same = no_bytes
all_new [] (b ∷ bs) same = absurd (omega arith)
all_new (o ∷ os) [] same = absurd (omega arith)
all_new (o ∷ os) (b ∷ bs) same = (inr refl, all_new os bs (omega arith))

all_old : (os bs : List ℕ) → length os ≡ length bs → EachOldOrNew os bs os
all_old [] [] same = no_bytes
all_old [] (b ∷ bs) same = absurd (omega arith)
all_old (o ∷ os) [] same = absurd (omega arith)
all_old (o ∷ os) (b ∷ bs) same = (inl refl, all_old os bs (omega arith))

range_long : (at n : ℕ) (old : List ℕ) → at + n ≤ length old → length (take n (drop at old)) ≡ n
range_long at n old within = omega (arith, length-take n (drop at old), length-drop at old, within)

pub done : (torn : TornWrites) (at : ℕ) (bytes old new : List ℕ) → at + length bytes ≤ length old → Overlaid old at bytes new → Torn torn at bytes old new
done torn at bytes old new within overlaid = record {
  within = within;
  range = bytes;
  long = refl;
  each = λ is. all_new (take (length bytes) (drop at old)) bytes (range_long at (length bytes) old within);
  is = overlaid;
}

-- the bytes, taken apart at a range
pub apart : (at n : ℕ) (old : List ℕ) → old ≡ take at old ++ (take n (drop at old) ++ drop (at + n) old)
apart at n old =
    sym (take-append-drop at old) ∙ ap (λ (l : List ℕ). take at old ++ l) (sym (take-append-drop n (drop at old)) ∙ ap (λ (l : List ℕ). take n (drop at old) ++ l) (drop-drop n at old))

pub undone : (torn : TornWrites) (at : ℕ) (bytes old new : List ℕ) → at + length bytes ≤ length old → new ≡ old → Torn torn at bytes old new
undone torn at bytes old new within same = record {
  within = within;
  range = take (length bytes) (drop at old);
  long = range_long at (length bytes) old within;
  each = λ is. all_old (take (length bytes) (drop at old)) bytes (range_long at (length bytes) old within);
  is = same ∙ apart at (length bytes) old;
}

pub follows : (torn : TornWrites) (at : ℕ) (bytes old new : List ℕ) → at + length bytes ≤ length old → Overlaid old at bytes new → Follows (Torn torn at bytes) (λ c. c ≡ old) (λ c. c ≡ new)
follows torn at bytes old new within overlaid c is = (old, refl, done torn at bytes old c within (is ∙ overlaid))

pub stays : (torn : TornWrites) (at : ℕ) (bytes old new : List ℕ) → at + length bytes ≤ length old → new ≡ old → Follows (Torn torn at bytes) (λ c. c ≡ old) (λ c. c ≡ new)
stays torn at bytes old new within same c is = (old, refl, undone torn at bytes old c within (is ∙ same))

-- no write changes the length
pub as_long : (at : ℕ) (range old : List ℕ) → at + length range ≤ length old → length (take at old ++ (range ++ drop (at + length range) old)) ≡ length old
as_long at range old within =
    omega (arith, length-append (take at old) (range ++ drop (at + length range) old), length-append range (drop (at + length range) old), length-take at old, length-drop (at + length range) old, within)
