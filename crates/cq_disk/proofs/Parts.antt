-- A write into a part of a device is a write into that part.
use Rattle.std.proofs.Common.{◌≡◌, ◌⊎◌, inl, inr, ⊎_elim, ℕ, zero, suc, ◌+◌, ◌-◌, ◌≤◌, List, [], ◌∷◌, ◌++◌, length, take, drop, refl, sym, ◌∙◌, ap, subst, arith, length-append, append_assoc, length-drop, length-take, take-append-drop, drop-drop}
use Rattle.std.proofs.lemmas.List.{take_at, drop_at}
use Rattle.cq_disk.specs.declared.device.TornWrites.{TornWrites}
use Rattle.cq_disk.specs.Device.{EachOldOrNew, Torn, Overlaid, Follows, Only, Elapses, LeavesOnly}
use Rattle.cq_disk.specs.Region.{part, Leaves, Beside, WasBeside, KeepsBeside, beside_self}
use Rattle.cq_disk.proofs.Moments.{started, goes_on}
use Rattle.cq_disk.proofs.Tears.{apart}

take_past : (xs ys : List ℕ) (m n : ℕ) → m ≡ length xs + n → take m (xs ++ ys) ≡ xs ++ take n ys
take_past [] ys m n is = let same : m ≡ n = omega arith in ap (λ (k : ℕ). take k ys) same
take_past (x ∷ xs) ys zero n is = absurd (omega arith)
take_past (x ∷ xs) ys (suc m) n is = ap (λ (l : List ℕ). x ∷ l) (take_past xs ys m n (omega arith))

-- a device in four pieces, and others in the place of the third
module _ (a b o e m : List ℕ) (start at n len r : ℕ) (is_start : length a ≡ start) (is_at : length b ≡ at) (is_n : length o ≡ n) (m_n : length m ≡ n) (is_len : len ≡ at + (n + r)) where
  abbrev pub d : List ℕ
  d = a ++ (b ++ (o ++ e))

  of_part : part start len d ≡ b ++ (o ++ take r e)
  of_part = ap (λ (l : List ℕ). take len l) (drop_at a (b ++ (o ++ e)) start is_start) ∙ take_past b (o ++ e) len (n + r) (omega (arith, is_len, is_at)) ∙ ap (λ (l : List ℕ). b ++ l) (take_past o e (n + r) r (omega (arith, is_n)))

  prefix : take (start + at) d ≡ a ++ b
  prefix = ap (λ (l : List ℕ). take (start + at) l) (sym (append_assoc a b (o ++ e))) ∙ take_at (a ++ b) (o ++ e) (start + at) (omega (arith, length-append a b, is_start, is_at))

  back : drop (start + at + n) d ≡ e
  back = ap (λ (l : List ℕ). drop (start + at + n) l) (sym (append_assoc a b (o ++ e)) ∙ sym (append_assoc (a ++ b) o e)) ∙ drop_at ((a ++ b) ++ o) e (start + at + n) (omega (arith, length-append (a ++ b) o, length-append a b, is_start, is_at, is_n))

  -- written into the whole, and then the part of it
  outside : part start len (take (start + at) d ++ (m ++ drop (start + at + n) d)) ≡ b ++ (m ++ take r e)
  outside =
      ap (λ (l : List ℕ). part start len l) ((λ i. prefix i ++ (m ++ back i)) ∙ append_assoc a b (m ++ e))
      ∙ ap (λ (l : List ℕ). take len l) (drop_at a (b ++ (m ++ e)) start is_start) ∙ take_past b (m ++ e) len (n + r) (omega (arith, is_len, is_at)) ∙ ap (λ (l : List ℕ). b ++ l) (take_past m e (n + r) r (omega (arith, m_n)))

  -- written into the part
  inside : take at (part start len d) ++ (m ++ drop (at + n) (part start len d)) ≡ b ++ (m ++ take r e)
  inside = λ i. (ap (λ (l : List ℕ). take at l) of_part ∙ take_at b (o ++ take r e) at is_at) i
      ++ (m ++ (ap (λ (l : List ℕ). drop (at + n) l) (of_part ∙ sym (append_assoc b o (take r e))) ∙ drop_at (b ++ o) (take r e) (at + n) (omega (arith, length-append b o, is_at, is_n))) i)

  pub in_pieces : part start len (take (start + at) d ++ (m ++ drop (start + at + n) d)) ≡ take at (part start len d) ++ (m ++ drop (at + n) (part start len d))
  in_pieces = outside ∙ sym inside

  pub before_pieces : take start (take (start + at) d ++ (m ++ drop (start + at + n) d)) ≡ take start d
  before_pieces = ap (λ (l : List ℕ). take start l) ((λ i. prefix i ++ (m ++ back i)) ∙ append_assoc a b (m ++ e)) ∙ take_at a (b ++ (m ++ e)) start is_start ∙ sym (take_at a (b ++ (o ++ e)) start is_start)

  far : start + len ≡ start + at + n + r
  far = omega (arith, is_len)

  behind_of : (x : List ℕ) → length x ≡ n → drop (start + len) ((a ++ b) ++ (x ++ e)) ≡ drop r e
  behind_of x x_n =
      ap (λ (k : ℕ). drop k ((a ++ b) ++ (x ++ e))) far ∙ sym (drop-drop r (start + at + n) ((a ++ b) ++ (x ++ e)))
      ∙ ap (λ (l : List ℕ). drop r l) (ap (λ (l : List ℕ). drop (start + at + n) l) (sym (append_assoc (a ++ b) x e)) ∙ drop_at ((a ++ b) ++ x) e (start + at + n) (omega (arith, length-append (a ++ b) x, length-append a b, is_start, is_at, x_n)))

  pub behind_pieces : drop (start + len) (take (start + at) d ++ (m ++ drop (start + at + n) d)) ≡ drop (start + len) d
  behind_pieces = ap (λ (l : List ℕ). drop (start + len) l) (λ i. prefix i ++ (m ++ back i)) ∙ behind_of m m_n ∙ sym (ap (λ (l : List ℕ). drop (start + len) l) (sym (append_assoc a b (o ++ e))) ∙ behind_of o is_n)

  pub long_pieces : length (take (start + at) d ++ (m ++ drop (start + at + n) d)) ≡ length d
  long_pieces =
      ap length (λ i. prefix i ++ (m ++ back i))
      ∙ omega (arith, length-append (a ++ b) (m ++ e), length-append m e, length-append a b, length-append a (b ++ (o ++ e)), length-append b (o ++ e), length-append o e, is_n, m_n)

  pub third_piece : take n (drop (start + at) d) ≡ take n (drop at (part start len d))
  third_piece =
      ap (λ (l : List ℕ). take n l) (ap (λ (l : List ℕ). drop (start + at) l) (sym (append_assoc a b (o ++ e))) ∙ drop_at (a ++ b) (o ++ e) (start + at) (omega (arith, length-append a b, is_start, is_at)))
      ∙ take_at o e n is_n ∙ sym (take_at o (take r e) n is_n)
      ∙ ap (λ (l : List ℕ). take n l) (sym (ap (λ (l : List ℕ). drop at l) of_part ∙ drop_at b (o ++ take r e) at is_at))

module _ (d : List ℕ) (start at n len : ℕ) (fits : at + n ≤ len) (long : start + at + n ≤ length d) where
  abbrev pub a : List ℕ
  a = take start d

  abbrev pub b : List ℕ
  b = take at (drop start d)

  abbrev pub o : List ℕ
  o = take n (drop (start + at) d)

  abbrev pub e : List ℕ
  e = drop (start + at + n) d

  pieces : d ≡ a ++ (b ++ (o ++ e))
  pieces = apart start at d ∙ ap (λ (l : List ℕ). take start d ++ (take at (drop start d) ++ l)) (sym (tail_of n (start + at) d))
    where
      tail_of : (n k : ℕ) (l : List ℕ) → take n (drop k l) ++ drop (k + n) l ≡ drop k l
      tail_of n k l = ap (λ (t : List ℕ). take n (drop k l) ++ t) (sym (drop-drop n k l)) ∙ take-append-drop n (drop k l)

  a_long : length a ≡ start
  a_long = omega (arith, length-take start d, long)

  b_long : length b ≡ at
  b_long = omega (arith, length-take at (drop start d), length-drop start d, long)

  o_long : length o ≡ n
  o_long = omega (arith, length-take n (drop (start + at) d), length-drop (start + at) d, long)

  rest : len ≡ at + (n + (len - at - n))
  rest = omega (arith, fits)

  pub part_written : (m : List ℕ) → length m ≡ n → part start len (take (start + at) d ++ (m ++ drop (start + at + n) d)) ≡ take at (part start len d) ++ (m ++ drop (at + n) (part start len d))
  part_written m m_n = subst (λ (f : List ℕ). part start len (take (start + at) f ++ (m ++ drop (start + at + n) f)) ≡ take at (part start len f) ++ (m ++ drop (at + n) (part start len f))) (sym pieces)
      (in_pieces a b o e m start at n len (len - at - n) a_long b_long o_long m_n rest)

  pub part_range : take n (drop (start + at) d) ≡ take n (drop at (part start len d))
  part_range = subst (λ (f : List ℕ). take n (drop (start + at) f) ≡ take n (drop at (part start len f))) (sym pieces)
      (third_piece a b o e o start at n len (len - at - n) a_long b_long o_long o_long rest)

  pub part_beside : (m : List ℕ) → length m ≡ n → Beside start len d (take (start + at) d ++ (m ++ drop (start + at + n) d))
  part_beside m m_n = subst (λ (f : List ℕ). Beside start len f (take (start + at) f ++ (m ++ drop (start + at + n) f))) (sym pieces)
      (record {
        before = before_pieces a b o e m start at n len (len - at - n) a_long b_long o_long m_n rest;
        behind = behind_pieces a b o e m start at n len (len - at - n) a_long b_long o_long m_n rest;
        long = long_pieces a b o e m start at n len (len - at - n) a_long b_long o_long m_n rest;
      })

part_long : (start at n len : ℕ) (d : List ℕ) → at + n ≤ len → start + at + n ≤ length d → at + n ≤ length (part start len d)
part_long start at n len d fits long = omega (arith, length-take len (drop start d), length-drop start d, fits, long)

pub part_torn : (torn : TornWrites) (start at len : ℕ) (bytes d c : List ℕ) → at + length bytes ≤ len → Torn torn (start + at) bytes d c → Torn torn at bytes (part start len d) (part start len c)
part_torn torn start at len bytes d c fits t = record {
  within = part_long start at (length bytes) len d fits t.within;
  range = t.range;
  long = t.long;
  each = λ is. subst (λ (l : List ℕ). EachOldOrNew l bytes t.range) (part_range d start at (length bytes) len fits t.within) (t.each is);
  is = ap (λ (l : List ℕ). part start len l) t.is ∙ part_written d start at (length bytes) len fits t.within t.range t.long;
}

pub part_overlaid : (start at len : ℕ) (bytes old new : List ℕ) → at + length bytes ≤ len → start + len ≤ length old → Overlaid old (start + at) bytes new → Overlaid (part start len old) at bytes (part start len new)
part_overlaid start at len bytes old new fits within overlaid = ap (λ (l : List ℕ). part start len l) overlaid ∙ part_written old start at (length bytes) len fits (omega (arith, fits, within)) bytes refl

pub part_fits : (start at len n : ℕ) (d : List ℕ) → start + len ≤ length d → at + n ≤ length (part start len d) → at + n ≤ len
part_fits start at len n d within le = omega (arith, le, length-take len (drop start d), length-drop start d, within)

pub part_same_length : (start len : ℕ) (d : List ℕ) → start + len ≤ length d → length (part start len d) ≡ len
part_same_length start len d within = omega (arith, length-take len (drop start d), length-drop start d, within)

pub part_follows : (torn : TornWrites) (start at len : ℕ) (bytes : List ℕ) (old new : List ℕ → Type 0) → at + length bytes ≤ len → Follows (Torn torn (start + at) bytes) old new → Follows (Torn torn at bytes) (Leaves start len old) (Leaves start len new)
part_follows torn start at len bytes old new fits follows x left =
    let from = follows left.0 left.1 in
    let t : Torn torn at bytes (part start len from.0) (part start len left.0) = part_torn torn start at len bytes from.0 left.0 fits from.2 in
    (part start len from.0, (from.0, from.1, refl), subst (λ (l : List ℕ). Torn torn at bytes (part start len from.0) l) (sym left.2) t)

torn_beside : (torn : TornWrites) (start at len : ℕ) (bytes d c : List ℕ) → at + length bytes ≤ len → Torn torn (start + at) bytes d c → Beside start len d c
torn_beside torn start at len bytes d c fits t =
    subst (λ (l : List ℕ). Beside start len d l) (sym t.is) (part_beside d start at (length bytes) len fits t.within t.range t.long)

pub write_keeps : {D : Type 0} (moment : D → ℕ) (left_since : D → ℕ → List ℕ → Type 0) (may_leave : D → List ℕ → Type 0) (keeps : D → D → Type 0) (seen : D → List ℕ) → ((d : D) (c : List ℕ) → left_since d (moment d) c → may_leave d c)
    → (torn : TornWrites) (start at len : ℕ) (bytes : List ℕ) (old new : D) → at + length bytes ≤ len → Follows (Torn torn (start + at) bytes) (may_leave old) (may_leave new) → Elapses (moment old) (moment new) (left_since old) (left_since new) (may_leave new) → keeps old new
    → Torn torn (start + at) bytes (seen old) (seen new) → KeepsBeside moment left_since may_leave keeps seen start len start len old new
write_keeps moment left_since may_leave keeps seen only torn start at len bytes old new fits follows time kept range = record {
  inner = kept;
  shown = torn_beside torn start at len bytes (seen old) (seen new) fits range;
  same_start = refl;
  same_len = refl;
  now = here;
  moments = goes_on moment left_since old old new (WasBeside start len (may_leave old)) (may_leave new)
      (started moment left_since old (WasBeside start len (may_leave old)) (λ c left. (c, only old c left, beside_self start len c))) time here;
}
  where
    here : (c : List ℕ) → may_leave new c → WasBeside start len (may_leave old) c
    here c left = let from = follows c left in (from.0, from.1, torn_beside torn start at len bytes from.0 c fits from.2)

-- what is known of a part, and of what lies beside it, is known of the whole
pub whole_again : (start len : ℕ) (d c : List ℕ) → Beside start len d c → part start len c ≡ part start len d → c ≡ d
whole_again start len d c beside same = apart start len c ∙ (λ i. beside.before i ++ (same i ++ beside.behind i)) ∙ sym (apart start len d)

-- what holds of each outcome of a part holds beside all else as it was
pub alone : {D : Type 0} (moment : D → ℕ) (left_since : D → ℕ → List ℕ → Type 0) (may_leave : D → List ℕ → Type 0) (keeps : D → D → Type 0) (seen : D → List ℕ)
    → ((a b : D) (t : ℕ) (c : List ℕ) → keeps a b → t ≤ moment a → left_since b t c → left_since a t c ⊎ left_since b (moment a) c)
    → (start len new_start new_len : ℕ) (old new : D) (P : List ℕ → Type 0) → KeepsBeside moment left_since may_leave keeps seen start len new_start new_len old new → Only (seen old) (may_leave old)
    → ((x : List ℕ) → Leaves start len (left_since new (moment old)) x → P x) → LeavesOnly moment left_since old new (λ c. P (part start len c) × Beside start len (seen old) c)
alone moment left_since may_leave keeps seen splits start len new_start new_len old new P kept only holds = record {
  later = kept.moments.later;
  each = each;
  before = λ t c le left. ⊎_elim (λ early. inl early) (λ late. inr (each c late)) (splits old new t c kept.inner le left);
}
  where
    each : (c : List ℕ) → left_since new (moment old) c → P (part start len c) × Beside start len (seen old) c
    each c left =
        let was = kept.moments.each c left in
        (holds (part start len c) (c, left, refl), subst (λ (d : List ℕ). Beside start len d c) (only was.0 was.1) was.2)
