-- A part of a device, what a crash leaves of it, and what lies beside it.
use Rattle.std.specs.Prelude.{◌≡◌, ◌⊎◌, ℕ, ◌+◌, ◌≤◌, List, length, take, drop, refl}
use mathlib.Core.Path.{◌∙◌}
use mathlib.Core.Logic.{inl, inr}
use Rattle.std.proofs.Common.{⊎_elim, arith, ap, sym}
use Rattle.cq_disk.specs.Device.{LeavesOnly}

abbrev pub part : ℕ → ℕ → List ℕ → List ℕ
part start len bytes = take len (drop start bytes)

-- some outcome of the device has this part
abbrev pub Leaves : ℕ → ℕ → (List ℕ → Type 0) → List ℕ → Type 0
Leaves start len outcomes x = (c : List ℕ) × outcomes c × (x ≡ part start len c)

pub counts : (start len : ℕ) (some more : List ℕ → Type 0) → ((c : List ℕ) → some c → more c) → (x : List ℕ) → Leaves start len some x → Leaves start len more x
counts start len some more step x left = (left.0, step left.0 left.1, left.2)

-- the same bytes before the part and behind it, and as many in all
pub record Beside (start len : ℕ) (old new : List ℕ) : Type 0 where
  pub before : take start new ≡ take start old
  pub behind : drop (start + len) new ≡ drop (start + len) old
  pub long : length new ≡ length old

pub beside_self : (start len : ℕ) (c : List ℕ) → Beside start len c c
beside_self start len c = record { before = refl; behind = refl; long = refl }

pub beside_both : (start len : ℕ) (a b c : List ℕ) → Beside start len a b → Beside start len b c → Beside start len a c
beside_both start len a b c p q = record { before = q.before ∙ p.before; behind = q.behind ∙ p.behind; long = q.long ∙ p.long }

-- it was possible before, but for the part
abbrev pub WasBeside : ℕ → ℕ → (List ℕ → Type 0) → List ℕ → Type 0
WasBeside start len outcomes c = (d : List ℕ) × outcomes d × Beside start len d c

-- New comes from old by calls, and what a crash leaves now, or might have left at each moment between, was possible then but for the part.
pub record KeepsBeside {D : Type 0} (moment : D → ℕ) (left_since : D → ℕ → List ℕ → Type 0) (may_leave : D → List ℕ → Type 0) (keeps : D → D → Type 0) (seen : D → List ℕ) (start len new_start new_len : ℕ) (old new : D) : Type 0 where
  pub inner : keeps old new
  pub shown : Beside start len (seen old) (seen new)
  pub same_start : new_start ≡ start
  pub same_len : new_len ≡ len
  pub now : (c : List ℕ) → may_leave new c → WasBeside start len (may_leave old) c
  pub moments : LeavesOnly moment left_since old new (WasBeside start len (may_leave old))

pub keeps_none : {D : Type 0} (moment : D → ℕ) (left_since : D → ℕ → List ℕ → Type 0) (may_leave : D → List ℕ → Type 0) (keeps : D → D → Type 0) (seen : D → List ℕ) → ((d : D) (c : List ℕ) → left_since d (moment d) c → may_leave d c) → ((d : D) → keeps d d)
    → (start len : ℕ) (d : D) → KeepsBeside moment left_since may_leave keeps seen start len start len d d
keeps_none moment left_since may_leave keeps seen only self start len d = record {
  inner = self d;
  shown = beside_self start len (seen d);
  same_start = refl;
  same_len = refl;
  now = λ c left. (c, left, beside_self start len c);
  moments = record {
    later = omega arith;
    each = λ c left. (c, only d c left, beside_self start len c);
    before = λ t c le left. inl left;
  };
}

pub keeps_both : {D : Type 0} (moment : D → ℕ) (left_since : D → ℕ → List ℕ → Type 0) (may_leave : D → List ℕ → Type 0) (keeps : D → D → Type 0) (seen : D → List ℕ) → ((a b c : D) → keeps a b → keeps b c → keeps a c) → (start1 len1 start2 len2 start3 len3 : ℕ) (a b c : D)
    → KeepsBeside moment left_since may_leave keeps seen start1 len1 start2 len2 a b → KeepsBeside moment left_since may_leave keeps seen start2 len2 start3 len3 b c → KeepsBeside moment left_since may_leave keeps seen start1 len1 start3 len3 a c
keeps_both moment left_since may_leave keeps seen on start1 len1 start2 len2 start3 len3 a b c p q = record {
  inner = on a b c p.inner q.inner;
  shown = beside_both start1 len1 (seen a) (seen b) (seen c) p.shown (back (seen b) (seen c) q.shown);
  same_start = q.same_start ∙ p.same_start;
  same_len = q.same_len ∙ p.same_len;
  now = λ x left. further x (q.now x left);
  moments = record {
    later = omega (arith, p.moments.later, q.moments.later);
    each = λ x left. ⊎_elim (λ early. p.moments.each x early) (λ late. further x late) (q.moments.before (moment a) x p.moments.later left);
    before = λ t x le left. ⊎_elim (λ early. p.moments.before t x le early) (λ late. inr (further x late)) (q.moments.before t x (omega (arith, le, p.moments.later)) left);
  };
}
  where
    back : (d x : List ℕ) → Beside start2 len2 d x → Beside start1 len1 d x
    back d x beside =
        let ends : start2 + len2 ≡ start1 + len1 = λ i. p.same_start i + p.same_len i in
        record {
          before = sym (ap (λ (k : ℕ). take k x) p.same_start) ∙ beside.before ∙ ap (λ (k : ℕ). take k d) p.same_start;
          behind = sym (ap (λ (k : ℕ). drop k x) ends) ∙ beside.behind ∙ ap (λ (k : ℕ). drop k d) ends;
          long = beside.long;
        }

    further : (x : List ℕ) → WasBeside start2 len2 (may_leave b) x → WasBeside start1 len1 (may_leave a) x
    further x was =
        let first = p.now was.0 was.1 in
        (first.0, first.1, beside_both start1 len1 first.0 was.0 x first.2 (back was.0 x was.2))

pub region_splits : {D : Type 0} (moment : D → ℕ) (left_since : D → ℕ → List ℕ → Type 0) (may_leave : D → List ℕ → Type 0) (keeps : D → D → Type 0) (seen : D → List ℕ)
    → ((a b : D) (t : ℕ) (c : List ℕ) → keeps a b → t ≤ moment a → left_since b t c → left_since a t c ⊎ left_since b (moment a) c) → (start len new_start new_len : ℕ) (a b : D)
    → KeepsBeside moment left_since may_leave keeps seen start len new_start new_len a b → (t : ℕ) (x : List ℕ) → t ≤ moment a
    → Leaves new_start new_len (left_since b t) x → Leaves start len (left_since a t) x ⊎ Leaves new_start new_len (left_since b (moment a)) x
region_splits moment left_since may_leave keeps seen splits start len new_start new_len a b kept t x le left =
    let same : part new_start new_len left.0 ≡ part start len left.0 = λ i. part (kept.same_start i) (kept.same_len i) left.0 in
    ⊎_elim (λ early. inl (left.0, early, left.2 ∙ same)) (λ late. inr (left.0, late, left.2)) (splits a b t left.0 kept.inner le left.1)
