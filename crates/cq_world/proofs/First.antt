-- In the first world all sentences hold.
use Rattle.std.proofs.Common.{◌≡◌, ℕ, zero, suc, ◌+◌, ◌-◌, ◌≤◌, ◌<◌, ◌∙◌, ap, sym, [], ◌++◌, length, Option, Some, None, is_some, Bool, true, false, cond, if◌then◌else◌, eqb, ◌&&◌, not, arith, subst, refl, inl, inr, append-nil}
use Rattle.std.proofs.lemmas.Bool.{eqb-true, eq-eqb, ne_eqb, false≢true, both_ways, cases_Bool, or_left, or_right}
use Rattle.cq_base.specs.Relations.{Among, Pairwise}
use Rattle.cq_chain.specs.Masters.{is_in, is_last, numbers_from}
use Rattle.cq_chain.specs.Servers.{Server, acts, reaches, first_member, joining}
use Rattle.cq_events.proofs.Numbers.{in-numbers}
use Rattle.cq_events.specs.Worlds.{first_world}
use Rattle.cq_world.proofs.Chains.{last-one}
use Rattle.cq_world.proofs.Prefixes.Climbing.{one, ups, Climbs}
use Rattle.cq_world.proofs.Commits.{Commits, bit, waits}
use Rattle.cq_world.proofs.Eaches.{prefix-none, some_none}
use Rattle.cq_world.proofs.Prefixes.{Prefixes, Linked, LinkedExtended}
use Rattle.cq_world.proofs.Views.{View, view}

-- ---- numbers

-- numbers from one on are above it
pub above_first : (n k : ℕ) (b : ℕ) → Among b (numbers_from k n) → k ≤ b
unfolding numbers_from
above_first zero k b none = absurd none
above_first (suc n) k b (inl e) = omega (arith, e)
above_first (suc n) k b (inr h) = omega (arith, above_first n (k + 1) b h)

-- and all different
pub numbers_apart : (n k : ℕ) → Pairwise (λ a b. eqb a b ≡ false) (numbers_from k n)
unfolding numbers_from
numbers_apart zero k = tt
numbers_apart (suc n) k = ((λ b h. let over = above_first n (k + 1) b h in ne_eqb k b (λ e. omega (arith, over, e))), numbers_apart n (k + 1))

-- the state of a server of the first world
abbrev pub at_first : Bool → ℕ → ℕ → Server
at_first t size id = if t then first_member size id else joining

pub first_entries : (t : Bool) (size id : ℕ) → (at_first t size id).entries ≡ []
first_entries true size id = refl
first_entries false size id = refl

-- what a climb begins with, where nothing is in any history
first_climb : (f : ℕ → Server) (x : ℕ) (o : Option ℕ) → (f x).entries ≡ [] → Climbs f x (one o ++ [])
first_climb f x None e = tt
first_climb f x (Some p) e = prefix-none (f x).entries (f p).entries e

first_fresh : (t : Bool) (size id : ℕ) → t ≡ false → at_first t size id ≡ joining
first_fresh true size id e = absurd (false≢true (sym e))
first_fresh false size id e = refl

-- each of the numbers after the first one is linked to the one before it
first_linked : (size : ℕ) (v : View) (n k : ℕ) → ((id : ℕ) → 1 ≤ id → id ≤ size → ups v id ≡ one (first_member size id).pred) → 1 ≤ k → k + n ≤ size → Linked v k (numbers_from (k + 1) n)
unfolding numbers_from
first_linked size v zero k h some within = tt
first_linked size v (suc n) k h some within = (
  ap (λ us. is_last us k) (h (k + 1) (omega arith) (omega (arith, within))) ∙ ap (λ b. is_last (one (cond b None (Some (k + 1 - 1)))) k) (ne_eqb (k + 1) 1 (λ e. omega (arith, e, some))) ∙ eq-eqb (k + 1 - 1) k (omega arith),
  first_linked size v n (k + 1) h (omega arith) (omega (arith, within)),
)

first_extended : (size : ℕ) (v : View) → ((id : ℕ) → 1 ≤ id → id ≤ size → ups v id ≡ one (first_member size id).pred) → LinkedExtended v (numbers_from 1 size)
unfolding numbers_from
first_extended zero v h = tt
first_extended (suc n) v h = first_linked (suc n) v n 1 h (omega arith) (omega arith)

first_ups : (t : Bool) (size id : ℕ) → t ≡ true → one (at_first t size id).pred ++ [] ≡ one (first_member size id).pred
first_ups true size id e = append-nil (one (first_member size id).pred)
first_ups false size id e = absurd (false≢true e)

first_head : (t : Bool) (size id : ℕ) → (at_first t size id).head ≡ true → one (at_first t size id).pred ++ [] ≡ []
first_head true size id is = ap (λ b. one (cond b None (Some (id - 1))) ++ []) is
first_head false size id is = absurd (false≢true is)

pub prefixes-first : (size : ℕ) → Prefixes (view (first_world size))
unfolding first_world
prefixes-first size = record {
  apart = numbers_apart size 1;
  members = λ id h. h;
  away = λ id used out. absurd (both_ways (is_in (numbers_from 1 size) id) out used);
  aside = λ id none. absurd (false≢true none);
  fresh = λ id unused. (first_fresh (is_in (numbers_from 1 size) id) size id unused, refl);
  speaks = λ id to. tt;
  climbs = λ id. first_climb (first_world size).server id (at_first (is_in (numbers_from 1 size) id) size id).pred (first_entries (is_in (numbers_from 1 size) id) size id);
  linked = first_extended size (view (first_world size)) (λ id low high. first_ups (is_in (numbers_from 1 size) id) size id (in-numbers size 1 id low (omega (arith, high))));
  heads = λ id h. tt;
  headless = λ id h is. first_head (is_in (numbers_from 1 size) id) size id is;
}

-- ---- who acts at first

-- the last of so many numbers
last_number : (n k : ℕ) → is_last (numbers_from k (suc n)) (k + n) ≡ true
unfolding numbers_from
last_number zero k = eq-eqb k (k + 0) (omega arith)
last_number (suc n) k = subst (λ i. is_last (numbers_from (k + 1) (suc n)) i ≡ true) (omega arith) (last_number n (k + 1))

pub last_size : (size : ℕ) → 1 ≤ size → is_last (numbers_from 1 size) size ≡ true
last_size zero some = absurd (omega (arith, some))
last_size (suc n) some = subst (λ i. is_last (numbers_from 1 (suc n)) i ≡ true) (omega arith) (last_number n 1)

-- the number of the last one alone
abbrev least_by : Bool → Option ℕ
least_by t = cond t (Some 0) None

pub at_first_full : (t : Bool) (size id : ℕ) → t ≡ true → (at_first t size id).full ≡ true
at_first_full true size id e = refl
at_first_full false size id e = absurd (false≢true e)

at_first_acting : (t : Bool) (size id : ℕ) → acts (at_first t size id) ≡ true → (at_first t size id).full ≡ true
at_first_acting true size id does = refl
at_first_acting false size id does = absurd (false≢true does)

at_first_waits : (t : Bool) (size id : ℕ) → bit (waits (at_first t size id)) ≡ 0
at_first_waits false size id = refl
at_first_waits true size id = go (eqb id size) where
  go : (t : Bool) → bit (is_some (least_by t) && not (reaches 0 (least_by t))) ≡ 0
  go true = refl
  go false = refl

-- the last one alone is the tail
at_first_tail : (t : Bool) (size id : ℕ) → is_some (at_first t size id).at_least ≡ true → eqb id size ≡ true
at_first_tail false size id some = absurd (false≢true some)
at_first_tail true size id some = go (eqb id size) some where
  go : (t : Bool) → is_some (least_by t) ≡ true → t ≡ true
  go true h = refl
  go false h = absurd (false≢true h)

at_first_some : (t : Bool) (size id : ℕ) → t ≡ true → eqb id size ≡ true → is_some (at_first t size id).at_least ≡ true
at_first_some true size id e last = ap (λ b. is_some (least_by b)) last
at_first_some false size id e last = absurd (false≢true e)

at_first_least : (t : Bool) (size id n : ℕ) → (at_first t size id).at_least ≡ Some n → n ≡ 0
at_first_least false size id n is = absurd (some_none n (sym is))
at_first_least true size id n is = go (eqb id size) is where
  same_some : (a b : ℕ) → Some a ≡ Some b → b ≡ a
  same_some a b e = cc

  go : (t : Bool) → cond t (Some 0) None ≡ Some n → n ≡ 0
  go true h = same_some 0 n h
  go false h = absurd (some_none n (sym h))

at_first_lives : (t : Bool) (size id : ℕ) → (at_first t size id).down ≡ false
at_first_lives true size id = refl
at_first_lives false size id = refl

no_stage : (b : Bool) → bit (b && (true && not true)) ≡ 0
no_stage true = refl
no_stage false = refl

pub commits-first : (size : ℕ) → 1 ≤ size → Commits (view (first_world size)) []
unfolding first_world
commits-first size some = record {
  acting = λ id does. at_first_acting (known id) size id does;
  silent = λ id unused. refl;
  orders_named = λ id. tt;
  reports_named = λ id. tt;
  pairs = λ id member. tt;
  stages = λ id member. omega (arith, at_first_waits (known id) size id, no_stage (is_last (numbers_from 1 size) id));
  alone = λ id member is away. absurd (both_ways (is_last (numbers_from 1 size) id) away (subst (λ i. is_last (numbers_from 1 size) i ≡ true) (sym (eqb-true id size (at_first_tail (known id) size id is))) (last_size size some)));
  untold = λ id last told. absurd (false≢true (sym told));
  heard = λ id last told none. let at = last-one (numbers_from 1 size) id size last (last_size size some) in
      at_first_some (known id) size id (in-numbers size 1 id (omega (arith, at, some)) (omega (arith, at))) (eq-eqb id size at);
  ready = λ r. refl;
  retires = λ id last. tt;
  hands_over = λ told. absurd (false≢true (sym told));
  young_last = λ id member young. absurd (both_ways (at_first (known id) size id).full young (at_first_full (known id) size id member));
  young_least = λ id least member young. absurd (both_ways (at_first (known id) size id).full young (at_first_full (known id) size id member));
  young_told = λ id member young. tt;
  young = λ told. absurd (false≢true (sym told));
  old = λ id member full. prefix-none [] (at_first (known id) size id).entries refl;
  old_least = λ id least member full is. omega (arith, at_first_least (known id) size id least is);
  old_told = λ id member full. tt;
  joins_ready = λ none. absurd (false≢true none);
  unnamed_orders = λ j none. absurd (false≢true none);
  unnamed_reports = λ j none. absurd (false≢true none);
  unready = λ j none. absurd (false≢true none);
  reached = λ id lives does. omega (arith, ap length (first_entries (known id) size id));
  lives = (1, in-numbers size 1 1 (omega arith) (omega (arith, some)), at_first_full (known 1) size 1 (in-numbers size 1 1 (omega arith) (omega (arith, some))), at_first_lives (known 1) size 1);
} where
  known : ℕ → Bool
  known id = is_in (numbers_from 1 size) id
