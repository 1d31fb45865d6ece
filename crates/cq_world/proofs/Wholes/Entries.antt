-- Entries, snapshots and requests that come to a server: nothing is lost on the way.
use Rattle.std.proofs.Common.{◌≡◌, ℕ, ◌+◌, ◌≤◌, ◌∙◌, ap, sym, List, [], ◌∷◌, ◌++◌, length, ◌&&◌, Some, None, Bool, true, false, cond, eqb, arith, subst, refl, inl, inr, append-nil, length-append}
use Rattle.std.proofs.lemmas.Bool.{eqb-true, eq-eqb, both_ways, cases_Bool}
use Rattle.cq_base.specs.declared.ask.Entry.{Entry}
use Rattle.cq_base.specs.declared.party.Party.TheVariants as parties
use Rattle.cq_chain.specs.Masters.{is_in}
use Rattle.cq_chain.specs.Messages.{Message, Fwd, Snap}
use Rattle.cq_chain.specs.Parties.{addressed}
use Rattle.cq_chain.specs.Servers.{Server, acts, is_that}
use Rattle.cq_chain.specs.Steps.{appended, settled, passed_on, tail_news, with_history, restored}
use Rattle.cq_store.specs.Laws.{Stamped}
use Rattle.cq_events.specs.Runs.{longer, acting_history}
use Rattle.cq_world.proofs.Commits.{Commits, longer-length}
use Rattle.cq_world.proofs.Commits.Steps.{addressed-append}
use Rattle.cq_world.proofs.Eaches.{Each, each-append, each-follows}
use Rattle.cq_world.proofs.Wholes.Feeding.{NoData, NoSnap, Feeds, all-data-snap}
use Rattle.cq_world.proofs.Chains.{before-in}
use Rattle.cq_world.proofs.ExtendedChains.{member-extended, joiner-extended}
use Rattle.cq_world.proofs.Prefixes.Steps.{Placed, full-member, head-member}
use Rattle.cq_world.proofs.Prefixes.{Prefixes}
use Rattle.cq_world.proofs.Settled.{is_settled}
use Rattle.cq_world.proofs.Views.{View, extended}
use Rattle.cq_world.proofs.Wholes.{Whole, AckWithin, Catches, linked_ups}
use Rattle.cq_world.proofs.Wholes.Steps.{Idle, NoCaught, no_catches, linked_alone, no_neighbour, no_pred, calm-feeding, snap_young}
use Rattle.cq_world.proofs.Wholes.Growth.{Grown, tail_row, tail_idle, tail_caught, passed_caught, restored_row, restored_told, passed_idle, passed_feeds, passed_snaps, passed_data, passed_acks}
use Rattle.cq_world.proofs.Wholes.Turns.{Feeding, left_between}

-- All that is known before a turn: a server lives and takes the first message of a channel, or nothing.
pub record BeforeTurn (v : View) (c : List Entry) (k : ℕ) : Type 0 where
  pub prefixes : Prefixes v
  pub commits : Commits v c
  pub whole : Whole v c
  pub stamps : (id : ℕ) → Stamped (v.server id).entries
  pub placed : Placed v k

-- what is left of the channel that is taken from
pub left_own : (v : View) (p k : ℕ) (rest : List Message) → left_between v (parties.Server p) k rest p k ≡ rest
left_own v p k rest = ap (λ a. cond (a && eqb k k) rest (v.channel (parties.Server p) (parties.Server k))) (eq-eqb p p refl) ∙ ap (λ a. cond a rest (v.channel (parties.Server p) (parties.Server k))) (eq-eqb k k refl)

-- and of another one
pub left_from : (v : View) (q p k : ℕ) (rest : List Message) → eqb p q ≡ false → left_between v (parties.Server q) k rest p k ≡ v.channel (parties.Server p) (parties.Server k)
left_from v q p k rest other = ap (λ a. cond (a && eqb k k) rest (v.channel (parties.Server p) (parties.Server k))) other

pub same_some : (a b : ℕ) → Some a ≡ Some b → a ≡ b
same_some a b e = cc

-- a message without data may go from the front of a channel
pub passes_idle : (v : View) (q k : ℕ) (m : Message) (rest : List Message) (p : ℕ) → v.channel (parties.Server q) (parties.Server k) ≡ m ∷ rest → NoData m
    → Feeds (length (v.server k).entries) (v.channel (parties.Server p) (parties.Server k)) (length (v.server p).entries) → Feeds (length (v.server k).entries) (left_between v (parties.Server q) k rest p k) (length (v.server p).entries)
passes_idle v q k m rest p at none h = go (eqb p q) refl where
  less : (x : Message) → NoData x → Feeds (length (v.server k).entries) (x ∷ rest) (length (v.server p).entries) → Feeds (length (v.server k).entries) rest (length (v.server p).entries)
  less (Fwd place e) n g = absurd n
  less (Snap entries) n g = absurd n
  less x n g = g

  go : (t : Bool) → eqb p q ≡ t → Feeds (length (v.server k).entries) (left_between v (parties.Server q) k rest p k) (length (v.server p).entries)
  go true e = subst (λ ms. Feeds (length (v.server k).entries) ms (length (v.server p).entries)) (sym (ap (λ i. left_between v (parties.Server i) k rest p k) (sym (eqb-true p q e)) ∙ left_own v p k rest))
      (less m none (subst (λ ms. Feeds (length (v.server k).entries) ms (length (v.server p).entries)) (ap (λ i. v.channel (parties.Server i) (parties.Server k)) (eqb-true p q e) ∙ at) h))
  go false e = subst (λ ms. Feeds (length (v.server k).entries) ms (length (v.server p).entries)) (sym (left_from v q p k rest e)) h

-- a message that is ignored is none that the predecessor, which is linked, has sent as data
pub ignored : (v : View) (c : List Entry) (q k : ℕ) (m : Message) (rest : List Message) → BeforeTurn v c k → v.channel (parties.Server q) (parties.Server k) ≡ m ∷ rest
    → (is_in (extended v.master) k ≡ true → (v.server k).pred ≡ Some q → is_that (v.server q).succ k ≡ true → NoData m) → Feeding v c (parties.Server q) k rest (v.server k) []
ignored v c q k m rest b at none = calm-feeding v c (parties.Server q) k (m ∷ []) rest (v.server k) [] b.prefixes b.whole b.placed at refl (λ p is. is) refl (λ y. y) (λ p. refl) (λ x there. refl) (λ x n. n) (λ t joins ups. ups) tt tt (λ x. tt)
    (λ p there is_pred link h. passes p there is_pred link h (eqb p q) refl) (omega (arith, b.whole.acked k, within)) (λ x. tt) (λ full. omega (arith, b.whole.floors k (full-member v k b.placed full) full, within)) where
      within : length c ≤ length (longer c (acting_history (v.server k)))
      within = (longer-length c (acting_history (v.server k))).0

      passes : (p : ℕ) → is_in (extended v.master) k ≡ true → (v.server k).pred ≡ Some p → is_that (v.server p).succ k ≡ true → Feeds (length (v.server k).entries) (v.channel (parties.Server p) (parties.Server k)) (length (v.server p).entries) → (t : Bool) → eqb p q ≡ t
          → Feeds (length (v.server k).entries) (left_between v (parties.Server q) k rest p k) (length (v.server p).entries)
      passes p there is_pred link h true e = passes_idle v q k m rest p at (none there (is_pred ∙ ap (λ i. Some i) (eqb-true p q e)) (subst (λ i. is_that (v.server i).succ k ≡ true) (eqb-true p q e) link)) h
      passes p there is_pred link h false e = subst (λ ms. Feeds (length (v.server k).entries) ms (length (v.server p).entries)) (sym (left_from v q p k rest e)) h

-- ---- entries

-- a forwarded entry that is accepted comes from a predecessor that is linked
pub fwd_linked : (v : View) (c : List Entry) (p k place : ℕ) (e : Entry) (rest : List Message) → BeforeTurn v c k → is_in (extended v.master) k ≡ true → v.channel (parties.Server p) (parties.Server k) ≡ Fwd place e ∷ rest → is_that (v.server p).succ k ≡ true
fwd_linked v c p k place e rest b there at = elim (cases_Bool (is_that (v.server p).succ k)) [
  | inl link ↦ link
  | inr none ↦ absurd (subst (λ ms. Each NoData ms) at (b.whole.data_none p k there none)).0
]

pub snap_linked : (v : View) (c : List Entry) (p k : ℕ) (entries : List Entry) (rest : List Message) → BeforeTurn v c k → is_in (extended v.master) k ≡ true → v.channel (parties.Server p) (parties.Server k) ≡ Snap entries ∷ rest → is_that (v.server p).succ k ≡ true
snap_linked v c p k entries rest b there at = elim (cases_Bool (is_that (v.server p).succ k)) [
  | inl link ↦ link
  | inr none ↦ absurd (subst (λ ms. Each NoData ms) at (b.whole.data_none p k there none)).0
]

-- an acknowledgement is no data, and is within what is committed
ack_row : (n : ℕ) (old now : Server) (x : ℕ) → (acts now ≡ true → length now.entries ≤ n) → Each (AckWithin n) (addressed (parties.Server x) (tail_news old now))
ack_row n old now x h = tail_row (AckWithin n) old now x h

pub fwd_grown : (v : View) (c : List Entry) (p k place : ℕ) (e : Entry) (rest : List Message) → BeforeTurn v c k → v.channel (parties.Server p) (parties.Server k) ≡ Fwd place e ∷ rest → (v.server k).pred ≡ Some p
    → (acts (appended (v.server k) e) ≡ true → longer c (acting_history (settled (appended (v.server k) e))) ≡ (settled (appended (v.server k) e)).entries)
    → Grown v c (parties.Server p) k rest (appended (v.server k) e) (passed_on (v.server k) e ++ tail_news (v.server k) (appended (v.server k) e))
fwd_grown v c p k place e rest b at is_pred own = record {
  pred = refl;
  succ = refl;
  full = refl;
  acked = refl;
  same_told = refl;
  idle = subst (λ ms. Each Idle ms) (sym (addressed-append parties.Master (passed_on (v.server k) e) (tail_news (v.server k) x))) (each-append Idle (addressed parties.Master (passed_on (v.server k) e)) (addressed parties.Master (tail_news (v.server k) x)) (passed_idle (v.server k) e) (tail_idle (v.server k) x));
  own = own;
  alone = λ q before. let there = (before-in q k (extended v.master) before).1 in linked_alone v c p k b.prefixes b.whole there is_pred (fwd_linked v c p k place e rest b there at) q before;
  sent_data = λ y none. row NoData y (passed_data (v.server k) e y none) (quiet y);
  sent_snaps = λ y. row NoSnap y (passed_snaps (v.server k) e y) (all-data-snap (addressed (parties.Server y) (tail_news (v.server k) x)) (quiet y));
  feeds_on = λ y link. subst (λ ms. Feeds (length (v.server k).entries) ms (length x.entries)) (sym (addressed-append (parties.Server y) (passed_on (v.server k) e) (tail_news (v.server k) x)))
      (subst (λ n. Feeds (length (v.server k).entries) (addressed (parties.Server y) (passed_on (v.server k) e) ++ addressed (parties.Server y) (tail_news (v.server k) x)) n) (sym one_more) (passed_feeds (v.server k) e y (addressed (parties.Server y) (tail_news (v.server k) x)) link (quiet y)));
  feeds_behind = λ q there other q_pred link. subst (λ i. Feeds (length x.entries) (left_between v (parties.Server p) k rest i k) (length (v.server i).entries)) (same_some p q (sym is_pred ∙ q_pred))
      (subst (λ ms. Feeds (length x.entries) ms (length (v.server p).entries)) (sym (left_own v p k rest)) (subst (λ n. Feeds n rest (length (v.server p).entries)) (sym one_more) (feed there).2));
  snaps_behind = λ q member q_pred. subst (λ i. Each NoSnap (left_between v (parties.Server p) k rest i k)) (same_some p q (sym is_pred ∙ q_pred)) (subst (λ ms. Each NoSnap ms) (sym (left_own v p k rest)) (feed (member-extended v.master.chain v.master.joiner k member)).1);
  acks = λ y. row (AckWithin committed) y (passed_acks committed (v.server k) e y) (ack_row committed (v.server k) x y (λ does. omega (arith, ap length (own does), ap length (is_settled x).entries)));
  floor = λ not full. b.whole.floors k (full-member v k b.placed full) full;
  catches = λ t joins last. each-follows NoCaught (Catches ((is_that (v.server t).succ k ≡ true) × Each NoSnap (left_between v (parties.Server p) k rest t k))) (addressed parties.Master (passed_on (v.server k) e ++ tail_news (v.server k) x)) (no_catches ((is_that (v.server t).succ k ≡ true) × Each NoSnap (left_between v (parties.Server p) k rest t k)))
      (subst (λ ms. Each NoCaught ms) (sym (addressed-append parties.Master (passed_on (v.server k) e) (tail_news (v.server k) x))) (each-append NoCaught (addressed parties.Master (passed_on (v.server k) e)) (addressed parties.Master (tail_news (v.server k) x)) (passed_caught (v.server k) e) (tail_caught (v.server k) x)));
} where
  x : Server
  x = appended (v.server k) e

  committed : ℕ
  committed = length (longer c (acting_history (settled (appended (v.server k) e))))

  one_more : length (appended (v.server k) e).entries ≡ length (v.server k).entries + 1
  one_more = length-append (v.server k).entries (e ∷ [])

  feed : is_in (extended v.master) k ≡ true → Feeds (length (v.server k).entries) (Fwd place e ∷ rest) (length (v.server p).entries)
  feed there = subst (λ ms. Feeds (length (v.server k).entries) ms (length (v.server p).entries)) at (b.whole.feed p k there is_pred (fwd_linked v c p k place e rest b there at))

  quiet : (y : ℕ) → Each NoData (addressed (parties.Server y) (tail_news (v.server k) (appended (v.server k) e)))
  quiet y = tail_row NoData (v.server k) (appended (v.server k) e) y (λ does. tt)

  row : (P : Message → Type 0) (y : ℕ) → Each P (addressed (parties.Server y) (passed_on (v.server k) e)) → Each P (addressed (parties.Server y) (tail_news (v.server k) (appended (v.server k) e))) → Each P (addressed (parties.Server y) (passed_on (v.server k) e ++ tail_news (v.server k) (appended (v.server k) e)))
  row P y h g = subst (λ ms. Each P ms) (sym (addressed-append (parties.Server y) (passed_on (v.server k) e) (tail_news (v.server k) (appended (v.server k) e)))) (each-append P (addressed (parties.Server y) (passed_on (v.server k) e)) (addressed (parties.Server y) (tail_news (v.server k) (appended (v.server k) e))) h g)

-- a snapshot
pub snap_grown : (v : View) (c : List Entry) (p k : ℕ) (entries : List Entry) (rest : List Message) → BeforeTurn v c k → v.channel (parties.Server p) (parties.Server k) ≡ Snap entries ∷ rest → (v.server k).pred ≡ Some p → (v.server k).succ ≡ None
    → (acts (with_history (v.server k) entries) ≡ true → longer c (acting_history (settled (with_history (v.server k) entries))) ≡ (settled (with_history (v.server k) entries)).entries)
    → Grown v c (parties.Server p) k rest (with_history (v.server k) entries) (restored p entries (v.server k)).sent
snap_grown v c p k entries rest b at is_pred alone own = record {
  pred = refl;
  succ = refl;
  full = refl;
  acked = refl;
  same_told = refl;
  idle = restored_told Idle p entries (v.server k) (tail_idle (v.server k) x) tt;
  own = own;
  alone = λ q before. let there = (before-in q k (extended v.master) before).1 in linked_alone v c p k b.prefixes b.whole there is_pred (snap_linked v c p k entries rest b there at) q before;
  sent_data = λ y none. quiet y;
  sent_snaps = λ y. all-data-snap (addressed (parties.Server y) (restored p entries (v.server k)).sent) (quiet y);
  feeds_on = λ y link. absurd (both_ways (is_that (v.server k).succ y) (ap (λ o. is_that o y) alone) link);
  feeds_behind = λ q there other q_pred link. subst (λ i. Feeds (length x.entries) (left_between v (parties.Server p) k rest i k) (length (v.server i).entries)) (same_some p q (sym is_pred ∙ q_pred)) (subst (λ ms. Feeds (length x.entries) ms (length (v.server p).entries)) (sym (left_own v p k rest)) (feed there).2);
  snaps_behind = λ q member q_pred. left_snaps q (member-extended v.master.chain v.master.joiner k member) (same_some p q (sym is_pred ∙ q_pred));
  acks = λ y. restored_row (AckWithin committed) p entries (v.server k) y (ack_row committed (v.server k) x y (λ does. omega (arith, ap length (own does), ap length (is_settled x).entries)));
  floor = λ not full. absurd (both_ways (v.server k).full (snap_young v c p k entries rest b.commits b.whole (full-member v k b.placed full) is_pred at) full);
  catches = λ t joins last.
      let there = joiner-extended v.master.chain v.master.joiner k joins in
      let same = linked_ups v c k p t b.whole joins last is_pred in
      restored_told (Catches ((is_that (v.server t).succ k ≡ true) × Each NoSnap (left_between v (parties.Server p) k rest t k))) p entries (v.server k)
      (each-follows NoCaught (Catches ((is_that (v.server t).succ k ≡ true) × Each NoSnap (left_between v (parties.Server p) k rest t k))) (addressed parties.Master (tail_news (v.server k) x)) (no_catches ((is_that (v.server t).succ k ≡ true) × Each NoSnap (left_between v (parties.Server p) k rest t k))) (tail_caught (v.server k) x))
      (subst (λ i. is_that (v.server i).succ k ≡ true) same (snap_linked v c p k entries rest b there at), left_snaps t there same);
} where
  x : Server
  x = with_history (v.server k) entries

  committed : ℕ
  committed = length (longer c (acting_history (settled (with_history (v.server k) entries))))

  feed : is_in (extended v.master) k ≡ true → Feeds (length (v.server k).entries) (Snap entries ∷ rest) (length (v.server p).entries)
  feed there = subst (λ ms. Feeds (length (v.server k).entries) ms (length (v.server p).entries)) at (b.whole.feed p k there is_pred (snap_linked v c p k entries rest b there at))

  left_snaps : (q : ℕ) → is_in (extended v.master) k ≡ true → p ≡ q → Each NoSnap (left_between v (parties.Server p) k rest q k)
  left_snaps q there same = subst (λ i. Each NoSnap (left_between v (parties.Server p) k rest i k)) same (subst (λ ms. Each NoSnap ms) (sym (left_own v p k rest)) (feed there).1)

  quiet : (y : ℕ) → Each NoData (addressed (parties.Server y) (restored p entries (v.server k)).sent)
  quiet y = restored_row NoData p entries (v.server k) y (tail_row NoData (v.server k) (with_history (v.server k) entries) y (λ does. tt))

-- a request at the head
pub arrive_grown : (v : View) (c : List Entry) (k : ℕ) (e : Entry) → BeforeTurn v c k → (v.server k).head ≡ true
    → (acts (appended (v.server k) e) ≡ true → longer c (acting_history (settled (appended (v.server k) e))) ≡ (settled (appended (v.server k) e)).entries)
    → Grown v c parties.Clients k (v.channel parties.Clients (parties.Server k)) (appended (v.server k) e) (passed_on (v.server k) e)
arrive_grown v c k e b is_head own = record {
  pred = refl;
  succ = refl;
  full = refl;
  acked = refl;
  same_told = refl;
  idle = passed_idle (v.server k) e;
  own = own;
  alone = λ q before. absurd (no_neighbour v q k b.prefixes there is_head before);
  sent_data = λ y none. passed_data (v.server k) e y none;
  sent_snaps = λ y. passed_snaps (v.server k) e y;
  feeds_on = λ y link. subst (λ ms. Feeds (length (v.server k).entries) ms (length x.entries)) (append-nil (addressed (parties.Server y) (passed_on (v.server k) e)))
      (subst (λ n. Feeds (length (v.server k).entries) (addressed (parties.Server y) (passed_on (v.server k) e) ++ []) n) (sym (length-append (v.server k).entries (e ∷ []))) (passed_feeds (v.server k) e y [] link tt));
  feeds_behind = λ q extended other q_pred link. absurd (no_pred v q k b.prefixes there is_head q_pred);
  snaps_behind = λ q member q_pred. absurd (no_pred v q k b.prefixes there is_head q_pred);
  acks = λ y. passed_acks (length (longer c (acting_history (settled x)))) (v.server k) e y;
  floor = λ not full. b.whole.floors k (full-member v k b.placed full) full;
  catches = λ t joins last. each-follows NoCaught (Catches ((is_that (v.server t).succ k ≡ true) × Each NoSnap (left_between v parties.Clients k (v.channel parties.Clients (parties.Server k)) t k))) (addressed parties.Master (passed_on (v.server k) e))
      (no_catches ((is_that (v.server t).succ k ≡ true) × Each NoSnap (left_between v parties.Clients k (v.channel parties.Clients (parties.Server k)) t k))) (passed_caught (v.server k) e);
} where
  x : Server
  x = appended (v.server k) e

  there : is_in (extended v.master) k ≡ true
  there = member-extended v.master.chain v.master.joiner k (head-member v k b.placed is_head)
