-- What a server's node did in a turn, by the steps of that turn, and what it keeps over turns.
use Rattle.std.proofs.Common.{◌≡◌, ℕ, ◌+◌, ◌≤◌, arith, ◌∙◌, ap, sym, refl, subst, min, inl, inr, map, List, [], ◌∷◌, ◌++◌, Bool, true, false}
use Rattle.cq_base.specs.declared.party.Party.TheVariants as parties
use Rattle.cq_base.specs.declared.limits.TheConstants.{MOMENT_LIMIT}
use Rattle.cq_base.specs.Relations.{IsPrefix}
use Rattle.cq_nodes.specs.Nodes.{Held, KeepsLinks, IsSameServer, IsSameTurn, LeavesUnread, HasRead}
use Rattle.cq_nodes.specs.Ends.{party_at}
use Rattle.cq_nodes.specs.Turns.{noting, take_of, put_of, each_of, GrewBy, GrewByEach, GrewByArrival, GrewByWork, HasJustCrashed, HadTurn}
use Rattle.cq_nodes.proofs.Growing.{prefix_none, prefix_both, grew_none, grew_noted, each_none, each_more, work_none, work_prefix}
use Rattle.cq_nodes.proofs.Places.{both_no}
use Rattle.cq_events.specs.declared.event.Event.{Event}
use Rattle.cq_events.specs.declared.event.Event.TheVariants as events

-- what is not true is false
pub is_false : (t : Bool) → (t ≡ true → ⊥) → t ≡ false
is_false t isnt = go t refl where
  go : (b : Bool) → t ≡ b → t ≡ false
  go true e = absurd (isnt e)
  go false e = e

-- a node that isn't over hasn't crashed
pub not_over : (ended over : Bool) → (ended ≡ true → over ≡ true) → over ≡ false → ended ≡ false
not_over ended over tells up = is_false ended (λ is. both_no over (tells is) up)

-- an arrival at a server of the same number, in a turn of the same number
arrival_as : (i j m n : ℕ) (old new : List Event) → i ≡ j → m ≡ n → GrewByArrival i (min m MOMENT_LIMIT) old new → GrewByArrival j (min n MOMENT_LIMIT) old new
arrival_as i j m n old new id turns h = subst (λ k. GrewByArrival k (min n MOMENT_LIMIT) old new) id (subst (λ k. GrewByArrival i (min k MOMENT_LIMIT) old new) turns h)

module _ {P T I : Type 0} where
  -- a node that is as it was has crashed no more than it had
  pub up_still : (new old : Held P T I) → new ≡ old → old.ended ≡ false → new.ended ≡ false
  up_still new old is up = ap (λ (h : Held P T I). h.ended) is ∙ up

  -- ---- one turn

  -- it did nothing
  pub had_none : (old new : Held P T I) (t : ℕ) → new ≡ record old { turns = t } → HadTurn old new
  had_none old new t is = record {
    worked = old.trace;
    work = work_none old.id (min new.turns MOMENT_LIMIT) old.trace;
    end = inl (record { trace = ap (λ (h : Held P T I). h.trace) is; ended = ap (λ (h : Held P T I). h.ended) is; starved = ap (λ (h : Held P T I). h.starved) is });
  }

  -- it crashed before any work
  pub had_crash : (old mid new : Held P T I) (t : ℕ) → mid ≡ record old { turns = t } → HasJustCrashed mid new mid.trace → HadTurn old new
  had_crash old mid new t is crash = record {
    worked = old.trace;
    work = work_none old.id (min new.turns MOMENT_LIMIT) old.trace;
    end = inr (
      record {
        trace = crash.trace ∙ ap (λ (h : Held P T I). h.trace ++ events.Crash h.id ∷ []) is;
        before = sym (ap (λ (h : Held P T I). h.ended) is) ∙ crash.before;
        ended = crash.ended;
      },
      inl refl,
    );
  }

  -- the work of a turn that was counted
  counted_work : (old mid new : Held P T I) (t : ℕ) (trace : List Event) → mid ≡ record old { turns = t } → new.turns ≡ mid.turns → GrewByWork mid.id (min mid.turns MOMENT_LIMIT) mid.trace trace → GrewByWork old.id (min new.turns MOMENT_LIMIT) old.trace trace
  counted_work old mid new t trace is turns work = subst (λ us. GrewByWork old.id (min new.turns MOMENT_LIMIT) us trace) (ap (λ (h : Held P T I). h.trace) is)
      (subst (λ i. GrewByWork i (min new.turns MOMENT_LIMIT) mid.trace trace) (ap (λ (h : Held P T I). h.id) is)
      (subst (λ n. GrewByWork mid.id (min n MOMENT_LIMIT) mid.trace trace) (sym turns) work))

  -- it worked
  pub had_work : (old mid new : Held P T I) (t : ℕ) → mid ≡ record old { turns = t } → GrewByWork mid.id (min mid.turns MOMENT_LIMIT) mid.trace new.trace → IsSameTurn mid new → HadTurn old new
  had_work old mid new t is work same = record {
    worked = new.trace;
    work = counted_work old mid new t new.trace is same.turns work;
    end = inl (record { trace = refl; ended = same.ended ∙ ap (λ (h : Held P T I). h.ended) is; starved = same.starved ∙ ap (λ (h : Held P T I). h.starved) is });
  }

  -- it found no memory for all of its work
  pub had_no_memory : (old mid worked new : Held P T I) (t : ℕ) → mid ≡ record old { turns = t } → GrewByWork mid.id (min mid.turns MOMENT_LIMIT) mid.trace worked.trace → IsSameTurn mid worked → worked.id ≡ mid.id
      → HasJustCrashed worked new worked.trace → new.turns ≡ worked.turns → new.starved ≡ true → HadTurn old new
  had_no_memory old mid worked new t is work same id crash turns short = record {
    worked = worked.trace;
    work = counted_work old mid new t worked.trace is (turns ∙ same.turns) work;
    end = inr (
      record {
        trace = crash.trace ∙ ap (λ i. worked.trace ++ events.Crash i ∷ []) (id ∙ ap (λ (h : Held P T I). h.id) is);
        before = sym (same.ended ∙ ap (λ (h : Held P T I). h.ended) is) ∙ crash.before;
        ended = crash.ended;
      },
      inr short,
    );
  }

  -- its trace only grew
  pub had_prefix : (old new : Held P T I) → HadTurn old new → IsPrefix old.trace new.trace
  had_prefix old new h = elim h.end [
    | inl up ↦ subst (λ us. IsPrefix old.trace us) (sym up.trace) (work_prefix old.id (min new.turns MOMENT_LIMIT) old.trace h.worked h.work)
    | inr down ↦ prefix_both old.trace h.worked new.trace (work_prefix old.id (min new.turns MOMENT_LIMIT) old.trace h.worked h.work) (events.Crash old.id ∷ [], down.0.trace)
  ]

  -- ---- what callers see of a node of these parts

  pub seen_noted : (parts value : Held P T I) (new : List Event) (done : Bool) (event : ℕ → Event) → parts ≡ value → new ≡ noting done (event parts.id) parts.trace → new ≡ noting done (event value.id) value.trace
  seen_noted parts value new done event view is = subst (λ (h : Held P T I). new ≡ noting done (event h.id) h.trace) view is

  pub seen_arrival : (parts value : Held P T I) (new : List Event) → parts ≡ value → GrewByArrival parts.id (min parts.turns MOMENT_LIMIT) parts.trace new → GrewByArrival value.id (min value.turns MOMENT_LIMIT) value.trace new
  seen_arrival parts value new view is = subst (λ (h : Held P T I). GrewByArrival h.id (min h.turns MOMENT_LIMIT) h.trace new) view is

  pub seen_crash : (parts value new : Held P T I) → parts ≡ value → HasJustCrashed parts new parts.trace → HasJustCrashed value new value.trace
  seen_crash parts value new view is = subst (λ (h : Held P T I). HasJustCrashed h new h.trace) view is

  -- ---- steps of one turn

  pub turn_still : (a : Held P T I) → IsSameTurn a a
  turn_still a = record { turns = refl; ended = refl; starved = refl }

  pub turn_both : (a b c : Held P T I) → IsSameTurn a b → IsSameTurn b c → IsSameTurn a c
  turn_both a b c one two = record { turns = two.turns ∙ one.turns; ended = two.ended ∙ one.ended; starved = two.starved ∙ one.starved }

  -- a take at one place more, or a put
  pub takes_more : (a b c : Held P T I) (place : ℕ) (done : Bool) → b.id ≡ a.id → GrewBy (each_of (take_of a.id) place) a.trace b.trace → c.trace ≡ noting done (events.Take (party_at place) (parties.Server b.id)) b.trace → GrewBy (each_of (take_of a.id) (place + 1)) a.trace c.trace
  takes_more a b c place done id grew is = each_more (take_of a.id) place a.trace b.trace c.trace grew (subst (λ i. GrewBy (take_of i place) b.trace c.trace) id (grew_noted done (events.Take (party_at place) (parties.Server b.id)) b.trace c.trace is))

  pub puts_more : (a b c : Held P T I) (place : ℕ) (done : Bool) → b.id ≡ a.id → GrewBy (each_of (put_of a.id) place) a.trace b.trace → c.trace ≡ noting done (events.Put (parties.Server b.id) (party_at place)) b.trace → GrewBy (each_of (put_of a.id) (place + 1)) a.trace c.trace
  puts_more a b c place done id grew is = each_more (put_of a.id) place a.trace b.trace c.trace grew (subst (λ i. GrewBy (put_of i place) b.trace c.trace) id (grew_noted done (events.Put (parties.Server b.id) (party_at place)) b.trace c.trace is))

  -- what was done after one, two, three and four of the steps of a turn
  pub worked_one : (a b : Held P T I) → GrewByEach (take_of a.id) a.trace b.trace → GrewByWork a.id (min a.turns MOMENT_LIMIT) a.trace b.trace
  worked_one a b takes = record { taken = b.trace; arrived = b.trace; put = b.trace; takes = takes; arrival = inl refl; puts = each_none (put_of a.id) b.trace; answer = grew_none (events.Put (parties.Server a.id) parties.Clients ∷ []) b.trace }

  pub worked_two : (a b c : Held P T I) → b.id ≡ a.id → b.turns ≡ a.turns → GrewByEach (take_of a.id) a.trace b.trace → GrewByArrival b.id (min b.turns MOMENT_LIMIT) b.trace c.trace → GrewByWork a.id (min a.turns MOMENT_LIMIT) a.trace c.trace
  worked_two a b c id turns takes arrival = record { taken = b.trace; arrived = c.trace; put = c.trace; takes = takes; arrival = arrival_as b.id a.id b.turns a.turns b.trace c.trace id turns arrival; puts = each_none (put_of a.id) c.trace; answer = grew_none (events.Put (parties.Server a.id) parties.Clients ∷ []) c.trace }

  pub worked_three : (a b c d : Held P T I) → b.id ≡ a.id → b.turns ≡ a.turns → c.id ≡ b.id → GrewByEach (take_of a.id) a.trace b.trace → GrewByArrival b.id (min b.turns MOMENT_LIMIT) b.trace c.trace → GrewByEach (put_of c.id) c.trace d.trace
      → GrewByWork a.id (min a.turns MOMENT_LIMIT) a.trace d.trace
  worked_three a b c d id turns then takes arrival puts = record { taken = b.trace; arrived = c.trace; put = d.trace; takes = takes; arrival = arrival_as b.id a.id b.turns a.turns b.trace c.trace id turns arrival; puts = subst (λ i. GrewByEach (put_of i) c.trace d.trace) (then ∙ id) puts; answer = grew_none (events.Put (parties.Server a.id) parties.Clients ∷ []) d.trace }

  pub worked_four : (a b c d e : Held P T I) (done : Bool) → b.id ≡ a.id → b.turns ≡ a.turns → c.id ≡ b.id → d.id ≡ c.id → GrewByEach (take_of a.id) a.trace b.trace → GrewByArrival b.id (min b.turns MOMENT_LIMIT) b.trace c.trace → GrewByEach (put_of c.id) c.trace d.trace
      → e.trace ≡ noting done (events.Put (parties.Server d.id) parties.Clients) d.trace → GrewByWork a.id (min a.turns MOMENT_LIMIT) a.trace e.trace
  worked_four a b c d e done id turns then last takes arrival puts answer = record {
    taken = b.trace;
    arrived = c.trace;
    put = d.trace;
    takes = takes;
    arrival = arrival_as b.id a.id b.turns a.turns b.trace c.trace id turns arrival;
    puts = subst (λ i. GrewByEach (put_of i) c.trace d.trace) (then ∙ id) puts;
    answer = subst (λ i. GrewBy (events.Put (parties.Server i) parties.Clients ∷ []) d.trace e.trace) (last ∙ then ∙ id) (grew_noted done (events.Put (parties.Server d.id) parties.Clients) d.trace e.trace answer);
  }

  -- ---- messages that are unread

  -- as callers see a node of these parts
  pub seen_unread : (parts value : Held P T I) (n more : ℕ) → parts ≡ value → n ≤ parts.unread + more → n ≤ value.unread + more
  seen_unread parts value n more view few = subst (λ (h : Held P T I). n ≤ h.unread + more) view few

  pub no_more : (old new : Held P T I) → new.unread ≡ old.unread → LeavesUnread old new
  no_more old new still = inl (omega arith)

  pub leaves_both : (a b c : Held P T I) → LeavesUnread a b → LeavesUnread b c → (b.ended ≡ true → c ≡ record b { turns = c.turns }) → LeavesUnread a c
  leaves_both a b c (inl one) (inl two) over = inl (omega arith)
  leaves_both a b c (inl one) (inr two) over = inr (two.0, two.1, let most = two.2 in omega arith)
  leaves_both a b c (inr one) two over =
      let is = over one.1 in
      let still : c.unread ≡ b.unread = ap (λ (h : Held P T I). h.unread) is in
      let most = one.2 in
      inr (ap (λ (h : Held P T I). h.starved) is ∙ one.0, ap (λ (h : Held P T I). h.ended) is ∙ one.1, omega arith)

  pub still_read : (a b : Held P T I) → HasRead a → LeavesUnread a b → (a.ended ≡ true → b ≡ record a { turns = b.turns }) → HasRead b
  still_read a b (inl none) (inl few) over = inl (omega arith)
  still_read a b (inl none) (inr one) over = inr (one.0, one.1, let most = one.2 in omega arith)
  still_read a b (inr one) leaves over =
      let is = over one.1 in
      let same : b.unread ≡ a.unread = ap (λ (h : Held P T I). h.unread) is in
      let most = one.2 in
      inr (ap (λ (h : Held P T I). h.starved) is ∙ one.0, ap (λ (h : Held P T I). h.ended) is ∙ one.1, omega arith)

  -- ---- turns

  module _ {L M N : Type 0} (put : P → L) (taken : T → M) (got : I → N) where
    pub keeps_counted : (old new : Held P T I) (t : ℕ) → new ≡ record old { turns = t } → KeepsLinks put taken got old new
    keeps_counted old new t is = record {
      size = ap (λ (h : Held P T I). h.size) is;
      id = ap (λ (h : Held P T I). h.id) is;
      crash_after = ap (λ (h : Held P T I). h.crash_after) is;
      outs = ap (λ (h : Held P T I). map put h.outs) is;
      first = ap (λ (h : Held P T I). put h.first) is;
      second = ap (λ (h : Held P T I). put h.second) is;
      ins = ap (λ (h : Held P T I). map taken h.ins) is;
      inbox = ap (λ (h : Held P T I). got h.inbox) is;
    }

    pub keeps_still : (a : Held P T I) → KeepsLinks put taken got a a
    keeps_still a = record { size = refl; id = refl; crash_after = refl; outs = refl; first = refl; second = refl; ins = refl; inbox = refl }

    pub keeps_both : (a b c : Held P T I) → KeepsLinks put taken got a b → KeepsLinks put taken got b c → KeepsLinks put taken got a c
    keeps_both a b c one two = record {
      size = two.size ∙ one.size;
      id = two.id ∙ one.id;
      crash_after = two.crash_after ∙ one.crash_after;
      outs = two.outs ∙ one.outs;
      first = two.first ∙ one.first;
      second = two.second ∙ one.second;
      ins = two.ins ∙ one.ins;
      inbox = two.inbox ∙ one.inbox;
    }

    pub same_turned : (old new : Held P T I) → KeepsLinks put taken got old new → HadTurn old new → (old.ended ≡ true → new ≡ record old { turns = new.turns }) → LeavesUnread old new → IsSameServer put taken got old new
    same_turned old new keeps had over unread = record {
      size = keeps.size;
      id = keeps.id;
      crash_after = keeps.crash_after;
      outs = keeps.outs;
      first = keeps.first;
      second = keeps.second;
      ins = keeps.ins;
      inbox = keeps.inbox;
      trace = had_prefix old new had;
      over = over;
      unread = unread;
    }

    -- a node that was only counted another turn
    pub over_counted : (old new : Held P T I) (t : ℕ) → new ≡ record old { turns = t } → new ≡ record old { turns = new.turns }
    over_counted old new t is = is ∙ ap (λ n. record old { turns = n }) (sym (ap (λ (h : Held P T I). h.turns) is))

    pub same_still : (a : Held P T I) → IsSameServer put taken got a a
    same_still a = record { size = refl; id = refl; crash_after = refl; outs = refl; first = refl; second = refl; ins = refl; inbox = refl; trace = prefix_none a.trace; over = λ ended. refl; unread = no_more a a refl }

    pub same_both : (a b c : Held P T I) → IsSameServer put taken got a b → IsSameServer put taken got b c → IsSameServer put taken got a c
    same_both a b c one two = record {
      size = two.size ∙ one.size;
      id = two.id ∙ one.id;
      crash_after = two.crash_after ∙ one.crash_after;
      outs = two.outs ∙ one.outs;
      first = two.first ∙ one.first;
      second = two.second ∙ one.second;
      ins = two.ins ∙ one.ins;
      inbox = two.inbox ∙ one.inbox;
      trace = prefix_both a.trace b.trace c.trace one.trace two.trace;
      over = λ ended. let was = one.over ended in two.over (ap (λ (h : Held P T I). h.ended) was ∙ ended) ∙ ap (λ (h : Held P T I). record h { turns = c.turns }) was;
      unread = leaves_both a b c one.unread two.unread two.over;
    }

    -- ---- one turn, as one of several

    pub over_turn : (old new : Held P T I) (t : ℕ) → new ≡ record old { turns = t } → IsSameServer put taken got old new
    over_turn old new t is = same_turned old new (keeps_counted old new t is) (had_none old new t is) (λ ended. over_counted old new t is) (no_more old new (ap (λ (h : Held P T I). h.unread) is))

    -- a node that hasn't crashed before the turn
    up_before : (old mid : Held P T I) (t : ℕ) → mid ≡ record old { turns = t } → mid.ended ≡ false → old.ended ≡ true → ⊥
    up_before old mid t is up ended = both_no old.ended ended (sym (ap (λ (h : Held P T I). h.ended) is) ∙ up)

    pub crash_turn : (old mid new : Held P T I) (t : ℕ) → mid ≡ record old { turns = t } → mid.ended ≡ false → KeepsLinks put taken got mid new → HasJustCrashed mid new mid.trace → new.unread ≡ mid.unread → IsSameServer put taken got old new
    crash_turn old mid new t is up keeps crash unread = same_turned old new (keeps_both old mid new (keeps_counted old mid t is) keeps) (had_crash old mid new t is crash) (λ ended. absurd (up_before old mid t is up ended)) (no_more old new (unread ∙ ap (λ (h : Held P T I). h.unread) is))

    pub work_turn : (old mid new : Held P T I) (t : ℕ) → mid ≡ record old { turns = t } → mid.ended ≡ false → KeepsLinks put taken got mid new → GrewByWork mid.id (min mid.turns MOMENT_LIMIT) mid.trace new.trace → IsSameTurn mid new → new.unread ≤ mid.unread → IsSameServer put taken got old new
    work_turn old mid new t is up keeps work same unread = same_turned old new (keeps_both old mid new (keeps_counted old mid t is) keeps) (had_work old mid new t is work same) (λ ended. absurd (up_before old mid t is up ended)) (inl (let was : mid.unread ≡ old.unread = ap (λ (h : Held P T I). h.unread) is in omega arith))

    pub starved_turn : (old mid worked new : Held P T I) (t : ℕ) → mid ≡ record old { turns = t } → mid.ended ≡ false → KeepsLinks put taken got mid worked → KeepsLinks put taken got worked new → HadTurn old new → new.starved ≡ true → new.ended ≡ true → worked.unread ≤ mid.unread + 1 → new.unread ≡ worked.unread → IsSameServer put taken got old new
    starved_turn old mid worked new t is up one two had starved ended unread still = same_turned old new (keeps_both old mid new (keeps_counted old mid t is) (keeps_both mid worked new one two)) had (λ ended. absurd (up_before old mid t is up ended)) (inr (starved, ended, let was : mid.unread ≡ old.unread = ap (λ (h : Held P T I). h.unread) is in omega arith))
