-- What the master's node keeps over turns.
use Rattle.std.proofs.Common.{◌≡◌, ◌≤◌, ℕ, ◌+◌, ◌∙◌, arith, inl, inr, ap, refl, subst, sym, map, List, Bool, true, false}
use Rattle.cq_nodes.specs.MasterNodes.{Held, KeepsNode, IsSameMoment, IsSameNode, LeavesUnread, HasRead}
use Rattle.cq_nodes.specs.Turns.{noting, taken_at, detected_at, sent_at, joined_at, each_of, GrewBy, GrewByEach, GrewByOrders}
use Rattle.cq_nodes.proofs.Growing.{prefix_none, prefix_both, each_none, each_more, orders_none, orders_prefix}
use Rattle.cq_nodes.proofs.Places.{both_no}
use Rattle.cq_events.specs.declared.event.Event.{Event}

module _ {P T : Type 0} where
  pub moment_still : (a : Held P T) → IsSameMoment a a
  moment_still a = record { turns = refl; starved = refl }

  pub moment_both : (a b c : Held P T) → IsSameMoment a b → IsSameMoment b c → IsSameMoment a c
  moment_both a b c one two = record { turns = two.turns ∙ one.turns; starved = two.starved ∙ one.starved }

  -- what callers see of a node of these parts
  pub seen_noted : (parts value : Held P T) (new : List Event) (done : Bool) (event : Event) → parts ≡ value → new ≡ noting done event parts.trace → new ≡ noting done event value.trace
  seen_noted parts value new done event view is = subst (λ (h : Held P T). new ≡ noting done event h.trace) view is

  pub seen_joined : (parts value : Held P T) (new : List Event) (place : ℕ) → parts ≡ value → GrewBy (joined_at parts.joins parts.turns place) parts.trace new → GrewBy (joined_at value.joins value.turns place) value.trace new
  seen_joined parts value new place view is = subst (λ (h : Held P T). GrewBy (joined_at h.joins h.turns place) h.trace new) view is

  -- ---- messages that are unread

  -- as callers see a node of these parts
  pub seen_unread : (parts value : Held P T) (n more : ℕ) → parts ≡ value → n ≤ parts.unread + more → n ≤ value.unread + more
  seen_unread parts value n more view few = subst (λ (h : Held P T). n ≤ h.unread + more) view few

  pub no_more : (old new : Held P T) → new.unread ≡ old.unread → LeavesUnread old new
  no_more old new still = inl (omega arith)

  pub leaves_both : (a b c : Held P T) → LeavesUnread a b → LeavesUnread b c → (b.starved ≡ true → c ≡ record b { turns = c.turns }) → LeavesUnread a c
  leaves_both a b c (inl one) (inl two) over = inl (omega arith)
  leaves_both a b c (inl one) (inr two) over = inr (two.0, let most = two.1 in omega arith)
  leaves_both a b c (inr one) two over =
      let is = over one.0 in
      let still : c.unread ≡ b.unread = ap (λ (h : Held P T). h.unread) is in
      let most = one.1 in
      inr (ap (λ (h : Held P T). h.starved) is ∙ one.0, omega arith)

  pub still_read : (a b : Held P T) → HasRead a → LeavesUnread a b → (a.starved ≡ true → b ≡ record a { turns = b.turns }) → HasRead b
  still_read a b (inl none) (inl few) over = inl (omega arith)
  still_read a b (inl none) (inr one) over = inr (one.0, let most = one.1 in omega arith)
  still_read a b (inr one) leaves over =
      let is = over one.0 in
      let same : b.unread ≡ a.unread = ap (λ (h : Held P T). h.unread) is in
      let most = one.1 in
      inr (ap (λ (h : Held P T). h.starved) is ∙ one.0, omega arith)

  -- ---- steps

  -- a join at one place more
  pub joins_more : (a b c : Held P T) (place : ℕ) → b.joins ≡ a.joins → b.turns ≡ a.turns → GrewBy (each_of (joined_at a.joins a.turns) place) a.trace b.trace → GrewBy (joined_at b.joins b.turns place) b.trace c.trace → GrewBy (each_of (joined_at a.joins a.turns) (place + 1)) a.trace c.trace
  joins_more a b c place joins turns grew more = each_more (joined_at a.joins a.turns) place a.trace b.trace c.trace grew
      (subst (λ js. GrewBy (joined_at js a.turns place) b.trace c.trace) joins (subst (λ n. GrewBy (joined_at b.joins n place) b.trace c.trace) turns more))

  -- joins by the same list, in a turn of the same number
  joins_as : (a b : Held P T) (old new : List Event) → b.joins ≡ a.joins → b.turns ≡ a.turns → GrewByEach (joined_at b.joins b.turns) old new → GrewByEach (joined_at a.joins a.turns) old new
  joins_as a b old new joins turns h = subst (λ js. GrewByEach (joined_at js a.turns) old new) joins (subst (λ n. GrewByEach (joined_at b.joins n) old new) turns h)

  -- what was done after one, two, three and four of the steps of a turn
  pub ordered_one : (a b : Held P T) → GrewByEach taken_at a.trace b.trace → GrewByOrders a.joins a.turns a.trace b.trace
  ordered_one a b takes = record { taken = b.trace; detected = b.trace; joined = b.trace; takes = takes; detections = each_none detected_at b.trace; joining = each_none (joined_at a.joins a.turns) b.trace; puts = each_none sent_at b.trace }

  pub ordered_two : (a b c : Held P T) → GrewByEach taken_at a.trace b.trace → GrewByEach detected_at b.trace c.trace → GrewByOrders a.joins a.turns a.trace c.trace
  ordered_two a b c takes detections = record { taken = b.trace; detected = c.trace; joined = c.trace; takes = takes; detections = detections; joining = each_none (joined_at a.joins a.turns) c.trace; puts = each_none sent_at c.trace }

  pub ordered_three : (a b c d : Held P T) → c.joins ≡ a.joins → c.turns ≡ a.turns → GrewByEach taken_at a.trace b.trace → GrewByEach detected_at b.trace c.trace → GrewByEach (joined_at c.joins c.turns) c.trace d.trace → GrewByOrders a.joins a.turns a.trace d.trace
  ordered_three a b c d joins turns takes detections joining = record { taken = b.trace; detected = c.trace; joined = d.trace; takes = takes; detections = detections; joining = joins_as a c c.trace d.trace joins turns joining; puts = each_none sent_at d.trace }

  pub ordered_four : (a b c d e : Held P T) → c.joins ≡ a.joins → c.turns ≡ a.turns → GrewByEach taken_at a.trace b.trace → GrewByEach detected_at b.trace c.trace → GrewByEach (joined_at c.joins c.turns) c.trace d.trace → GrewByEach sent_at d.trace e.trace → GrewByOrders a.joins a.turns a.trace e.trace
  ordered_four a b c d e joins turns takes detections joining puts = record { taken = b.trace; detected = c.trace; joined = d.trace; takes = takes; detections = detections; joining = joins_as a c c.trace d.trace joins turns joining; puts = puts }

module _ {P T L M : Type 0} (put : P → L) (taken : T → M) where
  pub keeps_counted : (old new : Held P T) (t : ℕ) → new ≡ record old { turns = t } → KeepsNode put taken old new
  keeps_counted old new t is = record { size = ap (λ (h : Held P T). h.size) is; joins = ap (λ (h : Held P T). h.joins) is; outs = ap (λ (h : Held P T). map put h.outs) is; ins = ap (λ (h : Held P T). map taken h.ins) is }

  pub keeps_starved : (old new : Held P T) → new ≡ record old { starved = true } → KeepsNode put taken old new
  keeps_starved old new is = record { size = ap (λ (h : Held P T). h.size) is; joins = ap (λ (h : Held P T). h.joins) is; outs = ap (λ (h : Held P T). map put h.outs) is; ins = ap (λ (h : Held P T). map taken h.ins) is }

  pub keeps_still : (a : Held P T) → KeepsNode put taken a a
  keeps_still a = record { size = refl; joins = refl; outs = refl; ins = refl }

  pub keeps_both : (a b c : Held P T) → KeepsNode put taken a b → KeepsNode put taken b c → KeepsNode put taken a c
  keeps_both a b c one two = record { size = two.size ∙ one.size; joins = two.joins ∙ one.joins; outs = two.outs ∙ one.outs; ins = two.ins ∙ one.ins }

  -- the work of a turn that was counted
  pub counted_orders : (old mid : Held P T) (t : ℕ) (trace : List Event) → mid ≡ record old { turns = t } → GrewByOrders mid.joins mid.turns mid.trace trace → GrewByOrders old.joins mid.turns old.trace trace
  counted_orders old mid t trace is worked = subst (λ us. GrewByOrders old.joins mid.turns us trace) (ap (λ (h : Held P T). h.trace) is)
      (subst (λ joins. GrewByOrders joins mid.turns mid.trace trace) (ap (λ (h : Held P T). h.joins) is) worked)

  pub same_turned : (old new : Held P T) → KeepsNode put taken old new → GrewByOrders old.joins new.turns old.trace new.trace → (old.starved ≡ true → new ≡ record old { turns = new.turns }) → LeavesUnread old new → IsSameNode put taken old new
  same_turned old new keeps worked over unread = record { size = keeps.size; joins = keeps.joins; outs = keeps.outs; ins = keeps.ins; trace = orders_prefix old.joins new.turns old.trace new.trace worked; over = over; unread = unread }

  pub over_counted : (old new : Held P T) (t : ℕ) → new ≡ record old { turns = t } → new ≡ record old { turns = new.turns }
  over_counted old new t is = is ∙ ap (λ n. record old { turns = n }) (sym (ap (λ (h : Held P T). h.turns) is))

  pub same_still : (a : Held P T) → IsSameNode put taken a a
  same_still a = record { size = refl; joins = refl; outs = refl; ins = refl; trace = prefix_none a.trace; over = λ starved. refl; unread = no_more a a refl }

  pub same_both : (a b c : Held P T) → IsSameNode put taken a b → IsSameNode put taken b c → IsSameNode put taken a c
  same_both a b c one two = record {
    size = two.size ∙ one.size;
    joins = two.joins ∙ one.joins;
    outs = two.outs ∙ one.outs;
    ins = two.ins ∙ one.ins;
    trace = prefix_both a.trace b.trace c.trace one.trace two.trace;
    over = λ starved. let was = one.over starved in two.over (ap (λ (h : Held P T). h.starved) was ∙ starved) ∙ ap (λ (h : Held P T). record h { turns = c.turns }) was;
    unread = leaves_both a b c one.unread two.unread two.over;
  }

  -- ---- one turn

  pub orders_counted : (old new : Held P T) (t : ℕ) → new ≡ record old { turns = t } → GrewByOrders old.joins new.turns old.trace new.trace
  orders_counted old new t is = subst (λ us. GrewByOrders old.joins new.turns old.trace us) (sym (ap (λ (h : Held P T). h.trace) is)) (orders_none old.joins new.turns old.trace)

  pub had_orders : (old mid new : Held P T) (t : ℕ) → mid ≡ record old { turns = t } → GrewByOrders mid.joins mid.turns mid.trace new.trace → new.turns ≡ mid.turns → GrewByOrders old.joins new.turns old.trace new.trace
  had_orders old mid new t is worked turns = subst (λ n. GrewByOrders old.joins n old.trace new.trace) (sym turns) (counted_orders old mid t new.trace is worked)

  pub had_starved : (old mid worked new : Held P T) (t : ℕ) → mid ≡ record old { turns = t } → GrewByOrders mid.joins mid.turns mid.trace worked.trace → worked.turns ≡ mid.turns → new ≡ record worked { starved = true } → GrewByOrders old.joins new.turns old.trace new.trace
  had_starved old mid worked new t is ordered turns short = subst (λ us. GrewByOrders old.joins new.turns old.trace us) (sym (ap (λ (h : Held P T). h.trace) short))
      (subst (λ n. GrewByOrders old.joins n old.trace worked.trace) (sym (ap (λ (h : Held P T). h.turns) short ∙ turns)) (counted_orders old mid t worked.trace is ordered))

  -- a node that found memory before the turn
  fed_before : (old mid : Held P T) (t : ℕ) → mid ≡ record old { turns = t } → mid.starved ≡ false → old.starved ≡ true → ⊥
  fed_before old mid t is fed short = both_no old.starved short (sym (ap (λ (h : Held P T). h.starved) is) ∙ fed)

  pub over_turn : (old new : Held P T) (t : ℕ) → new ≡ record old { turns = t } → IsSameNode put taken old new
  over_turn old new t is = same_turned old new (keeps_counted old new t is) (orders_counted old new t is) (λ starved. over_counted old new t is) (no_more old new (ap (λ (h : Held P T). h.unread) is))

  pub work_turn : (old mid new : Held P T) (t : ℕ) → mid ≡ record old { turns = t } → mid.starved ≡ false → KeepsNode put taken mid new → GrewByOrders old.joins new.turns old.trace new.trace → new.unread ≤ mid.unread → IsSameNode put taken old new
  work_turn old mid new t is fed keeps had unread = same_turned old new (keeps_both old mid new (keeps_counted old mid t is) keeps) had (λ short. absurd (fed_before old mid t is fed short)) (inl (let was : mid.unread ≡ old.unread = ap (λ (h : Held P T). h.unread) is in omega arith))

  pub starved_turn : (old mid worked new : Held P T) (t : ℕ) → mid ≡ record old { turns = t } → mid.starved ≡ false → KeepsNode put taken mid worked → new ≡ record worked { starved = true } → GrewByOrders old.joins new.turns old.trace new.trace → worked.unread ≤ mid.unread + 1 → IsSameNode put taken old new
  starved_turn old mid worked new t is fed keeps short had unread = same_turned old new (keeps_both old mid new (keeps_counted old mid t is) (keeps_both mid worked new keeps (keeps_starved worked new short))) had (λ starved. absurd (fed_before old mid t is fed starved))
      (inr (ap (λ (h : Held P T). h.starved) short, let was : mid.unread ≡ old.unread = ap (λ (h : Held P T). h.unread) is in let still : new.unread ≡ worked.unread = ap (λ (h : Held P T). h.unread) short in omega arith))
