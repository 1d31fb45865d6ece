-- By what a trace grows, one step after another.
use Rattle.std.proofs.Common.{◌≡◌, ℕ, ◌+◌, ◌∙◌, ◌⊎◌, add-one, ap, sym, refl, subst, append-nil, append_assoc, inl, inr, List, [], ◌∷◌, ◌++◌, Bool, true, false, Option, Some}
use Rattle.cq_base.specs.declared.party.Party.TheVariants as parties
use Rattle.cq_base.specs.Relations.{Among, IsPrefix}
use Rattle.cq_base.proofs.Among.{among-append, among-left, among-right}
use Rattle.cq_live_plan.specs.declared.joins.Join.{Join}
use Rattle.cq_nodes.specs.Moves.{Part}
use Rattle.cq_nodes.specs.Nodes.{NotesCrash}
use Rattle.cq_nodes.specs.Turns.{noting, GrewBy, each_of, GrewByEach, GrewByArrival, GrewByWork, GrewByOrders, take_of, put_of, taken_at, detected_at, sent_at, joined_at, joined_by}
use Rattle.cq_nodes.proofs.Places.{both_no}
use Rattle.cq_events.specs.declared.event.Event.{Event}
use Rattle.cq_events.specs.declared.event.Event.TheVariants as events

-- ---- prefixes

pub prefix_none : {X : Type 0} (xs : List X) → IsPrefix xs xs
prefix_none xs = ([], sym (append-nil xs))

pub prefix_same : {X : Type 0} (xs ys : List X) → ys ≡ xs → IsPrefix xs ys
prefix_same xs ys is = subst (λ us. IsPrefix xs us) (sym is) (prefix_none xs)

pub prefix_both : {X : Type 0} (xs ys zs : List X) → IsPrefix xs ys → IsPrefix ys zs → IsPrefix xs zs
prefix_both xs ys zs one two = (one.0 ++ two.0, two.1 ∙ ap (λ us. us ++ two.0) one.1 ∙ append_assoc xs one.0 two.0)

-- ---- parts

-- parts of two lists, one behind the other
pub part_join : {X : Type 0} (xs us ys bs : List X) → Part xs us → Part ys bs → Part (xs ++ ys) (us ++ bs)
part_join [] [] ys bs h k = k
part_join [] (u ∷ us) [] bs h k = tt
part_join [] (u ∷ us) (y ∷ ys) bs h k = inr (part_join [] us (y ∷ ys) bs tt k)
part_join (x ∷ xs) [] ys bs h k = absurd h
part_join (x ∷ xs) (u ∷ us) ys bs (inl h) k = inl (h.0, part_join xs us ys bs h.1 k)
part_join (x ∷ xs) (u ∷ us) ys bs (inr h) k = inr (part_join (x ∷ xs) us ys bs h k)

-- ---- some of several events

pub grew_none : (all trace : List Event) → GrewBy all trace trace
grew_none all trace = record { events = []; grown = sym (append-nil trace); part = tt }

pub grew_same : (all old new : List Event) → new ≡ old → GrewBy all old new
grew_same all old new is = subst (GrewBy all old) (sym is) (grew_none all old)

pub grew_more : (xs ys a b c : List Event) → GrewBy xs a b → GrewBy ys b c → GrewBy (xs ++ ys) a c
grew_more xs ys a b c one two = record {
  events = one.events ++ two.events;
  grown = two.grown ∙ ap (λ us. us ++ two.events) one.grown ∙ append_assoc a one.events two.events;
  part = part_join one.events xs two.events ys one.part two.part;
}

-- by one event, or by none
pub grew_noted : (done : Bool) (event : Event) (old new : List Event) → new ≡ noting done event old → GrewBy (event ∷ []) old new
grew_noted true event old new is = record { events = event ∷ []; grown = is; part = inl (refl, tt) }
grew_noted false event old new is = grew_same (event ∷ []) old new is

pub grew_prefix : (all old new : List Event) → GrewBy all old new → IsPrefix old new
grew_prefix all old new h = (h.events, h.grown)

-- ---- one place after another

pub each_none : (f : ℕ → List Event) (trace : List Event) → GrewByEach f trace trace
each_none f trace = record { places = 0; grew = grew_none (each_of f 0) trace }

pub each_more : (f : ℕ → List Event) (place : ℕ) (a b c : List Event) → GrewBy (each_of f place) a b → GrewBy (f place) b c → GrewBy (each_of f (place + 1)) a c
each_more f place a b c one two = subst (λ n. GrewBy (each_of f n) a c) (sym (add-one place)) (grew_more (each_of f place) (f place) a b c one two)

each_prefix : (f : ℕ → List Event) (old new : List Event) → GrewByEach f old new → IsPrefix old new
each_prefix f old new h = grew_prefix (each_of f h.places) old new h.grew

-- ---- a server

arrival_prefix : (id clock : ℕ) (old new : List Event) → GrewByArrival id clock old new → IsPrefix old new
arrival_prefix id clock old new (inl same) = prefix_same old new same
arrival_prefix id clock old new (inr one) = (events.Arrive id clock one.0 ∷ [], one.1)

pub work_prefix : (id clock : ℕ) (old new : List Event) → GrewByWork id clock old new → IsPrefix old new
work_prefix id clock old new h = prefix_both old h.taken new (each_prefix (take_of id) old h.taken h.takes)
    (prefix_both h.taken h.arrived new (arrival_prefix id clock h.taken h.arrived h.arrival)
    (prefix_both h.arrived h.put new (each_prefix (put_of id) h.arrived h.put h.puts) (grew_prefix (events.Put (parties.Server id) parties.Clients ∷ []) h.put new h.answer)))

pub work_none : (id clock : ℕ) (trace : List Event) → GrewByWork id clock trace trace
work_none id clock trace = record {
  taken = trace;
  arrived = trace;
  put = trace;
  takes = each_none (take_of id) trace;
  arrival = inl refl;
  puts = each_none (put_of id) trace;
  answer = grew_none (events.Put (parties.Server id) parties.Clients ∷ []) trace;
}

-- ---- the master

pub orders_none : (joins : List Join) (turn : ℕ) (trace : List Event) → GrewByOrders joins turn trace trace
orders_none joins turn trace = record {
  taken = trace;
  detected = trace;
  joined = trace;
  takes = each_none taken_at trace;
  detections = each_none detected_at trace;
  joining = each_none (joined_at joins turn) trace;
  puts = each_none sent_at trace;
}

pub orders_prefix : (joins : List Join) (turn : ℕ) (old new : List Event) → GrewByOrders joins turn old new → IsPrefix old new
orders_prefix joins turn old new h = prefix_both old h.taken new (each_prefix taken_at old h.taken h.takes)
    (prefix_both h.taken h.detected new (each_prefix detected_at h.taken h.detected h.detections)
    (prefix_both h.detected h.joined new (each_prefix (joined_at joins turn) h.detected h.joined h.joining) (each_prefix sent_at h.joined new h.puts)))

-- a server that joined was due
pub grew_joined : (due : Option ℕ) (id : ℕ) (done : Bool) (old new : List Event) → due ≡ Some id → new ≡ noting done (events.Join id) old → GrewBy (joined_by due) old new
grew_joined due id done old new is noted = subst (λ (o : Option ℕ). GrewBy (joined_by o) old new) (sym is) (grew_noted done (events.Join id) old new noted)

-- ---- crashes among the events

module _ (id : ℕ) (trace longer : List Event) (starved ended : Bool) (h : NotesCrash id trace starved ended) where
  -- nothing was noted
  pub crash_kept : longer ≡ trace → NotesCrash id longer starved ended
  crash_kept is = subst (λ us. NotesCrash id us starved ended) (sym is) h

  -- something else was, by a server that hasn't crashed
  pub crash_more : ended ≡ false → (event : Event) → longer ≡ trace ++ event ∷ [] → (events.Crash id ≡ event → ⊥) → NotesCrash id longer starved ended
  crash_more up event is apart = record {
    noted = λ over. absurd (both_no ended over up);
    none = λ still. none_more;
    last = λ before rest there. absurd (none_more (subst (Among (events.Crash id)) (sym there) (among-right (events.Crash id) before (events.Crash id ∷ rest) (inl refl))));
    by_memory = h.by_memory;
  } where
    either : Among (events.Crash id) trace ⊎ Among (events.Crash id) (event ∷ []) → ⊥
    either (inl before) = h.none up before
    either (inr (inl same)) = apart same
    either (inr (inr nothing)) = nothing

    none_more : Among (events.Crash id) longer → ⊥
    none_more there = either (among-append (events.Crash id) trace (event ∷ []) (subst (Among (events.Crash id)) is there))

-- what stands behind other things alone is the last
abbrev rest_of : {X : Type 0} → List X → List X
rest_of [] = []
rest_of (x ∷ xs) = xs

abbrev head_of : {X : Type 0} → X → List X → X
head_of x [] = x
head_of x (y ∷ ys) = y

abbrev is_empty_list : {X : Type 0} → List X → Bool
is_empty_list [] = true
is_empty_list (x ∷ xs) = false

ends_there : {X : Type 0} (x : X) (xs before rest : List X) → (Among x xs → ⊥) → xs ++ x ∷ [] ≡ before ++ (x ∷ rest) → rest ≡ []
ends_there x [] [] rest apart is = sym (ap rest_of is)
ends_there x [] (b ∷ []) rest apart is = absurd (both_no true refl (ap is_empty_list (ap rest_of is)))
ends_there x [] (b ∷ (c ∷ bs)) rest apart is = absurd (both_no true refl (ap is_empty_list (ap rest_of is)))
ends_there x (y ∷ ys) [] rest apart is = absurd (apart (inl (sym (ap (head_of x) is))))
ends_there x (y ∷ ys) (b ∷ bs) rest apart is = ends_there x ys bs rest (λ there. apart (inr there)) (ap rest_of is)

-- the crash was, by a server that hadn't crashed
pub crash_now : (id : ℕ) (trace longer : List Event) (starved : Bool) → (Among (events.Crash id) trace → ⊥) → longer ≡ trace ++ events.Crash id ∷ [] → NotesCrash id longer starved true
crash_now id trace longer starved apart is = record {
  noted = λ over. subst (Among (events.Crash id)) (sym is) (among-right (events.Crash id) trace (events.Crash id ∷ []) (inl refl));
  none = λ up there. both_no true refl up;
  last = λ before rest there. ends_there (events.Crash id) trace before rest apart (sym is ∙ there);
  by_memory = λ short. refl;
}

-- before the first turn
pub crash_none : (id : ℕ) → NotesCrash id [] false false
crash_none id = record { noted = λ over. absurd (both_no false over refl); none = λ up there. there; last = λ before rest is. absurd (no_crash before rest is); by_memory = λ short. short } where
  no_crash : (before rest : List Event) → [] ≡ before ++ (events.Crash id ∷ rest) → ⊥
  no_crash [] rest is = both_no true refl (ap is_empty_list is)
  no_crash (b ∷ bs) rest is = both_no true refl (ap is_empty_list is)
