-- What is known of each queue stays so.
use Rattle.std.proofs.Common.{◌≡◌, ℕ, ◌+◌, ◌<◌, ◌≤◌, List, [], ◌∷◌, ◌++◌, map, length, Bool, true, false, cond, arith}
use Rattle.std.specs.List.{filter, All}
use Rattle.std.proofs.lemmas.List.{length_push}
use Rattle.std.proofs.lemmas.List.Sums.{length-filter, count_by-le-length}
use Rattle.std.proofs.lemmas.List.Elements.{All-map, All-weaker, All-filter, All-push}
use Rattle.cq_base.specs.declared.limits.TheConstants.{HISTORY_LIMIT}
use Rattle.cq_base.specs.queue.Incarnations.{Accepted, is_recent}
use Rattle.cq_base.specs.queue.Messages.{Message}
use Rattle.cq_messages.specs.Changes.{marked, handed_at_until, is_other, hidden_until}
use Rattle.cq_queue.specs.within.Sound.{IsHandedUpTo, IsNumberedUpTo, IsSound}
use Rattle.cq_queue.specs.within.Windows.{IsBy}

-- what came by a moment came by a later one
pub by-later : (last later : ℕ) (accepted : List Accepted) → last ≤ later → All (IsBy last) accepted → All (IsBy later) accepted
by-later last later accepted after h = All-weaker (IsBy last) (IsBy later) (λ a own. omega arith) accepted h

hidden_number : (b : Bool) (sent end : ℕ) (m : Message) → m.sequence ≤ sent → (cond b (record m { until = end }) m).sequence ≤ sent
hidden_number true sent end m h = h
hidden_number false sent end m h = h

hidden_handings : (b : Bool) (used end : ℕ) (m : Message) → m.handings ≤ used → (cond b (record m { until = end }) m).handings ≤ used
hidden_handings true used end m h = h
hidden_handings false used end m h = h

-- after a change of a timeout
pub sound-hidden : (number sent used : ℕ) (messages : List Message) (sequence end last later : ℕ) (accepted : List Accepted) → last ≤ later → IsSound number sent used messages last accepted → IsSound number sent used (map (hidden_until sequence end) messages) later accepted
sound-hidden number sent used messages sequence end last later accepted after h = record {
  positive = h.positive;
  sends = h.sends;
  numbers = All-map (IsNumberedUpTo sent) (hidden_until sequence end) messages (All-weaker (IsNumberedUpTo sent) (λ m. IsNumberedUpTo sent (hidden_until sequence end m)) (λ m own. hidden_number _ sent end m own) messages h.numbers);
  handings = All-map (IsHandedUpTo used) (hidden_until sequence end) messages (All-weaker (IsHandedUpTo used) (λ m. IsHandedUpTo used (hidden_until sequence end m)) (λ m own. hidden_handings _ used end m own) messages h.handings);
  uses = h.uses;
  latest = by-later last later accepted after h.latest;
  fewer = h.fewer;
}

marked_number : (b : Bool) (sent moment end : ℕ) (m : Message) → m.sequence ≤ sent → (cond b (handed_at_until moment end m) m).sequence ≤ sent
marked_number true sent moment end m h = h
marked_number false sent moment end m h = h

marked_handings : (b : Bool) (used moment end : ℕ) (m : Message) → m.handings ≤ used → (cond b (handed_at_until moment end m) m).handings ≤ used + 1
marked_handings true used moment end m h = omega arith
marked_handings false used moment end m h = omega arith

-- after a receive
pub sound-marked : (number sent used : ℕ) (messages : List Message) (moment end : ℕ) (numbers : List ℕ) (last later : ℕ) (accepted : List Accepted) → used < HISTORY_LIMIT → last ≤ later → IsSound number sent used messages last accepted → IsSound number sent (used + 1) (map (marked moment end numbers) messages) later accepted
sound-marked number sent used messages moment end numbers last later accepted room after h = record {
  positive = h.positive;
  sends = omega (arith, h.sends);
  numbers = All-map (IsNumberedUpTo sent) (marked moment end numbers) messages (All-weaker (IsNumberedUpTo sent) (λ m. IsNumberedUpTo sent (marked moment end numbers m)) (λ m own. marked_number _ sent moment end m own) messages h.numbers);
  handings = All-map (IsHandedUpTo (used + 1)) (marked moment end numbers) messages (All-weaker (IsHandedUpTo used) (λ m. IsHandedUpTo (used + 1) (marked moment end numbers m)) (λ m own. marked_handings _ used moment end m own) messages h.handings);
  uses = omega arith;
  latest = by-later last later accepted after h.latest;
  fewer = h.fewer;
}

-- after a delete
pub sound-without : (number sent used : ℕ) (messages : List Message) (sequence last : ℕ) (accepted : List Accepted) → IsSound number sent used messages last accepted → IsSound number sent used (filter (is_other sequence) messages) last accepted
sound-without number sent used messages sequence last accepted h = record { positive = h.positive; sends = h.sends; numbers = All-filter (is_other sequence) (IsNumberedUpTo sent) messages h.numbers; handings = All-filter (is_other sequence) (IsHandedUpTo used) messages h.handings; uses = h.uses; latest = h.latest; fewer = h.fewer }

-- the handings of all messages, with one more use
more_used : (used : ℕ) (messages : List Message) → All (IsHandedUpTo used) messages → All (IsHandedUpTo (used + 1)) messages
more_used used messages h = All-weaker (IsHandedUpTo used) (IsHandedUpTo (used + 1)) (λ m own. omega arith) messages h

-- no more pass a test than there are
passing-fewer : (p : Accepted → Bool) (accepted : List Accepted) (sent : ℕ) → length accepted ≤ sent → length (filter p accepted) ≤ sent
passing-fewer p accepted sent h = omega (arith, length-filter p accepted, count_by-le-length p accepted, h)

-- after a send that repeats one
pub sound-repeated : (number sent used : ℕ) (messages : List Message) (last moment : ℕ) (accepted : List Accepted) → used < HISTORY_LIMIT → last ≤ moment → IsSound number sent used messages last accepted → IsSound number sent (used + 1) messages moment (filter (is_recent moment) accepted)
sound-repeated number sent used messages last moment accepted room after h = record {
  positive = h.positive;
  sends = omega (arith, h.sends);
  numbers = h.numbers;
  handings = more_used used messages h.handings;
  uses = omega arith;
  latest = All-filter (is_recent moment) (IsBy moment) accepted (by-later last moment accepted after h.latest);
  fewer = passing-fewer (is_recent moment) accepted sent h.fewer;
}

-- after a send that is accepted
pub sound-accepted : (number sent used : ℕ) (messages : List Message) (last moment : ℕ) (accepted : List Accepted) (m : Message) (a : Accepted) → used < HISTORY_LIMIT → last ≤ moment → m.handings ≡ 0 → m.sequence ≡ sent + 1 → a.moment ≡ moment → IsSound number sent used messages last accepted
    → IsSound number (sent + 1) (used + 1) (messages ++ m ∷ []) moment (filter (is_recent moment) accepted ++ a ∷ [])
sound-accepted number sent used messages last moment accepted m a room after none next at h =
    let repeated = sound-repeated number sent used messages last moment accepted room after h in
    record {
      positive = h.positive;
      sends = omega (arith, h.sends);
      numbers = All-push (IsNumberedUpTo (sent + 1)) messages m (All-weaker (IsNumberedUpTo sent) (IsNumberedUpTo (sent + 1)) (λ x own. omega arith) messages h.numbers) (omega arith);
      handings = All-push (IsHandedUpTo (used + 1)) messages m repeated.handings (omega arith);
      uses = repeated.uses;
      latest = All-push (IsBy moment) (filter (is_recent moment) accepted) a repeated.latest (omega arith);
      fewer = omega (arith, length_push (filter (is_recent moment) accepted) a, repeated.fewer);
    }
