-- Runs of events, one event more.
use Rattle.std.proofs.Common.{◌≡◌, ℕ, ◌+◌, ◌<◌, ◌∙◌, inl, inr, Result, ap, sym, refl, subst, List, [], ◌∷◌, ◌++◌, length, append-nil, append_assoc, Option, Some, None, arith}
use Rattle.std.specs.Result.{IsOk}
use Rattle.std.specs.Vec.{vec_len, vec_capacity}
use Rattle.std.proofs.lemmas.List.Sums.{fold-append}
use Rattle.cq_base.specs.declared.fault.NoMemory as base
use Rattle.cq_chain.specs.declared.fault.WorldFault.{WorldFault}
use Rattle.cq_chain.specs.declared.fault.WorldFault.TheVariants.{NoSuchServer, ServerDown, LinkEmpty, OutboxEmpty, LastFull, JoinPending, IdUsed, ChainFull, NotDown, NotHead, HistoryFull, NotTail, NoMemory}
use Rattle.cq_chain.specs.declared.message.Answer.{Answer}
use Rattle.cq_chain.specs.Faults.{IsRefusal}
use Rattle.cq_events.specs.Events.{refusal_of, next, after, unless_refused}
use Rattle.cq_events.specs.Runs.{world_after, given_from, refused_from, given_if, numbered}
use Rattle.cq_world.specs.Stands.{StandsFor, HasRoomFor}
use Rattle.cq_world.specs.declared.ran.Ran.{Ran}
use Rattle.cq_events.specs.Worlds.{World}
use Rattle.cq_events.specs.declared.event.Event.{Event}
use Rattle.cq_world.specs.declared.sim.Sim.{Sim}

-- ---- one event

pub after-done : (w : World) (event : Event) → refusal_of w event ≡ None → after w event ≡ next w event
unfolding after
after-done w event h = ap (λ r. unless_refused w event r) h

pub after-refused : (w : World) (event : Event) (fault : WorldFault) → refusal_of w event ≡ Some fault → after w event ≡ w
unfolding after
after-refused w event fault h = ap (λ r. unless_refused w event r) h

-- a fault that isn't want of memory is the refusal
pub refusal-told : (fault : WorldFault) (refusal : Option WorldFault) → (fault ≡ NoMemory → ⊥) → IsRefusal fault refusal → refusal ≡ Some fault
refusal-told NoSuchServer refusal other h = h
refusal-told ServerDown refusal other h = h
refusal-told LinkEmpty refusal other h = h
refusal-told OutboxEmpty refusal other h = h
refusal-told LastFull refusal other h = h
refusal-told JoinPending refusal other h = h
refusal-told IdUsed refusal other h = h
refusal-told ChainFull refusal other h = h
refusal-told NotDown refusal other h = h
refusal-told NotHead refusal other h = h
refusal-told HistoryFull refusal other h = h
refusal-told NotTail refusal other h = h
refusal-told NoMemory refusal other h = absurd (other refl)

-- what finds room passes
pub passes : (given : Option Answer) (ran : Ran) (result : Result (Unit {0}) base.NoMemory) → HasRoomFor given ran → (given ≡ None → IsOk result) → (vec_len ran.given < vec_capacity ran.given → IsOk result) → IsOk result
passes given ran result (inl none) h k = h none
passes given ran result (inr room) h k = k room

-- ---- one more

-- the world
pub world-more : (w : World) (done : List Event) (event : Event) → world_after w (done ++ event ∷ []) ≡ after (world_after w done) event
unfolding world_after
world-more w done event = fold-append after w done (event ∷ [])

world-first : (w : World) (event : Event) (events : List Event) → world_after w (event ∷ events) ≡ world_after (after w event) events
unfolding world_after
world-first w event events = refl

world-none : (w : World) → world_after w [] ≡ w
unfolding world_after
world-none w = refl

-- what is given
given-none : (n : ℕ) (w : World) → given_from n w [] ≡ []
unfolding given_from
given-none n w = refl

given-first : (n : ℕ) (w : World) (event : Event) (events : List Event) → given_from n w (event ∷ events) ≡ numbered n (given_if w event (refusal_of w event)) ++ given_from (n + 1) (after w event) events
unfolding given_from
given-first n w event events = refl

pub given-more : (n : ℕ) (w : World) (done : List Event) (event : Event)
    → given_from n w (done ++ event ∷ []) ≡ given_from n w done ++ numbered (length done + n) (given_if (world_after w done) event (refusal_of (world_after w done) event))
given-more n w [] event =
    let same : 0 + n ≡ n = omega arith in
    given-first n w event [] ∙ ap (λ xs. numbered n (given_if w event (refusal_of w event)) ++ xs) (given-none (n + 1) (after w event)) ∙ append-nil (numbered n (given_if w event (refusal_of w event)))
    ∙ sym (ap (λ xs. xs ++ numbered (0 + n) (given_if (world_after w []) event (refusal_of (world_after w []) event))) (given-none n w)
    ∙ ap (λ v. numbered (0 + n) (given_if v event (refusal_of v event))) (world-none w) ∙ ap (λ k. numbered k (given_if w event (refusal_of w event))) same)
given-more n w (e ∷ es) event =
    let same : length es + (n + 1) ≡ length (e ∷ es) + n = omega arith in
    let own = numbered n (given_if w e (refusal_of w e)) in
    given-first n w e (es ++ event ∷ []) ∙ ap (λ xs. own ++ xs) (given-more (n + 1) (after w e) es event)
    ∙ sym (append_assoc own (given_from (n + 1) (after w e) es) (numbered (length es + (n + 1)) (given_if (world_after (after w e) es) event (refusal_of (world_after (after w e) es) event))))
    ∙ ap (λ xs. xs ++ numbered (length es + (n + 1)) (given_if (world_after (after w e) es) event (refusal_of (world_after (after w e) es) event))) (sym (given-first n w e es))
    ∙ ap (λ k. given_from n w (e ∷ es) ++ numbered k (given_if (world_after (after w e) es) event (refusal_of (world_after (after w e) es) event))) same
    ∙ ap (λ v. given_from n w (e ∷ es) ++ numbered (length (e ∷ es) + n) (given_if v event (refusal_of v event))) (sym (world-first w e es))

-- what is refused
refused-none : (n : ℕ) (w : World) → refused_from n w [] ≡ []
unfolding refused_from
refused-none n w = refl

refused-first : (n : ℕ) (w : World) (event : Event) (events : List Event) → refused_from n w (event ∷ events) ≡ numbered n (refusal_of w event) ++ refused_from (n + 1) (after w event) events
unfolding refused_from
refused-first n w event events = refl

pub refused-more : (n : ℕ) (w : World) (done : List Event) (event : Event)
    → refused_from n w (done ++ event ∷ []) ≡ refused_from n w done ++ numbered (length done + n) (refusal_of (world_after w done) event)
refused-more n w [] event =
    let same : 0 + n ≡ n = omega arith in
    refused-first n w event [] ∙ ap (λ xs. numbered n (refusal_of w event) ++ xs) (refused-none (n + 1) (after w event)) ∙ append-nil (numbered n (refusal_of w event))
    ∙ sym (ap (λ xs. xs ++ numbered (0 + n) (refusal_of (world_after w []) event)) (refused-none n w)
    ∙ ap (λ v. numbered (0 + n) (refusal_of v event)) (world-none w) ∙ ap (λ k. numbered k (refusal_of w event)) same)
refused-more n w (e ∷ es) event =
    let same : length es + (n + 1) ≡ length (e ∷ es) + n = omega arith in
    let own = numbered n (refusal_of w e) in
    refused-first n w e (es ++ event ∷ []) ∙ ap (λ xs. own ++ xs) (refused-more (n + 1) (after w e) es event)
    ∙ sym (append_assoc own (refused_from (n + 1) (after w e) es) (numbered (length es + (n + 1)) (refusal_of (world_after (after w e) es) event)))
    ∙ ap (λ xs. xs ++ numbered (length es + (n + 1)) (refusal_of (world_after (after w e) es) event)) (sym (refused-first n w e es))
    ∙ ap (λ k. refused_from n w (e ∷ es) ++ numbered k (refusal_of (world_after (after w e) es) event)) same
    ∙ ap (λ v. refused_from n w (e ∷ es) ++ numbered (length (e ∷ es) + n) (refusal_of v event)) (sym (world-first w e es))

-- What came of the events that were run.
pub record IsRun (start now : Sim) (done : List Event) (given : List (ℕ × Answer)) (refused : List (ℕ × WorldFault)) : Type 0 where
  pub world : (w : World) → StandsFor start w → StandsFor now (world_after w done)
  pub given_so : (w : World) → StandsFor start w → given ≡ given_from 1 w done
  pub refused_so : (w : World) → StandsFor start w → refused ≡ refused_from 1 w done

pub none-run : (start : Sim) → IsRun start start [] [] []
none-run start = record {
  world = λ w h. subst (λ v. StandsFor start v) (sym (world-none w)) h;
  given_so = λ w h. sym (given-none 1 w);
  refused_so = λ w h. sym (refused-none 1 w);
}

-- and of one more
pub one-more : (start now then : Sim) (done : List Event) (event : Event) (number : ℕ) (given given2 : List (ℕ × Answer)) (refused refused2 : List (ℕ × WorldFault)) → number ≡ length done → IsRun start now done given refused
    → ((w : World) → StandsFor now w → StandsFor then (after w event))
    → ((w : World) → StandsFor now w → given2 ≡ given ++ numbered (number + 1) (given_if w event (refusal_of w event)))
    → ((w : World) → StandsFor now w → refused2 ≡ refused ++ numbered (number + 1) (refusal_of w event))
    → IsRun start then (done ++ event ∷ []) given2 refused2
one-more start now then done event number given given2 refused refused2 count h world gives refuses = record {
  world = λ w s. subst (λ v. StandsFor then v) (sym (world-more w done event)) (world (world_after w done) (h.world w s));
  given_so = λ w s. gives (world_after w done) (h.world w s)
      ∙ ap (λ xs. xs ++ numbered (number + 1) (given_if (world_after w done) event (refusal_of (world_after w done) event))) (h.given_so w s)
      ∙ ap (λ k. given_from 1 w done ++ numbered (k + 1) (given_if (world_after w done) event (refusal_of (world_after w done) event))) count
      ∙ sym (given-more 1 w done event);
  refused_so = λ w s. refuses (world_after w done) (h.world w s)
      ∙ ap (λ xs. xs ++ numbered (number + 1) (refusal_of (world_after w done) event)) (h.refused_so w s)
      ∙ ap (λ k. refused_from 1 w done ++ numbered (k + 1) (refusal_of (world_after w done) event)) count
      ∙ sym (refused-more 1 w done event);
}

-- two that are the same
pub some_same : {A : Type 0} {x y : A} → Some x ≡ Some y → x ≡ y
some_same h = cc
