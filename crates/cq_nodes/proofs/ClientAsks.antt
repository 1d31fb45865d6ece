-- A client's core after each of its calls.
use Rattle.std.proofs.Common.{arith, ◌≡◌, ◌<◌, ◌≤◌, ℕ, ◌+◌, ◌==◌, ◌&&◌, ◌∙◌, ap, sym, refl, subst, cond, length, length-append, List, [], ◌∷◌, ◌++◌, slice_get, true, false, nat_lt, is_some, inl, inr, Option, Some, None, Result, Ok, Err, IfOk}
use Rattle.std.specs.Option.{IfSome, option_map}
use Rattle.std.proofs.lemmas.Bool.{eqb-true, ltb-true, and_parts}
use Rattle.std.proofs.lemmas.Option.{none-some, slice_get_within}
use Rattle.cq_base.specs.declared.ask.Ask.{Ask}
use Rattle.cq_base.specs.declared.ask.Request.{Request}
use Rattle.cq_base.proofs.Among.{among-append}
use Rattle.cq_chain.specs.Clients.{Client, StandsFor, refusal_of_ask, asked, open_request, request_of, next_request, closes, closed as with_closed, after_answer}
use Rattle.cq_chain.specs.declared.client.Client as rust_client
use Rattle.cq_chain.specs.declared.fault.ClientFault.{ClientFault}
use Rattle.cq_chain.specs.declared.fault.ClientFault.TheVariants.{Busy}
use Rattle.cq_chain.specs.declared.message.Answer.{Answer}
use Rattle.cq_nodes.specs.ClientMoves.{IsDueAsk, IsOpen, IsAlong, Closes}
use Rattle.cq_nodes.proofs.Places.{both_no}

-- ---- lists

pub one_more : {X : Type 0} (xs : List X) (x : X) → length (xs ++ x ∷ []) ≡ length xs + 1
one_more xs x = length-append xs (x ∷ [])

-- ---- an ask

-- a client that isn't refused has no open request
none_open : (pending : Option Ask) (other : Option ClientFault) → cond (is_some pending) (Some Busy) other ≡ None → pending ≡ None
none_open None other free = refl
none_open (Some ask) other free = absurd (none-some Busy (sym free))

all_closed : (asks : List Ask) (made closed : ℕ) (pending : Option Ask) → IsOpen asks made closed pending → pending ≡ None → made ≡ closed
all_closed asks made closed None h none = h
all_closed asks made closed (Some ask) h none = absurd (none-some ask (sym none))

module _ (id : ℕ) (asks : List Ask) (old new : rust_client.Client) (closed : List Answer) (h : IsAlong id asks old closed) where
  made : refusal_of_ask h.client ≡ None → h.client.used ≡ length closed
  made free = all_closed asks h.client.used (length closed) h.client.pending h.pending (none_open h.client.pending _ free)

  pub along_asked : (ask : Ask) → slice_get asks (length closed) ≡ Some ask → refusal_of_ask h.client ≡ None → StandsFor new (asked h.client ask) → IsAlong id asks new closed
  along_asked ask here free stands = record {
    client = asked h.client ask;
    stands = stands;
    own = h.own;
    pending = (ap (λ n. n + 1) (made free), here);
    longest = h.longest;
  }

  -- the request that is made is the ask behind those that are closed
  pub asked_due : (ask : Ask) → slice_get asks (length closed) ≡ Some ask → refusal_of_ask h.client ≡ None → (request : Request) → request ≡ next_request h.client ask → IsDueAsk id asks (length closed) request
  asked_due ask here free request is =
      let so = made free in
      subst (IsDueAsk id asks (length closed)) (sym is) (record { one = record { place = length closed; client = h.own; number = ap (λ n. n + 1) so; ask = here }; early = omega (arith, so) })

-- ---- the open request again

open_is : (id : ℕ) (asks : List Ask) (client : Client) (closed : ℕ) (pending : Option Ask) → client.id ≡ id → IsOpen asks client.used closed pending → IfSome (option_map (request_of client client.used) pending) (IsDueAsk id asks closed)
open_is id asks client closed None own waits = tt
open_is id asks client closed (Some ask) own waits = let number = waits.0 in record { one = record { place = closed; client = own; number = number; ask = waits.1 }; early = omega (arith, number) }

pub again_is : {E : Type 0} (id : ℕ) (asks : List Ask) (core : rust_client.Client) (closed : List Answer) (r : Result (Option Request) E) → (h : IsAlong id asks core closed) → IfOk r (λ request. request ≡ open_request h.client) → IfOk r (λ request. IfSome request (IsDueAsk id asks (length closed)))
again_is id asks core closed (Ok request) h is = subst (λ o. IfSome o (IsDueAsk id asks (length closed))) (sym is) (open_is id asks h.client (length closed) h.client.pending h.own h.pending)
again_is id asks core closed (Err fault) h is = tt

-- ---- an answer

-- which ask is open
open_ask : (asks : List Ask) (used closed : ℕ) (pending : Option Ask) → IsOpen asks used closed pending → is_some pending ≡ true → (used ≡ closed + 1) × (closed < length asks)
open_ask asks used closed None waits some = absurd (both_no false some refl)
open_ask asks used closed (Some ask) waits some = (waits.0, slice_get_within asks closed ask waits.1)

module _ (id : ℕ) (asks : List Ask) (old new : rust_client.Client) (closed : List Answer) (answer : Answer) (h : IsAlong id asks old closed) (stands : StandsFor new (after_answer h.client answer.number answer.length)) where
  pub answer_closes : closes h.client answer.number answer.length ≡ true → answer.client ≡ id → answer.is_query ≡ false → Closes id asks new closed answer
  answer_closes does own no_query =
      let both = and_parts (is_some h.client.pending && answer.number == h.client.used) (nat_lt h.client.length answer.length) does in
      let fits = and_parts (is_some h.client.pending) (answer.number == h.client.used) both.0 in
      let rises : h.client.length < answer.length = ltb-true h.client.length answer.length both.1 in
      let one = open_ask asks h.client.used (length closed) h.client.pending h.pending fits.0 in
      record {
        next = record {
          asked = one.1;
          client = own;
          number = eqb-true answer.number h.client.used fits.1 ∙ one.0;
          no_query = no_query;
          longer = λ other among. shorter (h.longest other among) rises;
        };
        along = record {
          client = with_closed h.client answer.length;
          stands = subst (λ b. StandsFor new (cond b (with_closed h.client answer.length) h.client)) does stands;
          own = h.own;
          pending = one.0 ∙ sym (one_more closed answer);
          longest = λ other among. elim (among-append other closed (answer ∷ []) among) [ inl l ↦ no_longer (h.longest other l) rises | inr r ↦ elim r [ inl e ↦ same_length e | inr none ↦ absurd none ] ];
        };
      }
    where
      shorter : {a b c : ℕ} → a ≤ b → b < c → a < c
      shorter x y = omega arith

      no_longer : {a b c : ℕ} → a ≤ b → b < c → a ≤ c
      no_longer x y = omega arith

      same_length : {a b : Answer} → a ≡ b → a.length ≤ b.length
      same_length e = let n = ap (λ (x : Answer). x.length) e in omega arith
