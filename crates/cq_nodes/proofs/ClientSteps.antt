-- What a client's node did, after one more step.
use Rattle.std.proofs.Common.{arith, ◌≡◌, ◌<◌, ◌≤◌, ℕ, zero, suc, ◌+◌, ◌∙◌, ◌⊎◌, ap, sym, refl, subst, length, List, [], ◌∷◌, ◌++◌, slice_get, inl, inr, Bool, Option, Some, None}
use Rattle.std.proofs.lemmas.Option.{same_Some, none-some, IfSome_then}
use Rattle.std.specs.Option.{IfSome}
use Rattle.cq_base.specs.declared.ask.Ask.{Ask}
use Rattle.cq_base.specs.declared.ask.Request.{Request}
use Rattle.cq_base.specs.Relations.{Among}
use Rattle.cq_base.proofs.Pairs.{pairwise-push}
use Rattle.cq_chain.specs.Clients.{StandsFor, first_client}
use Rattle.cq_chain.specs.declared.client.Client as rust_client
use Rattle.cq_chain.specs.declared.message.Answer.{Answer}
use Rattle.cq_chain.specs.declared.message.Message.{Message}
use Rattle.cq_nodes.specs.ClientMoves.{IsDueAsk, AreAsked, IsTaken, GrewAt, IsAlong, ClosesBy}
use Rattle.cq_nodes.specs.ClientNodes.{AreFresh, IsClosedBy, CameInOrder, ClientRan, client_held}
use Rattle.cq_nodes.proofs.ClientAsks.{one_more}
use Rattle.cq_nodes.proofs.ClientOrders.{came_none, came_still, came_one}

-- ---- lists

-- what stands in a list with one more
at_push : {X : Type 0} (xs : List X) (x y : X) (i : ℕ) → slice_get (xs ++ x ∷ []) i ≡ Some y → (slice_get xs i ≡ Some y) ⊎ ((i ≡ length xs) × (y ≡ x))
at_push [] x y zero is = inr (refl, sym (same_Some x y is))
at_push [] x y (suc i) is = absurd (none-some y is)
at_push (z ∷ zs) x y zero is = inl is
at_push (z ∷ zs) x y (suc i) is = elim (at_push zs x y i is) [ inl l ↦ inl l | inr r ↦ inr (ap suc r.0, r.1) ]

-- what each place had, each place of one more has
pub each_push : {X : Type 0} (Q : ℕ → X → Type 0) (xs : List X) (x : X) → ((i : ℕ) (y : X) → slice_get xs i ≡ Some y → Q i y) → Q (length xs) x → (i : ℕ) (y : X) → slice_get (xs ++ x ∷ []) i ≡ Some y → Q i y
each_push Q xs x all last i y is = elim (at_push xs x y i is) [ inl l ↦ all i y l | inr r ↦ subst (λ j. Q j y) (sym r.0) (subst (Q (length xs)) (sym r.1) last) ]

-- ---- a node

module _ {P T : Type 0} (put : P → List Request) (taken : T → List Message) where
  -- it did nothing yet
  pub ran_first : (id : ℕ) (asks : List Ask) (core : rust_client.Client) (outs : List P) (ins : List T) (closed : List Answer) (starved : Bool) → StandsFor core (first_client id) → AreFresh put taken outs ins → closed ≡ [] → ClientRan put taken core None (client_held id asks outs ins closed starved)
  ran_first id asks core outs ins closed starved stands fresh none = subst (λ xs. ClientRan put taken core None (client_held id asks outs ins xs starved)) (sym none) (record {
    did = record {
      asked = λ place out here request among. absurd (subst (λ xs. Among request xs) (fresh.nothing_put place out here) among);
      closed_by = λ place answer nobody. absurd (none-some answer nobody);
      came = came_none taken ins;
      rising = tt;
      few = omega arith;
    };
    along = record { client = first_client id; stands = stands; own = refl; pending = refl; longest = λ answer nobody. absurd nobody };
    back = tt;
  })

  module _ (id : ℕ) (asks : List Ask) (old new : rust_client.Client) (back : Option Request) (outs : List P) (ins : List T) (closed longer : List Answer) (starved : Bool) (h : ClientRan put taken old back (client_held id asks outs ins closed starved)) where
    -- what was taken before is taken still
    closed_still : (after : List T) → ((m : Message) → IsTaken taken m ins → IsTaken taken m after) → (place : ℕ) (answer : Answer) → slice_get closed place ≡ Some answer → IsClosedBy put taken id after place answer
    closed_still after kept place answer here =
        let was = h.did.closed_by place answer here in
        record { taken_here = kept _ was.taken_here; client = was.client; number = was.number; no_query = was.no_query }

    -- it took a message that closed nothing, or none
    pub ran_took : (after : List T) (place : ℕ) (r : Option Message) → GrewAt taken ins after place r → ((m : Message) → IsTaken taken m ins → IsTaken taken m after) → IsAlong id asks new closed → longer ≡ closed → ClientRan put taken new back (client_held id asks outs after longer starved)
    ran_took after place r grew kept along is = subst (λ xs. ClientRan put taken new back (client_held id asks outs after xs starved)) (sym is) (record {
      did = record { asked = h.did.asked; closed_by = closed_still after kept; came = came_still taken ins after place r closed grew h.did.came; rising = h.did.rising; few = h.did.few };
      along = along;
      back = h.back;
    })

    -- it put a request, or keeps it
    pub ran_put : (after : List P) (request : Request) (left : Option Request) → IsDueAsk id asks (length closed) request → (AreAsked put id asks (length closed) outs → AreAsked put id asks (length closed) after) → IfSome left (λ kept. kept ≡ request)
        → ClientRan put taken old left (client_held id asks after ins closed starved)
    ran_put after request left due puts kept = record {
      did = record { asked = puts h.did.asked; closed_by = h.did.closed_by; came = h.did.came; rising = h.did.rising; few = h.did.few };
      along = h.along;
      back = IfSome_then left kept (λ r is. subst (IsDueAsk id asks (length closed)) (sym is) due);
    }

    -- it took an answer that closed its open request
    pub ran_closed : (after : List T) (place : ℕ) (r : Option Message) (message : Message) (answer : Answer) → r ≡ Some message → GrewAt taken ins after place r → ((m : Message) → IsTaken taken m ins → IsTaken taken m after) → IsTaken taken message after → ClosesBy id asks new closed message answer → (room : List Answer) → room ≡ closed → longer ≡ room ++ answer ∷ []
        → ClientRan put taken new None (client_held id asks outs after longer starved)
    ran_closed after place r message answer gave grew kept there one room same is = subst (λ xs. ClientRan put taken new None (client_held id asks outs after xs starved)) (sym (is ∙ ap (λ xs. xs ++ answer ∷ []) same)) (record {
      did = record {
        asked = λ place out here request among. later request (h.did.asked place out here request among);
        closed_by = each_push (IsClosedBy put taken id after) closed answer (closed_still after kept) (record {
          taken_here = subst (λ m. IsTaken taken m after) one.bears there;
          client = one.closes.next.client;
          number = one.closes.next.number;
          no_query = one.closes.next.no_query;
        });
        came = came_one taken ins after place message closed answer one.bears (subst (GrewAt taken ins after place) gave grew) h.did.came;
        rising = pairwise-push (λ a b. a.length < b.length) closed answer h.did.rising one.closes.next.longer;
        few = few (one_more closed answer) one.closes.next.asked;
      };
      along = one.closes.along;
      back = tt;
    }) where
      -- what was due before is one of those up to the next
      later : (request : Request) → IsDueAsk id asks (length closed) request → IsDueAsk id asks (length (closed ++ answer ∷ [])) request
      later request due = let more = one_more closed answer in let early = due.early in record { one = due.one; early = omega (arith, more, early) }

      -- there are at most as many as asks
      few : {n k m : ℕ} → n ≡ k + 1 → k < m → n ≤ m
      few e f = omega arith
