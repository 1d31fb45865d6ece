-- The ends of a client's links in their places, after the one at one place was used.
use Rattle.std.proofs.Common.{◌≡◌, ◌==◌, ℕ, zero, suc, ◌∙◌, ap, sym, refl, subst, cond, List, [], ◌∷◌, ◌++◌, slice_get, slice_set, Bool, true, false, inl, inr, Option, Some, None}
use Rattle.std.specs.Option.{IfSome, MatchOption}
use Rattle.std.proofs.lemmas.Bool.{eqb-true}
use Rattle.std.proofs.lemmas.Option.{same_Some, none-some}
use Rattle.cq_base.specs.declared.ask.Ask.{Ask}
use Rattle.cq_base.specs.declared.ask.Request.{Request}
use Rattle.cq_base.specs.Relations.{Among}
use Rattle.cq_base.proofs.Among.{among-append, among-left, among-right}
use Rattle.cq_chain.specs.declared.message.Answer.{Answer}
use Rattle.cq_chain.specs.declared.message.Message.{Message}
use Rattle.cq_chain.specs.declared.message.Message.TheVariants as stored
use Rattle.cq_chain.specs.Stands.{answer_of}
use Rattle.cq_nodes.specs.ClientMoves.{IsDueAsk, AreAsked, IsTaken, GrewAt}
use Rattle.cq_nodes.specs.Ends.{listed}
use Rattle.cq_nodes.proofs.Places.{apart_of, at_each, itself, empty_end}

-- ---- places

at_same : {X : Type 0} (xs : List X) (i : ℕ) (x now : X) → slice_get xs i ≡ Some x → slice_get (slice_set xs i now) i ≡ Some now
at_same [] i x now is = absurd (none-some x is)
at_same (y ∷ ys) zero x now is = refl
at_same (y ∷ ys) (suc i) x now is = at_same ys i x now is

at_other : {X : Type 0} (xs : List X) (i : ℕ) (now : X) (at : ℕ) → (at ≡ i → ⊥) → slice_get (slice_set xs i now) at ≡ slice_get xs at
at_other [] i now at apart = refl
at_other (y ∷ ys) zero now zero apart = absurd (apart refl)
at_other (y ∷ ys) zero now (suc at) apart = refl
at_other (y ∷ ys) (suc i) now zero apart = refl
at_other (y ∷ ys) (suc i) now (suc at) apart = at_other ys i now at (λ e. apart (ap suc e))

-- ---- puts

-- one more request is one of the asks
pub asked_more : (id : ℕ) (asks : List Ask) (closed : ℕ) (request : Request) (before after : List Request) → after ≡ before ++ request ∷ [] → IsDueAsk id asks closed request → ((other : Request) → Among other before → IsDueAsk id asks closed other) → (other : Request) → Among other after → IsDueAsk id asks closed other
asked_more id asks closed request before after is ask all other among = elim (among-append other before (request ∷ []) (subst (λ xs. Among other xs) is among)) [ inl l ↦ all other l | inr r ↦ elim r [ inl e ↦ subst (IsDueAsk id asks closed) (sym e) ask | inr none ↦ absurd none ] ]

pub asked_same : (id : ℕ) (asks : List Ask) (closed : ℕ) (before after : List Request) → after ≡ before → ((other : Request) → Among other before → IsDueAsk id asks closed other) → (other : Request) → Among other after → IsDueAsk id asks closed other
asked_same id asks closed before after is all other among = all other (subst (λ xs. Among other xs) is among)

pub asked_set : {P : Type 0} (list : P → List Request) (id : ℕ) (asks : List Ask) (closed : ℕ) (outs : List P) (i : ℕ) (out now : P) → slice_get outs i ≡ Some out → (((other : Request) → Among other (list out) → IsDueAsk id asks closed other) → (other : Request) → Among other (list now) → IsDueAsk id asks closed other)
    → AreAsked list id asks closed outs → AreAsked list id asks closed (slice_set outs i now)
asked_set {P} list id asks closed outs i out now is step all = at_each (λ at (x : P). (other : Request) → Among other (list x) → IsDueAsk id asks closed other) (λ at (x : P). (other : Request) → Among other (list x) → IsDueAsk id asks closed other) outs i out now is all (step (all i out is)) (λ at x apart told. told)

-- ---- takes

-- what was taken stays so
pub taken_more : (r : Option Message) (before after : List Message) → MatchOption r (after ≡ before) (λ item. after ≡ before ++ item ∷ []) → (m : Message) → Among m before → Among m after
taken_more None before after is m among = subst (λ xs. Among m xs) (sym is) among
taken_more (Some x) before after is m among = subst (λ xs. Among m xs) (sym is) (among-left m before (x ∷ []) among)

-- the item was taken
pub taken_last : (r : Option Message) (before after : List Message) → MatchOption r (after ≡ before) (λ item. after ≡ before ++ item ∷ []) → IfSome r (λ m. Among m after)
taken_last None before after is = tt
taken_last (Some x) before after is = subst (λ xs. Among x xs) (sym is) (among-right x before (x ∷ []) (inl refl))

module _ {T : Type 0} (list : T → List Message) (ins : List T) (i : ℕ) (end now : T) (is : slice_get ins i ≡ Some end) where
  pub taken_here : (m : Message) → Among m (list now) → IsTaken list m (slice_set ins i now)
  taken_here m among = record { place = i; end = now; here = at_same ins i end now is; among = among }

  pub taken_set : (m : Message) → (Among m (list end) → Among m (list now)) → IsTaken list m ins → IsTaken list m (slice_set ins i now)
  taken_set m more t = go (t.place == i) refl where
    go : (b : Bool) → (t.place == i) ≡ b → IsTaken list m (slice_set ins i now)
    go true e = taken_here m (more (subst (λ x. Among m (list x)) (same_Some t.end end (sym t.here ∙ ap (slice_get ins) (eqb-true t.place i e) ∙ is)) t.among))
    go false e = record { place = t.place; end = t.end; here = at_other ins i now t.place (apart_of t.place i e) ∙ t.here; among = t.among }

-- ---- takes in order

none_chosen : (t : Bool) → [] ≡ cond t (listed None) []
none_chosen true = refl
none_chosen false = refl

pub grew_nowhere : {T : Type 0} (list : T → List Message) (ins : List T) (place : ℕ) → GrewAt list ins ins place None
grew_nowhere list ins place link end is = (end, is, sym (empty_end (list end)) ∙ ap (λ us. list end ++ us) (none_chosen (link == place)))

-- what one end has, by what its call gives
took_listed : (r : Option Message) (before after : List Message) → MatchOption r (after ≡ before) (λ item. after ≡ before ++ item ∷ []) → after ≡ before ++ listed r
took_listed None before after is = is ∙ sym (empty_end before)
took_listed (Some x) before after is = is

pub grew_set : {T : Type 0} (list : T → List Message) (ins : List T) (place : ℕ) (end now : T) → slice_get ins place ≡ Some end → (r : Option Message) → MatchOption r (list now ≡ list end) (λ item. list now ≡ list end ++ item ∷ []) → GrewAt list ins (slice_set ins place now) place r
grew_set {T} list ins place end now is r taken = at_each (λ at (x : T). slice_get ins at ≡ Some x) (λ at (x : T). (was : T) × (slice_get ins at ≡ Some was) × (list x ≡ list was ++ cond (at == place) (listed r) [])) ins place end now is (λ at x here. here)
    (end, is, took_listed r (list end) (list now) taken ∙ ap (λ t. list end ++ cond t (listed r) []) (sym (itself place)))
    (λ at x apart here. (x, here, sym (empty_end (list x)) ∙ ap (λ t. list x ++ cond t (listed r) []) (sym apart)))

-- ---- answers

-- what a message is as an answer, it bears
pub answer_borne : (message : Message) (answer : Answer) → answer_of message ≡ Some answer → message ≡ stored.Answer answer
answer_borne (stored.Answer a) answer is = cc
answer_borne (stored.Fwd place entry) answer is = absurd (none-some answer is)
answer_borne (stored.Snap state) answer is = absurd (none-some answer is)
answer_borne (stored.Ack place) answer is = absurd (none-some answer is)
answer_borne stored.BeHead answer is = absurd (none-some answer is)
answer_borne (stored.Report pred) answer is = absurd (none-some answer is)
answer_borne (stored.Adopt succ have) answer is = absurd (none-some answer is)
answer_borne (stored.BeTail least) answer is = absurd (none-some answer is)
answer_borne (stored.Feed succ) answer is = absurd (none-some answer is)
answer_borne (stored.Have pred count) answer is = absurd (none-some answer is)
answer_borne (stored.Adopted succ count) answer is = absurd (none-some answer is)
answer_borne (stored.Caught pred count) answer is = absurd (none-some answer is)
answer_borne stored.Ready answer is = absurd (none-some answer is)
