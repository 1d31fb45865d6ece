-- What a client's node keeps over turns.
use Rattle.std.proofs.Common.{◌≡◌, ◌∙◌, ap, sym, refl, subst, length, map, List, [], ◌∷◌, ◌++◌, true}
use Rattle.cq_chain.specs.declared.message.Answer.{Answer}
use Rattle.cq_base.specs.Relations.{IsPrefix}
use Rattle.cq_base.specs.declared.ask.Request.{Request}
use Rattle.cq_nodes.specs.ClientMoves.{IsDueAsk}
use Rattle.cq_nodes.specs.ClientNodes.{ClientHeld, KeepsClient, IsSameClient}
use Rattle.cq_nodes.proofs.Growing.{prefix_none, prefix_both, prefix_same}

-- the answers of a node that is seen so, with none more, or one
pub closed_kept : {P T : Type 0} (held value : ClientHeld P T) (new : List Answer) → held ≡ value → new ≡ held.closed → IsPrefix value.closed new
closed_kept {P} {T} held value new view is = subst (λ (h : ClientHeld P T). IsPrefix h.closed new) view (prefix_same held.closed new is)

pub closed_more : {P T : Type 0} (held value : ClientHeld P T) (room new : List Answer) (answer : Answer) → held ≡ value → room ≡ held.closed → new ≡ room ++ answer ∷ [] → IsPrefix value.closed new
closed_more {P} {T} held value room new answer view same is = subst (λ (h : ClientHeld P T). IsPrefix h.closed new) view (answer ∷ [], is ∙ ap (λ us. us ++ answer ∷ []) same)

-- a request that is due as callers see the node
pub seen_due : {P T : Type 0} (parts value : ClientHeld P T) (request : Request) → parts ≡ value → IsDueAsk value.id value.asks (length value.closed) request → IsDueAsk parts.id parts.asks (length parts.closed) request
seen_due {P} {T} parts value request view due = subst (λ (h : ClientHeld P T). IsDueAsk h.id h.asks (length h.closed) request) (sym view) due

module _ {P T L M : Type 0} (put : P → L) (taken : T → M) where
  pub keeps_starved : (old new : ClientHeld P T) → new ≡ record old { starved = true } → KeepsClient put taken old new
  keeps_starved old new is = record { id = ap (λ (h : ClientHeld P T). h.id) is; asks = ap (λ (h : ClientHeld P T). h.asks) is; outs = ap (λ (h : ClientHeld P T). map put h.outs) is; ins = ap (λ (h : ClientHeld P T). map taken h.ins) is }

  pub keeps_still : (a : ClientHeld P T) → KeepsClient put taken a a
  keeps_still a = record { id = refl; asks = refl; outs = refl; ins = refl }

  pub keeps_both : (a b c : ClientHeld P T) → KeepsClient put taken a b → KeepsClient put taken b c → KeepsClient put taken a c
  keeps_both a b c one two = record { id = two.id ∙ one.id; asks = two.asks ∙ one.asks; outs = two.outs ∙ one.outs; ins = two.ins ∙ one.ins }

  -- after the work of a turn, in which memory wasn't wanting before
  pub same_worked : (old new : ClientHeld P T) → KeepsClient put taken old new → IsPrefix old.closed new.closed → (old.starved ≡ true → ⊥) → IsSameClient put taken old new
  same_worked old new keeps closed fed = record { id = keeps.id; asks = keeps.asks; outs = keeps.outs; ins = keeps.ins; closed = closed; over = λ short. absurd (fed short) }

  pub same_starved : (old mid new : ClientHeld P T) → IsSameClient put taken old mid → (old.starved ≡ true → ⊥) → new ≡ record mid { starved = true } → IsSameClient put taken old new
  same_starved old mid new same fed is =
      let keeps = keeps_starved mid new is in
      record {
        id = keeps.id ∙ same.id;
        asks = keeps.asks ∙ same.asks;
        outs = keeps.outs ∙ same.outs;
        ins = keeps.ins ∙ same.ins;
        closed = prefix_both old.closed mid.closed new.closed same.closed (prefix_same mid.closed new.closed (ap (λ (h : ClientHeld P T). h.closed) is));
        over = λ short. absurd (fed short);
      }

  pub same_still : (a : ClientHeld P T) → IsSameClient put taken a a
  same_still a = record { id = refl; asks = refl; outs = refl; ins = refl; closed = prefix_none a.closed; over = λ starved. refl }

  pub same_both : (a b c : ClientHeld P T) → IsSameClient put taken a b → IsSameClient put taken b c → IsSameClient put taken a c
  same_both a b c one two = record {
    id = two.id ∙ one.id;
    asks = two.asks ∙ one.asks;
    outs = two.outs ∙ one.outs;
    ins = two.ins ∙ one.ins;
    closed = prefix_both a.closed b.closed c.closed one.closed two.closed;
    over = λ starved. let was = one.over starved in two.over (ap (λ (h : ClientHeld P T). h.starved) was ∙ starved) ∙ was;
  }
