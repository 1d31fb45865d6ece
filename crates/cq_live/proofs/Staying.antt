-- Nodes that come back from their run are still those of the same chain.
use Rattle.std.proofs.Common.{◌≡◌, ℕ, ◌+◌, ◌∙◌, ap, sym, subst, List, ◌∷◌, map, slice_get, Bool, true, false, Some}
use Rattle.cq_base.specs.declared.ask.Request.{Request}
use Rattle.cq_live.specs.within.Aparts.{Server, Master, Client, Own}
use Rattle.cq_link.specs.Inboxes.{InboxId, take_inbox}
use Rattle.cq_link.specs.Links.{LinkId, putter_link, taker_link}
use Rattle.cq_nodes.specs.ClientNodes.{IsSameClient}
use Rattle.cq_nodes.specs.MasterNodes.{IsSameNode}
use Rattle.cq_nodes.proofs.MasterTurns as master_turns
use Rattle.cq_nodes.proofs.ServerTurns.{still_read}
use Rattle.cq_live.proofs.Images.{beside}
use Rattle.cq_live.specs.within.Chains.{master_wiring, server_wiring, wiring_of, AreTied, IsMasterOf, IsServerOf, IsClientOf, IsChain}
use Rattle.cq_live.proofs.Mapped.{same_map, same_length}
use Rattle.cq_live_plan.specs.declared.step.LiveStep.{LiveStep}
use Rattle.cq_threads.specs.SameNodes.{AreSame}
use Rattle.cq_link.specs.Clients.{seat_of}
use Rattle.cq_link.specs.Wirings.{Wiring, AreCrossed}

abbrev wired : List LinkId → List LinkId → Wiring
wired outs ins = record { outs = outs; ins = ins }

pub same_wired : (os ps is js : List LinkId) → os ≡ ps → is ≡ js → wired os is ≡ wired ps js
same_wired os ps is js a b = ap (λ xs. wired xs is) a ∙ ap (wired ps) b

module _ (own : Own) (m n : Master) (ss ts : List Server) (master : IsSameNode putter_link taker_link m n) (servers : AreSame putter_link taker_link take_inbox ss ts) where
  same_servers : map server_wiring ts ≡ map server_wiring ss
  same_servers = same_map server_wiring ss ts servers.all (λ i a b here there.
      let same = servers.each i a b here there in same_wired (map putter_link b.outs) (map putter_link a.outs) (map taker_link b.ins) (map taker_link a.ins) same.outs same.ins)

  same_master : master_wiring own n ≡ master_wiring own m
  same_master = same_wired (map putter_link (own.0 ∷ n.outs)) (map putter_link (own.0 ∷ m.outs)) (map taker_link (own.1 ∷ n.ins)) (map taker_link (own.1 ∷ m.ins))
      (ap (λ ls. putter_link own.0 ∷ ls) master.outs) (ap (λ ls. taker_link own.1 ∷ ls) master.ins)

  same_wiring : wiring_of own n ts ≡ wiring_of own m ss
  same_wiring = ap (λ w. w ∷ map server_wiring ts) same_master ∙ ap (λ ws. master_wiring own m ∷ ws) same_servers

-- the inbox of a server, and one of its two ends on which requests are put
abbrev pub seat : Bool → Server → InboxId Request × Bool
seat second s = (take_inbox s.inbox, second)

module _ (ss ts : List Server) (f g s t : Client) (servers : AreSame putter_link taker_link take_inbox ss ts) (first : IsSameClient seat_of taker_link f g) (second : IsSameClient seat_of taker_link s t) where
  firsts : map (λ (x : Server). putter_link x.first) ts ≡ map (λ (x : Server). putter_link x.first) ss
  firsts = same_map (λ (x : Server). putter_link x.first) ss ts servers.all (λ i a b here there. (servers.each i a b here there).first)

  seconds : map (λ (x : Server). putter_link x.second) ts ≡ map (λ (x : Server). putter_link x.second) ss
  seconds = same_map (λ (x : Server). putter_link x.second) ss ts servers.all (λ i a b here there. (servers.each i a b here there).second)

  inboxes : (e : Bool) → map (seat e) ts ≡ map (seat e) ss
  inboxes e = same_map (seat e) ss ts servers.all (λ i a b here there. let pair : InboxId Request → InboxId Request × Bool = λ x. (x, e) in ap pair (servers.each i a b here there).inbox)

  same_tied : AreTied ss f s → AreTied ts g t
  same_tied tied = record {
    first_links = firsts ∙ tied.first_links ∙ sym first.ins;
    second_links = seconds ∙ tied.second_links ∙ sym second.ins;
    first_inboxes = inboxes false ∙ tied.first_inboxes ∙ sym first.outs;
    second_inboxes = inboxes true ∙ tied.second_inboxes ∙ sym second.outs;
  }

module _ (count size : ℕ) (steps : List LiveStep) where
  same_master_of : (m n : Master) → IsSameNode putter_link taker_link m n → IsMasterOf count size steps m → IsMasterOf count size steps n
  same_master_of m n same of = record {
    outs = same_length putter_link putter_link n.outs m.outs same.outs ∙ of.outs;
    ins = same_length taker_link taker_link n.ins m.ins same.ins ∙ of.ins;
    size = same.size ∙ of.size;
    joins = same.joins ∙ of.joins;
    read = master_turns.still_read m n of.read same.unread same.over;
  }

  same_server_of : (ss ts : List Server) → AreSame putter_link taker_link take_inbox ss ts → ((i : ℕ) (s : Server) → slice_get ss i ≡ Some s → IsServerOf count size steps (i + 1) s)
      → (i : ℕ) (t : Server) → slice_get ts i ≡ Some t → IsServerOf count size steps (i + 1) t
  same_server_of ss ts servers each i t there =
      let old = beside ss ts servers.all i t there in
      let same = servers.each i old.0 t old.1 there in
      let of = each i old.0 old.1 in
      record {
        outs = same_length putter_link putter_link t.outs old.0.outs same.outs ∙ of.outs;
        ins = same_length taker_link taker_link t.ins old.0.ins same.ins ∙ of.ins;
        size = same.size ∙ of.size;
        id = same.id ∙ of.id;
        crash_after = same.crash_after ∙ of.crash_after;
        read = still_read old.0 t of.read same.unread same.over;
      }

  same_client_of : (id : ℕ) (f g : Client) → IsSameClient seat_of taker_link f g → IsClientOf steps id f → IsClientOf steps id g
  same_client_of id f g same of = record { id = same.id ∙ of.id; asks = same.asks ∙ of.asks }

  pub still_chain : (own : Own) (m n : Master) (ss ts : List Server) (f g s t : Client) → IsSameNode putter_link taker_link m n → AreSame putter_link taker_link take_inbox ss ts
      → IsSameClient seat_of taker_link f g → IsSameClient seat_of taker_link s t → IsChain count size steps own m ss f s → IsChain count size steps own n ts g t
  still_chain own m n ss ts f g s t master servers first second chain = record {
    crossed = subst AreCrossed (sym (same_wiring own m n ss ts master servers)) chain.crossed;
    tied = same_tied ss ts f g s t servers first second chain.tied;
    all = servers.all ∙ chain.all;
    its_master = same_master_of m n master chain.its_master;
    each = same_server_of ss ts servers chain.each;
    its_first = same_client_of 1 f g first chain.its_first;
    its_second = same_client_of 2 s t second chain.its_second;
  }
