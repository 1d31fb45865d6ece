-- What one party took from another is a prefix of what the other put for it.
use Rattle.std.proofs.Common.{◌≡◌, ◌<◌, ◌+◌, ℕ, suc, arith, ◌∙◌, ap, refl, sym, subst, cond, inl, inr, List, [], ◌++◌, append_assoc, length, slice_get, Option, Some}
use Rattle.std.proofs.lemmas.Option.{slice_get_within}
use Rattle.cq_base.specs.declared.ask.Request.{Request}
use Rattle.cq_base.specs.declared.party.Party.{Party}
use Rattle.cq_base.specs.declared.party.Party.TheVariants as parties
use Rattle.cq_base.specs.Relations.{IsPrefix}
use Rattle.cq_chain.specs.declared.message.Message.{Message}
use Rattle.cq_nodes.specs.declared.ends.In.{In}
use Rattle.cq_nodes.specs.declared.ends.Out.{Out}
use Rattle.cq_nodes.specs.declared.server_ends.ServerParts.{ServerParts}
use Rattle.cq_nodes.specs.Ends.{party_at, listed}
use Rattle.cq_nodes.specs.MasterNodes.{HasNoPlace}
use Rattle.cq_nodes.specs.Nodes.{HasNoLink}
use Rattle.cq_nodes.proofs.Places.{is_apart}
use Rattle.cq_live.proofs.Elements.{item_at, image_at}
use Rattle.cq_live.proofs.Known.{HasNoNode, Known, by_party}
use Rattle.cq_live.specs.Ended.{Nodes, AreWhole, HaveDelivered, rows, server_row, master_row}
use Rattle.cq_live_plan.specs.declared.step.LiveStep.{LiveStep}
use Rattle.cq_events.specs.Actions.{Action, put_to, taken_from}

-- ---- places and parties

pub server_at : (i : ℕ) → party_at (suc i) ≡ parties.Server (suc i)
server_at i = ap (λ t. cond t parties.Master (parties.Server (suc i))) (is_apart (suc i) 0 (λ e. omega (arith, e)))

-- the master has no place for who has no node
no_place : (count : ℕ) (p : Party) → HasNoNode count p → HasNoPlace count p
no_place count parties.Master away = absurd away
no_place count parties.Clients away = tt
no_place count (parties.Server id) away = away

-- and no server has a link to or from it
no_link : (count : ℕ) (p : Party) → HasNoNode count p → HasNoLink (count + 1) p
no_link count parties.Master away = absurd away
no_link count parties.Clients away = tt
no_link count (parties.Server id) (inl away) = inl away
no_link count (parties.Server id) (inr above) = inr (omega (arith, above))

-- ---- one link

-- by what is known at both ends of a link
prefix_of : {P T : Type 0} (put : P → List Message) (taken : T → List Message) (out : P) (end : T) (unread : Option Message) (seen sent : List Message) → taken end ≡ seen ++ listed unread → put out ≡ sent → IsPrefix (taken end) (put out)
    → IsPrefix seen sent
prefix_of put taken out end unread seen sent took gave prefix = (listed unread ++ prefix.0, sym gave ∙ prefix.1 ∙ ap (λ us. us ++ prefix.0) took ∙ append_assoc seen (listed unread) prefix.0)

-- where nothing was taken
prefix_none : (seen sent : List Message) → seen ≡ [] → IsPrefix seen sent
prefix_none seen sent none = (sent, ap (λ us. us ++ sent) (sym none))

module _ {P T I Q : Type 0} (put : P → List Message) (taken : T → List Message) (got : I → List Request) (count size : ℕ) (steps : List LiveStep) (nodes : Nodes P T I Q) (actions : Party → List Action) (whole : AreWhole count nodes)
    (delivered : HaveDelivered put taken (rows nodes)) (known : Known put taken got size steps nodes actions) where
  below : (i : ℕ) (s : ServerParts P T I) → slice_get nodes.servers i ≡ Some s → i < count
  below i s is = let within = slice_get_within nodes.servers i s is in let all = whole.servers in omega arith

  row_at : (i : ℕ) (s : ServerParts P T I) → slice_get nodes.servers i ≡ Some s → slice_get (rows nodes) (suc i) ≡ Some (server_row s)
  row_at i s is = image_at server_row nodes.servers i s is

  -- from a server to the master
  to_master : (i : ℕ) (s : ServerParts P T I) → slice_get nodes.servers i ≡ Some s → IsPrefix (taken_from (parties.Server (suc i)) (actions parties.Master)) (put_to parties.Master (actions (parties.Server (suc i))))
  to_master i s is =
      let under = below i s is in
      let long = whole.server_outs i s is in
      let places = whole.master_ins in
      let out = item_at s.outs.items 0 (omega arith) in
      let end = item_at nodes.master.ins.items i (omega arith) in
      prefix_of put taken out.0.end end.0.end end.0.unread _ _ (known.master.takes i end.0 end.1) ((known.servers i s is).puts 0 out.0 out.1)
      (delivered (suc i) 0 (server_row s) (master_row nodes) out.0.end end.0.end (row_at i s is) refl (image_at (λ (x : Out P). x.end) s.outs.items 0 out.0 out.1) (image_at (λ (x : In T). x.end) nodes.master.ins.items i end.0 end.1))

  -- from the master to a server
  from_master : (j : ℕ) (s : ServerParts P T I) → slice_get nodes.servers j ≡ Some s → IsPrefix (taken_from parties.Master (actions (parties.Server (suc j)))) (put_to (parties.Server (suc j)) (actions parties.Master))
  from_master j s is =
      let under = below j s is in
      let long = whole.server_ins j s is in
      let places = whole.master_outs in
      let out = item_at nodes.master.outs.items j (omega arith) in
      let end = item_at s.ins.items 0 (omega arith) in
      prefix_of put taken out.0.end end.0.end end.0.unread _ _ ((known.servers j s is).takes 0 end.0 end.1) (known.master.puts j out.0 out.1)
      (delivered 0 (suc j) (master_row nodes) (server_row s) out.0.end end.0.end refl (row_at j s is) (image_at (λ (x : Out P). x.end) nodes.master.outs.items j out.0 out.1) (image_at (λ (x : In T). x.end) s.ins.items 0 end.0 end.1))

  -- from a server to a server
  between : (i j : ℕ) (s t : ServerParts P T I) → slice_get nodes.servers i ≡ Some s → slice_get nodes.servers j ≡ Some t
      → IsPrefix (taken_from (parties.Server (suc i)) (actions (parties.Server (suc j)))) (put_to (parties.Server (suc j)) (actions (parties.Server (suc i))))
  between i j s t is there =
      let under = below i s is in
      let other = below j t there in
      let outs = whole.server_outs i s is in
      let ins = whole.server_ins j t there in
      let out = item_at s.outs.items (suc j) (omega arith) in
      let end = item_at t.ins.items (suc i) (omega arith) in
      prefix_of put taken out.0.end end.0.end end.0.unread _ _
      ((known.servers j t there).takes (suc i) end.0 end.1 ∙ ap (λ p. taken_from p (actions (parties.Server (suc j))) ++ listed end.0.unread) (server_at i))
      ((known.servers i s is).puts (suc j) out.0 out.1 ∙ ap (λ p. put_to p (actions (parties.Server (suc i)))) (server_at j))
      (delivered (suc i) (suc j) (server_row s) (server_row t) out.0.end end.0.end (row_at i s is) (row_at j t there) (image_at (λ (x : Out P). x.end) s.outs.items (suc j) out.0 out.1) (image_at (λ (x : In T). x.end) t.ins.items (suc i) end.0 end.1))

  -- what is for the master
  for_master : (from : Party) → IsPrefix (taken_from from (actions parties.Master)) (put_to parties.Master (actions from))
  for_master = by_party nodes.servers (λ from. IsPrefix (taken_from from (actions parties.Master)) (put_to parties.Master (actions from)))
      (prefix_none _ _ (known.master.others parties.Master tt)) to_master
      (λ from away. prefix_none _ _ (known.master.others from (subst (λ n. HasNoPlace n from) (whole.servers ∙ sym whole.master_ins) (no_place (length nodes.servers) from away))))

  -- and for a server
  for_server : (j : ℕ) (t : ServerParts P T I) → slice_get nodes.servers j ≡ Some t → (from : Party) → IsPrefix (taken_from from (actions (parties.Server (suc j)))) (put_to (parties.Server (suc j)) (actions from))
  for_server j t is = by_party nodes.servers (λ from. IsPrefix (taken_from from (actions (parties.Server (suc j)))) (put_to (parties.Server (suc j)) (actions from)))
      (from_master j t is) (λ i s there. between i j s t there is)
      (λ from away. prefix_none _ _ ((known.servers j t is).others from (subst (λ n. HasNoLink n from) (ap (λ n. n + 1) whole.servers ∙ sym (whole.server_ins j t is)) (no_link (length nodes.servers) from away))))

  pub delivers : (from to : Party) → IsPrefix (taken_from from (actions to)) (put_to to (actions from))
  delivers from to = by_party nodes.servers (λ p. IsPrefix (taken_from from (actions p)) (put_to p (actions from))) (for_master from) (λ j t is. for_server j t is from)
      (λ p away. prefix_none _ _ (ap (taken_from from) (known.idle p away))) to
