-- Lists in which one item was changed, and what each is mapped to stays.
use Rattle.std.proofs.Common.{◌≡◌, ℕ, true, false, zero, suc, ◌∙◌, ap, sym, refl, List, [], ◌∷◌, map, get_or, set}
use Rattle.std.specs.Vec.{with_item}
use Rattle.cq_link.specs.declared.link.Putter.{Putter}
use Rattle.cq_link.specs.declared.link.Taker.{Taker}
use Rattle.cq_link.specs.Links.{LinkId, putter_link, taker_link}
use Rattle.cq_base.specs.declared.ask.Request.{Request}
use Rattle.cq_link.specs.declared.inbox.InPut.{InPut}
use Rattle.cq_link.specs.declared.inbox.InTake.{InTake}
use Rattle.cq_link.specs.Inboxes.{put_inbox, take_inbox, is_second}
use Rattle.cq_link.specs.declared.ports.Ports.{Ports}
use Rattle.cq_link.specs.declared.clients.ServerPorts.{ServerPorts}
use Rattle.cq_link.specs.declared.clients.ClientWires.{ClientWires}
use Rattle.cq_link.specs.Clients.{AreTied, seat_of}
use Rattle.cq_link.specs.Wirings.{Wiring, wiring}

pub map_kept : {X Y : Type 0} (f : X → Y) (xs : List X) (i : ℕ) (old new : X) → old ≡ get_or xs i old → f new ≡ f old → map f (set xs i new) ≡ map f xs
map_kept f [] i old new was same = refl
map_kept f (x ∷ xs) zero old new was same = ap (λ y. y ∷ map f xs) (same ∙ ap f was)
map_kept f (x ∷ xs) (suc i) old new was same = ap (λ ys. f x ∷ ys) (map_kept f xs i old new was same)

module _ {T : Type 0} where
  pub kept_outs : (ports : List (Ports T)) (i j : ℕ) (old : Ports T) (out new : Putter T) → old ≡ get_or ports i old → out ≡ get_or old.outs.items j out → putter_link new ≡ putter_link out
      → wiring (set ports i (record { outs = with_item old.outs j new; ins = old.ins })) ≡ wiring ports
  kept_outs ports i j old out new was here same = map_kept (λ (p : Ports T). record { outs = map putter_link p.outs.items; ins = map taker_link p.ins.items }) ports i old (record { outs = with_item old.outs j new; ins = old.ins }) was
      (let wired : List LinkId → Wiring = λ os. record { outs = os; ins = map taker_link old.ins.items } in ap wired (map_kept (putter_link {T = T}) old.outs.items j out new here same))

  pub kept_ins : (ports : List (Ports T)) (i j : ℕ) (old : Ports T) (end new : Taker T) → old ≡ get_or ports i old → end ≡ get_or old.ins.items j end → taker_link new ≡ taker_link end
      → wiring (set ports i (record { outs = old.outs; ins = with_item old.ins j new })) ≡ wiring ports
  kept_ins ports i j old end new was here same = map_kept (λ (p : Ports T). record { outs = map putter_link p.outs.items; ins = map taker_link p.ins.items }) ports i old (record { outs = old.outs; ins = with_item old.ins j new }) was
      (let wired : List LinkId → Wiring = λ is. record { outs = map putter_link old.outs.items; ins = is } in ap wired (map_kept (taker_link {T = T}) old.ins.items j end new here same))

  -- the first client put on an end
  abbrev pub with_out : ClientWires T → ℕ → InPut Request → ClientWires T
  with_out w i new = record { servers = w.servers; first = record { outs = with_item w.first.outs i new; ins = w.first.ins }; second = w.second }

  pub tied_out : (w : ClientWires T) (i : ℕ) (old new : InPut Request) → AreTied w → old ≡ get_or w.first.outs.items i old → (put_inbox new ≡ put_inbox old) × (is_second new ≡ is_second old) → AreTied (with_out w i new)
  tied_out w i old new tied was same = record {
    first_links = tied.first_links;
    second_links = tied.second_links;
    first_inboxes = tied.first_inboxes ∙ sym (map_kept seat_of w.first.outs.items i old new was (ap (λ x. (x, is_second new)) same.0 ∙ ap (λ x. (put_inbox old, x)) same.1));
    second_inboxes = tied.second_inboxes;
  }

  -- a server took from its inbox
  abbrev pub with_inbox : ClientWires T → ℕ → ServerPorts T → InTake Request → ClientWires T
  with_inbox w i old new = record { servers = with_item w.servers i (record { first = old.first; second = old.second; inbox = new }); first = w.first; second = w.second }

  pub tied_inbox : (w : ClientWires T) (i : ℕ) (old : ServerPorts T) (new : InTake Request) → AreTied w → old ≡ get_or w.servers.items i old → take_inbox new ≡ take_inbox old.inbox → AreTied (with_inbox w i old new)
  tied_inbox w i old new tied was same = record {
    first_links = map_kept (λ (s : ServerPorts T). putter_link s.first) w.servers.items i old now was refl ∙ tied.first_links;
    second_links = map_kept (λ (s : ServerPorts T). putter_link s.second) w.servers.items i old now was refl ∙ tied.second_links;
    first_inboxes = map_kept (λ (s : ServerPorts T). (take_inbox s.inbox, false)) w.servers.items i old now was (ap (λ x. (x, false)) same) ∙ tied.first_inboxes;
    second_inboxes = map_kept (λ (s : ServerPorts T). (take_inbox s.inbox, true)) w.servers.items i old now was (ap (λ x. (x, true)) same) ∙ tied.second_inboxes;
  } where
    now : ServerPorts T
    now = record { first = old.first; second = old.second; inbox = new }
