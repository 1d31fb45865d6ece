-- Ports, as tables of their ends.
use Rattle.std.proofs.Common.{◌≡◌, ℕ, ◌∙◌, ap, sym, refl, subst, arith, List, [], ◌∷◌, map, length}
use Rattle.std.proofs.lemmas.List.{length-map, get_or-map}
use Rattle.std.proofs.lemmas.Option.{slice_get-map}
use Rattle.std.specs.List.{All}
use Rattle.std.specs.Option.{option_map}
use Rattle.cq_link.specs.declared.link.Putter.{Putter}
use Rattle.cq_link.specs.declared.link.Taker.{Taker}
use Rattle.cq_link.specs.Links.{LinkId, putter_link, taker_link}
use Rattle.cq_link.specs.declared.ports.Ports.{Ports}
use Rattle.cq_link.specs.Wirings.{Wiring, cell, wiring, AreCrossed, AreUnused, IsSquare, HaveDelivered}
use Rattle.cq_link.specs.within.Tables.{AreJoined, AreWired, AreUnput, AreUntaken, HaveAllDelivered}
use Rattle.cq_link.proofs.Cells.{cell_at}

-- what holds of what each is mapped to
pub All-unmap : {X Y : Type 0} (P : Y → Type 0) (f : X → Y) (xs : List X) → All P (map f xs) → All (λ x. P (f x)) xs
All-unmap P f xs all k d below = subst P (get_or-map f xs k d (f d) below) (all k (f d) (let e : length (map f xs) ≡ length xs = length-map xs f in omega arith))

module _ {T : Type 0} where
  abbrev pub outs_of : List (Ports T) → List (List (Putter T))
  outs_of ports = map (λ p. p.outs.items) ports

  abbrev pub ins_of : List (Ports T) → List (List (Taker T))
  ins_of ports = map (λ p. p.ins.items) ports

  outs_wired : (ports : List (Ports T)) → map (λ (w : Wiring). w.outs) (wiring ports) ≡ map (map putter_link) (outs_of ports)
  outs_wired [] = refl
  outs_wired (p ∷ ports) = ap (λ (rs : List (List LinkId)). map putter_link p.outs.items ∷ rs) (outs_wired ports)

  ins_wired : (ports : List (Ports T)) → map (λ (w : Wiring). w.ins) (wiring ports) ≡ map (map taker_link) (ins_of ports)
  ins_wired [] = refl
  ins_wired (p ∷ ports) = ap (λ (rs : List (List LinkId)). map taker_link p.ins.items ∷ rs) (ins_wired ports)

  pub joined_ports : (ports : List (Ports T)) → AreCrossed (wiring ports) → AreJoined (outs_of ports) (ins_of ports)
  joined_ports ports crossed i j = ap (λ (rs : List (List LinkId)). cell rs i j) (sym (outs_wired ports)) ∙ crossed i j ∙ ap (λ (rs : List (List LinkId)). cell rs j i) (ins_wired ports)

  pub crossed_ports : (ports : List (Ports T)) → AreJoined (outs_of ports) (ins_of ports) → AreCrossed (wiring ports)
  crossed_ports ports joined i j = ap (λ (rs : List (List LinkId)). cell rs i j) (outs_wired ports) ∙ joined i j ∙ ap (λ (rs : List (List LinkId)). cell rs j i) (sym (ins_wired ports))

  pub unused_ports : (n : ℕ) (ports : List (Ports T)) → AreWired n n (outs_of ports) (ins_of ports) → AreUnused ports
  unused_ports n ports wired k d below = (All-unmap (AreUnput {T = T}) (λ (p : Ports T). p.outs.items) ports wired.unput k d below, All-unmap (AreUntaken {T = T}) (λ (p : Ports T). p.ins.items) ports wired.untaken k d below)

  pub square_ports : (n : ℕ) (ports : List (Ports T)) → AreWired n n (outs_of ports) (ins_of ports) → IsSquare n ports
  square_ports n ports wired = (
    sym (length-map ports (λ (p : Ports T). p.outs.items)) ∙ wired.rows.0,
    λ k d below. (All-unmap (λ (r : List (Putter T)). length r ≡ n) (λ (p : Ports T). p.outs.items) ports wired.rows.1 k d below, All-unmap (λ (r : List (Taker T)). length r ≡ n) (λ (p : Ports T). p.ins.items) ports wired.columns.1 k d below),
  )

  pub delivered_ports : (ports : List (Ports T)) → HaveAllDelivered (outs_of ports) (ins_of ports) → HaveDelivered ports
  delivered_ports ports all i j a b out end is-a is-b is-out is-end = all i j out end
      (cell_at (outs_of ports) i j a.outs.items (slice_get-map (λ (p : Ports T). p.outs.items) ports i ∙ ap (option_map (λ (p : Ports T). p.outs.items)) is-a) ∙ is-out)
      (cell_at (ins_of ports) j i b.ins.items (slice_get-map (λ (p : Ports T). p.ins.items) ports j ∙ ap (option_map (λ (p : Ports T). p.ins.items)) is-b) ∙ is-end)
