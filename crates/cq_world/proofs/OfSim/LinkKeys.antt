-- The keys of links are compared as their ends are.
use Rattle.std.proofs.Common.{◌≡◌, ◌∙◌, ap, sym, refl, ◌&&◌, List, [], ◌∷◌, Option, Some, cond}
use Rattle.std.specs.Map.{lookup}
use Rattle.cq_chain.specs.Fifos.{Fifo}
use Rattle.cq_base.specs.declared.party.Party.{Party}
use Rattle.cq_base.specs.declared.party.Party.TheVariants.{Master, Clients, Server}
use Rattle.cq_base.specs.contracts.party.PartyPartialEq.TheImpl as party_impl
use Rattle.cq_chain.specs.Parties.{same}
use Rattle.cq_world.specs.within.Kept.{is_between, fifo_at}
use Rattle.cq_world.specs.contracts.links.LinkKeyPartialEq.TheImpl as pair_impl
use Rattle.cq_world.specs.declared.links.LinkKey.{LinkKey}
use Rattle.cq_events.proofs.Parties.{same-turned}

pub party-eq : (a b : Party) → party_impl.ghosts.eq a b ≡ same a b
party-eq Master Master = refl
party-eq Master Clients = refl
party-eq Master (Server b) = refl
party-eq Clients Master = refl
party-eq Clients Clients = refl
party-eq Clients (Server b) = refl
party-eq (Server a) Master = refl
party-eq (Server a) Clients = refl
party-eq (Server a) (Server b) = refl

pub pair-eq : (a b : LinkKey) → pair_impl.ghosts.eq a b ≡ is_between a.from a.to b
pair-eq a b = ap (λ t. t && party_impl.ghosts.eq a.to b.to) (party-eq a.from b.from) ∙ ap (λ t. same a.from b.from && t) (party-eq a.to b.to)

-- what is found under a key
abbrev pub found : {A : Type 0} → LinkKey → List (LinkKey × A) → Option A
found q links = lookup (pair_impl.ghosts.eq q) links

-- is what is kept of the link
pub found-fifo : (links : List (LinkKey × Fifo)) (q : LinkKey) → found q links ≡ fifo_at links q.from q.to
found-fifo [] q = refl
found-fifo (e ∷ es) q = ap (λ b. cond b (Some e.1) (found q es)) (pair-eq q e.0) ∙ ap (λ o. cond (is_between q.from q.to e.0) (Some e.1) o) (found-fifo es q)

-- One key's fifo is written.
abbrev pub Updates : List (LinkKey × Fifo) → List (LinkKey × Fifo) → LinkKey → Fifo → Type 0
Updates old new key fifo = (q : LinkKey) → found q new ≡ cond (pair_impl.ghosts.eq key q) (Some fifo) (found q old)

-- the same by the ends of links
abbrev pub IsWritten : List (LinkKey × Fifo) → List (LinkKey × Fifo) → Party → Party → Fifo → Type 0
IsWritten old new from to fifo = (x y : Party) → fifo_at new x y ≡ cond (same x from && same y to) (Some fifo) (fifo_at old x y)

pub update-written : (old new : List (LinkKey × Fifo)) (key : LinkKey) (fifo : Fifo) → Updates old new key fifo → IsWritten old new key.from key.to fifo
update-written old new key fifo h x y =
    let q : LinkKey = record { from = x; to = y } in
    sym (found-fifo new q) ∙ h q ∙ ap (λ b. cond b (Some fifo) (found q old)) (pair-eq key q)
    ∙ ap (λ o. cond (same key.from x && same key.to y) (Some fifo) o) (found-fifo old q)
    ∙ ap (λ b. cond (b && same key.to y) (Some fifo) (fifo_at old x y)) (same-turned key.from x)
    ∙ ap (λ b. cond (same x key.from && b) (Some fifo) (fifo_at old x y)) (same-turned key.to y)
