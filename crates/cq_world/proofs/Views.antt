-- A world as the invariants of the chain see it: what is on its way from one party to another is one row, whether it
-- stands in the link or still waits.
use Rattle.std.proofs.Common.{◌≡◌, ℕ, ◌∙◌, ap, sym, List, [], ◌∷◌, ◌++◌, drop, ◌&&◌, Option, Some, None, Bool, true, false, cond, refl, subst, append_assoc}
use Rattle.cq_base.specs.declared.party.Party.{Party}
use Rattle.cq_base.specs.declared.party.Party.TheVariants as parties
use Rattle.cq_chain.specs.Masters.{Master}
use Rattle.cq_chain.specs.Messages.{Message}
use Rattle.cq_chain.specs.Parties.{same, addressed}
use Rattle.cq_chain.specs.Servers.{Server}
use Rattle.cq_chain.specs.Steps.{Step}
use Rattle.cq_events.specs.Events.{first_of, put_on, after_put, without_first}
use Rattle.cq_events.proofs.Parties.{same-true}
use Rattle.cq_events.specs.Worlds.{World, set_at, set_pair, sends, stepped, channel}

-- servers, channels, and what the master knows
pub record View : Type 0 where
  pub server : ℕ → Server
  pub channel : Party → Party → List Message
  pub master : Master

-- the members, and behind them the server that joins, if there is one
abbrev pub extended_of : List ℕ → Option ℕ → List ℕ
extended_of ids None = ids
extended_of ids (Some joiner) = ids ++ joiner ∷ []

-- the servers that are fed, in order: each gets what the one before it has
abbrev pub extended : Master → List ℕ
extended m = extended_of m.chain m.joiner

abbrev pub view : World → View
view w = record { server = w.server; channel = channel w; master = w.master }

-- a server takes what stands before the rest of a channel to it, becomes so, and sends this
abbrev pub turn : View → Party → ℕ → List Message → Server → List (Party × Message) → View
turn v from k rest s out = record v {
  server = set_at v.server k s;
  channel = sends (set_pair v.channel from (parties.Server k) rest) (parties.Server k) out;
}

-- the master knows this from now on, and says that
abbrev pub said : View → Master → List (Party × Message) → View
said v m out = record v { channel = sends v.channel parties.Master out; master = m }

-- a channel goes on with the rest
abbrev pub drained : View → Party → Party → List Message → View
drained v from to rest = record v { channel = set_pair v.channel from to rest }

-- two functions of pairs that are the same at each pair are the same
pub same_channels : (f g : Party → Party → List Message) → ((x y : Party) → f x y ≡ g x y) → f ≡ g
same_channels f g h i x y = h x y i

-- ---- puts

-- a row and its first message
first_rest : (ms : List Message) → first_of ms ++ drop 1 ms ≡ ms
first_rest [] = refl
first_rest (m ∷ ms) = refl

moved : (t : Bool) (link box : List Message) → (cond t (link ++ first_of box) link) ++ (cond t (drop 1 box) box) ≡ link ++ box
moved true link box = append_assoc link (first_of box) (drop 1 box) ∙ ap (λ us. link ++ us) (first_rest box)
moved false link box = refl

-- by a put to the master or to a server no channel changes
put_same : (w : World) (from to : Party) → (put_on w.link from to (first_of (w.outbox from to)) ≡ set_pair w.link from to (w.link from to ++ first_of (w.outbox from to))) → (x y : Party) → channel (after_put w from to) x y ≡ channel w x y
put_same w from to is x y = ap (λ f. f x y ++ cond (same x from && same y to) (drop 1 (w.outbox from to)) (w.outbox x y)) is ∙ go (same x from) (same y to) refl refl where
  go : (s t : Bool) → same x from ≡ s → same y to ≡ t → (cond (s && t) (w.link from to ++ first_of (w.outbox from to)) (w.link x y)) ++ cond (s && t) (drop 1 (w.outbox from to)) (w.outbox x y) ≡ w.link x y ++ w.outbox x y
  go true true e f = subst (λ a. (w.link from to ++ first_of (w.outbox from to)) ++ drop 1 (w.outbox from to) ≡ w.link a y ++ w.outbox a y) (sym (same-true x from e))
      (subst (λ b. (w.link from to ++ first_of (w.outbox from to)) ++ drop 1 (w.outbox from to) ≡ w.link from b ++ w.outbox from b) (sym (same-true y to f)) (moved true (w.link from to) (w.outbox from to)))
  go true false e f = refl
  go false t e f = refl

-- a put to the clients drains a channel
put_given : (w : World) (from x y : Party) → channel (after_put w from parties.Clients) x y ≡ set_pair (channel w) from parties.Clients (w.link from parties.Clients ++ drop 1 (w.outbox from parties.Clients)) x y
put_given w from x y = go (same x from) (same y parties.Clients) refl refl where
  go : (s t : Bool) → same x from ≡ s → same y parties.Clients ≡ t → w.link x y ++ cond (s && t) (drop 1 (w.outbox from parties.Clients)) (w.outbox x y) ≡ cond (s && t) (w.link from parties.Clients ++ drop 1 (w.outbox from parties.Clients)) (w.link x y ++ w.outbox x y)
  go true true e f = ap (λ us. us ++ drop 1 (w.outbox from parties.Clients)) (ap (λ a. w.link a y) (same-true x from e) ∙ ap (λ b. w.link from b) (same-true y parties.Clients f))
  go true false e f = refl
  go false t e f = refl

-- ---- steps

-- what a step of a server sends goes to the ends of its channels
stepped_channel : (w : World) (k : ℕ) (step : Step) (x y : Party) → channel (stepped w k step) x y ≡ sends (channel w) (parties.Server k) step.sent x y
stepped_channel w k step x y = go (same x (parties.Server k)) where
  go : (t : Bool) → w.link x y ++ cond t (w.outbox x y ++ addressed y step.sent) (w.outbox x y) ≡ cond t ((w.link x y ++ w.outbox x y) ++ addressed y step.sent) (w.link x y ++ w.outbox x y)
  go true = sym (append_assoc (w.link x y) (w.outbox x y) (addressed y step.sent))
  go false = refl

-- a channel that goes on as it is
same_pair : (f : Party → Party → List Message) (from to x y : Party) → set_pair f from to (f from to) x y ≡ f x y
same_pair f from to x y = go (same x from) (same y to) refl refl where
  go : (s t : Bool) → same x from ≡ s → same y to ≡ t → cond (s && t) (f from to) (f x y) ≡ f x y
  go true true e h = ap (λ a. f a to) (sym (same-true x from e)) ∙ ap (λ b. f x b) (sym (same-true y to h))
  go true false e h = refl
  go false t e h = refl

-- so does a link without its first message
without_channel : (w : World) (from to : Party) (m : Message) (ms : List Message) → w.link from to ≡ m ∷ ms → (x y : Party) → channel (without_first w from to) x y ≡ set_pair (channel w) from to (ms ++ w.outbox from to) x y
without_channel w from to m ms at x y = go (same x from) (same y to) refl refl where
  go : (s t : Bool) → same x from ≡ s → same y to ≡ t → cond (s && t) (drop 1 (w.link from to)) (w.link x y) ++ w.outbox x y ≡ cond (s && t) (ms ++ w.outbox from to) (w.link x y ++ w.outbox x y)
  go true true e f = ap (λ us. drop 1 us ++ w.outbox x y) at ∙ ap (λ us. ms ++ us) (ap (λ a. w.outbox a y) (same-true x from e) ∙ ap (λ b. w.outbox from b) (same-true y to f))
  go true false e f = refl
  go false t e f = refl

-- a put to another party than the clients changes nothing of what is seen
pub view-put : (w : World) (from to : Party) → (put_on w.link from to (first_of (w.outbox from to)) ≡ set_pair w.link from to (w.link from to ++ first_of (w.outbox from to))) → view (after_put w from to) ≡ view w
view-put w from to is = ap (λ c. record { server = w.server; channel = c; master = w.master }) (same_channels (channel (after_put w from to)) (channel w) (put_same w from to is))

-- one to the clients drains their channel
pub view-given : (w : World) (from : Party) → view (after_put w from parties.Clients) ≡ drained (view w) from parties.Clients (w.link from parties.Clients ++ drop 1 (w.outbox from parties.Clients))
view-given w from = ap (λ c. record { server = w.server; channel = c; master = w.master }) (same_channels _ _ (put_given w from))

-- a step for which nothing is taken
pub view-step : (w : World) (k : ℕ) (step : Step) → view (stepped w k step) ≡ turn (view w) parties.Clients k (channel w parties.Clients (parties.Server k)) step.server step.sent
view-step w k step = ap (λ c. record { server = set_at w.server k step.server; channel = c; master = w.master }) (same_channels _ _ (λ x y. stepped_channel w k step x y
    ∙ sym (ap (λ us. cond (same x (parties.Server k)) (us ++ addressed y step.sent) us) (same_pair (channel w) parties.Clients (parties.Server k) x y))))

-- the step of a server that takes the first message of a link
pub view-taken : (w : World) (from : Party) (k : ℕ) (m : Message) (ms : List Message) (step : Step) → w.link from (parties.Server k) ≡ m ∷ ms
    → view (stepped (without_first w from (parties.Server k)) k step) ≡ turn (view w) from k (ms ++ w.outbox from (parties.Server k)) step.server step.sent
view-taken w from k m ms step at = ap (λ c. record { server = set_at w.server k step.server; channel = c; master = w.master }) (same_channels _ _ (λ x y. stepped_channel (without_first w from (parties.Server k)) k step x y
    ∙ ap (λ us. cond (same x (parties.Server k)) (us ++ addressed y step.sent) us) (without_channel w from (parties.Server k) m ms at x y)))

-- a link without its first message, where nobody steps
pub view-without : (w : World) (from to : Party) (m : Message) (ms : List Message) → w.link from to ≡ m ∷ ms → view (without_first w from to) ≡ drained (view w) from to (ms ++ w.outbox from to)
view-without w from to m ms at = ap (λ c. record { server = w.server; channel = c; master = w.master }) (same_channels _ _ (without_channel w from to m ms at))
