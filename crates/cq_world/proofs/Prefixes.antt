-- Histories are prefixes of each other along the extended chain, whatever changes: the sentences that carry this, and that each
-- step of a server keeps them.
pub mod Climbing
pub mod Steps
pub mod Orders
use Rattle.std.proofs.Common.{◌≡◌, ℕ, ◌∙◌, ap, sym, List, [], ◌∷◌, ◌++◌, ◌&&◌, ◌⊎◌, None, Bool, true, false, cond, eqb, subst, refl, inl, inr, append_assoc}
use Rattle.std.proofs.lemmas.Bool.{eqb-true, eq-eqb, both_ways, and_parts}
use Rattle.cq_base.specs.declared.ask.Entry.{Entry}
use Rattle.cq_base.specs.declared.party.Party.{Party}
use Rattle.cq_base.specs.declared.party.Party.TheVariants as parties
use Rattle.cq_base.specs.Relations.{Among, IsPrefix, Pairwise}
use Rattle.cq_chain.specs.Masters.{is_in, is_last}
use Rattle.cq_chain.specs.Messages.{Message, Fwd, Snap, BeHead, Adopt, BeTail, Feed}
use Rattle.cq_chain.specs.Parties.{same, addressed, is_that}
use Rattle.cq_chain.specs.Servers.{Server, joining}
use Rattle.cq_world.specs.Laws.{Speaks}
use Rattle.cq_events.specs.Worlds.{set_at, set_pair}
use Rattle.cq_world.proofs.Eaches.{Each, each-append, each-follows, each-addressed, prefix-trans}
use Rattle.cq_events.proofs.Parties.{same-true}
use Rattle.cq_world.proofs.Prefixes.Climbing.{reports, one, ups, Climbs, Grows, climbs-other}
use Rattle.cq_world.proofs.Views.{View, extended, turn}

-- ---- the sentences

-- whether it is the first of these
abbrev pub is_first : List ℕ → ℕ → Bool
is_first [] id = false
is_first (a ∷ rest) id = eqb a id

-- each server's last predecessor is the one before it
abbrev pub Linked : View → ℕ → List ℕ → Type 0
Linked v p [] = Unit {0}
Linked v p (s ∷ rest) = (is_last (ups v s) p ≡ true) × Linked v s rest

-- the same, from the head on
abbrev pub LinkedExtended : View → List ℕ → Type 0
LinkedExtended v [] = Unit {0}
LinkedExtended v (head ∷ rest) = Linked v head rest

-- who is told to be the head is the first of the extended chain, and is told of no predecessor after that
abbrev pub Heads : List ℕ → ℕ → List Message → Type 0
Heads extended s [] = Unit {0}
Heads extended s (BeHead ∷ ms) = (is_first extended s ≡ true) × (reports ms ≡ []) × Heads extended s ms
Heads extended s (m ∷ ms) = Heads extended s ms

-- what the master may tell a server that is none of the chain
abbrev pub Harmless : Message → Type 0
Harmless BeHead = ⊥
Harmless (Adopt s n) = ⊥
Harmless (BeTail least) = ⊥
Harmless (Feed succ) = ⊥
Harmless m = Unit {0}

-- A server that was never a member, of which nothing makes one: it joins, or has joined too late.
pub record Outsider (s : Server) (ms : List Message) : Type 0 where
  pub full : s.full ≡ false
  pub at_least : s.at_least ≡ None
  pub head : s.head ≡ false
  pub succ : s.succ ≡ None
  pub told : Each Harmless ms

pub record Prefixes (v : View) : Type 0 where
  -- the servers of the extended chain are different, and have been used
  pub apart : Pairwise (λ a b. eqb a b ≡ false) (extended v.master)
  pub members : (id : ℕ) → is_in (extended v.master) id ≡ true → is_in v.master.used id ≡ true
  -- a server outside the extended chain is down, or was never a member
  pub away : (id : ℕ) → is_in v.master.used id ≡ true → is_in (extended v.master) id ≡ false → ((v.server id).down ≡ true) ⊎ Outsider (v.server id) (v.channel parties.Master (parties.Server id))
  -- nor was the one that joins
  pub aside : (id : ℕ) → is_that v.master.joiner id ≡ true → Outsider (v.server id) (v.channel parties.Master (parties.Server id))
  -- a number that wasn't used has a server that joins, to which the master said nothing
  pub fresh : (id : ℕ) → is_in v.master.used id ≡ false → (v.server id ≡ joining) × (v.channel parties.Master (parties.Server id) ≡ [])
  -- what is on its way from a server is of its history
  pub speaks : (id : ℕ) (to : Party) → Each (Speaks (v.server id).entries) (v.channel (parties.Server id) to)
  -- a server's history is a prefix of its predecessor's, and so for all that it will be given
  pub climbs : (id : ℕ) → Climbs v.server id (ups v id)
  pub linked : LinkedExtended v (extended v.master)
  -- a head has no predecessor, and is given none
  pub heads : (id : ℕ) → is_in (extended v.master) id ≡ true → Heads (extended v.master) id (v.channel parties.Master (parties.Server id))
  pub headless : (id : ℕ) → is_in (extended v.master) id ≡ true → (v.server id).head ≡ true → ups v id ≡ []

-- ---- a server's turn

-- what the master has for a server after its turn
abbrev pub master_after : View → Party → ℕ → List Message → List Message
master_after v from k rest = cond (same parties.Master from) rest (v.channel parties.Master (parties.Server k))

-- the predecessors that it has and will be given after it
abbrev pub ups_after : View → Party → ℕ → List Message → Server → List ℕ
ups_after v from k rest s = one s.pred ++ reports (master_after v from k rest)

-- What a turn of a live server has to show. All of it is about that server.
pub record Turn (v : View) (from : Party) (k : ℕ) (rest : List Message) (s : Server) (out : List (Party × Message)) : Type 0 where
  pub known : is_in v.master.used k ≡ true
  pub lives : (v.server k).down ≡ false
  pub prefix : List Message
  pub taken : v.channel from (parties.Server k) ≡ prefix ++ rest
  pub grows : IsPrefix (v.server k).entries s.entries
  pub speaks : Each (λ x. Speaks s.entries x.1) out
  pub climbs : Climbs (set_at v.server k s) k (ups_after v from k rest s)
  pub last : is_first (extended v.master) k ≡ false → (p : ℕ) → is_last (ups v k) p ≡ true → is_last (ups_after v from k rest s) p ≡ true
  pub head : s.head ≡ true → is_in (extended v.master) k ≡ true → ups_after v from k rest s ≡ []
  pub aside : Outsider (v.server k) (v.channel parties.Master (parties.Server k)) → Outsider s (master_after v from k rest)

-- what a message says stays so when the history grows
pub speaks-grows : (xs ys : List Entry) → IsPrefix xs ys → (m : Message) → Speaks xs m → Speaks ys m
speaks-grows xs ys h (Fwd place e) f = (f.0, f.1 ++ h.0, h.1 ∙ ap (λ us. us ++ h.0) f.2 ∙ append_assoc f.0 (e ∷ f.1) h.0, f.3)
speaks-grows xs ys h (Snap snapshot) f = prefix-trans snapshot xs ys f h
speaks-grows xs ys h m f = f

-- what is left for the server is the end of what was there
pub rest_of : (v : View) (from : Party) (k : ℕ) (prefix rest : List Message) → v.channel from (parties.Server k) ≡ prefix ++ rest → (us : List Message) × (v.channel parties.Master (parties.Server k) ≡ us ++ master_after v from k rest)
rest_of v parties.Master k prefix rest taken = (prefix, taken)
rest_of v parties.Clients k prefix rest taken = ([], refl)
rest_of v (parties.Server p) k prefix rest taken = ([], refl)

-- what holds of a list holds of its end
pub each-end : (P : Message → Type 0) (xs ys : List Message) → Each P (xs ++ ys) → Each P ys
each-end P [] ys h = h
each-end P (x ∷ xs) ys h = each-end P xs ys h.1

-- Heads of the end of a row
pub heads-end : (extended : List ℕ) (s : ℕ) (xs ys : List Message) → Heads extended s (xs ++ ys) → Heads extended s ys
heads-end extended s [] ys h = h
heads-end extended s (m ∷ xs) ys h = heads-end extended s xs ys (heads_skip extended s m (xs ++ ys) h) where
  heads_skip : (c : List ℕ) (i : ℕ) (n : Message) (ns : List Message) → Heads c i (n ∷ ns) → Heads c i ns
  heads_skip c i BeHead ns g = g.2
  heads_skip c i n ns g = g

-- the servers grow by a turn
turn_grows : (v : View) (from : Party) (k : ℕ) (rest : List Message) (s : Server) (out : List (Party × Message)) → Turn v from k rest s out → Grows v.server (set_at v.server k s) k
turn_grows v from k rest s out t = record {
  others = λ j other. ap (λ b. cond b s (v.server j)) other;
  grows = subst (λ b. IsPrefix (v.server k).entries (cond b s (v.server k)).entries) (sym (eq-eqb k k refl)) t.grows;
  down = λ is. absurd (both_ways (v.server k).down t.lives is);
}

-- what the master has for a server after the turn, if it is that one or another
pub row_after : (v : View) (from : Party) (k : ℕ) (rest : List Message) (s : Server) (out : List (Party × Message)) (j : ℕ) (b : Bool) → eqb j k ≡ b
    → (turn v from k rest s out).channel parties.Master (parties.Server j) ≡ cond b (master_after v from k rest) (v.channel parties.Master (parties.Server j))
row_after v from k rest s out j b e = ap (λ c. cond (same parties.Master from && c) rest (v.channel parties.Master (parties.Server j))) e ∙ go b e where
  go : (c : Bool) → eqb j k ≡ c → cond (same parties.Master from && c) rest (v.channel parties.Master (parties.Server j)) ≡ cond c (master_after v from k rest) (v.channel parties.Master (parties.Server j))
  go true own = and_true (same parties.Master from) ∙ ap (λ i. cond (same parties.Master from) rest (v.channel parties.Master (parties.Server i))) (eqb-true j k own) where
    and_true : (c : Bool) → cond (c && true) rest (v.channel parties.Master (parties.Server j)) ≡ cond c rest (v.channel parties.Master (parties.Server j))
    and_true true = refl
    and_true false = refl
  go false other = and_false (same parties.Master from) where
    and_false : (c : Bool) → cond (c && false) rest (v.channel parties.Master (parties.Server j)) ≡ v.channel parties.Master (parties.Server j)
    and_false true = refl
    and_false false = refl

-- the predecessors of another server are as they were
pub ups_other : (v : View) (from : Party) (k : ℕ) (rest : List Message) (s : Server) (out : List (Party × Message)) (j : ℕ) → eqb j k ≡ false → ups (turn v from k rest s out) j ≡ ups v j
ups_other v from k rest s out j other = ap (λ b. one (cond b s (v.server j)).pred ++ reports ((turn v from k rest s out).channel parties.Master (parties.Server j))) other
    ∙ ap (λ ms. one (v.server j).pred ++ reports ms) (row_after v from k rest s out j false other)

-- those of the server itself
pub ups_own : (v : View) (from : Party) (k : ℕ) (rest : List Message) (s : Server) (out : List (Party × Message)) (j : ℕ) → eqb j k ≡ true → ups (turn v from k rest s out) j ≡ ups_after v from k rest s
ups_own v from k rest s out j own = ap (λ b. one (cond b s (v.server j)).pred ++ reports ((turn v from k rest s out).channel parties.Master (parties.Server j))) own
    ∙ ap (λ ms. one s.pred ++ reports ms) (row_after v from k rest s out j true own)

-- ---- what a turn keeps

climbs_turn : (v : View) (from : Party) (k : ℕ) (rest : List Message) (s : Server) (out : List (Party × Message)) → Prefixes v → Turn v from k rest s out → (id : ℕ) → Climbs (set_at v.server k s) id (ups (turn v from k rest s out) id)
climbs_turn v from k rest s out h t id = go (eqb id k) refl where
  go : (b : Bool) → eqb id k ≡ b → Climbs (set_at v.server k s) id (ups (turn v from k rest s out) id)
  go true own = subst (λ us. Climbs (set_at v.server k s) id us) (sym (ups_own v from k rest s out id own)) (subst (λ i. Climbs (set_at v.server k s) i (ups_after v from k rest s)) (sym (eqb-true id k own)) t.climbs)
  go false other = subst (λ us. Climbs (set_at v.server k s) id us) (sym (ups_other v from k rest s out id other))
      (climbs-other v.server (set_at v.server k s) k id (ups v id) (turn_grows v from k rest s out t) t.lives other (h.climbs id))

linked_turn : (v w : View) (extended : List ℕ) (p : ℕ) → ((s : ℕ) → Among s extended → (q : ℕ) → is_last (ups v s) q ≡ true → is_last (ups w s) q ≡ true) → Linked v p extended → Linked w p extended
linked_turn v w [] p h l = tt
linked_turn v w (s ∷ extended) p h l = (h s (inl refl) p l.0, linked_turn v w extended s (λ r among. h r (inr among)) l.1)

last_turn : (v : View) (from : Party) (k : ℕ) (rest : List Message) (s : Server) (out : List (Party × Message)) → Turn v from k rest s out → (j : ℕ) → is_first (extended v.master) j ≡ false → (q : ℕ) → is_last (ups v j) q ≡ true → is_last (ups (turn v from k rest s out) j) q ≡ true
last_turn v from k rest s out t j first q last = go (eqb j k) refl where
  go : (b : Bool) → eqb j k ≡ b → is_last (ups (turn v from k rest s out) j) q ≡ true
  go true own = ap (λ us. is_last us q) (ups_own v from k rest s out j own) ∙ t.last (subst (λ i. is_first (extended v.master) i ≡ false) (eqb-true j k own) first) q (subst (λ i. is_last (ups v i) q ≡ true) (eqb-true j k own) last)
  go false other = ap (λ us. is_last us q) (ups_other v from k rest s out j other) ∙ last

linked_extended : (v w : View) (extended : List ℕ) → Pairwise (λ a b. eqb a b ≡ false) extended → ((j : ℕ) → is_first extended j ≡ false → (q : ℕ) → is_last (ups v j) q ≡ true → is_last (ups w j) q ≡ true) → LinkedExtended v extended → LinkedExtended w extended
linked_extended v w [] apart h l = tt
linked_extended v w (a ∷ extended) apart h l = linked_turn v w extended a (λ s among. h s (apart.0 s among)) l

speaks_row : (t : Bool) (P Q : Message → Type 0) (old rest : List Message) → Each P old → (t ≡ true → Each P rest) → Each P (cond t rest old)
speaks_row true P Q old rest h k = k refl
speaks_row false P Q old rest h k = h

speaks_turn : (v : View) (from : Party) (k : ℕ) (rest : List Message) (s : Server) (out : List (Party × Message)) → Prefixes v → Turn v from k rest s out → (id : ℕ) (to : Party) → Each (Speaks (set_at v.server k s id).entries) ((turn v from k rest s out).channel (parties.Server id) to)
speaks_turn v from k rest s out h t id to = go (eqb id k) refl where
  base : List Message
  base = set_pair v.channel from (parties.Server k) rest (parties.Server id) to

  row : Each (Speaks (v.server id).entries) base
  row = speaks_row (same (parties.Server id) from && same to (parties.Server k)) (Speaks (v.server id).entries) (Speaks (v.server id).entries) (v.channel (parties.Server id) to) rest (h.speaks id to)
      (λ is. let both = and_parts (same (parties.Server id) from) (same to (parties.Server k)) is in
      each-end (Speaks (v.server id).entries) t.prefix rest (subst (λ ms. Each (Speaks (v.server id).entries) ms) (ap (λ p. v.channel p (parties.Server k)) (same-true (parties.Server id) from both.0) ∙ t.taken) (h.speaks id (parties.Server k))))

  go : (b : Bool) → eqb id k ≡ b → Each (Speaks (cond b s (v.server id)).entries) (cond b (base ++ addressed to out) base)
  go true own = each-append (Speaks s.entries) base (addressed to out)
      (each-follows (Speaks (v.server id).entries) (Speaks s.entries) base (speaks-grows (v.server id).entries s.entries (subst (λ i. IsPrefix (v.server i).entries s.entries) (sym (eqb-true id k own)) t.grows)) row)
      (each-addressed (Speaks s.entries) to out t.speaks)
  go false other = row

heads_turn : (v : View) (from : Party) (k : ℕ) (rest : List Message) (s : Server) (out : List (Party × Message)) → Prefixes v → Turn v from k rest s out → (id : ℕ) → is_in (extended v.master) id ≡ true → Heads (extended v.master) id ((turn v from k rest s out).channel parties.Master (parties.Server id))
heads_turn v from k rest s out h t id member = go (same parties.Master from && same (parties.Server id) (parties.Server k)) refl where
  go : (b : Bool) → (same parties.Master from && same (parties.Server id) (parties.Server k)) ≡ b → Heads (extended v.master) id (cond b rest (v.channel parties.Master (parties.Server id)))
  go true is = let both = and_parts (same parties.Master from) (same (parties.Server id) (parties.Server k)) is in
      heads-end (extended v.master) id t.prefix rest (subst (λ ms. Heads (extended v.master) id ms) (ap (λ p. v.channel p (parties.Server id)) (same-true parties.Master from both.0) ∙ ap (λ p. v.channel from p) (same-true (parties.Server id) (parties.Server k) both.1) ∙ t.taken) (h.heads id member))
  go false is = h.heads id member

headless_turn : (v : View) (from : Party) (k : ℕ) (rest : List Message) (s : Server) (out : List (Party × Message)) → Prefixes v → Turn v from k rest s out → (id : ℕ) → is_in (extended v.master) id ≡ true → (set_at v.server k s id).head ≡ true → ups (turn v from k rest s out) id ≡ []
headless_turn v from k rest s out h t id member is_head = go (eqb id k) refl where
  go : (b : Bool) → eqb id k ≡ b → ups (turn v from k rest s out) id ≡ []
  go true own = ups_own v from k rest s out id own ∙ t.head (sym (ap (λ b. (cond b s (v.server id)).head) own) ∙ is_head) (subst (λ i. is_in (extended v.master) i ≡ true) (eqb-true id k own) member)
  go false other = ups_other v from k rest s out id other ∙ h.headless id member (sym (ap (λ b. (cond b s (v.server id)).head) other) ∙ is_head)

-- an outsider stays one
outsider_turn : (v : View) (from : Party) (k : ℕ) (rest : List Message) (s : Server) (out : List (Party × Message)) → Turn v from k rest s out → (id : ℕ) → Outsider (v.server id) (v.channel parties.Master (parties.Server id))
    → Outsider (set_at v.server k s id) ((turn v from k rest s out).channel parties.Master (parties.Server id))
outsider_turn v from k rest s out t id b = go (eqb id k) refl where
  go : (u : Bool) → eqb id k ≡ u → Outsider (cond u s (v.server id)) ((turn v from k rest s out).channel parties.Master (parties.Server id))
  go true own = subst (λ ms. Outsider s ms) (sym (row_after v from k rest s out id true own)) (t.aside (subst (λ i. Outsider (v.server i) (v.channel parties.Master (parties.Server i))) (eqb-true id k own) b))
  go false other = subst (λ ms. Outsider (v.server id) ms) (sym (row_after v from k rest s out id false other)) b

away_turn : (v : View) (from : Party) (k : ℕ) (rest : List Message) (s : Server) (out : List (Party × Message)) → Prefixes v → Turn v from k rest s out → (id : ℕ) → is_in v.master.used id ≡ true → is_in (extended v.master) id ≡ false
    → ((set_at v.server k s id).down ≡ true) ⊎ Outsider (set_at v.server k s id) ((turn v from k rest s out).channel parties.Master (parties.Server id))
away_turn v from k rest s out h t id used out_of = elim (h.away id used out_of) [
  | inl down ↦ inl (still_down down (eqb id k) refl)
  | inr b ↦ inr (outsider_turn v from k rest s out t id b)
] where
  still_down : (v.server id).down ≡ true → (b : Bool) → eqb id k ≡ b → (cond b s (v.server id)).down ≡ true
  still_down down true own = absurd (both_ways (v.server k).down t.lives (subst (λ i. (v.server i).down ≡ true) (eqb-true id k own) down))
  still_down down false other = down

fresh_turn : (v : View) (from : Party) (k : ℕ) (rest : List Message) (s : Server) (out : List (Party × Message)) → Prefixes v → Turn v from k rest s out → (id : ℕ) → is_in v.master.used id ≡ false → (set_at v.server k s id ≡ joining) × ((turn v from k rest s out).channel parties.Master (parties.Server id) ≡ [])
fresh_turn v from k rest s out h t id unused =
    let other = others id unused in
    (ap (λ b. cond b s (v.server id)) other ∙ (h.fresh id unused).0, row_after v from k rest s out id false other ∙ (h.fresh id unused).1) where
      others : (i : ℕ) → is_in v.master.used i ≡ false → eqb i k ≡ false
      others i un = go (eqb i k) refl where
        go : (b : Bool) → eqb i k ≡ b → b ≡ false
        go true own = absurd (both_ways (is_in v.master.used k) (subst (λ j. is_in v.master.used j ≡ false) (eqb-true i k own) un) t.known)
        go false other = refl

-- A turn keeps all sentences.
pub turn-keeps : (v : View) (from : Party) (k : ℕ) (rest : List Message) (s : Server) (out : List (Party × Message)) → Prefixes v → Turn v from k rest s out → Prefixes (turn v from k rest s out)
turn-keeps v from k rest s out h t = record {
  apart = h.apart;
  members = h.members;
  away = away_turn v from k rest s out h t;
  aside = λ id is. outsider_turn v from k rest s out t id (h.aside id is);
  fresh = fresh_turn v from k rest s out h t;
  speaks = speaks_turn v from k rest s out h t;
  climbs = climbs_turn v from k rest s out h t;
  linked = linked_extended v (turn v from k rest s out) (extended v.master) h.apart (last_turn v from k rest s out t) h.linked;
  heads = heads_turn v from k rest s out h t;
  headless = headless_turn v from k rest s out h t;
}
