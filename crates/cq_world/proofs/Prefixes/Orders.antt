-- Each step of the master keeps histories prefixes of each other along the extended chain.
use Rattle.std.proofs.Common.{◌≡◌, ℕ, ◌∙◌, ap, sym, List, [], ◌∷◌, ◌++◌, length, ◌&&◌, ◌||◌, ◌⊎◌, not, Option, Some, None, Bool, true, false, cond, eqb, arith, subst, refl, inl, inr, append-nil, append_assoc, length-append}
use Rattle.std.proofs.lemmas.Bool.{eqb-true, eq-eqb, ne_eqb, false≢true, both_ways, cases_Bool, and_parts, or_cases, or_left, or_right, or_parts}
use Rattle.cq_base.specs.declared.party.Party.{Party}
use Rattle.cq_base.specs.declared.party.Party.TheVariants as parties
use Rattle.cq_base.specs.Relations.{Among, Pairwise}
use Rattle.cq_base.proofs.Pairs.{pairwise-filter, pairwise-push}
use Rattle.cq_chain.specs.Masters.{Master, is_in, is_last, without, closing, said_of_loss, said_of_join, to_last, dropped, closed_up, detected, joined, joins_behind, admitted, hears, no_order, stands_before}
use Rattle.cq_chain.specs.Messages.{Message, BeHead, Report, Adopt, BeTail, Feed, Have, Adopted, Caught, Ready}
use Rattle.cq_chain.specs.Parties.{same, addressed, is_that}
use Rattle.cq_chain.specs.Servers.{Server, joining}
use Rattle.cq_world.proofs.Prefixes.Climbing.{reports, one, ups, Climbs, climbs-top, climbs-on, last-more, reports-append}
use Rattle.cq_world.proofs.Eaches.{Each, prefix-none}
use Rattle.cq_world.proofs.ExtendedChains.{extended-cases, in_more, in_left, in_end, out_more, member-extended, out-extended, apart-members, joiner-out}
use Rattle.cq_world.proofs.Prefixes.{Prefixes, Linked, LinkedExtended, Heads, Harmless, Outsider, is_first, heads-end}
use Rattle.cq_world.proofs.Settled.{that_some}
use Rattle.cq_world.proofs.Views.{View, extended_of, extended, said}

-- ---- what the master says

-- what is said to one server
abbrev pub told_to : ℕ → List (Party × Message) → List Message
told_to id out = addressed (parties.Server id) out

-- the predecessors that it was given, and those that it is given
said_ups : (v : View) (m : Master) (out : List (Party × Message)) (id : ℕ) → ups (said v m out) id ≡ ups v id ++ reports (told_to id out)
said_ups v m out id = ap (λ r. one (v.server id).pred ++ r) (reports-append (v.channel parties.Master (parties.Server id)) (told_to id out)) ∙ sym (append_assoc (one (v.server id).pred) (reports (v.channel parties.Master (parties.Server id))) (reports (told_to id out)))

-- where no predecessor is told, they are as they were
ups_silent : (v : View) (m : Master) (out : List (Party × Message)) (id : ℕ) → reports (told_to id out) ≡ [] → ups (said v m out) id ≡ ups v id
ups_silent v m out id none = said_ups v m out id ∙ ap (λ r. ups v id ++ r) none ∙ append-nil (ups v id)

-- ---- rows without a word on the head

-- nobody is told to be the head in these
abbrev NoHead : List Message → Type 0
NoHead [] = Unit {0}
NoHead (BeHead ∷ ms) = ⊥
NoHead (m ∷ ms) = NoHead ms

-- who isn't the first is not told to be the head
no_head : (extended : List ℕ) (s : ℕ) (ms : List Message) → is_first extended s ≡ false → Heads extended s ms → NoHead ms
no_head extended s [] other h = tt
no_head extended s (BeHead ∷ ms) other h = absurd (both_ways (is_first extended s) other h.0)
no_head extended s (m ∷ ms) other h = no_head_skip extended s m ms other h (λ g. no_head extended s ms other g) where
  no_head_skip : (c : List ℕ) (i : ℕ) (n : Message) (ns : List Message) → is_first c i ≡ false → Heads c i (n ∷ ns) → (Heads c i ns → NoHead ns) → NoHead (n ∷ ns)
  no_head_skip c i BeHead ns is g rest = absurd (both_ways (is_first c i) is g.0)
  no_head_skip c i n ns is g rest = rest g

-- a row without a word on the head, and then one
heads_after : (extended : List ℕ) (s : ℕ) (ms ys : List Message) → NoHead ms → Heads extended s ys → Heads extended s (ms ++ ys)
heads_after extended s [] ys none h = h
heads_after extended s (BeHead ∷ ms) ys none h = absurd none
heads_after extended s (m ∷ ms) ys none h = after_skip extended s m ms ys none (λ g. heads_after extended s ms ys g h) where
  after_skip : (c : List ℕ) (i : ℕ) (n : Message) (ns us : List Message) → NoHead (n ∷ ns) → (NoHead ns → Heads c i (ns ++ us)) → Heads c i (n ∷ (ns ++ us))
  after_skip c i BeHead ns us g rest = absurd g
  after_skip c i n ns us g rest = rest g

-- a row of one who stays the first, and then one that tells of no predecessor and no head
heads_first : (old new : List ℕ) (s : ℕ) (ms ys : List Message) → is_first new s ≡ true → Heads old s ms → reports ys ≡ [] → NoHead ys → Heads new s (ms ++ ys)
heads_first old new s [] ys first h told none = ends new s ys none where
  ends : (c : List ℕ) (i : ℕ) (ns : List Message) → NoHead ns → Heads c i ns
  ends c i [] g = tt
  ends c i (BeHead ∷ ns) g = absurd g
  ends c i (n ∷ ns) g = ends_skip c i n ns g (λ k. ends c i ns k) where
    ends_skip : (d : List ℕ) (j : ℕ) (o : Message) (os : List Message) → NoHead (o ∷ os) → (NoHead os → Heads d j os) → Heads d j (o ∷ os)
    ends_skip d j BeHead os k rest = absurd k
    ends_skip d j o os k rest = rest k
heads_first old new s (BeHead ∷ ms) ys first h told none = (first, reports-append ms ys ∙ ap (λ r. r ++ reports ys) h.1 ∙ told, heads_first old new s ms ys first h.2 told none)
heads_first old new s (m ∷ ms) ys first h told none = first_skip m (heads_first old new s ms ys first (heads-end old s (m ∷ []) ms h) told none) h where
  first_skip : (n : Message) → Heads new s (ms ++ ys) → Heads old s (n ∷ ms) → Heads new s (n ∷ (ms ++ ys))
  first_skip BeHead rest g = (first, reports-append ms ys ∙ ap (λ r. r ++ reports ys) g.1 ∙ told, rest)
  first_skip n rest g = rest

-- ---- what an order of the master has to show

pub record Said (v : View) (m : Master) (out : List (Party × Message)) : Type 0 where
  pub apart : Pairwise (λ a b. eqb a b ≡ false) (extended m)
  pub members : (id : ℕ) → is_in (extended m) id ≡ true → is_in m.used id ≡ true
  pub away : (id : ℕ) → is_in m.used id ≡ true → is_in (extended m) id ≡ false → ((v.server id).down ≡ true) ⊎ Outsider (v.server id) (v.channel parties.Master (parties.Server id) ++ told_to id out)
  pub aside : (id : ℕ) → is_that m.joiner id ≡ true → Outsider (v.server id) (v.channel parties.Master (parties.Server id) ++ told_to id out)
  pub unused : (id : ℕ) → is_in m.used id ≡ false → (is_in v.master.used id ≡ false) × (told_to id out ≡ [])
  pub climbs : (id : ℕ) → Climbs v.server id (ups v id ++ reports (told_to id out))
  pub linked : LinkedExtended (said v m out) (extended m)
  pub heads : (id : ℕ) → is_in (extended m) id ≡ true → Heads (extended m) id (v.channel parties.Master (parties.Server id) ++ told_to id out)
  pub headless : (id : ℕ) → is_in (extended m) id ≡ true → (v.server id).head ≡ true → ups v id ++ reports (told_to id out) ≡ []

-- An order keeps all sentences.
pub said-keeps : (v : View) (m : Master) (out : List (Party × Message)) → Prefixes v → Said v m out → Prefixes (said v m out)
said-keeps v m out h o = record {
  apart = o.apart;
  members = o.members;
  away = o.away;
  aside = o.aside;
  fresh = λ id unused. let was = o.unused id unused in ((h.fresh id was.0).0, ap (λ ms. ms ++ told_to id out) (h.fresh id was.0).1 ∙ was.1);
  speaks = h.speaks;
  climbs = λ id. subst (λ us. Climbs v.server id us) (sym (said_ups v m out id)) (o.climbs id);
  linked = o.linked;
  heads = o.heads;
  headless = λ id member is. said_ups v m out id ∙ o.headless id member is;
}

-- an outsider to which nothing is said
unsaid : (s : Server) (ms us : List Message) → us ≡ [] → Outsider s ms → Outsider s (ms ++ us)
unsaid s ms us none b = subst (λ xs. Outsider s xs) (sym (ap (λ xs. ms ++ xs) none ∙ append-nil ms)) b

-- the same of one that may be down instead
still_away : (s : Server) (ms us : List Message) → us ≡ [] → (s.down ≡ true) ⊎ Outsider s ms → (s.down ≡ true) ⊎ Outsider s (ms ++ us)
still_away s ms us none h = elim h [ inl down ↦ inl down | inr b ↦ inr (unsaid s ms us none b) ]

-- ---- a server that joins is dropped

-- a row on the head, for other servers of which the first stays the first
heads_other : (old new : List ℕ) (s : ℕ) (ms : List Message) → (is_first old s ≡ true → is_first new s ≡ true) → Heads old s ms → Heads new s ms
heads_other old new s [] first h = tt
heads_other old new s (m ∷ ms) first h = step m h (λ g. heads_other old new s ms first g) where
  step : (n : Message) → Heads old s (n ∷ ms) → (Heads old s ms → Heads new s ms) → Heads new s (n ∷ ms)
  step BeHead g rest = (first g.0, g.1, rest g.2)
  step n g rest = rest (heads-end old s (n ∷ []) ms g)

linked_prefix : (v w : View) (p : ℕ) (xs ys : List ℕ) → ((s q : ℕ) → is_last (ups v s) q ≡ true → is_last (ups w s) q ≡ true) → Linked v p (xs ++ ys) → Linked w p xs
linked_prefix v w p [] ys same l = tt
linked_prefix v w p (s ∷ xs) ys same l = (same s p l.0, linked_prefix v w s xs ys same l.1)

extended_prefix : (v w : View) (ids : List ℕ) (o : Option ℕ) → ((s q : ℕ) → is_last (ups v s) q ≡ true → is_last (ups w s) q ≡ true) → LinkedExtended v (extended_of ids o) → LinkedExtended w ids
extended_prefix v w [] o same l = tt
extended_prefix v w (a ∷ rest) None same l = linked_prefix v w a rest [] same (subst (λ us. Linked v a us) (sym (append-nil rest)) l)
extended_prefix v w (a ∷ rest) (Some j) same l = linked_prefix v w a rest (j ∷ []) same l

first_prefix : (ids : List ℕ) (o : Option ℕ) (s : ℕ) → is_in ids s ≡ true → is_first (extended_of ids o) s ≡ is_first ids s
first_prefix [] o s member = absurd (false≢true member)
first_prefix (a ∷ rest) None s member = refl
first_prefix (a ∷ rest) (Some j) s member = refl

-- the master without a server that joins
abbrev pub alone : Master → Master
alone m = record m { joiner = None }

-- The server that joins, if there is one, is dropped: it may live, and is an outsider for good.
pub dropped-keeps : (v : View) → Prefixes v → Prefixes (record v { master = alone v.master })
dropped-keeps v h = record {
  apart = apart-members chain joiner h.apart;
  members = λ id member. h.members id (member-extended chain joiner id member);
  away = λ id used out. elim (cases_Bool (is_that joiner id)) [
    | inl joins ↦ inr (h.aside id joins)
    | inr other ↦ h.away id used (out_of id out other)
  ];
  aside = λ id none. absurd (false≢true none);
  fresh = h.fresh;
  speaks = h.speaks;
  climbs = h.climbs;
  linked = extended_prefix v (record v { master = alone v.master }) chain joiner (λ s q last. last) h.linked;
  heads = λ id member. heads_other (extended v.master) chain id (v.channel parties.Master (parties.Server id)) (λ first. sym (first_prefix chain joiner id member) ∙ first) (h.heads id (member-extended chain joiner id member));
  headless = λ id member is. h.headless id (member-extended chain joiner id member) is;
} where
  chain : List ℕ
  chain = v.master.chain

  joiner : Option ℕ
  joiner = v.master.joiner

  out_of : (id : ℕ) → is_in v.master.chain id ≡ false → is_that v.master.joiner id ≡ false → is_in (extended v.master) id ≡ false
  out_of id out other = elim (cases_Bool (is_in (extended v.master) id)) [
    | inr outside ↦ outside
    | inl there ↦ elim (extended-cases v.master.chain v.master.joiner id there) [ inl member ↦ absurd (both_ways (is_in v.master.chain id) out member) | inr joins ↦ absurd (both_ways (is_that v.master.joiner id) other joins) ]
  ]

-- ---- detections

-- a row without a word on the head says nothing of it
heads_none : (extended : List ℕ) (s : ℕ) (ms : List Message) → NoHead ms → Heads extended s ms
heads_none extended s ms none = subst (λ us. Heads extended s us) (append-nil ms) (heads_after extended s ms [] none tt)

-- where one isn't among them, none is left out
without_absent : (id : ℕ) (ids : List ℕ) → is_in ids id ≡ false → without id ids ≡ ids
without_absent id [] h = refl
without_absent id (x ∷ ids) h = let parts = or_parts (eqb x id) (is_in ids id) h in
    ap (λ b. cond (not b) (x ∷ without id ids) (without id ids)) parts.0 ∙ ap (λ us. x ∷ us) (without_absent id ids parts.1)

-- who is among the others is among all, and is another one
pub in-without : (id : ℕ) (ids : List ℕ) (j : ℕ) → is_in (without id ids) j ≡ true → (is_in ids j ≡ true) × (eqb j id ≡ false)
in-without id [] j h = absurd (false≢true h)
in-without id (x ∷ ids) j h = go (eqb x id) refl (in-without id ids j) h where
  go : (b : Bool) → eqb x id ≡ b → (is_in (without id ids) j ≡ true → (is_in ids j ≡ true) × (eqb j id ≡ false)) → is_in (cond (not b) (x ∷ without id ids) (without id ids)) j ≡ true → ((eqb x j || is_in ids j) ≡ true) × (eqb j id ≡ false)
  go true e later k = let rest = later k in (or_right (eqb x j) (is_in ids j) rest.0, rest.1)
  go false e later k = elim (or_cases (eqb x j) (is_in (without id ids) j) k) [
    | inl here ↦ (or_left (eqb x j) (is_in ids j) here, subst (λ i. eqb i id ≡ false) (eqb-true x j here) e)
    | inr there ↦ let rest = later there in (or_right (eqb x j) (is_in ids j) rest.0, rest.1)
  ]

-- who is not among the others is not among all, or is that one
out-without : (id : ℕ) (ids : List ℕ) (j : ℕ) → is_in (without id ids) j ≡ false → eqb j id ≡ false → is_in ids j ≡ false
out-without id [] j h other = refl
out-without id (x ∷ ids) j h other = go (eqb x id) refl (λ k. out-without id ids j k other) h where
  go : (b : Bool) → eqb x id ≡ b → (is_in (without id ids) j ≡ false → is_in ids j ≡ false) → is_in (cond (not b) (x ∷ without id ids) (without id ids)) j ≡ false → (eqb x j || is_in ids j) ≡ false
  go true e later k = ap (λ b. b || is_in ids j) (ne_eqb x j (λ same. both_ways (eqb j id) other (subst (λ i. eqb i id ≡ true) same e))) ∙ later k
  go false e later k = let parts = or_parts (eqb x j) (is_in (without id ids) j) k in ap (λ b. b || is_in ids j) parts.0 ∙ later parts.1

-- who is apart from all isn't among them
apart_out : (a : ℕ) (ids : List ℕ) → ((b : ℕ) → Among b ids → eqb a b ≡ false) → is_in ids a ≡ false
apart_out a [] h = refl
apart_out a (x ∷ ids) h = ap (λ b. b || is_in ids a) (ne_eqb x a (λ same. both_ways (eqb a x) (h x (inl refl)) (eq-eqb a x (sym same)))) ∙ apart_out a ids (λ b among. h b (inr among))

-- who is among them is apart from who is apart from all
in_apart : (ids : List ℕ) (j : ℕ) → is_in ids j ≡ true → Among j ids
in_apart [] j h = absurd (false≢true h)
in_apart (x ∷ ids) j h = elim (or_cases (eqb x j) (is_in ids j) h) [ inl e ↦ inl (sym (eqb-true x j e)) | inr r ↦ inr (in_apart ids j r) ]

-- others stay linked where they are told of no predecessor
linked_silent : (v : View) (m : Master) (out : List (Party × Message)) (p : ℕ) (extended : List ℕ) → ((s : ℕ) → Among s extended → reports (told_to s out) ≡ []) → Linked v p extended → Linked (said v m out) p extended
linked_silent v m out p [] none l = tt
linked_silent v m out p (s ∷ extended) none l = (ap (λ us. is_last us p) (ups_silent v m out s (none s (inl refl))) ∙ l.0, linked_silent v m out s extended (λ r among. none r (inr among)) l.1)

-- What is said when a server behind another one is gone: the others are linked again, and nobody is told to be the head.
record Closed (v : View) (m : Master) (a id : ℕ) (rest : List ℕ) (out : List (Party × Message)) : Type 0 where
  linked : Linked (said v m out) a (without id rest)
  climbs : (j : ℕ) → Climbs v.server j (ups v j ++ reports (told_to j out))
  calm : (j : ℕ) → NoHead (told_to j out)
  aside : (j : ℕ) → is_in rest j ≡ false → reports (told_to j out) ≡ []
  silent : (j : ℕ) → eqb a j ≡ false → is_in rest j ≡ false → told_to j out ≡ []

-- numbers that differ differ the other way round
pub eqb_turned : (a b : ℕ) → eqb a b ≡ false → eqb b a ≡ false
eqb_turned a b h = ne_eqb b a (λ e. both_ways (eqb a b) h (eq-eqb a b (sym e)))

-- what one message tells
pub one_told : (j to : ℕ) (m : Message) (t : Bool) → eqb j to ≡ t → told_to j ((parties.Server to, m) ∷ []) ≡ cond t (m ∷ []) []
one_told j to m t e = ap (λ b. cond b (m ∷ []) []) e

calm_one : (m : Message) (t : Bool) → NoHead (m ∷ []) → NoHead (cond t (m ∷ []) [])
calm_one m true h = h
calm_one m false h = tt

-- the last one is gone
closed_last : (v : View) (m : Master) (a id x : ℕ) → eqb x id ≡ true → ((j : ℕ) → Climbs v.server j (ups v j)) → Closed v m a id (x ∷ []) ((parties.Server a, BeTail 0) ∷ [])
closed_last v m a id x same climbs = record {
  linked = subst (λ us. Linked (said v m ((parties.Server a, BeTail 0) ∷ [])) a us) (sym (ap (λ b. cond (not b) (x ∷ []) []) same)) tt;
  climbs = λ j. subst (λ r. Climbs v.server j (ups v j ++ r)) (sym (none j)) (subst (λ us. Climbs v.server j us) (sym (append-nil (ups v j))) (climbs j));
  calm = λ j. calm_one (BeTail 0) (eqb j a) tt;
  aside = λ j out. none j;
  silent = λ j other out. one_told j a (BeTail 0) false (eqb_turned a j other);
} where
  none : (j : ℕ) → reports (told_to j ((parties.Server a, BeTail 0) ∷ [])) ≡ []
  none j = go (eqb j a) where
    go : (t : Bool) → reports (cond t (BeTail 0 ∷ []) []) ≡ []
    go true = refl
    go false = refl

-- one between two others is gone
closed_between : (v : View) (m : Master) (a id x y : ℕ) (rest : List ℕ) → eqb x id ≡ true → (v.server id).down ≡ true → Pairwise (λ b c. eqb b c ≡ false) (x ∷ y ∷ rest) → Linked v a (x ∷ y ∷ rest) → ((j : ℕ) → Climbs v.server j (ups v j))
    → Closed v m a id (x ∷ y ∷ rest) ((parties.Server y, Report a) ∷ [])
closed_between v m a id x y rest same down apart l climbs = record {
  linked = subst (λ us. Linked (said v m out) a us) (sym (ap (λ b. cond (not b) (x ∷ without id (y ∷ rest)) (without id (y ∷ rest))) same ∙ without_absent id (y ∷ rest) absent)) (
    ap (λ us. is_last us a) (said_ups v m out y ∙ ap (λ ms. ups v y ++ reports ms) (one_told y y (Report a) true (eq-eqb y y refl))) ∙ last-more (ups v y) a,
    linked_silent v m out y rest (λ s among. ap reports (one_told s y (Report a) false (ne_eqb s y (λ e. both_ways (eqb y s) (apart.1.0 s among) (eq-eqb y s (sym e)))))) l.1.1,
  );
  climbs = λ j. climb j (eqb j y) refl;
  calm = λ j. calm_one (Report a) (eqb j y) tt;
  aside = λ j none. ap reports (one_told j y (Report a) false (ne_eqb j y (λ e. both_ways (eqb y j) (or_parts (eqb y j) (is_in rest j) (or_parts (eqb x j) (is_in (y ∷ rest) j) none).1).0 (eq-eqb y j (sym e)))));
  silent = λ j other none. one_told j y (Report a) false (eqb_turned y j (or_parts (eqb y j) (is_in rest j) (or_parts (eqb x j) (is_in (y ∷ rest) j) none).1).0);
} where
  out : List (Party × Message)
  out = (parties.Server y, Report a) ∷ []

  absent : is_in (y ∷ rest) id ≡ false
  absent = subst (λ i. is_in (y ∷ rest) i ≡ false) (eqb-true x id same) (apart_out x (y ∷ rest) apart.0)

  climb : (j : ℕ) (t : Bool) → eqb j y ≡ t → Climbs v.server j (ups v j ++ reports (told_to j ((parties.Server y, Report a) ∷ [])))
  climb j true e = subst (λ ms. Climbs v.server j (ups v j ++ reports ms)) (sym (one_told j y (Report a) true e))
      (climbs-on v.server j (ups v j) x a (climbs j) (subst (λ i. is_last (ups v i) x ≡ true) (sym (eqb-true j y e)) l.1.0) (subst (λ i. (v.server i).down ≡ true) (sym (eqb-true x id same)) down) (climbs-top v.server x (ups v x) a (climbs x) l.0))
  climb j false e = subst (λ ms. Climbs v.server j (ups v j ++ reports ms)) (sym (one_told j y (Report a) false e)) (subst (λ us. Climbs v.server j us) (sym (append-nil (ups v j))) (climbs j))

-- any one behind another one is gone
closed : (v : View) (m : Master) (id : ℕ) (rest : List ℕ) (a : ℕ) → Pairwise (λ b c. eqb b c ≡ false) (a ∷ rest) → Linked v a rest → is_in rest id ≡ true → (v.server id).down ≡ true → ((j : ℕ) → Climbs v.server j (ups v j))
    → Closed v m a id rest (closing a id rest)
closed v m id [] a apart l there down climbs = absurd (false≢true there)
closed v m id (x ∷ []) a apart l there down climbs = go (eqb x id) refl where
  go : (b : Bool) → eqb x id ≡ b → Closed v m a id (x ∷ []) (cond b ((parties.Server a, BeTail 0) ∷ []) [])
  go true e = closed_last v m a id x e climbs
  go false e = absurd (both_ways (eqb x id) e (elim (or_cases (eqb x id) false there) [ inl h ↦ h | inr h ↦ absurd (false≢true h) ]))
closed v m id (x ∷ y ∷ rest) a apart l there down climbs = go (eqb x id) refl (λ among. closed v m id (y ∷ rest) x apart.1 l.1 among down climbs) where
  go : (b : Bool) → eqb x id ≡ b → (is_in (y ∷ rest) id ≡ true → Closed v m x id (y ∷ rest) (closing x id (y ∷ rest))) → Closed v m a id (x ∷ y ∷ rest) (cond b ((parties.Server y, Report a) ∷ []) (closing x id (y ∷ rest)))
  go true e later = closed_between v m a id x y rest e down apart.1 l climbs
  go false e later = let behind = later (elim (or_cases (eqb x id) (is_in (y ∷ rest) id) there) [ inl h ↦ absurd (both_ways (eqb x id) e h) | inr h ↦ h ]) in record {
    linked = subst (λ us. Linked (said v m (closing x id (y ∷ rest))) a us) (sym (ap (λ b. cond (not b) (x ∷ without id (y ∷ rest)) (without id (y ∷ rest))) e))
        (ap (λ us. is_last us a) (ups_silent v m (closing x id (y ∷ rest)) x (behind.aside x (apart_out x (y ∷ rest) apart.1.0))) ∙ l.0, behind.linked);
    climbs = behind.climbs;
    calm = behind.calm;
    aside = λ j none. behind.aside j (or_parts (eqb x j) (is_in (y ∷ rest) j) none).1;
    silent = λ j other none. let parts = or_parts (eqb x j) (is_in (y ∷ rest) j) none in behind.silent j parts.0 parts.1;
  }

-- a server behind the first has predecessors
pub linked_some : (v : View) (a : ℕ) (rest : List ℕ) (s : ℕ) → Linked v a rest → Among s rest → ups v s ≡ [] → ⊥
linked_some v a [] s l among none = absurd among
linked_some v a (x ∷ rest) s l (inl e) none = false≢true (sym (ap (λ us. is_last us a) (ap (λ i. ups v i) (sym e) ∙ none)) ∙ l.0)
linked_some v a (x ∷ rest) s l (inr among) none = linked_some v x rest s l.1 among none

-- the sentences that any order keeps which leaves out one server that is down
record LeavesOut (v : View) (m : Master) (id : ℕ) (out : List (Party × Message)) : Type 0 where
  left : extended m ≡ without id (extended v.master)
  used : m.used ≡ v.master.used
  joins : (j : ℕ) → is_that m.joiner j ≡ true → is_that v.master.joiner j ≡ true
  silent : (j : ℕ) → is_in v.master.chain j ≡ false → told_to j out ≡ []

left_apart : (v : View) (m : Master) (id : ℕ) (out : List (Party × Message)) → Prefixes v → LeavesOut v m id out → Pairwise (λ a b. eqb a b ≡ false) (extended m)
left_apart v m id out h o = subst (λ us. Pairwise (λ a b. eqb a b ≡ false) us) (sym o.left) (pairwise-filter (λ a b. eqb a b ≡ false) (λ other. not (eqb other id)) (extended v.master) h.apart)

left_members : (v : View) (m : Master) (id : ℕ) (out : List (Party × Message)) → Prefixes v → LeavesOut v m id out → (j : ℕ) → is_in (extended m) j ≡ true → is_in m.used j ≡ true
left_members v m id out h o j member = ap (λ us. is_in us j) o.used ∙ h.members j (in-without id (extended v.master) j (sym (ap (λ us. is_in us j) o.left) ∙ member)).0

left_away : (v : View) (m : Master) (id : ℕ) (out : List (Party × Message)) → Prefixes v → LeavesOut v m id out → (v.server id).down ≡ true → (j : ℕ) → is_in m.used j ≡ true → is_in (extended m) j ≡ false
    → ((v.server j).down ≡ true) ⊎ Outsider (v.server j) (v.channel parties.Master (parties.Server j) ++ told_to j out)
left_away v m id out h o down j used away = go (eqb j id) refl where
  go : (t : Bool) → eqb j id ≡ t → ((v.server j).down ≡ true) ⊎ Outsider (v.server j) (v.channel parties.Master (parties.Server j) ++ told_to j out)
  go true e = inl (subst (λ i. (v.server i).down ≡ true) (sym (eqb-true j id e)) down)
  go false e = let was = out-without id (extended v.master) j (sym (ap (λ us. is_in us j) o.left) ∙ away) e in
      still_away (v.server j) (v.channel parties.Master (parties.Server j)) (told_to j out) (o.silent j (out-extended v.master.chain v.master.joiner j was).0) (h.away j (sym (ap (λ us. is_in us j) o.used) ∙ used) was)

left_aside : (v : View) (m : Master) (id : ℕ) (out : List (Party × Message)) → Prefixes v → LeavesOut v m id out → (j : ℕ) → is_that m.joiner j ≡ true → Outsider (v.server j) (v.channel parties.Master (parties.Server j) ++ told_to j out)
left_aside v m id out h o j is = let joins = o.joins j is in
    unsaid (v.server j) (v.channel parties.Master (parties.Server j)) (told_to j out) (o.silent j (joiner-out v.master.chain v.master.joiner j h.apart joins)) (h.aside j joins)

-- the head is gone, and the next one is told
head_lost : (v : View) (m : Master) (a b : ℕ) (rest : List ℕ) → Prefixes v → extended v.master ≡ a ∷ b ∷ rest → LeavesOut v m a ((parties.Server b, BeHead) ∷ []) → (v.server a).down ≡ true → Said v m ((parties.Server b, BeHead) ∷ [])
head_lost v m a b rest h is o down = record {
  apart = left_apart v m a out h o;
  members = left_members v m a out h o;
  away = left_away v m a out h o down;
  aside = left_aside v m a out h o;
  unused = λ id un. let was = sym (ap (λ us. is_in us id) o.used) ∙ un in (was, one_told id b BeHead false (ne_eqb id b (λ e. both_ways (is_in v.master.used id) was (h.members id (ap (λ us. is_in us id) is ∙ or_right (eqb a id) (is_in (b ∷ rest) id) (or_left (eqb b id) (is_in rest id) (eq-eqb b id (sym e))))))));
  climbs = λ id. subst (λ us. Climbs v.server id us) (sym (ap (λ r. ups v id ++ r) (none id) ∙ append-nil (ups v id))) (h.climbs id);
  linked = subst (λ us. LinkedExtended (said v m out) us) (sym now) (linked_silent v m out b rest (λ s among. none s) old_linked.1);
  heads = λ id member. subst (λ us. Heads us id (v.channel parties.Master (parties.Server id) ++ told_to id out)) (sym now) (told_head id (subst (λ us. is_in us id ≡ true) now member) (eqb id b) refl);
  headless = λ id member is_head. ap (λ r. ups v id ++ r) (none id) ∙ append-nil (ups v id) ∙ h.headless id (ap (λ us. is_in us id) is ∙ or_right (eqb a id) (is_in (b ∷ rest) id) (subst (λ us. is_in us id ≡ true) now member)) is_head;
} where
  out : List (Party × Message)
  out = (parties.Server b, BeHead) ∷ []

  apart : Pairwise (λ x y. eqb x y ≡ false) (a ∷ b ∷ rest)
  apart = subst (λ us. Pairwise (λ x y. eqb x y ≡ false) us) is h.apart

  old_linked : Linked v a (b ∷ rest)
  old_linked = subst (λ us. LinkedExtended v us) is h.linked

  now : extended m ≡ b ∷ rest
  now = o.left ∙ ap (λ us. without a us) is ∙ ap (λ t. cond (not t) (a ∷ without a (b ∷ rest)) (without a (b ∷ rest))) (eq-eqb a a refl) ∙ without_absent a (b ∷ rest) (apart_out a (b ∷ rest) apart.0)

  none : (j : ℕ) → reports (told_to j ((parties.Server b, BeHead) ∷ [])) ≡ []
  none j = go (eqb j b) where
    go : (t : Bool) → reports (cond t (BeHead ∷ []) []) ≡ []
    go true = refl
    go false = refl

  told_head : (id : ℕ) → is_in (b ∷ rest) id ≡ true → (t : Bool) → eqb id b ≡ t → Heads (b ∷ rest) id (v.channel parties.Master (parties.Server id) ++ told_to id ((parties.Server b, BeHead) ∷ []))
  told_head id member t e = heads_after (b ∷ rest) id (v.channel parties.Master (parties.Server id)) (told_to id ((parties.Server b, BeHead) ∷ []))
      (no_head (extended v.master) id (v.channel parties.Master (parties.Server id)) (ap (λ us. is_first us id) is ∙ apart.0 id (in_apart (b ∷ rest) id member)) (h.heads id (ap (λ us. is_in us id) is ∙ or_right (eqb a id) (is_in (b ∷ rest) id) member)))
      (subst (λ ms. Heads (b ∷ rest) id ms) (sym (one_told id b BeHead t e)) (ends t e)) where
        ends : (u : Bool) → eqb id b ≡ u → Heads (b ∷ rest) id (cond u (BeHead ∷ []) [])
        ends true k = (eq-eqb b id (sym (eqb-true id b k)), refl, tt)
        ends false k = tt

-- another one is gone
other_lost : (v : View) (m : Master) (a id : ℕ) (rest : List ℕ) → Prefixes v → extended v.master ≡ a ∷ rest → eqb a id ≡ false → is_in rest id ≡ true → LeavesOut v m id (closing a id rest) → (v.server id).down ≡ true → Said v m (closing a id rest)
other_lost v m a id rest h is other there o down = record {
  apart = left_apart v m id (closing a id rest) h o;
  members = left_members v m id (closing a id rest) h o;
  away = left_away v m id (closing a id rest) h o down;
  aside = left_aside v m id (closing a id rest) h o;
  unused = λ j un. let was = sym (ap (λ us. is_in us j) o.used) ∙ un in
      let parts = or_parts (eqb a j) (is_in rest j) (out_of j was) in (was, behind.silent j parts.0 parts.1);
  climbs = behind.climbs;
  linked = subst (λ us. LinkedExtended (said v m (closing a id rest)) us) (sym now) behind.linked;
  heads = λ j member. subst (λ us. Heads us j (v.channel parties.Master (parties.Server j) ++ told_to j (closing a id rest))) (sym now) (row j (was_member j member) (eqb a j) refl);
  headless = λ j member is_head. let none = h.headless j (was_member j member) is_head in
      ap (λ us. us ++ reports (told_to j (closing a id rest))) none ∙ first_told j (was_member j member) none;
} where
  apart : Pairwise (λ x y. eqb x y ≡ false) (a ∷ rest)
  apart = subst (λ us. Pairwise (λ x y. eqb x y ≡ false) us) is h.apart

  old_linked : Linked v a rest
  old_linked = subst (λ us. LinkedExtended v us) is h.linked

  behind : Closed v m a id rest (closing a id rest)
  behind = closed v m id rest a apart old_linked there down h.climbs

  now : extended m ≡ a ∷ without id rest
  now = o.left ∙ ap (λ us. without id us) is ∙ ap (λ t. cond (not t) (a ∷ without id rest) (without id rest)) other

  out_of : (j : ℕ) → is_in v.master.used j ≡ false → is_in (a ∷ rest) j ≡ false
  out_of j unused = go (is_in (a ∷ rest) j) refl where
    go : (t : Bool) → is_in (a ∷ rest) j ≡ t → t ≡ false
    go true e = absurd (both_ways (is_in v.master.used j) unused (h.members j (ap (λ us. is_in us j) is ∙ e)))
    go false e = refl

  was_member : (j : ℕ) → is_in (extended m) j ≡ true → is_in (extended v.master) j ≡ true
  was_member j member = (in-without id (extended v.master) j (sym (ap (λ us. is_in us j) o.left) ∙ member)).0

  row : (j : ℕ) → is_in (extended v.master) j ≡ true → (t : Bool) → eqb a j ≡ t → Heads (a ∷ without id rest) j (v.channel parties.Master (parties.Server j) ++ told_to j (closing a id rest))
  row j member true e = heads_first (extended v.master) (a ∷ without id rest) j (v.channel parties.Master (parties.Server j)) (told_to j (closing a id rest)) e (h.heads j member)
      (behind.aside j (subst (λ i. is_in rest i ≡ false) (eqb-true a j e) (apart_out a rest apart.0))) (behind.calm j)
  row j member false e = heads_after (a ∷ without id rest) j (v.channel parties.Master (parties.Server j)) (told_to j (closing a id rest))
      (no_head (extended v.master) j (v.channel parties.Master (parties.Server j)) (ap (λ us. is_first us j) is ∙ e) (h.heads j member)) (heads_none (a ∷ without id rest) j (told_to j (closing a id rest)) (behind.calm j))

  first_told : (j : ℕ) → is_in (extended v.master) j ≡ true → ups v j ≡ [] → reports (told_to j (closing a id rest)) ≡ []
  first_told j member none = elim (or_cases (eqb a j) (is_in rest j) (sym (ap (λ us. is_in us j) is) ∙ member)) [
    | inl first ↦ behind.aside j (subst (λ i. is_in rest i ≡ false) (eqb-true a j first) (apart_out a rest apart.0))
    | inr later ↦ absurd (linked_some v a rest j old_linked (in_apart rest j later) none)
  ]

-- what is said of a loss is said to members
closing_silent : (p id : ℕ) (us : List ℕ) (j : ℕ) → eqb p j ≡ false → is_in us j ≡ false → told_to j (closing p id us) ≡ []
closing_silent p id [] j other out = refl
closing_silent p id (a ∷ []) j other out = go (eqb a id) where
  go : (t : Bool) → told_to j (cond t ((parties.Server p, BeTail 0) ∷ []) []) ≡ []
  go true = one_told j p (BeTail 0) false (eqb_turned p j other)
  go false = refl
closing_silent p id (a ∷ b ∷ rest) j other out = go (eqb a id) (closing_silent a id (b ∷ rest) j parts.0 parts.1) where
  parts : (eqb a j ≡ false) × (is_in (b ∷ rest) j ≡ false)
  parts = or_parts (eqb a j) (is_in (b ∷ rest) j) out

  go : (t : Bool) → told_to j (closing a id (b ∷ rest)) ≡ [] → told_to j (cond t ((parties.Server b, Report p) ∷ []) (closing a id (b ∷ rest))) ≡ []
  go true later = one_told j b (Report p) false (eqb_turned b j (or_parts (eqb b j) (is_in rest j) parts.1).0)
  go false later = later

pub loss_silent : (id : ℕ) (chain : List ℕ) (j : ℕ) → is_in chain j ≡ false → told_to j (said_of_loss id chain) ≡ []
loss_silent id [] j out = refl
loss_silent id (a ∷ []) j out = refl
loss_silent id (a ∷ b ∷ rest) j out = go (eqb a id) where
  parts : (eqb a j ≡ false) × (is_in (b ∷ rest) j ≡ false)
  parts = or_parts (eqb a j) (is_in (b ∷ rest) j) out

  go : (t : Bool) → told_to j (cond t ((parties.Server b, BeHead) ∷ []) (closing a id (b ∷ rest))) ≡ []
  go true = one_told j b BeHead false (eqb_turned b j (or_parts (eqb b j) (is_in rest j) parts.1).0)
  go false = closing_silent a id (b ∷ rest) j parts.0 parts.1

-- What is said of a loss in the extended chain keeps all sentences, if it is said to members alone.
lost_said : (v : View) (m : Master) (id : ℕ) → Prefixes v → (extended_now : List ℕ) → extended v.master ≡ extended_now → is_in extended_now id ≡ true → (v.server id).down ≡ true → (length extended_now ≡ 1 → ⊥)
    → LeavesOut v m id (said_of_loss id extended_now) → Said v m (said_of_loss id extended_now)
lost_said v m id h [] is there down more o = absurd (false≢true there)
lost_said v m id h (a ∷ []) is there down more o = absurd (more refl)
lost_said v m id h (a ∷ b ∷ rest) is there down more o = go (eqb a id) refl o where
  go : (t : Bool) → eqb a id ≡ t → LeavesOut v m id (cond t ((parties.Server b, BeHead) ∷ []) (closing a id (b ∷ rest))) → Said v m (cond t ((parties.Server b, BeHead) ∷ []) (closing a id (b ∷ rest)))
  go true e k = head_lost v m a b rest h is (subst (λ i. LeavesOut v m i ((parties.Server b, BeHead) ∷ [])) (sym (eqb-true a id e)) k) (subst (λ i. (v.server i).down ≡ true) (sym (eqb-true a id e)) down)
  go false e k = other_lost v m a id (b ∷ rest) h is e (elim (or_cases (eqb a id) (is_in (b ∷ rest) id) there) [ inl same ↦ absurd (both_ways (eqb a id) e same) | inr later ↦ later ]) k down

-- where another one than the last member is lost, what is said is the same for the extended chain
closing_extended : (p id j : ℕ) (us : List ℕ) → is_last us id ≡ false → eqb j id ≡ false → closing p id (us ++ j ∷ []) ≡ closing p id us
closing_extended p id j [] last other = ap (λ b. cond b ((parties.Server p, BeTail 0) ∷ []) []) other
closing_extended p id j (a ∷ []) last other = ap (λ b. cond b ((parties.Server j, Report p) ∷ []) (closing a id (j ∷ []))) last ∙ ap (λ b. cond b ((parties.Server a, BeTail 0) ∷ []) []) other
    ∙ sym (ap (λ b. cond b ((parties.Server p, BeTail 0) ∷ []) []) last)
closing_extended p id j (a ∷ b ∷ rest) last other = ap (λ us. cond (eqb a id) ((parties.Server b, Report p) ∷ []) us) (closing_extended a id j (b ∷ rest) last other)

pub loss-extended : (id : ℕ) (ids : List ℕ) (o : Option ℕ) → is_last ids id ≡ false → is_in ids id ≡ true → is_that o id ≡ false → said_of_loss id (extended_of ids o) ≡ said_of_loss id ids
loss-extended id ids None last member other = refl
loss-extended id [] (Some j) last member other = absurd (false≢true member)
loss-extended id (a ∷ []) (Some j) last member other = absurd (both_ways (eqb a id) last (elim (or_cases (eqb a id) false member) [ inl e ↦ e | inr none ↦ absurd (false≢true none) ]))
loss-extended id (a ∷ b ∷ rest) (Some j) last member other = ap (λ us. cond (eqb a id) ((parties.Server b, BeHead) ∷ []) us) (closing_extended a id j (b ∷ rest) last other)

-- so is the extended chain without it
pub without-extended : (id : ℕ) (ids : List ℕ) (o : Option ℕ) → is_that o id ≡ false → extended_of (without id ids) o ≡ without id (extended_of ids o)
without-extended id ids None other = refl
without-extended id [] (Some j) other = sym (ap (λ b. cond (not b) (j ∷ []) []) other)
without-extended id (a ∷ ids) (Some j) other = go (eqb a id) (without-extended id ids (Some j) other) where
  go : (t : Bool) → without id ids ++ j ∷ [] ≡ without id (ids ++ j ∷ []) → cond (not t) (a ∷ without id ids) (without id ids) ++ j ∷ [] ≡ cond (not t) (a ∷ without id (ids ++ j ∷ [])) (without id (ids ++ j ∷ []))
  go true later = later
  go false later = ap (λ us. a ∷ us) later

-- A detection keeps all sentences: of the server that joins, or of a member that is down, while others remain.
pub detected-said : (v : View) (id : ℕ) → Prefixes v → (v.server id).down ≡ true → (is_that v.master.joiner id ≡ false → (is_in v.master.chain id ≡ true) × (length v.master.chain ≡ 1 → ⊥)) → Said (record v { master = alone v.master }) (dropped v.master).master (dropped v.master).said
    → Prefixes (said v (detected id v.master).master (detected id v.master).said)
unfolding detected
detected-said v id h down parts dropping = go (is_that v.master.joiner id) refl where
  go : (t : Bool) → is_that v.master.joiner id ≡ t → Prefixes (said v (cond t (dropped v.master) (closed_up id v.master)).master (cond t (dropped v.master) (closed_up id v.master)).said)
  go true joins = said-keeps (record v { master = alone v.master }) (dropped v.master).master (dropped v.master).said (dropped-keeps v h) dropping
  go false other = by_last (is_last v.master.chain id) refl where
    member : is_in v.master.chain id ≡ true
    member = (parts other).0

    by_last : (t : Bool) → is_last v.master.chain id ≡ t → Prefixes (said v (closed_up id v.master).master (closed_up id v.master).said)
    by_last true last = said-keeps (record v { master = alone v.master }) (closed_up id v.master).master (said_of_loss id v.master.chain) (dropped-keeps v h)
        (lost_said (record v { master = alone v.master }) (closed_up id v.master).master id (dropped-keeps v h) v.master.chain refl member down (parts other).1 (record {
          left = ap (λ o. extended_of (without id v.master.chain) o) none;
          used = refl;
          joins = λ j is. absurd (false≢true (sym (ap (λ o. is_that o j) none) ∙ is));
          silent = loss_silent id v.master.chain;
        })) where
          none : (closed_up id v.master).master.joiner ≡ None
          none = ap (λ b. cond b None v.master.joiner) last
    by_last false last = said-keeps v (closed_up id v.master).master (said_of_loss id v.master.chain) h
        (subst (λ out. Said v (closed_up id v.master).master out) same (lost_said v (closed_up id v.master).master id h (extended v.master) refl (member-extended v.master.chain v.master.joiner id member) down more (record {
          left = ap (λ o. extended_of (without id v.master.chain) o) still ∙ without-extended id v.master.chain v.master.joiner other;
          used = refl;
          joins = λ j is. sym (ap (λ o. is_that o j) still) ∙ is;
          silent = λ j out. ap (λ us. told_to j us) same ∙ loss_silent id v.master.chain j out;
        }))) where
          still : (closed_up id v.master).master.joiner ≡ v.master.joiner
          still = ap (λ b. cond b None v.master.joiner) last

          same : said_of_loss id (extended v.master) ≡ said_of_loss id v.master.chain
          same = loss-extended id v.master.chain v.master.joiner last member other

          more : length (extended v.master) ≡ 1 → ⊥
          more is = longer v.master.chain v.master.joiner (parts other).1 member is where
            longer : (ids : List ℕ) (o : Option ℕ) → (length ids ≡ 1 → ⊥) → is_in ids id ≡ true → length (extended_of ids o) ≡ 1 → ⊥
            longer ids None few there one = few one
            longer [] (Some j) few there one = false≢true there
            longer (a ∷ rest) (Some j) few there one = omega (arith, one, length-append rest (j ∷ []))

-- ---- joins

-- what is among them is found
in_of : (ids : List ℕ) (s : ℕ) → Among s ids → is_in ids s ≡ true
in_of [] s among = absurd among
in_of (x ∷ ids) s (inl e) = or_left (eqb x s) (is_in ids s) (eq-eqb x s (sym e))
in_of (x ∷ ids) s (inr among) = or_right (eqb x s) (is_in ids s) (in_of ids s among)

-- the last of a list that begins with that one
abbrev pub last_of : ℕ → List ℕ → ℕ
last_of a [] = a
last_of a (b ∷ rest) = last_of b rest

pub join_told : (id a : ℕ) (rest : List ℕ) → said_of_join id (a ∷ rest) ≡ (parties.Server id, Report (last_of a rest)) ∷ []
join_told id a [] = refl
join_told id a (b ∷ rest) = join_told id b rest

-- what is said to the last one
pub last_told : (m : Message) (a : ℕ) (rest : List ℕ) → to_last m (a ∷ rest) ≡ (parties.Server (last_of a rest), m) ∷ []
last_told m a [] = refl
last_told m a (b ∷ rest) = last_told m b rest

pub last_top : (a : ℕ) (rest : List ℕ) → is_last (a ∷ rest) (last_of a rest) ≡ true
last_top a [] = eq-eqb a a refl
last_top a (b ∷ rest) = last_top b rest

pub last_among : (a : ℕ) (rest : List ℕ) → is_in (a ∷ rest) (last_of a rest) ≡ true
last_among a [] = or_left (eqb a a) false (eq-eqb a a refl)
last_among a (b ∷ rest) = or_right (eqb a (last_of b rest)) (is_in (b ∷ rest) (last_of b rest)) (last_among b rest)

-- an extended chain that goes on with one that has the last one as predecessor
linked_more : (v : View) (m : Master) (out : List (Party × Message)) (a : ℕ) (rest : List ℕ) (id : ℕ) → ((s : ℕ) → Among s rest → reports (told_to s out) ≡ []) → Linked v a rest → is_last (ups (said v m out) id) (last_of a rest) ≡ true → Linked (said v m out) a (rest ++ id ∷ [])
linked_more v m out a [] id none l last = (last, tt)
linked_more v m out a (s ∷ rest) id none l last = (ap (λ us. is_last us a) (ups_silent v m out s (none s (inl refl))) ∙ l.0, linked_more v m out s rest id (λ r among. none r (inr among)) l.1 last)

-- A join of a number that wasn't used keeps all sentences.
pub joined-said : (v : View) (id a : ℕ) (rest : List ℕ) → Prefixes v → is_in v.master.used id ≡ false → v.master.chain ≡ a ∷ rest → Said (record v { master = alone v.master }) (joined id v.master).master (joined id v.master).said
unfolding joined
joined-said v id a rest was_all unused is = subst (λ os. Said (record v { master = alone v.master }) m os) (sym (ap (λ us. said_of_join id us) is ∙ join_told id a rest)) (record {
  apart = pairwise-push (λ x y. eqb x y ≡ false) v.master.chain id h.apart (λ x among. member_other x (among_in v.master.chain x among));
  members = λ j member. elim (in_more v.master.chain id j member) [ inl k ↦ in_left v.master.used id j (h.members j k) | inr e ↦ subst (λ i. is_in (v.master.used ++ id ∷ []) i ≡ true) (eqb-true id j e) (in_end v.master.used id) ];
  away = λ j used out_of. let parts = out_more v.master.chain id j out_of in elim (in_more v.master.used id j used) [
    | inl k ↦ still_away (v.server j) (v.channel parties.Master (parties.Server j)) (told_to j out) (one_told j id (Report t) false (eqb_turned id j parts.1)) (h.away j k parts.0)
    | inr e ↦ absurd (both_ways (eqb id j) parts.1 e)
  ];
  aside = λ j joins. stands_aside j (eqb-true id j joins);
  unused = λ j un. let parts = out_more v.master.used id j un in (parts.0, one_told j id (Report t) false (eqb_turned id j parts.1));
  climbs = λ j. climb j (eqb j id) refl;
  linked = subst (λ us. LinkedExtended (said v m out) (us ++ id ∷ [])) (sym is) (linked_more v m out a rest id (λ s among. ap reports (one_told s id (Report t) false (member_other s (ap (λ us. is_in us s) is ∙ or_right (eqb a s) (is_in rest s) (among_in rest s among)))))
      (subst (λ us. LinkedExtended v us) is h.linked) (ap (λ us. is_last us t) (said_ups v m out id ∙ ap (λ us. us ++ reports (told_to id out)) none_before ∙ ap reports (one_told id id (Report t) true (eq-eqb id id refl))) ∙ eq-eqb t t refl));
  heads = λ j member. row j member (eqb j id) refl;
  headless = λ j member is_head. headless j member is_head (eqb j id) refl;
}) where
  t : ℕ
  t = last_of a rest

  out : List (Party × Message)
  out = (parties.Server id, Report (last_of a rest)) ∷ []

  m : Master
  m = (joined id v.master).master

  h : Prefixes (record v { master = alone v.master })
  h = dropped-keeps v was_all

  fresh : (v.server id ≡ joining) × (v.channel parties.Master (parties.Server id) ≡ [])
  fresh = was_all.fresh id unused

  none_before : ups v id ≡ []
  none_before = ap (λ s. one s.pred ++ reports (v.channel parties.Master (parties.Server id))) fresh.0 ∙ ap reports fresh.1

  member_other : (s : ℕ) → is_in v.master.chain s ≡ true → eqb s id ≡ false
  member_other s member = ne_eqb s id (λ e. both_ways (is_in v.master.used id) unused (subst (λ i. is_in v.master.used i ≡ true) e (h.members s member)))

  among_in : (ids : List ℕ) (s : ℕ) → Among s ids → is_in ids s ≡ true
  among_in ids s among = in_of ids s among

  climb : (j : ℕ) (b : Bool) → eqb j id ≡ b → Climbs v.server j (ups v j ++ reports (told_to j ((parties.Server id, Report (last_of a rest)) ∷ [])))
  climb j true e = subst (λ ms. Climbs v.server j (ups v j ++ reports ms)) (sym (one_told j id (Report (last_of a rest)) true e))
      (subst (λ us. Climbs v.server j (us ++ last_of a rest ∷ [])) (sym (ap (λ i. ups v i) (eqb-true j id e) ∙ none_before)) (prefix-none (v.server j).entries (v.server (last_of a rest)).entries (ap (λ i. (v.server i).entries) (eqb-true j id e) ∙ ap (λ s. s.entries) fresh.0)))
  climb j false e = subst (λ ms. Climbs v.server j (ups v j ++ reports ms)) (sym (one_told j id (Report (last_of a rest)) false e)) (subst (λ us. Climbs v.server j us) (sym (append-nil (ups v j))) (h.climbs j))

  was : (j : ℕ) → is_in (v.master.chain ++ id ∷ []) j ≡ true → eqb j id ≡ false → is_in v.master.chain j ≡ true
  was j member other = elim (in_more v.master.chain id j member) [ inl k ↦ k | inr e ↦ absurd (both_ways (eqb j id) other (eq-eqb j id (sym (eqb-true id j e)))) ]

  row : (j : ℕ) → is_in (v.master.chain ++ id ∷ []) j ≡ true → (b : Bool) → eqb j id ≡ b → Heads (v.master.chain ++ id ∷ []) j (v.channel parties.Master (parties.Server j) ++ told_to j ((parties.Server id, Report (last_of a rest)) ∷ []))
  row j member true e = subst (λ ms. Heads (v.master.chain ++ id ∷ []) j (v.channel parties.Master (parties.Server j) ++ ms)) (sym (one_told j id (Report (last_of a rest)) true e))
      (subst (λ ms. Heads (v.master.chain ++ id ∷ []) j (ms ++ Report (last_of a rest) ∷ [])) (sym (ap (λ i. v.channel parties.Master (parties.Server i)) (eqb-true j id e) ∙ fresh.1)) tt)
  row j member false e = subst (λ ms. Heads (v.master.chain ++ id ∷ []) j (v.channel parties.Master (parties.Server j) ++ ms)) (sym (one_told j id (Report (last_of a rest)) false e)) (stays (is_first v.master.chain j) refl) where
    same_first : is_first (v.master.chain ++ id ∷ []) j ≡ is_first v.master.chain j
    same_first = ap (λ us. is_first (us ++ id ∷ []) j) is ∙ sym (ap (λ us. is_first us j) is)

    stays : (b : Bool) → is_first v.master.chain j ≡ b → Heads (v.master.chain ++ id ∷ []) j (v.channel parties.Master (parties.Server j) ++ [])
    stays true k = heads_first v.master.chain (v.master.chain ++ id ∷ []) j (v.channel parties.Master (parties.Server j)) [] (same_first ∙ k) (h.heads j (was j member e)) refl tt
    stays false k = heads_after (v.master.chain ++ id ∷ []) j (v.channel parties.Master (parties.Server j)) [] (no_head v.master.chain j (v.channel parties.Master (parties.Server j)) k (h.heads j (was j member e))) tt

  headless : (j : ℕ) → is_in (v.master.chain ++ id ∷ []) j ≡ true → (v.server j).head ≡ true → (b : Bool) → eqb j id ≡ b → ups v j ++ reports (told_to j ((parties.Server id, Report (last_of a rest)) ∷ [])) ≡ []
  headless j member is_head true e = absurd (false≢true (sym (ap (λ i. (v.server i).head) (eqb-true j id e) ∙ ap (λ s. s.head) fresh.0) ∙ is_head))
  headless j member is_head false e = ap (λ ms. ups v j ++ reports ms) (one_told j id (Report (last_of a rest)) false e) ∙ append-nil (ups v j) ∙ h.headless j (was j member e) is_head

  stands_aside : (j : ℕ) → id ≡ j → Outsider (v.server j) (v.channel parties.Master (parties.Server j) ++ told_to j ((parties.Server id, Report (last_of a rest)) ∷ []))
  stands_aside j e = subst (λ i. Outsider (v.server i) (v.channel parties.Master (parties.Server i) ++ told_to i ((parties.Server id, Report (last_of a rest)) ∷ []))) e (record {
    full = ap (λ s. s.full) fresh.0;
    at_least = ap (λ s. s.at_least) fresh.0;
    head = ap (λ s. s.head) fresh.0;
    succ = ap (λ s. s.succ) fresh.0;
    told = subst (λ ms. Each Harmless ms) (sym (ap (λ ms. ms ++ told_to id ((parties.Server id, Report (last_of a rest)) ∷ [])) fresh.1 ∙ one_told id id (Report (last_of a rest)) true (eq-eqb id id refl))) (tt, tt);
  })

-- ---- messages to the master

-- What is said to a member, if it tells of no predecessor and no head, keeps all sentences.
quiet_said : (v : View) (m : Master) (to : ℕ) (word : Message) → Prefixes v → extended m ≡ extended v.master → m.used ≡ v.master.used → ((j : ℕ) → is_that m.joiner j ≡ true → is_that v.master.joiner j ≡ true) → is_in v.master.chain to ≡ true
    → reports (word ∷ []) ≡ [] → NoHead (word ∷ []) → Said v m ((parties.Server to, word) ∷ [])
quiet_said v m to word h stays used joins there told calm = record {
  apart = subst (λ us. Pairwise (λ a b. eqb a b ≡ false) us) (sym stays) h.apart;
  members = λ id k. ap (λ us. is_in us id) used ∙ h.members id (sym (ap (λ us. is_in us id) stays) ∙ k);
  away = λ id k out_of. let was = sym (ap (λ us. is_in us id) stays) ∙ out_of in
      still_away (v.server id) (v.channel parties.Master (parties.Server id)) (told_to id out) (aside_told id (out-extended v.master.chain v.master.joiner id was).0) (h.away id (sym (ap (λ us. is_in us id) used) ∙ k) was);
  aside = λ id is. let was = joins id is in unsaid (v.server id) (v.channel parties.Master (parties.Server id)) (told_to id out) (aside_told id (joiner-out v.master.chain v.master.joiner id h.apart was)) (h.aside id was);
  unused = λ id un. let was = sym (ap (λ us. is_in us id) used) ∙ un in (was, one_told id to word false (ne_eqb id to (λ e. both_ways (is_in v.master.used id) was (h.members id (subst (λ i. is_in (extended v.master) i ≡ true) (sym e) member)))));
  climbs = λ id. subst (λ us. Climbs v.server id us) (sym (ap (λ r. ups v id ++ r) (none id) ∙ append-nil (ups v id))) (h.climbs id);
  linked = subst (λ us. LinkedExtended (said v m out) us) (sym stays) (linked (extended v.master) h.linked);
  heads = λ id k. subst (λ us. Heads us id (v.channel parties.Master (parties.Server id) ++ told_to id out)) (sym stays) (row id (sym (ap (λ us. is_in us id) stays) ∙ k) (is_first (extended v.master) id) refl);
  headless = λ id k is_head. ap (λ r. ups v id ++ r) (none id) ∙ append-nil (ups v id) ∙ h.headless id (sym (ap (λ us. is_in us id) stays) ∙ k) is_head;
} where
  out : List (Party × Message)
  out = (parties.Server to, word) ∷ []

  member : is_in (extended v.master) to ≡ true
  member = member-extended v.master.chain v.master.joiner to there

  aside_told : (j : ℕ) → is_in v.master.chain j ≡ false → told_to j ((parties.Server to, word) ∷ []) ≡ []
  aside_told j not_member = one_told j to word false (ne_eqb j to (λ e. both_ways (is_in v.master.chain j) not_member (subst (λ i. is_in v.master.chain i ≡ true) (sym e) there)))

  none : (j : ℕ) → reports (told_to j ((parties.Server to, word) ∷ [])) ≡ []
  none j = go (eqb j to) where
    go : (t : Bool) → reports (cond t (word ∷ []) []) ≡ []
    go true = told
    go false = refl

  linked : (ids : List ℕ) → LinkedExtended v ids → LinkedExtended (said v m ((parties.Server to, word) ∷ [])) ids
  linked [] l = tt
  linked (a ∷ ids) l = linked_silent v m ((parties.Server to, word) ∷ []) a ids (λ s among. none s) l

  row : (j : ℕ) → is_in (extended v.master) j ≡ true → (t : Bool) → is_first (extended v.master) j ≡ t → Heads (extended v.master) j (v.channel parties.Master (parties.Server j) ++ told_to j ((parties.Server to, word) ∷ []))
  row j k true first = heads_first (extended v.master) (extended v.master) j (v.channel parties.Master (parties.Server j)) (told_to j ((parties.Server to, word) ∷ [])) first (h.heads j k) (none j) (calm_one word (eqb j to) calm)
  row j k false other = heads_after (extended v.master) j (v.channel parties.Master (parties.Server j)) (told_to j ((parties.Server to, word) ∷ [])) (no_head (extended v.master) j (v.channel parties.Master (parties.Server j)) other (h.heads j k)) (heads_none (extended v.master) j (told_to j ((parties.Server to, word) ∷ [])) (calm_one word (eqb j to) calm))

-- What is said to nobody, where the extended chain stays, changes nothing.
pub still_said : (v : View) (m : Master) → Prefixes v → extended m ≡ extended v.master → m.used ≡ v.master.used → ((j : ℕ) → is_that m.joiner j ≡ true → is_that v.master.joiner j ≡ true) → Said v m []
still_said v m h stays used joins = record {
  apart = subst (λ us. Pairwise (λ a b. eqb a b ≡ false) us) (sym stays) h.apart;
  members = λ id k. ap (λ us. is_in us id) used ∙ h.members id (sym (ap (λ us. is_in us id) stays) ∙ k);
  away = λ id k out_of. still_away (v.server id) (v.channel parties.Master (parties.Server id)) [] refl (h.away id (sym (ap (λ us. is_in us id) used) ∙ k) (sym (ap (λ us. is_in us id) stays) ∙ out_of));
  aside = λ id is. unsaid (v.server id) (v.channel parties.Master (parties.Server id)) [] refl (h.aside id (joins id is));
  unused = λ id un. (sym (ap (λ us. is_in us id) used) ∙ un, refl);
  climbs = λ id. subst (λ us. Climbs v.server id us) (sym (append-nil (ups v id))) (h.climbs id);
  linked = subst (λ us. LinkedExtended (said v m []) us) (sym stays) (linked (extended v.master) h.linked);
  heads = λ id k. subst (λ us. Heads us id (v.channel parties.Master (parties.Server id) ++ [])) (sym stays) (subst (λ ms. Heads (extended v.master) id ms) (sym (append-nil (v.channel parties.Master (parties.Server id)))) (h.heads id (sym (ap (λ us. is_in us id) stays) ∙ k)));
  headless = λ id k is_head. append-nil (ups v id) ∙ h.headless id (sym (ap (λ us. is_in us id) stays) ∙ k) is_head;
} where
  linked : (ids : List ℕ) → LinkedExtended v ids → LinkedExtended (said v m []) ids
  linked [] l = tt
  linked (a ∷ ids) l = linked_silent v m [] a ids (λ s among. refl) l

-- who stands directly before another one is a member
before_in : (p s : ℕ) (ids : List ℕ) → stands_before p s ids ≡ true → is_in ids p ≡ true
before_in p s [] h = absurd (false≢true h)
before_in p s (a ∷ []) h = absurd (false≢true h)
before_in p s (a ∷ b ∷ rest) h = elim (or_cases (eqb a p && eqb b s) (stands_before p s (b ∷ rest)) h) [
  | inl here ↦ or_left (eqb a p) (is_in (b ∷ rest) p) (and_parts (eqb a p) (eqb b s) here).0
  | inr later ↦ or_right (eqb a p) (is_in (b ∷ rest) p) (before_in p s (b ∷ rest) later)
]

-- who is the last is a member
last_in : (ids : List ℕ) (id : ℕ) → is_last ids id ≡ true → is_in ids id ≡ true
last_in [] id h = absurd (false≢true h)
last_in (a ∷ []) id h = or_left (eqb a id) false h
last_in (a ∷ b ∷ rest) id h = or_right (eqb a id) (is_in (b ∷ rest) id) (last_in (b ∷ rest) id h)

-- The last member is told to feed nobody any more.
pub dropped-said : (v : View) (a : ℕ) (rest : List ℕ) → Prefixes v → v.master.chain ≡ a ∷ rest → Said (record v { master = alone v.master }) (dropped v.master).master (dropped v.master).said
dropped-said v a rest h is = subst (λ out. Said (record v { master = alone v.master }) (alone v.master) out) (sym (ap (λ us. to_last (Feed None) us) is ∙ last_told (Feed None) a rest))
    (quiet_said (record v { master = alone v.master }) (alone v.master) (last_of a rest) (Feed None) (dropped-keeps v h) refl refl (λ j joins. joins) (ap (λ us. is_in us (last_of a rest)) is ∙ last_among a rest) refl tt)

-- Whatever the master hears, what it does keeps all sentences.
pub heard-said : (v : View) (from : ℕ) (word : Message) → Prefixes v → Said v (hears from word v.master).master (hears from word v.master).said
unfolding hears
heard-said v from (Have p count) h = go (stands_before p from v.master.chain) (joins_behind p from v.master) refl refl where
  go : (t u : Bool) → stands_before p from v.master.chain ≡ t → joins_behind p from v.master ≡ u
      → Said v (cond t (record { master = v.master; said = (parties.Server p, Adopt from count) ∷ [] }) (cond u (record { master = v.master; said = (parties.Server p, Feed (Some from)) ∷ [] }) (no_order v.master))).master
      (cond t (record { master = v.master; said = (parties.Server p, Adopt from count) ∷ [] }) (cond u (record { master = v.master; said = (parties.Server p, Feed (Some from)) ∷ [] }) (no_order v.master))).said
  go true u e f = quiet_said v v.master p (Adopt from count) h refl refl (λ j joins. joins) (before_in p from v.master.chain e) refl tt
  go false true e f = quiet_said v v.master p (Feed (Some from)) h refl refl (λ j joins. joins) (last_in v.master.chain p (and_parts (is_that v.master.joiner from) (is_last v.master.chain p) f).1) refl tt
  go false false e f = still_said v v.master h refl refl (λ j joins. joins)
heard-said v from (Caught p count) h = go (joins_behind p from v.master) refl where
  go : (t : Bool) → joins_behind p from v.master ≡ t → Said v (cond t (admitted p from count v.master) (no_order v.master)).master (cond t (admitted p from count v.master) (no_order v.master)).said
  go true e =
      let both = and_parts (is_that v.master.joiner from) (is_last v.master.chain p) e in
      quiet_said v (admitted p from count v.master).master p (Adopt from count) h (sym (ap (λ o. extended_of v.master.chain o) (that_some v.master.joiner from both.0))) refl (λ j none. absurd (false≢true none)) (last_in v.master.chain p both.1) refl tt
  go false e = still_said v v.master h refl refl (λ j joins. joins)
heard-said v from (Adopted s count) h = go (is_last v.master.chain s && not v.master.told) refl where
  go : (t : Bool) → (is_last v.master.chain s && not v.master.told) ≡ t → Said v (cond t (record { master = record v.master { told = true }; said = (parties.Server s, BeTail count) ∷ [] }) (no_order v.master)).master (cond t (record { master = record v.master { told = true }; said = (parties.Server s, BeTail count) ∷ [] }) (no_order v.master)).said
  go true e = quiet_said v (record v.master { told = true }) s (BeTail count) h refl refl (λ j joins. joins) (last_in v.master.chain s (and_parts (is_last v.master.chain s) (not v.master.told) e).0) refl tt
  go false e = still_said v v.master h refl refl (λ j joins. joins)
heard-said v from Ready h = go (is_last v.master.chain from) where
  go : (t : Bool) → Said v (cond t (record { master = record v.master { ready = true }; said = [] }) (no_order v.master)).master (cond t (record { master = record v.master { ready = true }; said = [] }) (no_order v.master)).said
  go true = still_said v (record v.master { ready = true }) h refl refl (λ j joins. joins)
  go false = still_said v v.master h refl refl (λ j joins. joins)
heard-said v from word h = still_said v v.master h refl refl (λ j joins. joins)
