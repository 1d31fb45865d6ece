-- Detections lose nothing on the way.
use Rattle.std.proofs.Common.{◌≡◌, ℕ, suc, ◌+◌, ◌∙◌, ap, sym, List, [], ◌∷◌, ◌++◌, length, ◌&&◌, ◌||◌, ◌⊎◌, not, Option, Some, None, Bool, true, false, cond, eqb, arith, subst, refl, inl, inr, append-nil, length-append}
use Rattle.std.proofs.lemmas.Bool.{eqb-true, eq-eqb, false≢true, both_ways, cases_Bool, and_parts, and_left, and_right, or_cases, or_left, or_right}
use Rattle.cq_base.specs.declared.ask.Entry.{Entry}
use Rattle.cq_base.specs.declared.party.Party.{Party}
use Rattle.cq_base.specs.declared.party.Party.TheVariants as parties
use Rattle.cq_chain.specs.Masters.{Master, is_in, is_last, without, closing, said_of_loss, to_last, dropped, closed_up, detected, stands_before}
use Rattle.cq_chain.specs.Messages.{Message, BeHead, Report, Adopt, BeTail, Feed, Have}
use Rattle.cq_chain.specs.Parties.{is_that}
use Rattle.cq_world.proofs.Chains.{Apart, apart-out, among-in, before-in, last-back, chain-apart}
use Rattle.cq_world.proofs.Commits.Changes.{loss_last, loss_neutral}
use Rattle.cq_world.proofs.Commits.Orders.{Neutral}
use Rattle.cq_world.proofs.Commits.{bit}
use Rattle.cq_world.proofs.Eaches.{Each, each-append, each-follows}
use Rattle.cq_world.proofs.ExtendedChains.{member-extended, joiner-out, extended-before}
use Rattle.cq_world.proofs.Prefixes.Climbing.{reports, one}
use Rattle.cq_world.proofs.Prefixes.Orders.{told_to, one_told, in-without, eqb_turned, loss_silent, loss-extended, without-extended, last_told, last_of, last_top, alone, dropped-keeps}
use Rattle.cq_world.proofs.Prefixes.{Prefixes}
use Rattle.cq_world.proofs.Views.{View, extended_of, extended, said}
use Rattle.cq_world.proofs.Wholes.{Whole, reports_of, haves_of, adopts_of, feeds_of, OnlyTo, Ends, FeedsOut, Known, AdoptIs, links, tokens, before-self}
use Rattle.cq_world.proofs.Wholes.Orders.{behind-one, linked-token, no-token, ends-free, closing-feed, tail_whole}
use Rattle.cq_world.proofs.Wholes.Steps.{no_haves, no_adopts}
use Rattle.cq_world.proofs.Wholes.Turns.{reports-append, adopts-append, fed-append}

-- ---- neighbours of one that is gone

-- whether one stands between two others
abbrev pub between : ℕ → ℕ → ℕ → List ℕ → Bool
between p d s extended = stands_before p d extended && stands_before d s extended

no_before : (p s : ℕ) (extended : List ℕ) → (is_in extended p ≡ true → ⊥) → stands_before p s extended ≡ false
no_before p s extended h = elim (cases_Bool (stands_before p s extended)) [ inl is ↦ absurd (h (before-in p s extended is).0) | inr none ↦ none ]

no_behind : (p s : ℕ) (extended : List ℕ) → (is_in extended s ≡ true → ⊥) → stands_before p s extended ≡ false
no_behind p s extended h = elim (cases_Bool (stands_before p s extended)) [ inl is ↦ absurd (h (before-in p s extended is).1) | inr none ↦ none ]

-- what an extended chain without one of its servers says of neighbours, and what is told of it
record Gone (d p s a : ℕ) (us : List ℕ) : Type 0 where
  neighbours : stands_before p s (without d (a ∷ us)) ≡ (stands_before p s (a ∷ us) || between p d s (a ∷ us))
  told : reports_of p (told_to s (closing a d us)) ≡ bit (between p d s (a ∷ us))

-- tests, one by one
or_same : (a b c d : Bool) → a ≡ c → b ≡ d → (a || b) ≡ (c || d)
or_same a b c d e f = ap (λ x. x || b) e ∙ ap (λ x. c || x) f

and_same : (a b c d : Bool) → a ≡ c → b ≡ d → (a && b) ≡ (c && d)
and_same a b c d e f = ap (λ x. x && b) e ∙ ap (λ x. c && x) f

or_none : (a : Bool) → (a || false) ≡ a
or_none true = refl
or_none false = refl

or_assoc : (a b c : Bool) → (a || (b || c)) ≡ ((a || b) || c)
or_assoc true b c = refl
or_assoc false b c = refl

or_turned : (a b : Bool) → (a || b) ≡ (b || a)
or_turned true true = refl
or_turned true false = refl
or_turned false true = refl
or_turned false false = refl

keeps : (d a : ℕ) (rest : List ℕ) → eqb a d ≡ false → without d (a ∷ rest) ≡ a ∷ without d rest
keeps d a rest other = ap (λ b. cond (not b) (a ∷ without d rest) (without d rest)) other

drops : (d a : ℕ) (rest : List ℕ) → eqb a d ≡ true → without d (a ∷ rest) ≡ without d rest
drops d a rest same = ap (λ b. cond (not b) (a ∷ without d rest) (without d rest)) same

absent : (d : ℕ) (ids : List ℕ) → (is_in ids d ≡ true → ⊥) → without d ids ≡ ids
absent d [] h = refl
absent d (x ∷ ids) h = keeps d x ids (elim (cases_Bool (eqb x d)) [ inl e ↦ absurd (h (or_left (eqb x d) (is_in ids d) e)) | inr other ↦ other ]) ∙ ap (λ us. x ∷ us) (absent d ids (λ there. h (or_right (eqb x d) (is_in ids d) there)))

-- a first one that is another than d adds nothing to what is before d or behind it
skip_behind : (p d a x : ℕ) (us : List ℕ) → eqb x d ≡ false → stands_before p d (a ∷ x ∷ us) ≡ stands_before p d (x ∷ us)
skip_behind p d a x us other = ap (λ b. b || stands_before p d (x ∷ us)) (and_right (eqb a p) (eqb x d) other)

skip_before : (d s a x : ℕ) (us : List ℕ) → eqb a d ≡ false → stands_before d s (a ∷ x ∷ us) ≡ stands_before d s (x ∷ us)
skip_before d s a x us other = ap (λ b. b || stands_before d s (x ∷ us)) (and_left (eqb a d) (eqb x s) other)

-- it was behind the first one
gone_here : (d p s a x y : ℕ) (rest : List ℕ) → Apart (a ∷ x ∷ y ∷ rest) → eqb p d ≡ false → eqb s d ≡ false → eqb x d ≡ true
    → (stands_before p s (without d (a ∷ x ∷ y ∷ rest)) ≡ (stands_before p s (a ∷ x ∷ y ∷ rest) || between p d s (a ∷ x ∷ y ∷ rest)))
    × (reports_of p (told_to s ((parties.Server y, Report a) ∷ [])) ≡ bit (between p d s (a ∷ x ∷ y ∷ rest)))
gone_here d p s a x y rest apart not_p not_s same = (neighbours, told) where
  is : x ≡ d
  is = eqb-true x d same

  out : is_in (y ∷ rest) d ≡ true → ⊥
  out there = apart-out x (y ∷ rest) apart.1.0 (subst (λ i. is_in (y ∷ rest) i ≡ true) (sym is) there)

  first : eqb a d ≡ false
  first = subst (λ i. eqb a i ≡ false) is (apart.0 x (inl refl))

  before_it : stands_before p d (a ∷ x ∷ y ∷ rest) ≡ eqb a p
  before_it = or_same (eqb a p && eqb x d) (stands_before p d (x ∷ y ∷ rest)) (eqb a p) false (and_same (eqb a p) (eqb x d) (eqb a p) true refl same ∙ and_true (eqb a p))
      (skip_behind p d x y rest (eqb_turned d y (subst (λ i. eqb i y ≡ false) is (apart.1.0 y (inl refl)))) ∙ no_behind p d (y ∷ rest) out) ∙ or_none (eqb a p) where
        and_true : (b : Bool) → (b && true) ≡ b
        and_true true = refl
        and_true false = refl

  behind_it : stands_before d s (a ∷ x ∷ y ∷ rest) ≡ eqb y s
  behind_it = skip_before d s a x (y ∷ rest) first ∙ or_same (eqb x d && eqb y s) (stands_before d s (y ∷ rest)) (eqb y s) false (ap (λ b. b && eqb y s) same) (no_before d s (y ∷ rest) out) ∙ or_none (eqb y s)

  middle : between p d s (a ∷ x ∷ y ∷ rest) ≡ (eqb a p && eqb y s)
  middle = and_same (stands_before p d (a ∷ x ∷ y ∷ rest)) (stands_before d s (a ∷ x ∷ y ∷ rest)) (eqb a p) (eqb y s) before_it behind_it

  not_x_s : eqb x s ≡ false
  not_x_s = subst (λ i. eqb i s ≡ false) (sym is) (eqb_turned s d not_s)

  not_x_p : eqb x p ≡ false
  not_x_p = subst (λ i. eqb i p ≡ false) (sym is) (eqb_turned p d not_p)

  old : stands_before p s (a ∷ x ∷ y ∷ rest) ≡ stands_before p s (y ∷ rest)
  old = skip_behind p s a x (y ∷ rest) not_x_s ∙ skip_before p s x y rest not_x_p

  rest_of : without d (a ∷ x ∷ y ∷ rest) ≡ a ∷ y ∷ rest
  rest_of = keeps d a (x ∷ y ∷ rest) first ∙ ap (λ us. a ∷ us) (drops d x (y ∷ rest) same ∙ absent d (y ∷ rest) out)

  neighbours : stands_before p s (without d (a ∷ x ∷ y ∷ rest)) ≡ (stands_before p s (a ∷ x ∷ y ∷ rest) || between p d s (a ∷ x ∷ y ∷ rest))
  neighbours = ap (λ us. stands_before p s us) rest_of ∙ or_turned (eqb a p && eqb y s) (stands_before p s (y ∷ rest)) ∙ sym (or_same (stands_before p s (a ∷ x ∷ y ∷ rest)) (between p d s (a ∷ x ∷ y ∷ rest)) (stands_before p s (y ∷ rest)) (eqb a p && eqb y s) old middle)

  told : reports_of p (told_to s ((parties.Server y, Report a) ∷ [])) ≡ bit (between p d s (a ∷ x ∷ y ∷ rest))
  told = go (eqb s y) (eqb a p) refl refl ∙ ap (λ b. bit b) (sym middle) where
    go : (u t : Bool) → eqb s y ≡ u → eqb a p ≡ t → reports_of p (cond u (Report a ∷ []) []) ≡ bit (eqb a p && eqb y s)
    go true true e f = ap (λ b. cond b (suc (reports_of p [])) (reports_of p [])) f ∙ sym (ap (λ b. bit (b && eqb y s)) f ∙ ap (λ b. bit b) (eq-eqb y s (sym (eqb-true s y e))))
    go true false e f = ap (λ b. cond b (suc (reports_of p [])) (reports_of p [])) f ∙ sym (ap (λ b. bit (b && eqb y s)) f)
    go false true e f = sym (ap (λ b. bit (b && eqb y s)) f ∙ ap (λ b. bit b) (eqb_turned s y e))
    go false false e f = sym (ap (λ b. bit (b && eqb y s)) f)

-- it was the last one
gone_last : (d p s a x : ℕ) → Apart (a ∷ x ∷ []) → eqb p d ≡ false → eqb s d ≡ false → eqb x d ≡ true
    → (stands_before p s (without d (a ∷ x ∷ [])) ≡ (stands_before p s (a ∷ x ∷ []) || between p d s (a ∷ x ∷ []))) × (reports_of p (told_to s ((parties.Server a, BeTail 0) ∷ [])) ≡ bit (between p d s (a ∷ x ∷ [])))
gone_last d p s a x apart not_p not_s same = (
  ap (λ us. stands_before p s us) (keeps d a (x ∷ []) first ∙ ap (λ us. a ∷ us) (drops d x [] same)) ∙ sym (or_same (stands_before p s (a ∷ x ∷ [])) (between p d s (a ∷ x ∷ [])) false false old middle),
  go (eqb s a) ∙ sym (ap (λ b. bit b) middle),
) where
  is : x ≡ d
  is = eqb-true x d same

  first : eqb a d ≡ false
  first = subst (λ i. eqb a i ≡ false) is (apart.0 x (inl refl))

  old : stands_before p s (a ∷ x ∷ []) ≡ false
  old = skip_behind p s a x [] (subst (λ i. eqb i s ≡ false) (sym is) (eqb_turned s d not_s))

  middle : between p d s (a ∷ x ∷ []) ≡ false
  middle = and_right (stands_before p d (a ∷ x ∷ [])) (stands_before d s (a ∷ x ∷ [])) (skip_before d s a x [] first)

  go : (t : Bool) → reports_of p (cond t (BeTail 0 ∷ []) []) ≡ 0
  go true = refl
  go false = refl

-- any one behind the first
gone : (us : List ℕ) (d p s a : ℕ) → Apart (a ∷ us) → eqb p d ≡ false → eqb s d ≡ false → is_in us d ≡ true → Gone d p s a us
gone [] d p s a apart not_p not_s there = absurd (false≢true there)
gone (x ∷ []) d p s a apart not_p not_s there = let at : eqb x d ≡ true = elim (or_cases (eqb x d) false there) [ inl e ↦ e | inr none ↦ absurd (false≢true none) ] in
    let both = gone_last d p s a x apart not_p not_s at in record { neighbours = both.0; told = ap (λ b. reports_of p (told_to s (cond b ((parties.Server a, BeTail 0) ∷ []) []))) at ∙ both.1 }
gone (x ∷ y ∷ rest) d p s a apart not_p not_s there = go (eqb x d) refl (λ other. gone (y ∷ rest) d p s x apart.1 not_p not_s (later other)) where
  later : eqb x d ≡ false → is_in (y ∷ rest) d ≡ true
  later other = elim (or_cases (eqb x d) (is_in (y ∷ rest) d) there) [ inl e ↦ absurd (both_ways (eqb x d) other e) | inr r ↦ r ]

  first : eqb a d ≡ false
  first = apart.0 d (among-in (x ∷ y ∷ rest) d there)

  go : (t : Bool) → eqb x d ≡ t → (eqb x d ≡ false → Gone d p s x (y ∷ rest)) → Gone d p s a (x ∷ y ∷ rest)
  go true e rec = let both = gone_here d p s a x y rest apart not_p not_s e in record { neighbours = both.0; told = ap (λ b. reports_of p (told_to s (cond b ((parties.Server y, Report a) ∷ []) (closing x d (y ∷ rest))))) e ∙ both.1 }
  go false e rec = let below = rec e in record {
    neighbours = ap (λ us. stands_before p s us) (keeps d a (x ∷ y ∷ rest) first ∙ ap (λ us. a ∷ us) (keeps d x (y ∷ rest) e))
        ∙ ap (λ b. (eqb a p && eqb x s) || b) (sym (ap (λ us. stands_before p s us) (keeps d x (y ∷ rest) e)) ∙ below.neighbours)
        ∙ or_assoc (eqb a p && eqb x s) (stands_before p s (x ∷ y ∷ rest)) (between p d s (x ∷ y ∷ rest)) ∙ ap (λ b. stands_before p s (a ∷ x ∷ y ∷ rest) || b) (sym (same_between e));
    told = ap (λ b. reports_of p (told_to s (cond b ((parties.Server y, Report a) ∷ []) (closing x d (y ∷ rest))))) e ∙ below.told ∙ ap (λ b. bit b) (sym (same_between e));
  } where
    same_between : eqb x d ≡ false → between p d s (a ∷ x ∷ y ∷ rest) ≡ between p d s (x ∷ y ∷ rest)
    same_between other = and_same (stands_before p d (a ∷ x ∷ y ∷ rest)) (stands_before d s (a ∷ x ∷ y ∷ rest)) (stands_before p d (x ∷ y ∷ rest)) (stands_before d s (x ∷ y ∷ rest)) (skip_behind p d a x (y ∷ rest) other) (skip_before d s a x (y ∷ rest) first)

-- any server of an extended chain of two or more
pub gone-from : (d p s : ℕ) (extended : List ℕ) → Apart extended → eqb p d ≡ false → eqb s d ≡ false → is_in extended d ≡ true → (length extended ≡ 1 → ⊥)
    → (stands_before p s (without d extended) ≡ (stands_before p s extended || between p d s extended)) × (reports_of p (told_to s (said_of_loss d extended)) ≡ bit (between p d s extended))
gone-from d p s [] apart not_p not_s there more = absurd (false≢true there)
gone-from d p s (a ∷ []) apart not_p not_s there more = absurd (more refl)
gone-from d p s (a ∷ b ∷ rest) apart not_p not_s there more = go (eqb a d) refl where
  go : (t : Bool) → eqb a d ≡ t → (stands_before p s (without d (a ∷ b ∷ rest)) ≡ (stands_before p s (a ∷ b ∷ rest) || between p d s (a ∷ b ∷ rest))) × (reports_of p (told_to s (cond t ((parties.Server b, BeHead) ∷ []) (closing a d (b ∷ rest)))) ≡ bit (between p d s (a ∷ b ∷ rest)))
  go true e = (
    ap (λ us. stands_before p s us) (drops d a (b ∷ rest) e ∙ absent d (b ∷ rest) out) ∙ sym (or_same (stands_before p s (a ∷ b ∷ rest)) (between p d s (a ∷ b ∷ rest)) (stands_before p s (b ∷ rest)) false (skip_before p s a b rest not_a) middle ∙ or_none (stands_before p s (b ∷ rest))),
    quiet (eqb s b) ∙ sym (ap (λ t. bit t) middle),
  ) where
    out : is_in (b ∷ rest) d ≡ true → ⊥
    out member = apart-out a (b ∷ rest) apart.0 (subst (λ i. is_in (b ∷ rest) i ≡ true) (sym (eqb-true a d e)) member)

    not_a : eqb a p ≡ false
    not_a = subst (λ i. eqb i p ≡ false) (sym (eqb-true a d e)) (eqb_turned p d not_p)

    middle : between p d s (a ∷ b ∷ rest) ≡ false
    middle = and_left (stands_before p d (a ∷ b ∷ rest)) (stands_before d s (a ∷ b ∷ rest)) (skip_before p d a b rest not_a ∙ no_behind p d (b ∷ rest) out)

    quiet : (t : Bool) → reports_of p (cond t (BeHead ∷ []) []) ≡ 0
    quiet true = refl
    quiet false = refl
  go false e =
      let below = gone (b ∷ rest) d p s a apart not_p not_s (elim (or_cases (eqb a d) (is_in (b ∷ rest) d) there) [ inl same ↦ absurd (both_ways (eqb a d) e same) | inr r ↦ r ]) in
      (below.neighbours, below.told)

-- the one that is gone is named to nobody
closing_names : (d s a : ℕ) (us : List ℕ) → Apart (a ∷ us) → is_in us d ≡ true → reports_of d (told_to s (closing a d us)) ≡ 0
closing_names d s a [] apart there = absurd (false≢true there)
closing_names d s a (x ∷ []) apart there = go (eqb x d) where
  one : (t : Bool) → reports_of d (cond t (BeTail 0 ∷ []) []) ≡ 0
  one true = refl
  one false = refl

  go : (t : Bool) → reports_of d (told_to s (cond t ((parties.Server a, BeTail 0) ∷ []) [])) ≡ 0
  go true = one (eqb s a)
  go false = refl
closing_names d s a (x ∷ y ∷ rest) apart there = go (eqb x d) refl (λ later. closing_names d s x (y ∷ rest) apart.1 later) where
  one : (t : Bool) → reports_of d (cond t (Report a ∷ []) []) ≡ 0
  one true = ap (λ b. cond b (suc (reports_of d [])) (reports_of d [])) (apart.0 d (among-in (x ∷ y ∷ rest) d there))
  one false = refl

  go : (t : Bool) → eqb x d ≡ t → (is_in (y ∷ rest) d ≡ true → reports_of d (told_to s (closing x d (y ∷ rest))) ≡ 0) → reports_of d (told_to s (cond t ((parties.Server y, Report a) ∷ []) (closing x d (y ∷ rest)))) ≡ 0
  go true e rec = one (eqb s y)
  go false e rec = rec (elim (or_cases (eqb x d) (is_in (y ∷ rest) d) there) [ inl same ↦ absurd (both_ways (eqb x d) e same) | inr r ↦ r ])

loss_names : (d s : ℕ) (extended : List ℕ) → Apart extended → is_in extended d ≡ true → reports_of d (told_to s (said_of_loss d extended)) ≡ 0
loss_names d s [] apart there = refl
loss_names d s (a ∷ []) apart there = refl
loss_names d s (a ∷ b ∷ rest) apart there = go (eqb a d) refl where
  one : (t : Bool) → reports_of d (cond t (BeHead ∷ []) []) ≡ 0
  one true = refl
  one false = refl

  go : (t : Bool) → eqb a d ≡ t → reports_of d (told_to s (cond t ((parties.Server b, BeHead) ∷ []) (closing a d (b ∷ rest)))) ≡ 0
  go true e = one (eqb s b)
  go false e = closing_names d s a (b ∷ rest) apart (elim (or_cases (eqb a d) (is_in (b ∷ rest) d) there) [ inl same ↦ absurd (both_ways (eqb a d) e same) | inr r ↦ r ])

-- ---- words of a detection

abbrev Word : List ℕ → Message → Type 0
Word used BeHead = Unit {0}
Word used (Report p) = is_in used p ≡ true
Word used (BeTail least) = Unit {0}
Word used m = ⊥

word_known : (used : List ℕ) (m : Message) → Word used m → Known used m
word_known used (Adopt s n) h = absurd h
word_known used (Feed succ) h = absurd h
word_known used (Have p n) h = absurd h
word_known used (Report p) h = h
word_known used m h = pass m h where
  pass : (x : Message) → Word used x → Known used x
  pass (Adopt s n) k = absurd k
  pass (Feed succ) k = absurd k
  pass (Have p n) k = absurd k
  pass (Report p) k = k
  pass x k = tt

word_adopt : (used : List ℕ) (s count : ℕ) (m : Message) → Word used m → AdoptIs s count m
word_adopt used s count (Adopt q n) h = absurd h
word_adopt used s count m h = tt

words_adopts : (used : List ℕ) (s : ℕ) (ms : List Message) → Each (Word used) ms → adopts_of s ms ≡ 0
words_adopts used s [] h = refl
words_adopts used s (m ∷ ms) h = step m h.0 (words_adopts used s ms h.1) where
  step : (x : Message) → Word used x → adopts_of s ms ≡ 0 → adopts_of s (x ∷ ms) ≡ 0
  step (Adopt q n) g e = absurd g
  step x g e = e

words_feeds : (used : List ℕ) (s : ℕ) (ms : List Message) → Each (Word used) ms → feeds_of s ms ≡ 0
words_feeds used s [] h = refl
words_feeds used s (m ∷ ms) h = step m h.0 (words_feeds used s ms h.1) where
  step : (x : Message) → Word used x → feeds_of s ms ≡ 0 → feeds_of s (x ∷ ms) ≡ 0
  step (Feed succ) g e = absurd g
  step x g e = e

words_out : (used chain : List ℕ) (m : Message) → Word used m → FeedsOut chain m
words_out used chain (Feed succ) h = absurd h
words_out used chain m h = tt

words_end : (used extended : List ℕ) (ms : List Message) → Each (Word used) ms → Ends extended ms
words_end used extended [] h = tt
words_end used extended (m ∷ ms) h = step m h.0 (words_end used extended ms h.1) where
  step : (x : Message) → Word used x → Ends extended ms → Ends extended (x ∷ ms)
  step (Adopt q n) g e = absurd g
  step (Feed succ) g e = absurd g
  step x g e = e

word_one : (used : List ℕ) (m : Message) (t : Bool) → Word used m → Each (Word used) (cond t (m ∷ []) [])
word_one used m true h = (h, tt)
word_one used m false h = tt

closing_words : (used : List ℕ) (j a d : ℕ) (us : List ℕ) → is_in used a ≡ true → ((x : ℕ) → is_in us x ≡ true → is_in used x ≡ true) → Each (Word used) (told_to j (closing a d us))
closing_words used j a d [] known all = tt
closing_words used j a d (x ∷ []) known all = go (eqb x d) where
  go : (t : Bool) → Each (Word used) (told_to j (cond t ((parties.Server a, BeTail 0) ∷ []) []))
  go true = word_one used (BeTail 0) (eqb j a) tt
  go false = tt
closing_words used j a d (x ∷ y ∷ rest) known all = go (eqb x d) (closing_words used j x d (y ∷ rest) (all x (or_left (eqb x x) (is_in (y ∷ rest) x) (eq-eqb x x refl))) (λ z there. all z (or_right (eqb x z) (is_in (y ∷ rest) z) there))) where
  go : (t : Bool) → Each (Word used) (told_to j (closing x d (y ∷ rest))) → Each (Word used) (told_to j (cond t ((parties.Server y, Report a) ∷ []) (closing x d (y ∷ rest))))
  go true h = word_one used (Report a) (eqb j y) known
  go false h = h

loss_words : (used : List ℕ) (j d : ℕ) (extended : List ℕ) → ((x : ℕ) → is_in extended x ≡ true → is_in used x ≡ true) → Each (Word used) (told_to j (said_of_loss d extended))
loss_words used j d [] all = tt
loss_words used j d (a ∷ []) all = tt
loss_words used j d (a ∷ b ∷ rest) all = go (eqb a d) (closing_words used j a d (b ∷ rest) (all a (or_left (eqb a a) (is_in (b ∷ rest) a) (eq-eqb a a refl))) (λ z there. all z (or_right (eqb a z) (is_in (b ∷ rest) z) there))) where
  go : (t : Bool) → Each (Word used) (told_to j (closing a d (b ∷ rest))) → Each (Word used) (told_to j (cond t ((parties.Server b, BeHead) ∷ []) (closing a d (b ∷ rest))))
  go true h = word_one used BeHead (eqb j b) tt
  go false h = h

neutral_only : (x : ℕ) (m : Message) → Neutral m → OnlyTo x m
neutral_only x (Adopt q n) h = absurd h
neutral_only x (Feed succ) h = absurd h
neutral_only x (BeTail least) h = absurd h
neutral_only x m h = tt

neutral_end : (extended : List ℕ) (ms : List Message) → Each Neutral ms → Ends extended ms
neutral_end extended [] h = tt
neutral_end extended (m ∷ ms) h = step m h.0 (neutral_end extended ms h.1) where
  step : (x : Message) → Neutral x → Ends extended ms → Ends extended (x ∷ ms)
  step (Adopt q n) g e = absurd g
  step (Feed succ) g e = absurd g
  step x g e = e

-- what ends a row, where fewer are in the extended chain, and words follow that change no successor
ends_fewer : (extended less : List ℕ) (xs ys : List Message) → ((s : ℕ) → is_in less s ≡ true → is_in extended s ≡ true) → Ends extended xs → Each Neutral ys → Ends less (xs ++ ys)
ends_fewer extended less [] ys sub h calm = neutral_end less ys calm
ends_fewer extended less (m ∷ xs) ys sub h calm = step m h (λ k. ends_fewer extended less xs ys sub k calm) where
  more : (q : ℕ) → Each (OnlyTo q) xs → Each (OnlyTo q) (xs ++ ys)
  more q k = each-append (OnlyTo q) xs ys k (each-follows Neutral (OnlyTo q) ys (neutral_only q) calm)

  step : (x : Message) → Ends extended (x ∷ xs) → (Ends extended xs → Ends less (xs ++ ys)) → Ends less (x ∷ (xs ++ ys))
  step (Adopt q n) k later = ((λ there. more q (k.0 (sub q there))), later k.1)
  step (Feed (Some q)) k later = ((λ there. more q (k.0 (sub q there))), later k.1)
  step x k later = later (rest_of x k) where
    rest_of : (y : Message) → Ends extended (y ∷ xs) → Ends extended xs
    rest_of (Adopt q n) g = g.1
    rest_of (Feed (Some q)) g = g.1
    rest_of y g = g

-- ---- detections

-- A detection keeps all sentences, where what is told changes no successor, or that of one that has no other server of
-- the extended chain behind it.
record Leaving (v : View) (d : ℕ) (m : Master) (out : List (Party × Message)) : Type 0 where
  words : (j : ℕ) → Each (Word v.master.used) (told_to j out)
  told : (p s : ℕ) → eqb p d ≡ false → eqb s d ≡ false → reports_of p (told_to s out) ≡ bit (between p d s (extended v.master))
  names : (s : ℕ) → reports_of d (told_to s out) ≡ 0
  neighbours : (p s : ℕ) → eqb p d ≡ false → eqb s d ≡ false → stands_before p s (without d (extended v.master)) ≡ (stands_before p s (extended v.master) || between p d s (extended v.master))
  calm : (j : ℕ) → is_in (without d (extended v.master)) j ≡ true → Each Neutral (told_to j out) ⊎ ((x : ℕ) → is_in (without d (extended v.master)) x ≡ true → tokens v j x ≡ 0)
  joins : (j : ℕ) → is_that m.joiner j ≡ true → is_that v.master.joiner j ≡ true
  stays_last : (j t : ℕ) → is_that m.joiner j ≡ true → is_last m.chain t ≡ true → is_last v.master.chain t ≡ true
  silent : (j : ℕ) → is_that m.joiner j ≡ true → told_to j out ≡ []

leaving_whole : (v : View) (c : List Entry) (d : ℕ) (m : Master) (out : List (Party × Message)) → Prefixes v → Whole v c → extended m ≡ without d (extended v.master) → m.chain ≡ without d v.master.chain → m.used ≡ v.master.used → Leaving v d m out → Whole (said v m out) c
leaving_whole v c d m out g h stays chain used o = record {
  pred_known = λ id p is. subst (λ us. is_in us p ≡ true) (sym used) (h.pred_known id p is);
  succ_known = λ id s is. subst (λ us. is_in us s ≡ true) (sym used) (h.succ_known id s is);
  orders_known = λ j. subst (λ us. Each (Known us) (row j ++ told_to j out)) (sym used) (each-append (Known v.master.used) (row j) (told_to j out) (h.orders_known j) (each-follows (Word v.master.used) (Known v.master.used) (told_to j out) (word_known v.master.used) (o.words j)));
  reports_known = λ j. subst (λ us. Each (Known us) (v.channel (parties.Server j) parties.Master)) (sym used) (h.reports_known j);
  unheard = λ p id unused. h.unheard p id (subst (λ us. is_in us id ≡ false) used unused);
  token = λ p s a b. token p s (was p a) (was s b);
  ends = λ p a. subst (λ us. Ends us (row p ++ told_to p out)) (sym stays) (elim (o.calm p (now p a)) [
    | inl calm ↦ ends_fewer (extended v.master) (without d (extended v.master)) (row p) (told_to p out) (λ s there. (in-without d (extended v.master) s there).0) (h.ends p (was p a).0) calm
    | inr free ↦ ends-free (without d (extended v.master)) (row p) (told_to p out) (λ s there. no-token v p s (free s there)) (words_end v.master.used (without d (extended v.master)) (told_to p out) (o.words p))
  ]);
  follows = λ p s a b link. elim (o.calm p (now p a)) [
    | inl calm ↦ each-append (OnlyTo s) (row p) (told_to p out) (h.follows p s (was p a).0 (was s b).0 link) (each-follows Neutral (OnlyTo s) (told_to p out) (neutral_only s) calm)
    | inr free ↦ absurd (omega (arith, free s (now s b), linked-token v p s link))
  ];
  counts = λ p s before. elim (cases p s before) [
    | inl old ↦ h.counts p s old
    | inr new ↦ no_haves p (length (v.server s).entries) (v.channel (parties.Server s) parties.Master) (omega (arith, unmade p s new))
  ];
  adopts = λ p s before none. each-append (AdoptIs s (length (v.server s).entries)) (row p) (told_to p out) (elim (cases p s before) [
    | inl old ↦ h.adopts p s old none
    | inr new ↦ no_adopts s (length (v.server s).entries) (row p) (no-token v p s (unmade p s new)).0
  ]) (each-follows (Word v.master.used) (AdoptIs s (length (v.server s).entries)) (told_to p out) (word_adopt v.master.used s (length (v.server s).entries)) (o.words p));
  data_none = λ p s a none. h.data_none p s (was s a).0 none;
  linked_told = λ p s a link. omega (arith, reports-append p (row s) (told_to s out), h.linked_told p s (was s a).0 link, untold p s (was s a) link (eqb p d) refl);
  feed = λ p s a is_pred link. h.feed p s (was s a).0 is_pred link;
  snap = λ p s a is_pred. h.snap p s (was_member s a) is_pred;
  young_succ = λ id a young. h.young_succ id (was_member id a) young;
  acked = h.acked;
  acks = h.acks;
  floors = λ id a full. h.floors id (was_member id a) full;
  fed_by = λ j t joins last. ap (λ us. one (v.server j).pred ++ reports (row j ++ us)) (o.silent j joins) ∙ ap (λ us. one (v.server j).pred ++ reports us) (append-nil (row j)) ∙ h.fed_by j t (o.joins j joins) (o.stays_last j t joins last);
  caught = λ j t joins last. h.caught j t (o.joins j joins) (o.stays_last j t joins last);
  feeds_out = λ p a. subst (λ us. Each (FeedsOut us) (row p ++ told_to p out)) (sym chain) (each-append (FeedsOut (without d v.master.chain)) (row p) (told_to p out)
      (each-follows (FeedsOut v.master.chain) (FeedsOut (without d v.master.chain)) (row p) still_out (h.feeds_out p (was_member p a))) (each-follows (Word v.master.used) (FeedsOut (without d v.master.chain)) (told_to p out) (words_out v.master.used (without d v.master.chain)) (o.words p)));
} where
  still_out : (x : Message) → FeedsOut v.master.chain x → FeedsOut (without d v.master.chain) x
  still_out (Feed (Some q)) k = elim (cases_Bool (is_in (without d v.master.chain) q)) [
    | inr outside ↦ outside
    | inl there ↦ absurd (both_ways (is_in v.master.chain q) k (in-without d v.master.chain q there).0)
  ]
  still_out x k = other x k where
    other : (y : Message) → FeedsOut v.master.chain y → FeedsOut (without d v.master.chain) y
    other (Feed (Some q)) g = elim (cases_Bool (is_in (without d v.master.chain) q)) [
      | inr outside ↦ outside
      | inl there ↦ absurd (both_ways (is_in v.master.chain q) g (in-without d v.master.chain q there).0)
    ]
    other y g = tt

  row : ℕ → List Message
  row j = v.channel parties.Master (parties.Server j)

  now : (j : ℕ) → is_in (extended m) j ≡ true → is_in (without d (extended v.master)) j ≡ true
  now j a = subst (λ us. is_in us j ≡ true) stays a

  was : (j : ℕ) → is_in (extended m) j ≡ true → (is_in (extended v.master) j ≡ true) × (eqb j d ≡ false)
  was j a = in-without d (extended v.master) j (subst (λ us. is_in us j ≡ true) stays a)

  was_member : (j : ℕ) → is_in m.chain j ≡ true → is_in v.master.chain j ≡ true
  was_member j a = (in-without d v.master.chain j (subst (λ us. is_in us j ≡ true) chain a)).0

  -- neighbours were neighbours, or have become such
  cases : (p s : ℕ) → stands_before p s (extended m) ≡ true → (stands_before p s (extended v.master) ≡ true) ⊎ (between p d s (extended v.master) ≡ true)
  cases p s before =
      let here = subst (λ us. stands_before p s us ≡ true) stays before in
      let members = before-in p s (without d (extended v.master)) here in
      let not_p = (in-without d (extended v.master) p members.0).1 in
      let not_s = (in-without d (extended v.master) s members.1).1 in
      or_cases (stands_before p s (extended v.master)) (between p d s (extended v.master)) (sym (o.neighbours p s not_p not_s) ∙ here)

  -- who become neighbours weren't
  apart_before : (p s : ℕ) → between p d s (extended v.master) ≡ true → stands_before p s (extended v.master) ≡ false
  apart_before p s is = go (stands_before p s (extended v.master)) refl where
    go : (t : Bool) → stands_before p s (extended v.master) ≡ t → t ≡ false
    go false e = refl
    go true e =
        let both = and_parts (stands_before p d (extended v.master)) (stands_before d s (extended v.master)) is in
        let same = behind-one p s d (extended v.master) g.apart e both.0 in
        absurd (before-self d (extended v.master) g.apart (subst (λ i. stands_before d i (extended v.master) ≡ true) same both.1))

  unmade : (p s : ℕ) → between p d s (extended v.master) ≡ true → tokens v p s ≡ 0
  unmade p s is = let both = and_parts (stands_before p d (extended v.master)) (stands_before d s (extended v.master)) is in
      h.token p s (before-in p d (extended v.master) both.0).0 (before-in d s (extended v.master) both.1).1 ∙ ap (λ t. bit t) (apart_before p s is)

  sum : (a b : Bool) → (b ≡ true → a ≡ false) → bit a + bit b ≡ bit (a || b)
  sum true true e = absurd (false≢true (sym (e refl)))
  sum true false e = refl
  sum false true e = refl
  sum false false e = refl

  token : (p s : ℕ) → (is_in (extended v.master) p ≡ true) × (eqb p d ≡ false) → (is_in (extended v.master) s ≡ true) × (eqb s d ≡ false)
      → reports_of p (v.channel parties.Master (parties.Server s) ++ told_to s out) + (haves_of p (v.channel (parties.Server s) parties.Master) + links (v.server p).succ s (v.channel parties.Master (parties.Server p) ++ told_to p out)) ≡ bit (stands_before p s (extended m))
  token p s a b =
      let same_links = ap (λ n. cond (is_that (v.server p).succ s) 1 n) (adopts-append s (v.channel parties.Master (parties.Server p)) (told_to p out) ∙ ap (λ n. adopts_of s (v.channel parties.Master (parties.Server p)) + n) (words_adopts v.master.used s (told_to p out) (o.words p)) ∙ plus_none (adopts_of s (v.channel parties.Master (parties.Server p)))) in
      let same_feeds = fed-append s (v.channel parties.Master (parties.Server p)) (told_to p out) in
      omega (
        arith,
        reports-append p (v.channel parties.Master (parties.Server s)) (told_to s out),
        same_links,
        same_feeds,
        words_feeds v.master.used s (told_to p out) (o.words p),
        o.told p s a.1 b.1,
        h.token p s a.0 b.0,
        sum (stands_before p s (extended v.master)) (between p d s (extended v.master)) (apart_before p s),
        ap (λ t. bit t) (sym (o.neighbours p s a.1 b.1)),
        ap (λ us. bit (stands_before p s us)) (sym stays),
      ) where
        plus_none : (n : ℕ) → n + 0 ≡ n
        plus_none n = omega arith

  -- a server that is linked isn't told anew
  untold : (p s : ℕ) → (is_in (extended v.master) s ≡ true) × (eqb s d ≡ false) → is_that (v.server p).succ s ≡ true → (t : Bool) → eqb p d ≡ t → reports_of p (told_to s out) ≡ 0
  untold p s a link true e = subst (λ i. reports_of i (told_to s out) ≡ 0) (sym (eqb-true p d e)) (o.names s)
  untold p s a link false e = o.told p s e a.1 ∙ go (between p d s (extended v.master)) refl where
    go : (t : Bool) → between p d s (extended v.master) ≡ t → bit t ≡ 0
    go false f = refl
    go true f = absurd (omega (arith, unmade p s f, linked-token v p s link))

-- where another one than the last is lost
other_whole : (v : View) (c : List Entry) (d : ℕ) (m : Master) → Prefixes v → Whole v c → is_in v.master.chain d ≡ true → (length v.master.chain ≡ 1 → ⊥) → is_that v.master.joiner d ≡ false → is_last v.master.chain d ≡ false
    → m.chain ≡ without d v.master.chain → m.joiner ≡ v.master.joiner → m.used ≡ v.master.used → Whole (said v m (said_of_loss d v.master.chain)) c
other_whole v c d m g h member more other last chain joiner used = subst (λ out. Whole (said v m out) c) same (leaving_whole v c d m (said_of_loss d (extended v.master)) g h stays chain used (record {
  words = λ j. loss_words v.master.used j d (extended v.master) g.members;
  told = λ p s not_p not_s. (gone-from d p s (extended v.master) g.apart not_p not_s there many).1;
  names = λ s. loss_names d s (extended v.master) g.apart there;
  neighbours = λ p s not_p not_s. (gone-from d p s (extended v.master) g.apart not_p not_s there many).0;
  calm = λ j placed. inl (subst (λ out. Each Neutral (told_to j out)) (sym same) (loss_neutral d v.master.chain j last));
  joins = λ j is. sym (ap (λ o. is_that o j) joiner) ∙ is;
  stays_last = λ j t is at. last-back d t v.master.chain last (sym (ap (λ us. is_last us t) chain) ∙ at);
  silent = λ j is. ap (λ out. told_to j out) same ∙ loss_silent d v.master.chain j (joiner-out v.master.chain v.master.joiner j g.apart (sym (ap (λ o. is_that o j) joiner) ∙ is));
})) where
  same : said_of_loss d (extended v.master) ≡ said_of_loss d v.master.chain
  same = loss-extended d v.master.chain v.master.joiner last member other

  there : is_in (extended v.master) d ≡ true
  there = member-extended v.master.chain v.master.joiner d member

  stays : extended m ≡ without d (extended v.master)
  stays = ap (λ us. extended_of us m.joiner) chain ∙ ap (λ o. extended_of (without d v.master.chain) o) joiner ∙ without-extended d v.master.chain v.master.joiner other

  many : length (extended v.master) ≡ 1 → ⊥
  many is = longer v.master.chain v.master.joiner more member is where
    longer : (ids : List ℕ) (o : Option ℕ) → (length ids ≡ 1 → ⊥) → is_in ids d ≡ true → length (extended_of ids o) ≡ 1 → ⊥
    longer ids None few at one_more = few one_more
    longer [] (Some j) few at one_more = false≢true at
    longer (a ∷ rest) (Some j) few at one_more = omega (arith, one_more, length-append rest (j ∷ []))

-- where the last one is lost, and no server joins
last_whole : (v : View) (c : List Entry) (d : ℕ) (m : Master) → Prefixes v → Whole v c → is_in v.master.chain d ≡ true → (length v.master.chain ≡ 1 → ⊥) → v.master.joiner ≡ None → is_last v.master.chain d ≡ true
    → m.chain ≡ without d v.master.chain → m.joiner ≡ None → m.used ≡ v.master.used → Whole (said v m (said_of_loss d v.master.chain)) c
last_whole v c d m g h member more none last chain none_now used = leaving_whole v c d m (said_of_loss d v.master.chain) g h stays chain used (record {
  words = λ j. loss_words v.master.used j d v.master.chain (λ x there. g.members x (member-extended v.master.chain v.master.joiner x there));
  told = λ p s not_p not_s. (gone-from d p s v.master.chain (chain-apart v g) not_p not_s member more).1 ∙ ap (λ us. bit (between p d s us)) (sym same);
  names = λ s. loss_names d s v.master.chain (chain-apart v g) member;
  neighbours = λ p s not_p not_s. ap (λ us. stands_before p s (without d us)) same ∙ (gone-from d p s v.master.chain (chain-apart v g) not_p not_s member more).0 ∙ ap (λ us. stands_before p s us || between p d s us) (sym same);
  calm = λ j placed. calm j (subst (λ us. is_in (without d us) j ≡ true) same placed) (eqb j loss.0) refl;
  joins = λ j is. absurd (false≢true (sym (ap (λ o. is_that o j) none_now) ∙ is));
  stays_last = λ j t is. absurd (false≢true (sym (ap (λ o. is_that o j) none_now) ∙ is));
  silent = λ j is. absurd (false≢true (sym (ap (λ o. is_that o j) none_now) ∙ is));
}) where
  same : extended v.master ≡ v.master.chain
  same = ap (λ o. extended_of v.master.chain o) none

  stays : extended m ≡ without d (extended v.master)
  stays = ap (λ o. extended_of m.chain o) none_now ∙ chain ∙ ap (λ us. without d us) (sym same)

  loss : (q : ℕ) × (stands_before q d v.master.chain ≡ true) × (is_last (without d v.master.chain) q ≡ true) × (said_of_loss d v.master.chain ≡ (parties.Server q, BeTail 0) ∷ [])
  loss = loss_last d v.master.chain (chain-apart v g) last more

  calm : (j : ℕ) → is_in (without d v.master.chain) j ≡ true → (t : Bool) → eqb j (loss_last d v.master.chain (chain-apart v g) last more).0 ≡ t
      → Each Neutral (told_to j (said_of_loss d v.master.chain)) ⊎ ((x : ℕ) → is_in (without d (extended v.master)) x ≡ true → tokens v j x ≡ 0)
  calm j here false f = inl (subst (λ us. Each Neutral us) (sym (ap (λ us. told_to j us) loss.3 ∙ one_told j loss.0 (BeTail 0) false f)) tt)
  calm j here true f = inr (λ x placed. none_of x (subst (λ us. is_in (without d us) x ≡ true) same placed)) where
    none_of : (x : ℕ) → is_in (without d v.master.chain) x ≡ true → tokens v j x ≡ 0
    none_of x at =
        let was = in-without d v.master.chain x at in
        let own = in-without d v.master.chain j here in
        h.token j x (member-extended v.master.chain v.master.joiner j own.0) (member-extended v.master.chain v.master.joiner x was.0) ∙ ap (λ us. bit (stands_before j x us)) same ∙ ap (λ t. bit t) (not_before x was) where
          not_before : (y : ℕ) → (is_in v.master.chain y ≡ true) × (eqb y d ≡ false) → stands_before j y v.master.chain ≡ false
          not_before y was_y = elim (cases_Bool (stands_before j y v.master.chain)) [
            | inr no_pair ↦ no_pair
            | inl before ↦ absurd (both_ways (eqb y d) was_y.1 (eq-eqb y d (behind-one j y d v.master.chain (chain-apart v g) before (subst (λ i. stands_before i d v.master.chain ≡ true) (sym (eqb-true j loss.0 f)) loss.1))))
          ]

-- ---- a server that joins is dropped

ends_sub : (extended less : List ℕ) (ms : List Message) → ((s : ℕ) → is_in less s ≡ true → is_in extended s ≡ true) → Ends extended ms → Ends less ms
ends_sub extended less ms sub h = subst (λ us. Ends less us) (append-nil ms) (ends_fewer extended less ms [] sub h tt)

-- The server that joins, if there is one, is dropped.
pub dropped-whole : (v : View) (c : List Entry) → Prefixes v → Whole v c → Whole (record v { master = alone v.master }) c
dropped-whole v c g h = record {
  pred_known = h.pred_known;
  succ_known = h.succ_known;
  orders_known = h.orders_known;
  reports_known = h.reports_known;
  unheard = h.unheard;
  token = λ p s a b. h.token p s (in_extended p a) (in_extended s b) ∙ ap (λ t. bit t) (extended-before chain v.master.joiner p s g.apart b);
  ends = λ p a. ends_sub (extended v.master) chain (v.channel parties.Master (parties.Server p)) in_extended (h.ends p (in_extended p a));
  follows = λ p s a b link. h.follows p s (in_extended p a) (in_extended s b) link;
  counts = λ p s before. h.counts p s (in_pair p s before);
  adopts = λ p s before none. h.adopts p s (in_pair p s before) none;
  data_none = λ p s b none. h.data_none p s (in_extended s b) none;
  linked_told = λ p s b link. h.linked_told p s (in_extended s b) link;
  feed = λ p s b is_pred link. h.feed p s (in_extended s b) is_pred link;
  snap = h.snap;
  young_succ = h.young_succ;
  acked = h.acked;
  acks = h.acks;
  floors = h.floors;
  fed_by = λ j t none. absurd (false≢true none);
  caught = λ j t none. absurd (false≢true none);
  feeds_out = h.feeds_out;
} where
  chain : List ℕ
  chain = v.master.chain

  in_extended : (j : ℕ) → is_in v.master.chain j ≡ true → is_in (extended v.master) j ≡ true
  in_extended j a = member-extended v.master.chain v.master.joiner j a

  in_pair : (p s : ℕ) → stands_before p s v.master.chain ≡ true → stands_before p s (extended v.master) ≡ true
  in_pair p s before = extended-before v.master.chain v.master.joiner p s g.apart (before-in p s v.master.chain before).1 ∙ before

-- ---- all detections

-- A detection keeps all sentences: of the server that joins, or of a member, while others remain.
pub detected-whole : (v : View) (c : List Entry) (d a : ℕ) (rest : List ℕ) → Prefixes v → Whole v c → v.master.chain ≡ a ∷ rest → (is_that v.master.joiner d ≡ false → (is_in v.master.chain d ≡ true) × (length v.master.chain ≡ 1 → ⊥))
    → Whole (said v (detected d v.master).master (detected d v.master).said) c
unfolding detected
detected-whole v c d a rest g h is parts = by (is_that v.master.joiner d) refl where
  go : is_that v.master.joiner d ≡ false → (t : Bool) → is_last v.master.chain d ≡ t
      → Whole (said v (record v.master { chain = without d v.master.chain; told = t || v.master.told; ready = not t && v.master.ready; joiner = cond t None v.master.joiner }) (said_of_loss d v.master.chain)) c
  go other true e = last_whole (record v { master = alone v.master }) c d (record v.master { chain = without d v.master.chain; told = true; ready = false; joiner = None }) (dropped-keeps v g) (dropped-whole v c g h) (parts other).0 (parts other).1 refl e refl refl refl
  go other false e = other_whole v c d (record v.master { chain = without d v.master.chain; told = v.master.told; ready = v.master.ready }) g h (parts other).0 (parts other).1 other e refl refl refl

  by : (t : Bool) → is_that v.master.joiner d ≡ t → Whole (said v (cond t (dropped v.master) (closed_up d v.master)).master (cond t (dropped v.master) (closed_up d v.master)).said) c
  by true joins = subst (λ out. Whole (said v (alone v.master) out) c) (sym (ap (λ us. to_last (Feed None) us) is ∙ last_told (Feed None) a rest))
      (tail_whole (record v { master = alone v.master }) c (last_of a rest) (Feed None) (alone v.master) (dropped-keeps v g) (dropped-whole v c g h) closing-feed (ap (λ us. is_last us (last_of a rest)) is ∙ last_top a rest) refl refl refl refl)
  by false other = go other (is_last v.master.chain d) refl
