-- What was taken of an inbox was put on one of its two ends, and server after server is settled.
use Rattle.std.proofs.Common.{◌≡◌, ℕ, ◌+◌, ◌<◌, ◌≤◌, ◌∙◌, ap, sym, refl, subst, arith, below_more, inl, inr, ⊎_elim, ◌⊎◌, Bool, true, false, List, [], ◌∷◌, ◌++◌, map, length, slice_get, Option, Some}
use Rattle.std.proofs.lemmas.Option.{same_Some, slice_get-map, slice_get_within}
use Rattle.std.specs.Option.{option_map}
use Rattle.cq_base.specs.Relations.{Among}
use Rattle.cq_base.specs.declared.ask.Request.{Request}
use Rattle.cq_link.specs.declared.inbox.InPut.{InPut}
use Rattle.cq_link.specs.declared.link.Putter.{Putter}
use Rattle.cq_link.specs.declared.link.Taker.{Taker}
use Rattle.cq_link.specs.declared.rule.Tagged.{Tagged}
use Rattle.cq_link.specs.Links.{putter_link, taker_link}
use Rattle.cq_link.specs.Inboxes.{take_inbox, put_in}
use Rattle.cq_link.specs.Tags.{of, if_of, only, same}
use Rattle.cq_link.specs.declared.clients.ServerPorts.{ServerPorts}
use Rattle.cq_link.specs.declared.clients.ClientWires.{ClientWires}
use Rattle.cq_link.specs.Clients.{AreTied, AreOfBoth, HaveServed, requests_in, seat_of}
use Rattle.cq_link.specs.within.Tables.{HasDelivered}

among_left : {X : Type 0} (x : X) (xs ys : List X) → Among x xs → Among x (xs ++ ys)
among_left x [] ys h = absurd h
among_left x (z ∷ xs) ys (inl e) = inl e
among_left x (z ∷ xs) ys (inr h) = inr (among_left x xs ys h)

among_right : {X : Type 0} (x : X) (xs ys : List X) → Among x ys → Among x (xs ++ ys)
among_right x [] ys h = h
among_right x (z ∷ xs) ys h = inr (among_right x xs ys h)

-- an item that was taken was put on one end
pub among_either : {X : Type 0} (x : X) (xs : List (Tagged X)) → Among x (map (λ t. t.item) xs) → Among x (of false xs) ⊎ Among x (of true xs)
among_either x [] h = absurd h
among_either {X} x (t ∷ xs) (inl e) = go t.second refl where
  go : (b : Bool) → t.second ≡ b → Among x (if_of false t ++ of false xs) ⊎ Among x (if_of true t ++ of true xs)
  go true is = inr (subst (λ (c : Bool). Among x (only (same true c) t.item ++ of true xs)) (sym is) (inl e))
  go false is = inl (subst (λ (c : Bool). Among x (only (same false c) t.item ++ of false xs)) (sym is) (inl e))
among_either x (t ∷ xs) (inr h) = ⊎_elim (λ a. inl (among_right x (if_of false t) (of false xs) a)) (λ a. inr (among_right x (if_of true t) (of true xs) a)) (among_either x xs h)

-- a request of both lists is of one of them
pub among_both : (r : Request) (requests one two : List Request) → AreOfBoth requests one two → Among r requests → Among r one ⊎ Among r two
among_both r requests one two both h = ⊎_elim
    (λ a. inl (subst (λ (ys : List Request). Among r ys) (sym both.first.1) (among_left r (of false both.tagged) both.first.0 a)))
    (λ a. inr (subst (λ (ys : List Request). Among r ys) (sym both.second.1) (among_left r (of true both.tagged) both.second.0 a)))
    (among_either r both.tagged (subst (λ (ys : List Request). Among r ys) both.items h))

-- what was taken of an inbox, by what its settling says
pub both_settled : (taken : List (Tagged Request)) (one two left more : List Request) → of false taken ++ left ≡ one → of true taken ++ more ≡ two → AreOfBoth (map (λ t. t.item) taken) one two
both_settled taken one two left more first second = record { tagged = taken; items = refl; first = (left, sym first); second = (more, sym second) }

-- ---- server after server

pub same_at : {X Y Z : Type 0} (f : X → Z) (h : Y → Z) (xs : List X) (ys : List Y) (n : ℕ) (x : X) (y : Y) → map f xs ≡ map h ys → slice_get xs n ≡ Some x → slice_get ys n ≡ Some y → f x ≡ h y
same_at {X} {Y} {Z} f h xs ys n x y same is-x is-y = same_Some (f x) (h y)
    (ap (option_map f) (sym is-x) ∙ sym (slice_get-map f xs n) ∙ ap (λ (zs : List Z). slice_get zs n) same ∙ slice_get-map h ys n ∙ ap (option_map h) is-y)

module _ {T : Type 0} where
  -- what a link and an inbox have at one place
  abbrev pub ToFirst : ClientWires T → ℕ → Type 0
  ToFirst w i = (s : ServerPorts T) (end : Taker T) → slice_get w.servers.items i ≡ Some s → slice_get w.first.ins.items i ≡ Some end → HasDelivered s.first end

  abbrev pub ToSecond : ClientWires T → ℕ → Type 0
  ToSecond w i = (s : ServerPorts T) (end : Taker T) → slice_get w.servers.items i ≡ Some s → slice_get w.second.ins.items i ≡ Some end → HasDelivered s.second end

  abbrev pub Requests : ClientWires T → ℕ → Type 0
  Requests w i = (s : ServerPorts T) (one two : InPut Request) → slice_get w.servers.items i ≡ Some s → slice_get w.first.outs.items i ≡ Some one → slice_get w.second.outs.items i ≡ Some two → AreOfBoth (requests_in s.inbox) (put_in one) (put_in two)

  -- so many servers are settled
  pub record AreServed (n : ℕ) (w : ClientWires T) : Type 0 where
    pub to_first : (i : ℕ) → i < n → ToFirst w i
    pub to_second : (i : ℕ) → i < n → ToSecond w i
    pub requests : (i : ℕ) → i < n → Requests w i

  pub none_served : (w : ClientWires T) → AreServed 0 w
  none_served w = record { to_first = λ i below. absurd (omega arith); to_second = λ i below. absurd (omega arith); requests = λ i below. absurd (omega arith) }

  pub one_served : (n : ℕ) (w : ClientWires T) → AreServed n w → ToFirst w n → ToSecond w n → Requests w n → AreServed (n + 1) w
  one_served n w so first second requests = record {
    to_first = below_more (ToFirst w) n so.to_first first;
    to_second = below_more (ToSecond w) n so.to_second second;
    requests = below_more (Requests w) n so.requests requests;
  }

  pub all_served : (n : ℕ) (w : ClientWires T) → AreServed n w → length w.servers.items ≤ n → HaveServed w
  all_served n w so over = record {
    to_first = λ i s end is-s is-end. so.to_first i (below i s is-s) s end is-s is-end;
    to_second = λ i s end is-s is-end. so.to_second i (below i s is-s) s end is-s is-end;
    requests = λ i s one two is-s is-one is-two. so.requests i (below i s is-s) s one two is-s is-one is-two;
  } where
    below : (i : ℕ) (s : ServerPorts T) → slice_get w.servers.items i ≡ Some s → i < n
    below i s is = let h : i < length w.servers.items = slice_get_within w.servers.items i s is in omega arith

  -- ---- one server, with what the next of each iterator was

  pub first_linked : (w : ClientWires T) (n : ℕ) (s : ServerPorts T) (r : Option (Taker T)) → AreTied w → slice_get w.servers.items n ≡ Some s → slice_get w.first.ins.items n ≡ r
      → (out : Putter T) (end : Taker T) → Some s.first ≡ Some out → r ≡ Some end → putter_link out ≡ taker_link end
  first_linked w n s r tied is-s is-r out end e is = ap putter_link (sym (same_Some s.first out e))
      ∙ same_at (λ (x : ServerPorts T). putter_link x.first) taker_link w.servers.items w.first.ins.items n s end tied.first_links is-s (is-r ∙ is)

  pub second_linked : (w : ClientWires T) (n : ℕ) (s : ServerPorts T) (r : Option (Taker T)) → AreTied w → slice_get w.servers.items n ≡ Some s → slice_get w.second.ins.items n ≡ r
      → (out : Putter T) (end : Taker T) → Some s.second ≡ Some out → r ≡ Some end → putter_link out ≡ taker_link end
  second_linked w n s r tied is-s is-r out end e is = ap putter_link (sym (same_Some s.second out e))
      ∙ same_at (λ (x : ServerPorts T). putter_link x.second) taker_link w.servers.items w.second.ins.items n s end tied.second_links is-s (is-r ∙ is)

  pub seated : (w : ClientWires T) (n : ℕ) (s : ServerPorts T) (r q : Option (InPut Request)) → AreTied w → slice_get w.servers.items n ≡ Some s → slice_get w.first.outs.items n ≡ r → slice_get w.second.outs.items n ≡ q
      → (one two : InPut Request) → r ≡ Some one → q ≡ Some two → (seat_of one ≡ (take_inbox s.inbox, false)) × (seat_of two ≡ (take_inbox s.inbox, true))
  seated w n s r q tied is-s is-r is-q one two is-one is-two = (
    sym (same_at (λ (x : ServerPorts T). (take_inbox x.inbox, false)) seat_of w.servers.items w.first.outs.items n s one tied.first_inboxes is-s (is-r ∙ is-one)),
    sym (same_at (λ (x : ServerPorts T). (take_inbox x.inbox, true)) seat_of w.servers.items w.second.outs.items n s two tied.second_inboxes is-s (is-q ∙ is-two)),
  )

  pub to_first_next : (w : ClientWires T) (n : ℕ) (s : ServerPorts T) (r : Option (Taker T)) → slice_get w.servers.items n ≡ Some s → slice_get w.first.ins.items n ≡ r
      → ((out : Putter T) (end : Taker T) → Some s.first ≡ Some out → r ≡ Some end → HasDelivered out end) → ToFirst w n
  to_first_next w n s r is-s is-r settled x end is-x is-end = subst (λ (y : ServerPorts T). HasDelivered y.first end) (same_Some s x (sym is-s ∙ is-x)) (settled s.first end refl (sym is-r ∙ is-end))

  pub to_second_next : (w : ClientWires T) (n : ℕ) (s : ServerPorts T) (r : Option (Taker T)) → slice_get w.servers.items n ≡ Some s → slice_get w.second.ins.items n ≡ r
      → ((out : Putter T) (end : Taker T) → Some s.second ≡ Some out → r ≡ Some end → HasDelivered out end) → ToSecond w n
  to_second_next w n s r is-s is-r settled x end is-x is-end = subst (λ (y : ServerPorts T). HasDelivered y.second end) (same_Some s x (sym is-s ∙ is-x)) (settled s.second end refl (sym is-r ∙ is-end))

  pub requests_next : (w : ClientWires T) (n : ℕ) (s : ServerPorts T) (r q : Option (InPut Request)) → slice_get w.servers.items n ≡ Some s → slice_get w.first.outs.items n ≡ r → slice_get w.second.outs.items n ≡ q
      → ((one two : InPut Request) → r ≡ Some one → q ≡ Some two → AreOfBoth (requests_in s.inbox) (put_in one) (put_in two)) → Requests w n
  requests_next w n s r q is-s is-r is-q settled x one two is-x is-one is-two = subst (λ (y : ServerPorts T). AreOfBoth (requests_in y.inbox) (put_in one) (put_in two)) (same_Some s x (sym is-s ∙ is-x)) (settled one two (sym is-r ∙ is-one) (sym is-q ∙ is-two))
