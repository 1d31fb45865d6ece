-- A server more between the clients.
use Rattle.std.proofs.Common.{◌≡◌, ℕ, ◌+◌, ◌∙◌, ap, sym, subst, true, false, List, [], ◌∷◌, ◌++◌, map, length}
use Rattle.std.proofs.lemmas.List.{map_push, length_push}
use Rattle.std.proofs.lemmas.List.Elements.{All-nil, All-push}
use Rattle.std.specs.List.{All}
use Rattle.cq_base.specs.declared.ask.Request.{Request}
use Rattle.cq_link.specs.declared.inbox.InPut.{InPut}
use Rattle.cq_link.specs.declared.link.Taker.{Taker}
use Rattle.cq_link.specs.Links.{putter_link, taker_link, put_on, taken_from}
use Rattle.cq_link.specs.Inboxes.{take_inbox, put_in, taken_in}
use Rattle.cq_link.specs.declared.clients.ServerPorts.{ServerPorts}
use Rattle.cq_link.specs.declared.clients.ClientWires.{ClientWires}
use Rattle.cq_link.specs.declared.clients.ClientEnds.{ClientEnds}
use Rattle.cq_link.specs.Clients.{AreTied, AreFresh, AreOf, seat_of}
use Rattle.cq_link.specs.within.Ends.{IsTied, IsFresh}

pub same_more : {X Y Z : Type 0} (f : X → Z) (h : Y → Z) (xs xs' : List X) (ys ys' : List Y) (x : X) (y : Y)
    → map f xs ≡ map h ys → xs' ≡ xs ++ x ∷ [] → ys' ≡ ys ++ y ∷ [] → f x ≡ h y → map f xs' ≡ map h ys'
same_more {X} {Y} {Z} f h xs xs' ys ys' x y so grown-xs grown-ys same =
    ap (λ (zs : List X). map f zs) grown-xs ∙ map_push f xs x ∙ ap (λ (zs : List Z). zs ++ f x ∷ []) so ∙ ap (λ (z : Z). map h ys ++ z ∷ []) same ∙ sym (map_push h ys y) ∙ ap (λ (zs : List Y). map h zs) (sym grown-ys)

pub all_more : {X : Type 0} (P : X → Type 0) (xs xs' : List X) (x : X) → All P xs → xs' ≡ xs ++ x ∷ [] → P x → All P xs'
all_more {X} P xs xs' x all grown new = subst (λ (zs : List X). All P zs) (sym grown) (All-push P xs x all new)

pub count_more : {X : Type 0} (xs xs' : List X) (x : X) (n : ℕ) → length xs ≡ n → xs' ≡ xs ++ x ∷ [] → length xs' ≡ n + 1
count_more xs xs' x n so grown = ap length grown ∙ length_push xs x ∙ ap (λ m. m + 1) so

none_same : {X Y Z : Type 0} (f : X → Z) (h : Y → Z) (xs : List X) (ys : List Y) → xs ≡ [] → ys ≡ [] → map f xs ≡ map h ys
none_same {X} {Y} f h xs ys no-x no-y = ap (λ (zs : List X). map f zs) no-x ∙ ap (λ (zs : List Y). map h zs) (sym no-y)

none_all : {X : Type 0} (P : X → Type 0) (xs : List X) → xs ≡ [] → All P xs
none_all {X} P xs none = subst (λ (zs : List X). All P zs) (sym none) (All-nil P)

module _ {T : Type 0} where
  -- with the ends of a server more
  pub record IsGrown (w v : ClientWires T) (s : ServerPorts T) (one two : ClientEnds T) : Type 0 where
    pub servers : v.servers.items ≡ w.servers.items ++ s ∷ []
    pub first_outs : v.first.outs.items ≡ w.first.outs.items ++ one.out ∷ []
    pub first_ins : v.first.ins.items ≡ w.first.ins.items ++ one.end ∷ []
    pub second_outs : v.second.outs.items ≡ w.second.outs.items ++ two.out ∷ []
    pub second_ins : v.second.ins.items ≡ w.second.ins.items ++ two.end ∷ []

  pub tied_more : (w v : ClientWires T) (s : ServerPorts T) (one two : ClientEnds T) → IsGrown w v s one two → AreTied w → IsTied s one two → AreTied v
  tied_more w v s one two grown so new = record {
    first_links = same_more (λ (x : ServerPorts T). putter_link x.first) taker_link w.servers.items v.servers.items w.first.ins.items v.first.ins.items s one.end so.first_links grown.servers grown.first_ins new.first_link;
    second_links = same_more (λ (x : ServerPorts T). putter_link x.second) taker_link w.servers.items v.servers.items w.second.ins.items v.second.ins.items s two.end so.second_links grown.servers grown.second_ins new.second_link;
    first_inboxes = same_more (λ (x : ServerPorts T). (take_inbox x.inbox, false)) seat_of w.servers.items v.servers.items w.first.outs.items v.first.outs.items s one.out so.first_inboxes grown.servers grown.first_outs new.first_inbox;
    second_inboxes = same_more (λ (x : ServerPorts T). (take_inbox x.inbox, true)) seat_of w.servers.items v.servers.items w.second.outs.items v.second.outs.items s two.out so.second_inboxes grown.servers grown.second_outs new.second_inbox;
  }

  pub fresh_more : (w v : ClientWires T) (s : ServerPorts T) (one two : ClientEnds T) → IsGrown w v s one two → AreFresh w → IsFresh s one two → AreFresh v
  fresh_more w v s one two grown so new = record {
    servers = all_more (λ (x : ServerPorts T). (put_on x.first ≡ []) × (put_on x.second ≡ []) × (taken_in x.inbox ≡ [])) w.servers.items v.servers.items s so.servers grown.servers new.server;
    first_outs = all_more (λ (out : InPut Request). put_in out ≡ []) w.first.outs.items v.first.outs.items one.out so.first_outs grown.first_outs new.first_out;
    first_ins = all_more (λ (end : Taker T). taken_from end ≡ []) w.first.ins.items v.first.ins.items one.end so.first_ins grown.first_ins new.first_end;
    second_outs = all_more (λ (out : InPut Request). put_in out ≡ []) w.second.outs.items v.second.outs.items two.out so.second_outs grown.second_outs new.second_out;
    second_ins = all_more (λ (end : Taker T). taken_from end ≡ []) w.second.ins.items v.second.ins.items two.end so.second_ins grown.second_ins new.second_end;
  }

  pub of_more : (n : ℕ) (w v : ClientWires T) (s : ServerPorts T) (one two : ClientEnds T) → IsGrown w v s one two → AreOf n w → AreOf (n + 1) v
  of_more n w v s one two grown so = record {
    servers = count_more w.servers.items v.servers.items s n so.servers grown.servers;
    first_outs = count_more w.first.outs.items v.first.outs.items one.out n so.first_outs grown.first_outs;
    first_ins = count_more w.first.ins.items v.first.ins.items one.end n so.first_ins grown.first_ins;
    second_outs = count_more w.second.outs.items v.second.outs.items two.out n so.second_outs grown.second_outs;
    second_ins = count_more w.second.ins.items v.second.ins.items two.end n so.second_ins grown.second_ins;
  }

  -- no server
  pub record IsBare (w : ClientWires T) : Type 0 where
    pub servers : w.servers.items ≡ []
    pub first_outs : w.first.outs.items ≡ []
    pub first_ins : w.first.ins.items ≡ []
    pub second_outs : w.second.outs.items ≡ []
    pub second_ins : w.second.ins.items ≡ []

  pub bare_tied : (w : ClientWires T) → IsBare w → AreTied w
  bare_tied w none = record {
    first_links = none_same (λ (x : ServerPorts T). putter_link x.first) taker_link w.servers.items w.first.ins.items none.servers none.first_ins;
    second_links = none_same (λ (x : ServerPorts T). putter_link x.second) taker_link w.servers.items w.second.ins.items none.servers none.second_ins;
    first_inboxes = none_same (λ (x : ServerPorts T). (take_inbox x.inbox, false)) seat_of w.servers.items w.first.outs.items none.servers none.first_outs;
    second_inboxes = none_same (λ (x : ServerPorts T). (take_inbox x.inbox, true)) seat_of w.servers.items w.second.outs.items none.servers none.second_outs;
  }

  pub bare_fresh : (w : ClientWires T) → IsBare w → AreFresh w
  bare_fresh w none = record {
    servers = none_all (λ (x : ServerPorts T). (put_on x.first ≡ []) × (put_on x.second ≡ []) × (taken_in x.inbox ≡ [])) w.servers.items none.servers;
    first_outs = none_all (λ (out : InPut Request). put_in out ≡ []) w.first.outs.items none.first_outs;
    first_ins = none_all (λ (end : Taker T). taken_from end ≡ []) w.first.ins.items none.first_ins;
    second_outs = none_all (λ (out : InPut Request). put_in out ≡ []) w.second.outs.items none.second_outs;
    second_ins = none_all (λ (end : Taker T). taken_from end ≡ []) w.second.ins.items none.second_ins;
  }

  pub bare_of : (w : ClientWires T) → IsBare w → AreOf 0 w
  bare_of w none = record {
    servers = ap length none.servers;
    first_outs = ap length none.first_outs;
    first_ins = ap length none.first_ins;
    second_outs = ap length none.second_outs;
    second_ins = ap length none.second_ins;
  }
