-- The next end on either side goes into the links.
use Rattle.std.proofs.Common.{◌≡◌, ◌∙◌, ap, sym, subst, arith, suc, List, [], ◌++◌, length}
use Rattle.std.specs.List.{All}
use Rattle.std.specs.Vec.Iter.{into_iter_items, into_iter_steps}
use Rattle.std.proofs.lemmas.List.{nil_from_length}
use Rattle.std.proofs.lemmas.List.Elements.{All-head, All-tail}
use Rattle.cq_chain.specs.declared.message.Message.{Message}
use Rattle.cq_base.specs.declared.ask.Request.{Request}
use Rattle.cq_link.specs.declared.inbox.InPut.{InPut}
use Rattle.cq_link.specs.declared.link.Taker.{Taker}
use Rattle.cq_link.specs.Inboxes.{put_in}
use Rattle.cq_link.specs.Links.{taken_from}
use Rattle.cq_nodes.specs.ClientNodes.{ClientEnds}
use Rattle.cq_live.proofs.Iterating.{one_taken, none_left, one_done, all_done}
use Rattle.cq_live.proofs.fresh.client_links_of.Goals as goal

abbrev Both : Type 0
Both = ClientEnds (InPut Request) (Taker Message)

abbrev both : List (InPut Request) → List (Taker Message) → Both
both outs ins = record { outs = outs; ins = ins }

same_ends : (links : Both) (outs : List (InPut Request)) (ins : List (Taker Message)) → links.outs ≡ outs → links.ins ≡ ins → links ≡ both outs ins
same_ends links outs ins a b = ap (λ xs. both xs links.ins) a ∙ ap (both outs) b

pub add-requires-clause-nothing_put : goal.add-requires-clause-nothing_put
add-requires-clause-nothing_put c =
    let at = c.loop-out in
    All-head (λ out. put_in out ≡ []) c.in-Some.out (into_iter_items c.next.new.self) (subst (All (λ out. put_in out ≡ [])) (one_taken at.out-iterator c.next.new.self c.in-Some.out c.in-Some.ensures.steps) at.invariant.unput)

pub add-requires-clause-nothing_taken : goal.add-requires-clause-nothing_taken
add-requires-clause-nothing_taken c =
    let at = c.loop-out in
    All-head (λ end. taken_from end ≡ []) c.in-Some-next.end (into_iter_items c.next-in-loop-out.new.self) (subst (All (λ end. taken_from end ≡ [])) (one_taken at.ins c.next-in-loop-out.new.self c.in-Some-next.end c.in-Some-next.ensures.cases) at.invariant.untaken)

pub loop-out-init : goal.loop-out-init
loop-out-init c =
    let outs = c.into_iter-out-iterator.ensures.into_iter_gives.0 in
    let ins = c.into_iter-ins.ensures.rest in
    record {
      outs = ap (λ xs. xs ++ into_iter_items c.into_iter-out-iterator.result) c.new-links.ensures.outs ∙ outs;
      ins = ap (λ xs. xs ++ into_iter_items c.into_iter-ins.result) c.new-links.ensures.ins ∙ ins;
      even = ap length ins ∙ c.requires.even ∙ sym (ap length outs);
      unput = subst (All (λ out. put_in out ≡ [])) (sym outs) c.requires.unput;
      untaken = subst (All (λ end. taken_from end ≡ [])) (sym ins) c.requires.untaken;
    }

pub loop-out-preserved : goal.loop-out-preserved
loop-out-preserved c =
    let at = c.loop-out in
    let none : length (into_iter_items at.ins) ≡ 0 = ap length (none_left at.ins c.next-in-loop-out.new.self (subst (λ r. into_iter_steps at.ins r c.next-in-loop-out.new.self) c.in_default.is c.next-in-loop-out.ensures.cases)) in
    let one : length (into_iter_items at.out-iterator) ≡ suc (length (into_iter_items c.next.new.self)) = ap length (one_taken at.out-iterator c.next.new.self c.in-Some.out c.in-Some.ensures.steps) in
    absurd (omega (arith, at.invariant.even))

pub loop-out-preserved-in-Continue-1 : goal.loop-out-preserved-in-Continue-1
loop-out-preserved-in-Continue-1 c =
    let at = c.loop-out in
    let out = c.in-Some.out in
    let end = c.in-Some-next.end in
    let outs = into_iter_items c.next.new.self in
    let ins = into_iter_items c.next-in-loop-out.new.self in
    let one = one_taken at.out-iterator c.next.new.self out c.in-Some.ensures.steps in
    let other = one_taken at.ins c.next-in-loop-out.new.self end c.in-Some-next.ensures.cases in
    let even : suc (length ins) ≡ suc (length outs) = sym (ap length other) ∙ at.invariant.even ∙ ap length one in
    record {
      outs = ap (λ xs. xs ++ outs) c.in_ok-add.ensures.outs ∙ one_done at.links.outs (into_iter_items at.out-iterator) outs c.args.outs.items out at.invariant.outs one;
      ins = ap (λ xs. xs ++ ins) c.in_ok-add.ensures.ins ∙ one_done at.links.ins (into_iter_items at.ins) ins c.args.ins.items end at.invariant.ins other;
      even = omega (arith, even);
      unput = All-tail (λ out. put_in out ≡ []) out outs (subst (All (λ out. put_in out ≡ [])) one at.invariant.unput);
      untaken = All-tail (λ end. taken_from end ≡ []) end ins (subst (All (λ end. taken_from end ≡ [])) other at.invariant.untaken);
    }

pub returns : goal.returns
returns c =
    let at = c.loop-out in
    let none = none_left at.out-iterator c.next.new.self c.in-None.ensures.steps in
    let over = nil_from_length (into_iter_items at.ins) (at.invariant.even ∙ ap length none) in
    same_ends at.links c.args.outs.items c.args.ins.items
    (all_done at.links.outs (into_iter_items at.out-iterator) c.args.outs.items at.invariant.outs none)
    (all_done at.links.ins (into_iter_items at.ins) c.args.ins.items at.invariant.ins over)
