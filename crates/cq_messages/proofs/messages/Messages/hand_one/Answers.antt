-- The message of that number is the one that changes.
use Rattle.std.proofs.Common.{◌≡◌, ◌<◌, ◌∙◌, ◌≢◌, ℕ, ap, sym, subst, length, get_or, map, arith, refl, Some, List}
use Rattle.cq_messages.specs.declared.slot.Slot.{Slot}
use Rattle.cq_messages.specs.Slots.{gone}
use Rattle.std.proofs.Common.{◌∷◌, []}
use Rattle.cq_messages.specs.Changes.{marked}
use Rattle.cq_messages.proofs.Values.{live-handed, none-handed, vacant-read, unnumbered, read_message}
use Rattle.cq_base.specs.Relations.{Among}
use Rattle.cq_messages.proofs.Rising.{own-number, live-among}
use Rattle.cq_messages.proofs.messages.Messages.hand_one.Goals as goal

pub returns-in-Some-message : goal.returns-in-Some-message
returns-in-Some-message c =
    let ss : List Slot = c.self.inside.slots.items in
    let within : c.in-Some.place < length ss = subst (λ xs. c.in-Some.place < length xs) c.deref.ensures.value c.in-Some.ensures.within in
    let found : (get_or ss c.in-Some.place gone).sequence ≡ c.args.sequence = subst (λ xs. (get_or xs c.in-Some.place gone).sequence ≡ c.args.sequence) c.deref.ensures.value c.in-Some.ensures.found in
    live-handed ss c.retime.new.slots.items c.in-Some.place c.args.sequence c.args.moment c.args.end c.index.result.now _ c.self.invariant.0.ascending within found c.index.ensures (c.in-Some-message.is ∙ ap (λ m. Some m) (sym c.message.view_is)) c.retime.ensures.slots
    ∙ ap (map (marked c.args.moment c.args.end (c.args.sequence ∷ []))) c.self.view_is

pub returns-in_default-message : goal.returns-in_default-message
returns-in_default-message c =
    let ss : List Slot = c.self.inside.slots.items in
    let within : c.in-Some.place < length ss = subst (λ xs. c.in-Some.place < length xs) c.deref.ensures.value c.in-Some.ensures.within in
    let found : (get_or ss c.in-Some.place gone).sequence ≡ c.args.sequence = subst (λ xs. (get_or xs c.in-Some.place gone).sequence ≡ c.args.sequence) c.deref.ensures.value c.in-Some.ensures.found in
    sym c.self.view_is ∙ none-handed ss c.args.sequence c.args.moment c.args.end (vacant-read ss c.in-Some.place c.args.sequence c.index.result.now c.self.invariant.0.ascending within found c.index.ensures c.in_default-message.is) ∙ ap (map (marked c.args.moment c.args.end (c.args.sequence ∷ []))) c.self.view_is

pub returns-in_default : goal.returns-in_default
returns-in_default c =
    let ss : List Slot = c.self.inside.slots.items in
    let none : (k : ℕ) → k < length ss → (get_or ss k gone).sequence ≢ c.args.sequence = subst (λ xs. (k : ℕ) → k < length xs → (get_or xs k gone).sequence ≢ c.args.sequence) c.deref.ensures.value (c.in_default.ensures.none refl) in
    sym c.self.view_is ∙ none-handed ss c.args.sequence c.args.moment c.args.end (unnumbered ss c.args.sequence c.self.invariant.0.ascending none) ∙ ap (map (marked c.args.moment c.args.end (c.args.sequence ∷ []))) c.self.view_is

pub retime-requires-clause-few : goal.retime-requires-clause-few
retime-requires-clause-few c =
    let ss : List Slot = c.self.inside.slots.items in
    let within : c.in-Some.place < length ss = subst (λ xs. c.in-Some.place < length xs) c.deref.ensures.value c.in-Some.ensures.within in
    let found : (get_or ss c.in-Some.place gone).sequence ≡ c.args.sequence = subst (λ xs. (get_or xs c.in-Some.place gone).sequence ≡ c.args.sequence) c.deref.ensures.value c.in-Some.ensures.found in
    let there = read_message ss c.in-Some.place c.index.result.now (Some c.in-Some-message.message) within c.index.ensures c.in-Some-message.is in
    let few = c.requires c.in-Some-message.message (subst (Among c.in-Some-message.message) c.self.view_is (live-among ss c.in-Some.place c.in-Some-message.message within there))
    (own-number 0 ss c.in-Some.place c.in-Some-message.message c.self.invariant.0.ascending within there ∙ found) in
    let same : c.message.inside.handings ≡ c.in-Some-message.message.handings = ap (λ m. m.handings) c.message.view_is in
    omega arith
