-- The message of that number is the one that changes.
use Rattle.std.proofs.Common.{◌≡◌, ◌<◌, ◌∙◌, ◌≢◌, ℕ, ap, sym, subst, length, get_or, map, refl, Some, List}
use Rattle.cq_messages.specs.declared.slot.Slot.{Slot}
use Rattle.cq_messages.specs.Slots.{gone}
use Rattle.cq_messages.specs.Changes.{hidden_until}
use Rattle.cq_messages.proofs.Values.{live-hidden, none-hidden, vacant-read, unnumbered}
use Rattle.cq_messages.proofs.messages.Messages.hide.Goals as goal

pub returns-in-Some-message : goal.returns-in-Some-message
returns-in-Some-message c =
    let ss : List Slot = c.self.inside.slots.items in
    let within : c.in-Some.place < length ss = subst (λ xs. c.in-Some.place < length xs) c.deref.ensures.value c.in-Some.ensures.within in
    let found : (get_or ss c.in-Some.place gone).sequence ≡ c.args.sequence = subst (λ xs. (get_or xs c.in-Some.place gone).sequence ≡ c.args.sequence) c.deref.ensures.value c.in-Some.ensures.found in
    live-hidden ss c.retime.new.slots.items c.in-Some.place c.args.sequence c.args.end c.index.result.now _ c.self.invariant.0.ascending within found c.index.ensures (c.in-Some-message.is ∙ ap (λ m. Some m) (sym c.message.view_is)) c.retime.ensures.slots
    ∙ ap (map (hidden_until c.args.sequence c.args.end)) c.self.view_is

pub returns-in_default-message : goal.returns-in_default-message
returns-in_default-message c =
    let ss : List Slot = c.self.inside.slots.items in
    let within : c.in-Some.place < length ss = subst (λ xs. c.in-Some.place < length xs) c.deref.ensures.value c.in-Some.ensures.within in
    let found : (get_or ss c.in-Some.place gone).sequence ≡ c.args.sequence = subst (λ xs. (get_or xs c.in-Some.place gone).sequence ≡ c.args.sequence) c.deref.ensures.value c.in-Some.ensures.found in
    sym c.self.view_is ∙ none-hidden ss c.args.sequence c.args.end (vacant-read ss c.in-Some.place c.args.sequence c.index.result.now c.self.invariant.0.ascending within found c.index.ensures c.in_default-message.is) ∙ ap (map (hidden_until c.args.sequence c.args.end)) c.self.view_is

pub returns-in_default : goal.returns-in_default
returns-in_default c =
    let ss : List Slot = c.self.inside.slots.items in
    let none : (k : ℕ) → k < length ss → (get_or ss k gone).sequence ≢ c.args.sequence = subst (λ xs. (k : ℕ) → k < length xs → (get_or xs k gone).sequence ≢ c.args.sequence) c.deref.ensures.value (c.in_default.ensures.none refl) in
    sym c.self.view_is ∙ none-hidden ss c.args.sequence c.args.end (unnumbered ss c.args.sequence c.self.invariant.0.ascending none) ∙ ap (map (hidden_until c.args.sequence c.args.end)) c.self.view_is
