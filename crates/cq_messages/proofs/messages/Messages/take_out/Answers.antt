-- The message of that number is taken out.
use Rattle.std.proofs.Common.{◌≡◌, ◌<◌, ◌∙◌, ◌≢◌, ℕ, ap, sym, subst, length, get_or, refl, List}
use Rattle.std.specs.List.{filter}
use Rattle.cq_messages.specs.declared.slot.Slot.{Slot}
use Rattle.cq_messages.specs.Changes.{is_other}
use Rattle.cq_messages.specs.Slots.{live, gone}
use Rattle.cq_messages.proofs.Emptying.{live-vacated, none-dropped, vacated}
use Rattle.cq_messages.proofs.Values.{unnumbered}
use Rattle.cq_messages.proofs.messages.Messages.take_out.Goals as goal

pub returns-then-empty : goal.returns-then-empty
returns-then-empty c =
    let ss : List Slot = c.self.inside.slots.items in
    let within : c.in-Some.place < length ss = subst (λ xs. c.in-Some.place < length xs) c.deref.ensures.value c.in-Some.ensures.within in
    let found : (get_or ss c.in-Some.place gone).sequence ≡ c.args.sequence = subst (λ xs. (get_or xs c.in-Some.place gone).sequence ≡ c.args.sequence) c.deref.ensures.value c.in-Some.ensures.found in
    ap live c.empty.ensures.slots
    ∙ live-vacated 0 ss c.in-Some.place (vacated (get_or ss c.in-Some.place gone)) c.self.invariant.0.ascending within refl
    ∙ ap (λ n. filter (is_other n) (live ss)) found
    ∙ ap (filter (is_other c.args.sequence)) c.self.view_is

pub returns-else-empty : goal.returns-else-empty
returns-else-empty c =
    let ss : List Slot = c.self.inside.slots.items in
    let within : c.in-Some.place < length ss = subst (λ xs. c.in-Some.place < length xs) c.deref.ensures.value c.in-Some.ensures.within in
    let found : (get_or ss c.in-Some.place gone).sequence ≡ c.args.sequence = subst (λ xs. (get_or xs c.in-Some.place gone).sequence ≡ c.args.sequence) c.deref.ensures.value c.in-Some.ensures.found in
    ap live c.empty.ensures.slots
    ∙ live-vacated 0 ss c.in-Some.place (vacated (get_or ss c.in-Some.place gone)) c.self.invariant.0.ascending within refl
    ∙ ap (λ n. filter (is_other n) (live ss)) found
    ∙ ap (filter (is_other c.args.sequence)) c.self.view_is

pub returns-in_default : goal.returns-in_default
returns-in_default c =
    let ss : List Slot = c.self.inside.slots.items in
    let none : (k : ℕ) → k < length ss → (get_or ss k gone).sequence ≢ c.args.sequence = subst (λ xs. (k : ℕ) → k < length xs → (get_or xs k gone).sequence ≢ c.args.sequence) c.deref.ensures.value (c.in_default.ensures.none refl) in
    sym c.self.view_is ∙ none-dropped ss c.args.sequence (unnumbered ss c.args.sequence c.self.invariant.0.ascending none) ∙ ap (filter (is_other c.args.sequence)) c.self.view_is
