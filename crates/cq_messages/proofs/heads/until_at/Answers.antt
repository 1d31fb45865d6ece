-- The message stands at the place found.
use Rattle.std.proofs.Common.{◌≡◌, ◌∙◌, ap, sym, Some, refl}
use Rattle.std.proofs.lemmas.List.{get_or_read}
use Rattle.cq_messages.specs.Slots.{gone}
use Rattle.cq_messages.proofs.Rising.{own-number}
use Rattle.cq_messages.proofs.Remaining.{found-message, live-place}
use Rattle.cq_messages.proofs.heads.until_at.Goals as goal

pub returns-in-Some-message : goal.returns-in-Some-message
returns-in-Some-message c = λ m a e.
    let ss = c.args.slots.now in
    let f = found-message ss c.in-Some.place m c.requires.ascending a c.in-Some.ensures.within (c.in-Some.ensures.found ∙ sym e) in
    let read : c.index-slots-place.result.message ≡ Some m = ap (λ s. s.message) (get_or_read ss c.in-Some.place c.index-slots-place.result c.in-Some.ensures.within c.index-slots-place.is gone) ∙ f in
    let same : c.in-Some-message.message ≡ m = cc (read, c.in-Some-message.is) in
    ap (λ v. v.until) (c.message.view_is ∙ same)

pub returns-in-None-message : goal.returns-in-None-message
returns-in-None-message c = λ m a e.
    let ss = c.args.slots.now in
    let f = found-message ss c.in-Some.place m c.requires.ascending a c.in-Some.ensures.within (c.in-Some.ensures.found ∙ sym e) in
    let read : c.index-slots-place.result.message ≡ Some m = ap (λ s. s.message) (get_or_read ss c.in-Some.place c.index-slots-place.result c.in-Some.ensures.within c.index-slots-place.is gone) ∙ f in
    absurd (cc (read, c.in-None-message.is))

pub returns-in-None : goal.returns-in-None
returns-in-None c = λ m a e.
    let ss = c.args.slots.now in
    let r = live-place ss m a in
    absurd (c.in-None.ensures.none refl r.0 r.1.within (sym (own-number 0 ss r.0 m c.requires.ascending r.1.within r.1.message) ∙ e))
