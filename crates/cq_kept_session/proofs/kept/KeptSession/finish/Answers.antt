-- The last line has ended, or a line feed is taken.
use Rattle.std.proofs.Common.{◌≡◌, ℕ, List, [], ◌∷◌, ◌++◌, Option, None, Some, cond, sym, ◌∙◌, ap, subst, append-nil}
use Rattle.std.specs.Prelude.{Bool, true, false, Result, Ok, Err, OnOk}
use Rattle.std.specs.Io.KnownBytes.{Appends}
use Rattle.cq_base.specs.Relations.{IsPrefix}
use Rattle.cq_journal.proofs.Appends.{none_at_rest}
use Rattle.cq_kept_session.specs.Kept.{StandsFor, kept_bytes, missing_end, told_text}
use Rattle.cq_kept_session.specs.Outcomes.{OnKept}
use Rattle.cq_kept_session.specs.Texts.{is_ended}
use Rattle.cq_kept_session.specs.declared.fault.TakeFault.{TakeFault}
use Rattle.cq_kept_session.specs.declared.fault.TakeFault.TheVariants.{NotKept, NotTold}
use Rattle.cq_kept_session.proofs.kept.KeptSession.finish.Goals as goal

no_more : (contents : Option (List ℕ)) → Appends contents contents []
no_more None = tt
no_more (Some bytes) = sym (append-nil bytes)

on_kept : {P Q : Type 0} (r : Result (Unit {0}) TakeFault) → OnKept r P → (P → Q) → OnKept r Q
on_kept (Ok x) p step = step p
on_kept (Err (NotKept fault)) p step = tt
on_kept (Err (NotTold fault)) p step = step p

abbrev end_if : Bool → List ℕ
end_if is = cond is [] (10 ∷ [])

end_is : (bytes : List ℕ) (is : Bool) → is_ended bytes ≡ is → end_if (is_ended bytes) ≡ end_if is
end_is bytes is ended = ap end_if ended

pub returns-then-self-clause-stands : goal.returns-then-self-clause-stands
returns-then-self-clause-stands g c = λ honest bytes stands.
    let k = c.args.self.now in
    let none : missing_end k ≡ [] = end_is (kept_bytes k) true (sym (c.requires.ended honest) ∙ c.if-self.true) in
    subst (λ (l : List ℕ). StandsFor k (bytes ++ l)) (sym none) (subst (λ (l : List ℕ). StandsFor k l) (sym (append-nil bytes)) stands)

pub returns-then-self-clause-told : goal.returns-then-self-clause-told
returns-then-self-clause-told g c = λ honest bytes stands.
    let k = c.args.self.now in
    let none : missing_end k ≡ [] = end_is (kept_bytes k) true (sym (c.requires.ended honest) ∙ c.if-self.true) in
    let same : told_text k (bytes ++ missing_end k) ≡ told_text k bytes ++ [] = ap (λ (l : List ℕ). told_text k (bytes ++ l)) none ∙ ap (λ (l : List ℕ). told_text k l) (append-nil bytes) ∙ sym (append-nil (told_text k bytes)) in
    ([], no_more (g.W.KeptSink.taken c.args.writer.now), ([], same ∙ sym (append-nil (told_text k bytes ++ []))), same)

pub returns-then-self-clause-tries : goal.returns-then-self-clause-tries
returns-then-self-clause-tries g c =
    let j = c.args.self.now.journal in
    record { honest = λ honest. honest; moments = λ honest. none_at_rest j ((10 ∷ []) ∷ []) (λ f. g.met.D.Device.only_now j.root.log.device.device f) c.requires.journal.regions honest }

pub returns-clause-stands : goal.returns-clause-stands
returns-clause-stands g c =
    let old = c.args.self.now in
    let new = c.take_text.new.self in
    on_kept c.take_text.result c.take_text.ensures.stands (λ goes honest bytes stands.
    let one : missing_end old ≡ 10 ∷ [] = end_is (kept_bytes old) false (sym (c.requires.ended (c.take_text.ensures.tries.honest honest)) ∙ c.if-self.false) in
    subst (λ (l : List ℕ). StandsFor new (bytes ++ l)) (sym one) (goes honest bytes stands))

pub returns-clause-told : goal.returns-clause-told
returns-clause-told g c =
    let old = c.args.self.now in
    let new = c.take_text.new.self in
    let contents = g.W.KeptSink.taken in
    on_kept c.take_text.result c.take_text.ensures.told (λ told honest bytes stands.
    let one : missing_end old ≡ 10 ∷ [] = end_is (kept_bytes old) false (sym (c.requires.ended (c.take_text.ensures.tries.honest honest)) ∙ c.if-self.false) in
    subst (λ (l : List ℕ). (output : List ℕ) × Appends (contents c.args.writer.now) (contents c.take_text.new.writer) output
    × IsPrefix (told_text old bytes ++ output) (told_text new (bytes ++ l)) × OnOk c.take_text.result (told_text new (bytes ++ l) ≡ told_text old bytes ++ output))
    (sym one) (told honest bytes stands))
