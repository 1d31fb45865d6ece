-- What the clauses of the call say.
use Rattle.std.proofs.Common.{◌≡◌, ℕ, List, ◌++◌, refl}
use Rattle.std.specs.Prelude.{IsTrue, Result, Ok, Err, OnOk}
use Rattle.std.specs.Io.KnownBytes.{Appends}
use Rattle.cq_base.specs.Relations.{IsPrefix}
use Rattle.cq_kept_session.specs.Kept.{StandsFor, session_device, told_text}
use Rattle.cq_kept_session.specs.Outcomes.{OnKept}
use Rattle.cq_kept_session.specs.Takes.{Taken}
use Rattle.cq_kept_session.specs.Texts.{as_kept}
use Rattle.cq_kept_session.specs.declared.fault.TakeFault.{TakeFault}
use Rattle.cq_kept_session.proofs.calls.take_takes.Goals as goal

if_ok : {P R : Type 0} (Told : Result (Unit {0}) TakeFault → Type 0) (r : Result (Unit {0}) TakeFault) → OnKept r P → OnKept r (Told r) → (P → (x : Unit {0}) → Told (Ok x) → R) → OnOk r R
if_ok Told (Ok x) p told step = step p x told
if_ok Told (Err e) p told step = tt

pub returns-clause-takes : goal.returns-clause-takes
returns-clause-takes g c =
    let e = c.take.ensures in
    let old = c.args.session.now in
    let new = c.take.new.self in
    let chunk = as_kept c.args.chunk.now in
    let contents = g.W.KeptSink.taken in
    if_ok (λ r. IsTrue (g.D.Device.is_honest (session_device new)) → (bytes : List ℕ) → StandsFor old bytes → (output : List ℕ) × Appends (contents c.args.writer.now) (contents c.take.new.writer) output
    × IsPrefix (told_text old bytes ++ output) (told_text new (bytes ++ chunk)) × OnOk r (told_text new (bytes ++ chunk) ≡ told_text old bytes ++ output))
    c.take.result e.stands e.told
    (λ stands x told honest bytes stood.
    let w = told honest bytes stood in
    let taken : Taken = record { chunk = chunk; output = w.0 } in
    (taken, refl, w.1, record { size = e.size; honest = e.tries.honest; stands = λ is_honest. stands is_honest bytes stood; text = λ _. w.3 }))
