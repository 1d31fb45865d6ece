use Rattle.std.proofs.Common.{◌≡◌, ◌+◌, ◌-◌, ◌≤◌, ◌++◌, ◌∙◌, ℕ, List, length, take, drop, sym, ap, subst, arith, length-drop, drop-drop}
use Rattle.std.proofs.lemmas.List.{take_at}
use Rattle.cq_disk.proofs.Moments.{started, goes_on}
use Rattle.cq_records.specs.Frames.{is_plain, short_sum, BeginsWith}
use Rattle.cq_records.proofs.Heads.{no_room, no_head, cut_short, zero_in_text, begins, damaged}
use Rattle.cq_records.proofs.reading.read_record.Goals as goal

pub returns-in_default-clause-found : goal.returns-in_default-clause-found
returns-in_default-clause-found g c = λ honest.
    let seen = g.D.Device.seen c.args.device.now in
    let rest = drop c.args.at seen in
    let nine : 9 ≤ length rest = omega (arith, length-drop c.args.at seen, c.len.ensures, c.if-room-lt-HEAD_LENGTH.false) in
    no_head rest c.read_at.new.bytes (c.in_ok-read_at.ensures.bytes honest) nine c.in_default.ensures

pub returns-then-not-is_plain-clause-found : goal.returns-then-not-is_plain-clause-found
returns-then-not-is_plain-clause-found g c = λ honest.
    let seen = g.D.Device.seen c.args.device.now in
    let rest = drop c.args.at seen in
    let head = c.read_at.new.bytes in
    let text = c.read_at-2.new.bytes in
    let t = c.in-Some.head.text_length in
    let h = c.in-Some.ensures in
    let long : length rest ≡ length seen - c.args.at = length-drop c.args.at seen in
    let nine : 9 ≤ length rest = omega (arith, long, c.len.ensures, c.if-room-lt-HEAD_LENGTH.false) in
    let room : 9 + t ≤ length rest = omega (arith, long, c.len.ensures, c.if-room-lt-HEAD_LENGTH.false, c.if-head-room.false) in
    let head_is : head ≡ take 9 rest = c.in_ok-read_at.ensures.bytes (c.read_at-2.ensures.honest honest) in
    let asked : length c.deref_mut.result.now ≡ t = omega (arith, c.deref_mut.ensures.len, c.in_ok-text.ensures.len) in
    let text_is : text ≡ take t (drop 9 rest) = c.in_ok-read_at-2.ensures.bytes honest ∙ (λ i. take (asked i) (drop (c.args.at + 9) (c.read_at.ensures.seen i))) ∙ ap (λ (l : List ℕ). take t l) (sym (drop-drop 9 c.args.at seen)) in
    let text_long : length text ≡ c.in_ok-text.text.len = omega (arith, c.read_at-2.auto.bytes, c.deref_mut.ensures.len) in
    let same : take c.in_ok-text.text.len (text ++ drop (length text) c.in_ok-text.text.items) ≡ text = take_at text (drop (length text) c.in_ok-text.text.items) c.in_ok-text.text.len text_long in
    let full : c.is_plain.result ≡ is_plain text = c.is_plain.ensures ∙ ap is_plain (c.deref.ensures.value ∙ same) in
    zero_in_text rest head head_is nine text t h.1 text_is room (sym full ∙ c.if-not-is_plain.true)

pub returns-then-short_sum-head-clause-damaged : goal.returns-then-short_sum-head-clause-damaged
returns-then-short_sum-head-clause-damaged g c = λ _ honest.
    let seen = g.D.Device.seen c.args.device.now in
    let rest = drop c.args.at seen in
    let head = c.read_at.new.bytes in
    let text = c.read_at-2.new.bytes in
    let t = c.in-Some.head.text_length in
    let h = c.in-Some.ensures in
    let long : length rest ≡ length seen - c.args.at = length-drop c.args.at seen in
    let nine : 9 ≤ length rest = omega (arith, long, c.len.ensures, c.if-room-lt-HEAD_LENGTH.false) in
    let room : 9 + t ≤ length rest = omega (arith, long, c.len.ensures, c.if-room-lt-HEAD_LENGTH.false, c.if-head-room.false) in
    let head_is : head ≡ take 9 rest = c.in_ok-read_at.ensures.bytes (c.read_at-2.ensures.honest honest) in
    let asked : length c.deref_mut.result.now ≡ t = omega (arith, c.deref_mut.ensures.len, c.in_ok-text.ensures.len) in
    let text_is : text ≡ take t (drop 9 rest) = c.in_ok-read_at-2.ensures.bytes honest ∙ (λ i. take (asked i) (drop (c.args.at + 9) (c.read_at.ensures.seen i))) ∙ ap (λ (l : List ℕ). take t l) (sym (drop-drop 9 c.args.at seen)) in
    let text_long : length text ≡ c.in_ok-text.text.len = omega (arith, c.read_at-2.auto.bytes, c.deref_mut.ensures.len) in
    let same : take c.in_ok-text.text.len (text ++ drop (length text) c.in_ok-text.text.items) ≡ text = take_at text (drop (length text) c.in_ok-text.text.items) c.in_ok-text.text.len text_long in
    let full : c.is_plain.result ≡ is_plain text = c.is_plain.ensures ∙ ap is_plain (c.deref.ensures.value ∙ same) in
    let sum_is : c.short_sum.result ≡ short_sum text = c.short_sum.ensures.sum ∙ ap short_sum (c.deref-2.ensures.value ∙ same) in
    damaged rest head head_is nine text t h.1 text_is room h.0 (sym full ∙ c.if-not-is_plain.false) (λ is. c.if-short_sum-head.true (sum_is ∙ sym is ∙ sym h.2))

pub returns-clause-found : goal.returns-clause-found
returns-clause-found g c = λ honest.
    let seen = g.D.Device.seen c.args.device.now in
    let rest = drop c.args.at seen in
    let head = c.read_at.new.bytes in
    let text = c.read_at-2.new.bytes in
    let t = c.in-Some.head.text_length in
    let h = c.in-Some.ensures in
    let long : length rest ≡ length seen - c.args.at = length-drop c.args.at seen in
    let nine : 9 ≤ length rest = omega (arith, long, c.len.ensures, c.if-room-lt-HEAD_LENGTH.false) in
    let room : 9 + t ≤ length rest = omega (arith, long, c.len.ensures, c.if-room-lt-HEAD_LENGTH.false, c.if-head-room.false) in
    let head_is : head ≡ take 9 rest = c.in_ok-read_at.ensures.bytes (c.read_at-2.ensures.honest honest) in
    let asked : length c.deref_mut.result.now ≡ t = omega (arith, c.deref_mut.ensures.len, c.in_ok-text.ensures.len) in
    let text_is : text ≡ take t (drop 9 rest) = c.in_ok-read_at-2.ensures.bytes honest ∙ (λ i. take (asked i) (drop (c.args.at + 9) (c.read_at.ensures.seen i))) ∙ ap (λ (l : List ℕ). take t l) (sym (drop-drop 9 c.args.at seen)) in
    let text_long : length text ≡ c.in_ok-text.text.len = omega (arith, c.read_at-2.auto.bytes, c.deref_mut.ensures.len) in
    let same : take c.in_ok-text.text.len (text ++ drop (length text) c.in_ok-text.text.items) ≡ text = take_at text (drop (length text) c.in_ok-text.text.items) c.in_ok-text.text.len text_long in
    let full : c.is_plain.result ≡ is_plain text = c.is_plain.ensures ∙ ap is_plain (c.deref.ensures.value ∙ same) in
    let sum_is : c.short_sum.result ≡ short_sum text = c.short_sum.ensures.sum ∙ ap short_sum (c.deref-2.ensures.value ∙ same) in
    subst (λ (l : List ℕ). BeginsWith l rest) (sym same) (begins rest head head_is nine text t h.1 text_is room h.0 (sym full ∙ c.if-not-is_plain.false) (sym h.2 ∙ sym c.if-short_sum-head.false ∙ sum_is))

pub returns-then-room-lt-HEAD_LENGTH-clause-found : goal.returns-then-room-lt-HEAD_LENGTH-clause-found
returns-then-room-lt-HEAD_LENGTH-clause-found g c =
    λ honest. no_room (drop c.args.at (g.D.Device.seen c.args.device.now)) (omega (arith, length-drop c.args.at (g.D.Device.seen c.args.device.now), c.len.ensures, c.if-room-lt-HEAD_LENGTH.true, c.requires))

pub returns-then-head-room-clause-found : goal.returns-then-head-room-clause-found
returns-then-head-room-clause-found g c =
    λ honest.
    let seen = g.D.Device.seen c.args.device.now in
    let rest = drop c.args.at seen in
    let long : length rest ≡ length seen - c.args.at = length-drop c.args.at seen in
    let nine : 9 ≤ length rest = omega (arith, long, c.len.ensures, c.if-room-lt-HEAD_LENGTH.false) in
    let t = c.in-Some.head.text_length in
    cut_short rest c.read_at.new.bytes (c.in_ok-read_at.ensures.bytes honest) nine t c.in-Some.ensures.1 (omega (arith, long, nine, c.len.ensures, c.if-head-room.true))

pub returns-in_err-text-clause-any_moment : goal.returns-in_err-text-clause-any_moment
returns-in_err-text-clause-any_moment g c =
    let d = g.D.Device in
    let begun = started d.moment d.left_since c.args.device.now (d.may_leave c.args.device.now) (λ f left. g.met.D.Device.only_now c.args.device.now f left) in
    goes_on d.moment d.left_since c.args.device.now c.args.device.now c.read_at.new.self (d.may_leave c.args.device.now) _ begun c.read_at.ensures.time c.read_at.ensures.crash

pub returns-in_err-read_at-2-clause-any_moment : goal.returns-in_err-read_at-2-clause-any_moment
returns-in_err-read_at-2-clause-any_moment g c =
    let d = g.D.Device in
    let begun = started d.moment d.left_since c.args.device.now (d.may_leave c.args.device.now) (λ f left. g.met.D.Device.only_now c.args.device.now f left) in
    let first = goes_on d.moment d.left_since c.args.device.now c.args.device.now c.read_at.new.self (d.may_leave c.args.device.now) _ begun c.read_at.ensures.time c.read_at.ensures.crash in
    goes_on d.moment d.left_since c.args.device.now c.read_at.new.self c.read_at-2.new.self (d.may_leave c.args.device.now) _ first c.read_at-2.ensures.time (λ f now. c.read_at.ensures.crash f (c.read_at-2.ensures.crash f now))

pub returns-in_err-read_at-2-clause-keeps : goal.returns-in_err-read_at-2-clause-keeps
returns-in_err-read_at-2-clause-keeps g c =
    g.met.D.Device.keeps_on _ _ _ c.read_at.ensures.keeps c.read_at-2.ensures.keeps

pub returns-then-not-is_plain-clause-any_moment : goal.returns-then-not-is_plain-clause-any_moment
returns-then-not-is_plain-clause-any_moment g c =
    let d = g.D.Device in
    let begun = started d.moment d.left_since c.args.device.now (d.may_leave c.args.device.now) (λ f left. g.met.D.Device.only_now c.args.device.now f left) in
    let first = goes_on d.moment d.left_since c.args.device.now c.args.device.now c.read_at.new.self (d.may_leave c.args.device.now) _ begun c.read_at.ensures.time c.read_at.ensures.crash in
    goes_on d.moment d.left_since c.args.device.now c.read_at.new.self c.read_at-2.new.self (d.may_leave c.args.device.now) _ first c.read_at-2.ensures.time (λ f now. c.read_at.ensures.crash f (c.read_at-2.ensures.crash f now))

pub returns-then-not-is_plain-clause-keeps : goal.returns-then-not-is_plain-clause-keeps
returns-then-not-is_plain-clause-keeps g c =
    g.met.D.Device.keeps_on _ _ _ c.read_at.ensures.keeps c.read_at-2.ensures.keeps

pub returns-then-short_sum-head-clause-any_moment : goal.returns-then-short_sum-head-clause-any_moment
returns-then-short_sum-head-clause-any_moment g c =
    let d = g.D.Device in
    let begun = started d.moment d.left_since c.args.device.now (d.may_leave c.args.device.now) (λ f left. g.met.D.Device.only_now c.args.device.now f left) in
    let first = goes_on d.moment d.left_since c.args.device.now c.args.device.now c.read_at.new.self (d.may_leave c.args.device.now) _ begun c.read_at.ensures.time c.read_at.ensures.crash in
    goes_on d.moment d.left_since c.args.device.now c.read_at.new.self c.read_at-2.new.self (d.may_leave c.args.device.now) _ first c.read_at-2.ensures.time (λ f now. c.read_at.ensures.crash f (c.read_at-2.ensures.crash f now))

pub returns-then-short_sum-head-clause-keeps : goal.returns-then-short_sum-head-clause-keeps
returns-then-short_sum-head-clause-keeps g c =
    g.met.D.Device.keeps_on _ _ _ c.read_at.ensures.keeps c.read_at-2.ensures.keeps

pub returns-clause-any_moment : goal.returns-clause-any_moment
returns-clause-any_moment g c =
    let d = g.D.Device in
    let begun = started d.moment d.left_since c.args.device.now (d.may_leave c.args.device.now) (λ f left. g.met.D.Device.only_now c.args.device.now f left) in
    let first = goes_on d.moment d.left_since c.args.device.now c.args.device.now c.read_at.new.self (d.may_leave c.args.device.now) _ begun c.read_at.ensures.time c.read_at.ensures.crash in
    goes_on d.moment d.left_since c.args.device.now c.read_at.new.self c.read_at-2.new.self (d.may_leave c.args.device.now) _ first c.read_at-2.ensures.time (λ f now. c.read_at.ensures.crash f (c.read_at-2.ensures.crash f now))
