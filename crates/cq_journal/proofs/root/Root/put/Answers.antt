use Rattle.std.proofs.Common.{◌≡◌, inl, inr, ⊎_elim, ◌+◌, ◌-◌, ◌≤◌, ◌++◌, ◌∙◌, ℕ, List, [], length, take, refl, sym, ap, subst, arith}
use Rattle.std.specs.Prelude.{IsTrue, Some, map, replicate}
use Rattle.std.proofs.lemmas.List.{take_all}
use Rattle.cq_disk.specs.Device.{LeavesOnly}
use Rattle.cq_disk.specs.Region.{part, Leaves, Beside, beside_both}
use Rattle.cq_disk.proofs.Parts.{alone, whole_again}
use Rattle.cq_disk.proofs.Moments.{weakened, runs_on}
use Rattle.cq_records.specs.Batch.{batch_bytes}
use Rattle.cq_records.specs.Frames.{text_of, frames, records, joined, all_sound}
use Rattle.cq_disk.specs.declared.device.TornWrites.TheVariants.{Any}
use Rattle.cq_records.specs.Layout.{IsPrefixOf}
use Rattle.cq_records.proofs.Frames.{of_zeros}
use Rattle.cq_journal.specs.Numbers.{number_of}
use Rattle.cq_journal.specs.Roots.{first_of, number_in, half_of, root_of, numbered, IsSameRoot, IsOldOrNew}
use Rattle.cq_journal.proofs.Halves.{any_prefix, number_back, behind_kept, same_half, turned_place, turned_back, new_counts, old_or_new, beside_at, still_room}
use Rattle.cq_journal.proofs.root.Root.put.Goals as goal

pub commit-requires : goal.commit-requires
commit-requires g c =
    let turned = c.turn.new.self in
    let t = c.in_ok-turn.ensures.turned in
    let mid = g.D.Device.seen turned.log.device.device in
    let n = turned.log.device.len in
    let none : frames (part turned.log.device.start n mid) ≡ [] = ap frames t.blank ∙ of_zeros n in
    record {
      bytes = record {
        room = n;
        is = t.blank ∙ ap (λ (fs : List (List ℕ)). joined fs ++ replicate n 0) (sym none);
        ends = t.end ∙ sym (ap (λ (fs : List (List ℕ)). length (joined fs)) none);
        sound = ap all_sound none;
      };
      durable = λ x left. left.2 ∙ ap (λ (f : List ℕ). part turned.log.device.start n f) (t.durable left.0 left.1);
    }

pub returns-in_err-turn-clause-any_moment : goal.returns-in_err-turn-clause-any_moment
returns-in_err-turn-clause-any_moment g c = λ honest.
    let r = c.args.self.now in
    let h = r.log.device.len in
    let old = g.D.Device.seen r.log.device.device in
    let new = numbered (r.number + 1) c.args.text.now in
    weakened g.D.Device.moment g.D.Device.left_since r.log.device.device c.turn.new.self.log.device.device (IsSameRoot h old) (IsOldOrNew h old new) (c.turn.ensures.any_moment honest)
    (λ f same. record { root = inl same.root; behind = same.behind; long = same.long; sound = same.sound })

pub returns-in_err-commit-clause-any_moment : goal.returns-in_err-commit-clause-any_moment
returns-in_err-commit-clause-any_moment g c = λ honest.
    let r = c.args.self.now in
    let turned = c.turn.new.self in
    let t = c.in_ok-turn.ensures.turned in
    let h = r.log.device.len in
    let s = r.log.device.start in
    let old = g.D.Device.seen r.log.device.device in
    let mid = g.D.Device.seen turned.log.device.device in
    let q = c.requires.root in
    let new = numbered (r.number + 1) c.args.text.now in
    let batch = batch_bytes c.in_ok-batch.batch in
    let none : frames (part turned.log.device.start turned.log.device.len mid) ≡ [] = ap frames t.blank ∙ of_zeros turned.log.device.len in
    let beside_mid : Beside (h - s) h old mid = beside_at _ _ _ _ old mid t.start t.half t.beside in
    let next : number_of new ≡ r.number + 1 = number_back (r.number + 1) c.args.text.now (omega (arith, (c.has_room.ensures.room c.if-not-has_room.false).0)) in
    let honest_turned : IsTrue (g.D.Device.is_honest turned.log.device.device) = sym c.commit.ensures.honest ∙ honest in
    let honest_old : IsTrue (g.D.Device.is_honest r.log.device.device) = c.turn.ensures.honest honest_turned in
    let P : List ℕ → Type 0 = IsOldOrNew h old new in
    let first : LeavesOnly g.D.Device.moment g.D.Device.left_since r.log.device.device turned.log.device.device P =
    weakened g.D.Device.moment g.D.Device.left_since r.log.device.device turned.log.device.device (IsSameRoot h old) P (c.turn.ensures.any_moment honest_turned) (λ f same. record { root = inl same.root; behind = same.behind; long = same.long; sound = same.sound }) in
    let k = c.commit.ensures.keeps in
    let prefix : (x : List ℕ) → Leaves turned.log.device.start turned.log.device.len (g.D.Device.left_since c.commit.new.self.device.device (g.D.Device.moment turned.log.device.device)) x → IsPrefixOf (g.D.Device.torn turned.log.device.device) [] (frames batch) x = λ x left.
    let it = c.commit.ensures.any_moment.each x (left.0, left.1, left.2 ∙ sym (λ i. part (k.same_start i) (k.same_len i) left.0)) in
    record { many = it.many; frames = it.frames ∙ ap (λ (fs : List (List ℕ)). fs ++ take it.many (frames batch)) none; rest = it.rest } in
    let run = alone g.D.Device.moment g.D.Device.left_since g.D.Device.may_leave g.D.Device.keeps g.D.Device.seen g.met.D.Device.splits turned.log.device.start turned.log.device.len _ _
    turned.log.device.device c.commit.new.self.device.device (IsPrefixOf (g.D.Device.torn turned.log.device.device) [] (frames batch)) k t.durable prefix in
    let second : LeavesOnly g.D.Device.moment g.D.Device.left_since turned.log.device.device c.commit.new.self.device.device P =
    weakened g.D.Device.moment g.D.Device.left_since turned.log.device.device c.commit.new.self.device.device _ P run (λ f both.
    let same : part turned.log.device.start turned.log.device.len f ≡ part (h - s) h f = λ i. part (t.start i) (t.half i) f in
    old_or_new h s q.place old r.number (q.current honest_old) (q.other honest_old) new (frames batch) c.in_ok-batch.ensures.records next c.in_ok-batch.batch.batch.sound f (subst (λ (x : List ℕ). IsPrefixOf (g.D.Device.torn turned.log.device.device) [] (frames batch) x) same both.0)
    (beside_both (h - s) h old mid f beside_mid (beside_at _ _ _ _ mid f t.start t.half both.1))) in
    runs_on g.D.Device.moment g.D.Device.left_since r.log.device.device turned.log.device.device c.commit.new.self.device.device P first second

pub returns-clause-any_moment : goal.returns-clause-any_moment
returns-clause-any_moment g c = λ honest.
    let r = c.args.self.now in
    let turned = c.turn.new.self in
    let t = c.in_ok-turn.ensures.turned in
    let h = r.log.device.len in
    let s = r.log.device.start in
    let old = g.D.Device.seen r.log.device.device in
    let mid = g.D.Device.seen turned.log.device.device in
    let q = c.requires.root in
    let new = numbered (r.number + 1) c.args.text.now in
    let batch = batch_bytes c.in_ok-batch.batch in
    let none : frames (part turned.log.device.start turned.log.device.len mid) ≡ [] = ap frames t.blank ∙ of_zeros turned.log.device.len in
    let beside_mid : Beside (h - s) h old mid = beside_at _ _ _ _ old mid t.start t.half t.beside in
    let next : number_of new ≡ r.number + 1 = number_back (r.number + 1) c.args.text.now (omega (arith, (c.has_room.ensures.room c.if-not-has_room.false).0)) in
    let honest_turned : IsTrue (g.D.Device.is_honest turned.log.device.device) = sym c.commit.ensures.honest ∙ honest in
    let honest_old : IsTrue (g.D.Device.is_honest r.log.device.device) = c.turn.ensures.honest honest_turned in
    let P : List ℕ → Type 0 = IsOldOrNew h old new in
    let first : LeavesOnly g.D.Device.moment g.D.Device.left_since r.log.device.device turned.log.device.device P =
    weakened g.D.Device.moment g.D.Device.left_since r.log.device.device turned.log.device.device (IsSameRoot h old) P (c.turn.ensures.any_moment honest_turned) (λ f same. record { root = inl same.root; behind = same.behind; long = same.long; sound = same.sound }) in
    let k = c.commit.ensures.keeps in
    let prefix : (x : List ℕ) → Leaves turned.log.device.start turned.log.device.len (g.D.Device.left_since c.commit.new.self.device.device (g.D.Device.moment turned.log.device.device)) x → IsPrefixOf (g.D.Device.torn turned.log.device.device) [] (frames batch) x = λ x left.
    let it = c.commit.ensures.any_moment.each x (left.0, left.1, left.2 ∙ sym (λ i. part (k.same_start i) (k.same_len i) left.0)) in
    record { many = it.many; frames = it.frames ∙ ap (λ (fs : List (List ℕ)). fs ++ take it.many (frames batch)) none; rest = it.rest } in
    let run = alone g.D.Device.moment g.D.Device.left_since g.D.Device.may_leave g.D.Device.keeps g.D.Device.seen g.met.D.Device.splits turned.log.device.start turned.log.device.len _ _
    turned.log.device.device c.commit.new.self.device.device (IsPrefixOf (g.D.Device.torn turned.log.device.device) [] (frames batch)) k t.durable prefix in
    let second : LeavesOnly g.D.Device.moment g.D.Device.left_since turned.log.device.device c.commit.new.self.device.device P =
    weakened g.D.Device.moment g.D.Device.left_since turned.log.device.device c.commit.new.self.device.device _ P run (λ f both.
    let same : part turned.log.device.start turned.log.device.len f ≡ part (h - s) h f = λ i. part (t.start i) (t.half i) f in
    old_or_new h s q.place old r.number (q.current honest_old) (q.other honest_old) new (frames batch) c.in_ok-batch.ensures.records next c.in_ok-batch.batch.batch.sound f (subst (λ (x : List ℕ). IsPrefixOf (g.D.Device.torn turned.log.device.device) [] (frames batch) x) same both.0)
    (beside_both (h - s) h old mid f beside_mid (beside_at _ _ _ _ mid f t.start t.half both.1))) in
    runs_on g.D.Device.moment g.D.Device.left_since r.log.device.device turned.log.device.device c.commit.new.self.device.device P first second

pub returns-clause-text : goal.returns-clause-text
returns-clause-text g c =
    let r = c.args.self.now in
    let turned = c.turn.new.self in
    let t = c.in_ok-turn.ensures.turned in
    let h = r.log.device.len in
    let s = r.log.device.start in
    let old = g.D.Device.seen r.log.device.device in
    let mid = g.D.Device.seen turned.log.device.device in
    let q = c.requires.root in
    let new = numbered (r.number + 1) c.args.text.now in
    let batch = batch_bytes c.in_ok-batch.batch in
    let none : frames (part turned.log.device.start turned.log.device.len mid) ≡ [] = ap frames t.blank ∙ of_zeros turned.log.device.len in
    let beside_mid : Beside (h - s) h old mid = beside_at _ _ _ _ old mid t.start t.half t.beside in
    let next : number_of new ≡ r.number + 1 = number_back (r.number + 1) c.args.text.now (omega (arith, (c.has_room.ensures.room c.if-not-has_room.false).0)) in
    let k = c.commit.ensures.keeps in
    let fin = g.D.Device.seen c.commit.new.self.device.device in
    let start_is : c.commit.new.self.device.start ≡ h - s = k.same_start ∙ t.start in
    let len_is : c.commit.new.self.device.len ≡ h = k.same_len ∙ t.half in
    let beside_fin : Beside (h - s) h old fin = beside_both (h - s) h old mid fin beside_mid (beside_at _ _ _ _ mid fin t.start t.half k.shown) in
    let moved : (f : List ℕ) → part c.commit.new.self.device.start c.commit.new.self.device.len f ≡ part (h - s) h f = λ f i. part (start_is i) (len_is i) f in
    let written_is : half_of (h - s) h fin ≡ Some new =
    ap (λ (l : List ℕ). first_of (records l)) (sym (moved fin)) ∙ ap (λ (fs : List (List ℕ)). first_of (map text_of fs)) (c.in_ok-commit.ensures.acknowledged ∙ ap (λ (fs : List (List ℕ)). fs ++ frames batch) none)
    ∙ ap first_of c.in_ok-batch.ensures.records in
    let kept_is : half_of s h fin ≡ half_of s h old = same_half h s q.place old fin beside_fin in
    let honest_before : IsTrue (g.D.Device.is_honest c.commit.new.self.device.device) → IsTrue (g.D.Device.is_honest r.log.device.device) = λ honest. c.turn.ensures.honest (sym c.commit.ensures.honest ∙ honest) in
    λ honest. ap (λ (n : ℕ). root_of n fin) len_is ∙ new_counts h s q.place r.number new fin written_is (ap number_in kept_is ∙ q.current (honest_before honest)) next

pub returns-clause-root : goal.returns-clause-root
returns-clause-root g c =
    let r = c.args.self.now in
    let turned = c.turn.new.self in
    let t = c.in_ok-turn.ensures.turned in
    let h = r.log.device.len in
    let s = r.log.device.start in
    let old = g.D.Device.seen r.log.device.device in
    let mid = g.D.Device.seen turned.log.device.device in
    let q = c.requires.root in
    let new = numbered (r.number + 1) c.args.text.now in
    let batch = batch_bytes c.in_ok-batch.batch in
    let none : frames (part turned.log.device.start turned.log.device.len mid) ≡ [] = ap frames t.blank ∙ of_zeros turned.log.device.len in
    let beside_mid : Beside (h - s) h old mid = beside_at _ _ _ _ old mid t.start t.half t.beside in
    let next : number_of new ≡ r.number + 1 = number_back (r.number + 1) c.args.text.now (omega (arith, (c.has_room.ensures.room c.if-not-has_room.false).0)) in
    let k = c.commit.ensures.keeps in
    let fin = g.D.Device.seen c.commit.new.self.device.device in
    let start_is : c.commit.new.self.device.start ≡ h - s = k.same_start ∙ t.start in
    let len_is : c.commit.new.self.device.len ≡ h = k.same_len ∙ t.half in
    let beside_fin : Beside (h - s) h old fin = beside_both (h - s) h old mid fin beside_mid (beside_at _ _ _ _ mid fin t.start t.half k.shown) in
    let moved : (f : List ℕ) → part c.commit.new.self.device.start c.commit.new.self.device.len f ≡ part (h - s) h f = λ f i. part (start_is i) (len_is i) f in
    let written_is : half_of (h - s) h fin ≡ Some new =
    ap (λ (l : List ℕ). first_of (records l)) (sym (moved fin)) ∙ ap (λ (fs : List (List ℕ)). first_of (map text_of fs)) (c.in_ok-commit.ensures.acknowledged ∙ ap (λ (fs : List (List ℕ)). fs ++ frames batch) none)
    ∙ ap first_of c.in_ok-batch.ensures.records in
    let kept_is : half_of s h fin ≡ half_of s h old = same_half h s q.place old fin beside_fin in
    let honest_before : IsTrue (g.D.Device.is_honest c.commit.new.self.device.device) → IsTrue (g.D.Device.is_honest r.log.device.device) = λ honest. c.turn.ensures.honest (sym c.commit.ensures.honest ∙ honest) in
    let within : h - s + h ≤ length fin = omega (arith, c.commit.new.self.device.within, start_is, len_is) in
    let room = still_room h s q.place old fin beside_fin within q.room in
    let back : c.commit.new.self.device.len - c.commit.new.self.device.start ≡ s = (λ i. len_is i - start_is i) ∙ turned_back h s q.place in
    let other_is : number_in (half_of (c.commit.new.self.device.len - c.commit.new.self.device.start) c.commit.new.self.device.len fin) ≡ number_in (half_of s h fin) = λ i. number_in (half_of (back i) (len_is i) fin) in
    record {
      place = ⊎_elim (λ (is : h - s ≡ 0). inl (start_is ∙ is)) (λ (is : h - s ≡ h). inr (start_is ∙ is ∙ sym len_is)) (turned_place h s q.place);
      room = omega (arith, len_is, room);
      current = λ honest. (λ i. number_in (half_of (start_is i) (len_is i) fin)) ∙ ap number_in written_is ∙ next ∙ ap (λ (n : ℕ). n + 1) (sym t.number);
      other = λ honest. omega (arith, other_is, ap number_in kept_is, q.current (honest_before honest), t.number);
      durable = λ f left.
          let was = k.now f left in
          let from_mid : Beside turned.log.device.start turned.log.device.len mid f = subst (λ (d : List ℕ). Beside turned.log.device.start turned.log.device.len d f) (t.durable was.0 was.1) was.2 in
          let from_fin : Beside turned.log.device.start turned.log.device.len fin f = record { before = from_mid.before ∙ sym k.shown.before; behind = from_mid.behind ∙ sym k.shown.behind; long = from_mid.long ∙ sym k.shown.long } in
          let at : (x : List ℕ) → part c.commit.new.self.device.start c.commit.new.self.device.len x ≡ part turned.log.device.start turned.log.device.len x = λ x i. part (k.same_start i) (k.same_len i) x in
          whole_again turned.log.device.start turned.log.device.len fin f from_fin
          (sym (at f) ∙ c.in_ok-commit.ensures.settled.durable (part c.commit.new.self.device.start c.commit.new.self.device.len f) (f, left, refl) ∙ at fin);
    }

pub returns-clause-shown : goal.returns-clause-shown
returns-clause-shown g c = λ honest.
    let r = c.args.self.now in
    let turned = c.turn.new.self in
    let t = c.in_ok-turn.ensures.turned in
    let h = r.log.device.len in
    let s = r.log.device.start in
    let old = g.D.Device.seen r.log.device.device in
    let mid = g.D.Device.seen turned.log.device.device in
    let q = c.requires.root in
    let new = numbered (r.number + 1) c.args.text.now in
    let batch = batch_bytes c.in_ok-batch.batch in
    let none : frames (part turned.log.device.start turned.log.device.len mid) ≡ [] = ap frames t.blank ∙ of_zeros turned.log.device.len in
    let next : number_of new ≡ r.number + 1 = number_back (r.number + 1) c.args.text.now (omega (arith, (c.has_room.ensures.room c.if-not-has_room.false).0)) in
    let k = c.commit.ensures.keeps in
    let fin = g.D.Device.seen c.commit.new.self.device.device in
    let moved : part c.commit.new.self.device.start c.commit.new.self.device.len fin ≡ part (h - s) h fin = λ i. part ((k.same_start ∙ t.start) i) ((k.same_len ∙ t.half) i) fin in
    let beside : Beside (h - s) h old fin = beside_both (h - s) h old mid fin (beside_at _ _ _ _ old mid t.start t.half t.beside) (beside_at _ _ _ _ mid fin t.start t.half k.shown) in
    let honest_old : IsTrue (g.D.Device.is_honest r.log.device.device) = c.turn.ensures.honest (sym c.commit.ensures.honest ∙ honest) in
    let frames_are : frames (part (h - s) h fin) ≡ frames batch = sym (ap frames moved) ∙ c.in_ok-commit.ensures.acknowledged ∙ ap (λ (fs : List (List ℕ)). fs ++ frames batch) none in
    let all : IsPrefixOf Any [] (frames batch) (part (h - s) h fin) = any_prefix [] (frames batch) (part (h - s) h fin) (length (frames batch)) (frames_are ∙ sym (take_all (length (frames batch)) (frames batch) (omega arith))) in
    old_or_new h s q.place old r.number (q.current honest_old) (q.other honest_old) new (frames batch) c.in_ok-batch.ensures.records next c.in_ok-batch.batch.batch.sound fin all beside

pub returns-clause-half : goal.returns-clause-half
returns-clause-half g c = c.commit.ensures.keeps.same_len ∙ c.in_ok-turn.ensures.turned.half

pub returns-clause-number : goal.returns-clause-number
returns-clause-number g c = ap (λ (n : ℕ). n + 1) c.in_ok-turn.ensures.turned.number

pub returns-clause-behind : goal.returns-clause-behind
returns-clause-behind g c =
    let r = c.args.self.now in
    let turned = c.turn.new.self in
    let t = c.in_ok-turn.ensures.turned in
    let h = r.log.device.len in
    let s = r.log.device.start in
    let old = g.D.Device.seen r.log.device.device in
    let mid = g.D.Device.seen turned.log.device.device in
    let fin = g.D.Device.seen c.commit.new.self.device.device in
    behind_kept h s c.requires.root.place old fin (beside_both (h - s) h old mid fin (beside_at _ _ _ _ old mid t.start t.half t.beside) (beside_at _ _ _ _ mid fin t.start t.half c.commit.ensures.keeps.shown))
