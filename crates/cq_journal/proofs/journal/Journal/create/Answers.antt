-- A journal of one region, which is blank.
use Rattle.std.proofs.Common.{◌≡◌, ℕ, ◌+◌, ◌<◌, ◌≤◌, List, [], ◌∷◌, ◌++◌, length, replicate, sym, ◌∙◌, ap, subst, arith}
use Rattle.std.specs.Prelude.{Some, map}
use Rattle.cq_disk.specs.Region.{part}
use Rattle.cq_records.specs.Frames.{text_of, frames, records, joined, all_sound}
use Rattle.cq_records.proofs.Frames.{of_zeros}
use Rattle.cq_journal.specs.declared.number.TheConstants.{NUMBER_LIMIT}
use Rattle.cq_journal.specs.Regions.{Each, AreApart, regions_text, records_at}
use Rattle.cq_journal.specs.Roots.{root_of, numbered}
use Rattle.cq_journal.proofs.Moves.{blank_log, log_any}
use Rattle.cq_journal.proofs.Regions.{append-none, root_apart}
use Rattle.cq_journal.proofs.Intact.{halves_apart, sound_blank}
use Rattle.cq_journal.proofs.journal.Journal.create.Goals as goal

pub returns-clause-empty : goal.returns-clause-empty
returns-clause-empty g c =
    let bytes = g.D.Device.seen c.blank_at.new.self.log.device.device in
    let p = c.args.half + c.args.half in
    let none : records (part p c.args.len bytes) ≡ [] = ap records c.in_ok-blank_at.ensures.zeros ∙ ap (map text_of) (of_zeros c.args.len) in
    ap (λ (xs : List ℕ). records_at c.args.len (xs ++ p ∷ []) bytes) c.new.ensures.items ∙ append-none (records (part p c.args.len bytes)) ∙ none

pub returns-clause-journal : goal.returns-clause-journal
returns-clause-journal g c =
    let d = g.D.Device in
    let b = c.in_ok-blank_at.ensures in
    let made = c.in_ok-root.ensures in
    let root = c.in_ok-root.root in
    let new = c.blank_at.new.self in
    let p = c.args.half + c.args.half in
    let n = c.args.len in
    let old = d.seen root.log.device.device in
    let bytes = d.seen new.log.device.device in
    let half_is : new.log.device.len ≡ c.args.half = b.half ∙ made.half in
    let text_is : c.deref.result.now ≡ regions_text c.torn_writes-torn.result (p ∷ []) = c.deref.ensures.value ∙ c.in_ok-text.ensures in
    let none : frames (part p n bytes) ≡ [] = ap frames b.zeros ∙ of_zeros n in
    let empty : c.new.result.items ≡ [] = c.new.ensures.items in
    record {
      regions = record {
        root = b.root;
        behind = subst (λ (xs : List ℕ). Each (λ a. new.log.device.len + new.log.device.len ≤ a) (xs ++ p ∷ [])) (sym empty) (omega (arith, half_is), tt);
        within = subst (λ (xs : List ℕ). Each (λ a. a + n ≤ length bytes) (xs ++ p ∷ [])) (sym empty) (omega (arith, b.length, c.len-whole.ensures, c.if-whole-place.false, c.if-whole-place-2.false), tt);
        apart = subst (λ (xs : List ℕ). Each (λ a. AreApart n a p) xs) (sym empty) tt;
        small = subst (λ (xs : List ℕ). Each (λ a. a < NUMBER_LIMIT) (xs ++ p ∷ [])) (sym empty) (c.requires.small, tt);
        names = λ honest.
            ap (λ (h : ℕ). root_of h bytes) half_is ∙ root_apart c.args.half p n old bytes (omega arith) b.beside ∙ made.text
            ∙ (λ i. Some (numbered (sym (b.number ∙ made.number) i) (text_is i)))
            ∙ ap (λ (xs : List ℕ). Some (numbered new.number (regions_text c.torn_writes-torn.result (xs ++ p ∷ [])))) (sym empty);
      };
      log = record {
        room = n;
        is = b.zeros ∙ ap (λ (fs : List (List ℕ)). joined fs ++ replicate n 0) (sym none);
        ends = sym (ap (λ (fs : List (List ℕ)). length (joined fs)) none);
        sound = ap all_sound none;
      };
    }

pub returns-clause-intact : goal.returns-clause-intact
returns-clause-intact g c =
    let d = g.D.Device in
    let b = c.in_ok-blank_at.ensures in
    let made = c.in_ok-root.ensures in
    let root = c.in_ok-root.root in
    let p = c.args.half + c.args.half in
    let n = c.args.len in
    let old = d.seen root.log.device.device in
    let bytes = d.seen c.blank_at.new.self.log.device.device in
    let text_is : c.deref.result.now ≡ regions_text c.torn_writes-torn.result (p ∷ []) = c.deref.ensures.value ∙ c.in_ok-text.ensures in (
      1,
      [],
      p,
      c.torn_writes-torn.result,
      record {
        names = root_apart c.args.half p n old bytes (omega arith) b.beside ∙ made.text ∙ (λ i. Some (numbered 1 (text_is i)));
        small_number = omega arith;
        small = (c.requires.small, tt);
        behind = (omega arith, tt);
        within = (omega (arith, b.length, c.len-whole.ensures, c.if-whole-place.false, c.if-whole-place-2.false), tt);
        apart = tt;
        halves = halves_apart c.args.half n p old bytes (omega arith) b.beside made.sound;
        regions = (sound_blank n (part p n bytes) b.zeros, tt);
        closed_logs = tt;
        grown = log_any c.torn_writes-torn.result _ 0 (blank_log n (part p n bytes) b.zeros);
      },
    )

pub returns-clause-honest : goal.returns-clause-honest
returns-clause-honest g c = λ honest. c.in_ok-root.ensures.honest (c.blank_at.ensures.honest honest)
