-- A commit in the region that grows.
use Rattle.std.proofs.Common.{◌≡◌, ℕ, ◌+◌, ◌≤◌, List, [], ◌∷◌, ◌++◌, length, refl, sym, ◌∙◌, ap, subst, append_assoc}
use Rattle.std.specs.Prelude.{Some, map, Result, Ok, Err, OnOk}
use Rattle.cq_disk.specs.Region.{part}
use Rattle.cq_disk.proofs.Moments.{started, weakened}
use Rattle.cq_records.specs.Batch.{batch_bytes}
use Rattle.cq_records.specs.Frames.{text_of, frames, records, all_sound}
use Rattle.cq_records.specs.Layout.{IsLog}
use Rattle.cq_journal.specs.Regions.{Each, HasPrefixOf, regions_text, records_at}
use Rattle.cq_journal.specs.Roots.{root_of, numbered}
use Rattle.cq_journal.proofs.Bases.{apart_last, base_still, base_records_still}
use Rattle.cq_journal.proofs.Moves.{ends_so, log_any}
use Rattle.cq_journal.proofs.Regions.{append-none, grows, kept_of, records_apart, records_more, root_apart, text_append, last_of, each_so}
use Rattle.cq_records.proofs.Outcomes.{none_damaged}
use Rattle.cq_records.proofs.Frames.{sound_append}
use Rattle.cq_journal.specs.Intact.{IsIntact}
use Rattle.cq_journal.proofs.Intact.{intact_at, grown_intact, rests_intact}
use Rattle.cq_journal.proofs.journal.Journal.commit.Goals as goal

on_both : {T E P Q R : Type 0} (r : Result T E) → OnOk r P → OnOk r Q → (P → Q → R) → OnOk r R
on_both (Ok x) p q step = step p q
on_both (Err e) p q step = tt

pub returns-clause-journal : goal.returns-clause-journal
returns-clause-journal g c =
    let j = c.args.self.now in
    let q = c.requires in
    let done = c.commit_at-done.ensures in
    let new = c.commit_at-done.new.self in
    let h = j.root.log.device.len in
    let old_bytes = g.D.Device.seen j.root.log.device.device in
    let new_bytes = g.D.Device.seen new.log.device.device in
    let places : List ℕ = j.closed.items ++ j.growing ∷ [] in
    on_both c.commit_at-done.result done.root done.log (λ root log. record {
      regions = record {
        root = root;
        behind = each_so (λ n. h + h ≤ n) (λ n. new.log.device.len + new.log.device.len ≤ n) (λ n low. subst (λ (m : ℕ). m + m ≤ n) (sym done.half) low) places q.regions.behind;
        within = each_so (λ n. n + j.len ≤ length old_bytes) (λ n. n + j.len ≤ length new_bytes) (λ n low. subst (λ (m : ℕ). n + j.len ≤ m) (sym done.length) low) places q.regions.within;
        apart = q.regions.apart;
        small = q.regions.small;
        names = λ honest.
            ap (λ (m : ℕ). root_of m new_bytes) done.half
            ∙ root_apart h j.growing j.len old_bytes new_bytes (last_of (λ n. h + h ≤ n) j.closed.items j.growing q.regions.behind) done.beside ∙ q.regions.names (sym done.honest ∙ honest)
            ∙ ap (λ (m : ℕ). Some (numbered m (regions_text j.torn places))) (sym done.number);
      };
      log = log;
    })

pub returns-clause-acknowledged : goal.returns-clause-acknowledged
returns-clause-acknowledged g c =
    let j = c.args.self.now in
    let q = c.requires in
    let done = c.commit_at-done.ensures in
    let s = j.growing in
    let n = j.len in
    let old_bytes = g.D.Device.seen j.root.log.device.device in
    let new_bytes = g.D.Device.seen c.commit_at-done.new.self.log.device.device in
    let ns : List ℕ = j.closed.items in
    let batch = frames (batch_bytes c.args.batch.now) in
    on_both c.commit_at-done.result done.acknowledged done.acknowledged (λ acknowledged again.
    let grown : records (part s n new_bytes) ≡ records (part s n old_bytes) ++ map text_of batch =
    ap (map text_of) acknowledged ∙ text_append (frames (part s n old_bytes)) batch in
    records_more n ns s new_bytes
    ∙ (λ i. (records_apart n s ns old_bytes new_bytes q.regions.apart done.beside i) ++ (grown i))
    ∙ sym (append_assoc (records_at n ns old_bytes) (records (part s n old_bytes)) (map text_of batch))
    ∙ ap (λ (xs : List (List ℕ)). xs ++ map text_of batch) (sym (records_more n ns s old_bytes)))

pub returns-clause-kept : goal.returns-clause-kept
returns-clause-kept g c =
    let j = c.args.self.now in
    let q = c.requires in
    let done = c.commit_at-done.ensures in
    let new = c.commit_at-done.new.self in
    let h = j.root.log.device.len in
    let old_bytes = g.D.Device.seen j.root.log.device.device in
    let new_bytes = g.D.Device.seen new.log.device.device in
    let places : List ℕ = j.closed.items ++ j.growing ∷ [] in
    on_both c.commit_at-done.result done.root done.root (λ root again honest.
    kept_of new.log.device.len j.len j.root.number places new_bytes q.regions.small
    (ap (λ (m : ℕ). root_of m new_bytes) done.half
    ∙ root_apart h j.growing j.len old_bytes new_bytes (last_of (λ n. h + h ≤ n) j.closed.items j.growing q.regions.behind) done.beside ∙ q.regions.names (sym done.honest ∙ honest)))

pub returns-clause-any_moment : goal.returns-clause-any_moment
returns-clause-any_moment g c = λ honest.
    let j = c.args.self.now in
    let q = c.requires in
    let done = c.commit_at-done.ensures in
    let new = c.commit_at-done.new.self in
    let h = j.root.log.device.len in
    let old_bytes = g.D.Device.seen j.root.log.device.device in
    let ns : List ℕ = j.closed.items in
    let batch = frames (batch_bytes c.args.batch.now) in
    weakened g.D.Device.moment g.D.Device.left_since j.root.log.device.device new.log.device.device _ _ done.any_moment (λ f both.
    grows h j.len j.root.number j.growing ns old_bytes f batch q.regions.small q.regions.apart (last_of (λ n. h + h ≤ n) ns j.growing q.regions.behind) (q.regions.names (sym done.honest ∙ honest)) both.1 both.0)

pub returns-clause-full : goal.returns-clause-full
returns-clause-full g c err =
    let j = c.args.self.now in
    let q = c.requires in
    let done = c.commit_at-done.ensures in
    let new = c.commit_at-done.new.self in
    let h = j.root.log.device.len in
    let places : List ℕ = j.closed.items ++ j.growing ∷ [] in
    let full = done.full err in
    let seen_is : g.D.Device.seen new.log.device.device ≡ g.D.Device.seen j.root.log.device.device = ap g.D.Device.seen full.1 in (
      record {
        regions = record {
          root = full.0;
          behind = each_so (λ n. h + h ≤ n) (λ n. new.log.device.len + new.log.device.len ≤ n) (λ n low. subst (λ (m : ℕ). m + m ≤ n) (sym done.half) low) places q.regions.behind;
          within = subst (λ (bytes : List ℕ). Each (λ n. n + j.len ≤ length bytes) places) (sym seen_is) q.regions.within;
          apart = q.regions.apart;
          small = q.regions.small;
          names = λ honest.
              (λ i. root_of (done.half i) (seen_is i)) ∙ q.regions.names (sym done.honest ∙ honest) ∙ ap (λ (m : ℕ). Some (numbered m (regions_text j.torn places))) (sym done.number);
        };
        log = subst (λ (m : ℕ). IsLog (part j.growing j.len (g.D.Device.seen new.log.device.device)) m) (sym full.2) (subst (λ (bytes : List ℕ). IsLog (part j.growing j.len bytes) j.end) (sym seen_is) q.log);
      },
      ap (λ (bytes : List ℕ). records_at j.len places bytes) seen_is,
    )

pub returns-clause-bases : goal.returns-clause-bases
returns-clause-bases g c base is =
    let j = c.args.self.now in
    let done = c.commit_at-done.ensures in
    let apart = apart_last j base is in (
      base_still j.growing j (record { root = c.commit_at-done.new.self; len = j.len; closed = j.closed; growing = j.growing; torn = j.torn; end = c.commit_at-done.new.self.log.end }) refl refl done.half done.length done.beside base is apart,
      base_records_still j.growing j (record { root = c.commit_at-done.new.self; len = j.len; closed = j.closed; growing = j.growing; torn = j.torn; end = c.commit_at-done.new.self.log.end }) refl refl done.half done.length done.beside base is apart,
    )

pub returns-clause-intact : goal.returns-clause-intact
returns-clause-intact g c = λ now i.
    let j = c.args.self.now in
    let q = c.requires in
    let done = c.commit_at-done.ensures in
    let new = c.commit_at-done.new.self in
    let h = j.root.log.device.len in
    let old_bytes = g.D.Device.seen j.root.log.device.device in
    let at = intact_at j q.regions (sym done.honest ∙ now) i in
    weakened g.D.Device.moment g.D.Device.left_since j.root.log.device.device new.log.device.device _ _ done.any_moment (λ f both. (
      j.root.number,
      j.closed.items,
      j.growing,
      j.torn,
      grown_intact h j.len j.root.number j.closed.items j.growing old_bytes at f both.1
          (none_damaged _ (frames (part j.growing j.len old_bytes)) (frames (batch_bytes c.args.batch.now)) (part j.growing j.len f) q.log.sound c.args.batch.now.batch.sound both.0)
          (ends_so j.torn (part j.growing j.len f) (λ old_or_new. both.0.rest (c.is_torn_otherwise.ensures c.if-is_torn_otherwise.false old_or_new))),
    ))

pub returns-clause-stays : goal.returns-clause-stays
returns-clause-stays g c =
    let j = c.args.self.now in
    let q = c.requires in
    let done = c.commit_at-done.ensures in
    let new = c.commit_at-done.new.self in
    let h = j.root.log.device.len in
    let old_bytes = g.D.Device.seen j.root.log.device.device in
    let new_bytes = g.D.Device.seen new.log.device.device in
    on_both c.commit_at-done.result done.acknowledged done.log (λ acknowledged log now i. (
      j.root.number,
      j.closed.items,
      j.growing,
      j.torn,
      grown_intact h j.len j.root.number j.closed.items j.growing old_bytes (intact_at j q.regions (sym done.honest ∙ now) i) new_bytes done.beside
          (ap all_sound acknowledged ∙ sound_append (frames (part j.growing j.len old_bytes)) (frames (batch_bytes c.args.batch.now)) q.log.sound c.args.batch.now.batch.sound)
          (log_any j.torn (part j.growing j.len new_bytes) _ log),
    ))

pub returns-clause-stays_full : goal.returns-clause-stays_full
returns-clause-stays_full g c = λ err now i.
    let j = c.args.self.now in
    subst (IsIntact j.root.log.device.len j.len) (sym (ap g.D.Device.seen (c.commit_at-done.ensures.full err).1)) i

-- nothing is written
pub returns-then-is_torn_otherwise-clause-any_moment : goal.returns-then-is_torn_otherwise-clause-any_moment
returns-then-is_torn_otherwise-clause-any_moment g c = λ honest.
    let j = c.args.self.now in
    let q = c.requires.regions in
    let d = g.D.Device in
    let device = j.root.log.device.device in
    let places : List ℕ = j.closed.items ++ j.growing ∷ [] in
    let rs = records_at j.len places (d.seen device) in
    started d.moment d.left_since device _ (λ f left.
    subst (HasPrefixOf j.root.log.device.len j.len rs (map text_of (frames (batch_bytes c.args.batch.now)))) (sym (q.root.durable f (g.met.D.Device.only_now device f left)))
    (0, kept_of j.root.log.device.len j.len j.root.number places (d.seen device) q.small (q.names honest) ∙ ap (λ (xs : List (List ℕ)). Some xs) (sym (append-none rs))))

pub returns-then-is_torn_otherwise-clause-intact : goal.returns-then-is_torn_otherwise-clause-intact
returns-then-is_torn_otherwise-clause-intact g c = rests_intact c.args.self.now (λ f. g.met.D.Device.only_now c.args.self.now.root.log.device.device f) c.requires.regions
