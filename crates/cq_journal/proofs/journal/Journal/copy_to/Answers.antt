-- The region that grows is read, and written into a free one.
use Rattle.std.proofs.Common.{◌≡◌, ℕ, ◌+◌, ◌≤◌, List, [], ◌∷◌, ◌++◌, length, sym, ◌∙◌, ap, subst}
use Rattle.std.specs.Prelude.{Some, map}
use Rattle.cq_disk.specs.Device.{LeavesOnly}
use Rattle.cq_disk.specs.Region.{part, Beside, beside_both}
use Rattle.cq_disk.proofs.Moments.{weakened, runs_on}
use Rattle.cq_records.specs.Batch.{batch_bytes}
use Rattle.cq_records.specs.Frames.{text_of, records}
use Rattle.cq_journal.specs.Regions.{regions_text, HasRecords, records_at}
use Rattle.cq_journal.specs.Roots.{root_of, numbered}
use Rattle.cq_journal.proofs.Moves.{while_copied, blank_frames, blank_log}
use Rattle.cq_journal.proofs.Regions.{each_so, kept_of, root_apart}
use Rattle.cq_disk.specs.Region.{beside_self}
use Rattle.cq_journal.proofs.journal.Journal.copy_to.Goals as goal

pub copy_at-requires-clause-log : goal.copy_at-requires-clause-log
copy_at-requires-clause-log g c = blank_log c.args.self.now.len _ c.in_ok-blank_at.ensures.zeros

pub returns-in_err-read_at-clause-any_moment : goal.returns-in_err-read_at-clause-any_moment
returns-in_err-read_at-clause-any_moment g c = λ honest.
    let j = c.args.self.now in
    let q = c.requires.regions in
    let d = g.D.Device in
    let device = j.root.log.device.device in
    weakened d.moment d.left_since device c.read_at.new.self.log.device.device _ _ c.read_at.ensures.any_moment
    (λ f is. subst (HasRecords j.root.log.device.len j.len (records_at j.len (j.closed.items ++ j.growing ∷ []) (d.seen device))) (sym is)
    (kept_of j.root.log.device.len j.len j.root.number (j.closed.items ++ j.growing ∷ []) (d.seen device) q.small (q.names (c.read_at.ensures.honest honest))))

pub returns-in_err-blank_at-clause-any_moment : goal.returns-in_err-blank_at-clause-any_moment
returns-in_err-blank_at-clause-any_moment g c = λ honest.
    let j = c.args.self.now in
    let q = c.requires.regions in
    let free = c.requires.free in
    let d = g.D.Device in
    let h = j.root.log.device.len in
    let p = c.args.place in
    let ns : List ℕ = j.closed.items in
    let device = j.root.log.device.device in
    let one = c.read_at.new.self.log.device.device in
    let two = c.blank_at.new.self.log.device.device in
    let old = d.seen device in
    let root = q.names (c.read_at.ensures.honest (c.blank_at.ensures.honest honest)) in
    let P : List ℕ → Type 0 = HasRecords h j.len (records_at j.len (ns ++ j.growing ∷ []) old) in
    let first : LeavesOnly d.moment d.left_since device one P = weakened d.moment d.left_since device one _ P c.read_at.ensures.any_moment
    (λ f is. subst P (sym is) (kept_of h j.len j.root.number (ns ++ j.growing ∷ []) old q.small root)) in
    let second : LeavesOnly d.moment d.left_since one two P = weakened d.moment d.left_since one two _ P c.blank_at.ensures.any_moment (λ f near.
    while_copied h j.len j.root.number j.growing p ns old q.small q.behind q.apart root free.behind free.small free.apart f (subst (λ (o : List ℕ). Beside p j.len o f) c.read_at.ensures.seen near)) in
    runs_on d.moment d.left_since device one two P first second

pub returns-in_err-copy_at-clause-any_moment : goal.returns-in_err-copy_at-clause-any_moment
returns-in_err-copy_at-clause-any_moment g c = λ honest.
    let j = c.args.self.now in
    let q = c.requires.regions in
    let free = c.requires.free in
    let d = g.D.Device in
    let h = j.root.log.device.len in
    let p = c.args.place in
    let ns : List ℕ = j.closed.items in
    let device = j.root.log.device.device in
    let one = c.read_at.new.self.log.device.device in
    let two = c.blank_at.new.self.log.device.device in
    let three = c.copy_at.new.self.log.device.device in
    let old = d.seen device in
    let root = q.names (c.read_at.ensures.honest (c.blank_at.ensures.honest (sym c.copy_at.ensures.honest ∙ honest))) in
    let P : List ℕ → Type 0 = HasRecords h j.len (records_at j.len (ns ++ j.growing ∷ []) old) in
    let blanked : Beside p j.len old (d.seen two) = subst (λ (o : List ℕ). Beside p j.len o (d.seen two)) c.read_at.ensures.seen c.blank_at.ensures.beside in
    let first : LeavesOnly d.moment d.left_since device one P = weakened d.moment d.left_since device one _ P c.read_at.ensures.any_moment
    (λ f is. subst P (sym is) (kept_of h j.len j.root.number (ns ++ j.growing ∷ []) old q.small root)) in
    let second : LeavesOnly d.moment d.left_since one two P = weakened d.moment d.left_since one two _ P c.blank_at.ensures.any_moment (λ f near.
    while_copied h j.len j.root.number j.growing p ns old q.small q.behind q.apart root free.behind free.small free.apart f (subst (λ (o : List ℕ). Beside p j.len o f) c.read_at.ensures.seen near)) in
    let third : LeavesOnly d.moment d.left_since two three P = weakened d.moment d.left_since two three _ P c.copy_at.ensures.left (λ f near.
    while_copied h j.len j.root.number j.growing p ns old q.small q.behind q.apart root free.behind free.small free.apart f (beside_both p j.len old (d.seen two) f blanked near)) in
    runs_on d.moment d.left_since device two three P (runs_on d.moment d.left_since device one two P first second) third

pub returns-clause-any_moment : goal.returns-clause-any_moment
returns-clause-any_moment g c = λ honest.
    let j = c.args.self.now in
    let q = c.requires.regions in
    let free = c.requires.free in
    let d = g.D.Device in
    let h = j.root.log.device.len in
    let p = c.args.place in
    let ns : List ℕ = j.closed.items in
    let device = j.root.log.device.device in
    let one = c.read_at.new.self.log.device.device in
    let two = c.blank_at.new.self.log.device.device in
    let three = c.copy_at.new.self.log.device.device in
    let old = d.seen device in
    let root = q.names (c.read_at.ensures.honest (c.blank_at.ensures.honest (sym c.copy_at.ensures.honest ∙ honest))) in
    let P : List ℕ → Type 0 = HasRecords h j.len (records_at j.len (ns ++ j.growing ∷ []) old) in
    let blanked : Beside p j.len old (d.seen two) = subst (λ (o : List ℕ). Beside p j.len o (d.seen two)) c.read_at.ensures.seen c.blank_at.ensures.beside in
    let first : LeavesOnly d.moment d.left_since device one P = weakened d.moment d.left_since device one _ P c.read_at.ensures.any_moment
    (λ f is. subst P (sym is) (kept_of h j.len j.root.number (ns ++ j.growing ∷ []) old q.small root)) in
    let second : LeavesOnly d.moment d.left_since one two P = weakened d.moment d.left_since one two _ P c.blank_at.ensures.any_moment (λ f near.
    while_copied h j.len j.root.number j.growing p ns old q.small q.behind q.apart root free.behind free.small free.apart f (subst (λ (o : List ℕ). Beside p j.len o f) c.read_at.ensures.seen near)) in
    let third : LeavesOnly d.moment d.left_since two three P = weakened d.moment d.left_since two three _ P c.copy_at.ensures.left (λ f near.
    while_copied h j.len j.root.number j.growing p ns old q.small q.behind q.apart root free.behind free.small free.apart f (beside_both p j.len old (d.seen two) f blanked near)) in
    runs_on d.moment d.left_since device two three P (runs_on d.moment d.left_since device one two P first second) third

pub returns-clause-beside : goal.returns-clause-beside
returns-clause-beside g c =
    let j = c.args.self.now in
    let d = g.D.Device in
    let p = c.args.place in
    let old = d.seen j.root.log.device.device in
    let two = d.seen c.blank_at.new.self.log.device.device in
    beside_both p j.len old two (d.seen c.copy_at.new.self.log.device.device) (subst (λ (o : List ℕ). Beside p j.len o two) c.read_at.ensures.seen c.blank_at.ensures.beside) c.copy_at.ensures.beside

pub returns-clause-copied : goal.returns-clause-copied
returns-clause-copied g c = λ honest.
    let j = c.args.self.now in
    let d = g.D.Device in
    let p = c.args.place in
    let old = d.seen j.root.log.device.device in
    let two = d.seen c.blank_at.new.self.log.device.device in
    let three = d.seen c.copy_at.new.self.log.device.device in
    let batch = batch_bytes c.read_at.new.batch in
    let read : records batch ≡ records (part j.growing j.len old) =
    c.in_ok-read_at.ensures.read (c.blank_at.ensures.honest (sym c.copy_at.ensures.honest ∙ honest)) ∙ ap (λ (bytes : List ℕ). records bytes ++ records (part j.growing j.len old)) c.new-batch.ensures in
    let none : records (part p j.len two) ≡ [] = ap (map text_of) (blank_frames j.len (part p j.len two) c.in_ok-blank_at.ensures.zeros) in
    c.in_ok-copy_at.ensures.copied ∙ ap (λ (rs : List (List ℕ)). rs ++ records batch) none ∙ read

pub returns-clause-regions : goal.returns-clause-regions
returns-clause-regions g c =
    let j = c.args.self.now in
    let q = c.requires.regions in
    let free = c.requires.free in
    let d = g.D.Device in
    let h = j.root.log.device.len in
    let p = c.args.place in
    let places : List ℕ = j.closed.items ++ j.growing ∷ [] in
    let one = c.read_at.new.self in
    let two = c.blank_at.new.self in
    let three = c.copy_at.new.self in
    let old = d.seen j.root.log.device.device in
    let fin = d.seen three.log.device.device in
    let half_is : three.log.device.len ≡ h = c.copy_at.ensures.half ∙ c.blank_at.ensures.half ∙ c.read_at.ensures.half in
    let number_is : three.number ≡ j.root.number = c.copy_at.ensures.number ∙ c.blank_at.ensures.number ∙ c.read_at.ensures.number in
    let long : length fin ≡ length old = c.copy_at.ensures.length ∙ c.blank_at.ensures.length ∙ ap length c.read_at.ensures.seen in
    let beside : Beside p j.len old fin = beside_both p j.len old (d.seen two.log.device.device) fin (subst (λ (o : List ℕ). Beside p j.len o (d.seen two.log.device.device)) c.read_at.ensures.seen c.blank_at.ensures.beside) c.copy_at.ensures.beside in
    record {
      root = c.in_ok-copy_at.ensures.root;
      behind = each_so (λ a. h + h ≤ a) (λ a. three.log.device.len + three.log.device.len ≤ a) (λ a low. subst (λ (m : ℕ). m + m ≤ a) (sym half_is) low) places q.behind;
      within = each_so (λ a. a + j.len ≤ length old) (λ a. a + j.len ≤ length fin) (λ a low. subst (λ (m : ℕ). a + j.len ≤ m) (sym long) low) places q.within;
      apart = q.apart;
      small = q.small;
      names = λ honest.
          ap (λ (m : ℕ). root_of m fin) half_is
          ∙ root_apart h p j.len old fin free.behind beside ∙ q.names (c.read_at.ensures.honest (c.blank_at.ensures.honest (sym c.copy_at.ensures.honest ∙ honest)))
          ∙ ap (λ (m : ℕ). Some (numbered m (regions_text j.torn places))) (sym number_is);
    }

pub returns-in_err-read_at-clause-left : goal.returns-in_err-read_at-clause-left
returns-in_err-read_at-clause-left g c =
    let j = c.args.self.now in
    let d = g.D.Device in
    let device = j.root.log.device.device in
    weakened d.moment d.left_since device c.read_at.new.self.log.device.device _ _ c.read_at.ensures.any_moment
    (λ f is. subst (Beside c.args.place j.len (d.seen device)) (sym is) (beside_self c.args.place j.len (d.seen device)))

pub returns-in_err-blank_at-clause-left : goal.returns-in_err-blank_at-clause-left
returns-in_err-blank_at-clause-left g c =
    let j = c.args.self.now in
    let d = g.D.Device in
    let p = c.args.place in
    let device = j.root.log.device.device in
    let one = c.read_at.new.self.log.device.device in
    let two = c.blank_at.new.self.log.device.device in
    let P : List ℕ → Type 0 = Beside p j.len (d.seen device) in
    let first : LeavesOnly d.moment d.left_since device one P = weakened d.moment d.left_since device one _ P c.read_at.ensures.any_moment (λ f is. subst P (sym is) (beside_self p j.len (d.seen device))) in
    runs_on d.moment d.left_since device one two P first (weakened d.moment d.left_since one two _ P c.blank_at.ensures.any_moment (λ f near. subst (λ (o : List ℕ). Beside p j.len o f) c.read_at.ensures.seen near))

pub returns-in_err-copy_at-clause-left : goal.returns-in_err-copy_at-clause-left
returns-in_err-copy_at-clause-left g c =
    let j = c.args.self.now in
    let d = g.D.Device in
    let p = c.args.place in
    let device = j.root.log.device.device in
    let one = c.read_at.new.self.log.device.device in
    let two = c.blank_at.new.self.log.device.device in
    let three = c.copy_at.new.self.log.device.device in
    let P : List ℕ → Type 0 = Beside p j.len (d.seen device) in
    let first : LeavesOnly d.moment d.left_since device one P = weakened d.moment d.left_since device one _ P c.read_at.ensures.any_moment (λ f is. subst P (sym is) (beside_self p j.len (d.seen device))) in
    let second = runs_on d.moment d.left_since device one two P first (weakened d.moment d.left_since one two _ P c.blank_at.ensures.any_moment (λ f near. subst (λ (o : List ℕ). Beside p j.len o f) c.read_at.ensures.seen near)) in
    let blanked : Beside p j.len (d.seen device) (d.seen two) = subst (λ (o : List ℕ). Beside p j.len o (d.seen two)) c.read_at.ensures.seen c.blank_at.ensures.beside in
    runs_on d.moment d.left_since device two three P second (weakened d.moment d.left_since two three _ P c.copy_at.ensures.left (λ f near. beside_both p j.len (d.seen device) (d.seen two) f blanked near))

pub returns-clause-left : goal.returns-clause-left
returns-clause-left g c =
    let j = c.args.self.now in
    let d = g.D.Device in
    let p = c.args.place in
    let device = j.root.log.device.device in
    let one = c.read_at.new.self.log.device.device in
    let two = c.blank_at.new.self.log.device.device in
    let three = c.copy_at.new.self.log.device.device in
    let P : List ℕ → Type 0 = Beside p j.len (d.seen device) in
    let first : LeavesOnly d.moment d.left_since device one P = weakened d.moment d.left_since device one _ P c.read_at.ensures.any_moment (λ f is. subst P (sym is) (beside_self p j.len (d.seen device))) in
    let second = runs_on d.moment d.left_since device one two P first (weakened d.moment d.left_since one two _ P c.blank_at.ensures.any_moment (λ f near. subst (λ (o : List ℕ). Beside p j.len o f) c.read_at.ensures.seen near)) in
    let blanked : Beside p j.len (d.seen device) (d.seen two) = subst (λ (o : List ℕ). Beside p j.len o (d.seen two)) c.read_at.ensures.seen c.blank_at.ensures.beside in
    runs_on d.moment d.left_since device two three P second (weakened d.moment d.left_since two three _ P c.copy_at.ensures.left (λ f near. beside_both p j.len (d.seen device) (d.seen two) f blanked near))
