-- The laws of changes.
use Rattle.std.proofs.Common.{◌≡◌, ⊎_elim, ℕ, List, [], ◌∷◌, ◌++◌, take, refl, sym, ◌∙◌, ap, subst, append_assoc}
use Rattle.std.specs.Prelude.{IsTrue}
use Rattle.cq_disk.specs.declared.device.Device.{Ghosts}
use Rattle.cq_disk.proofs.Moments.{weakened}
use Rattle.cq_journal.specs.declared.journal.Journal.{Journal}
use Rattle.cq_journal.specs.Changes.{Change, adds, replaces, rests, after_all, MayBeLeft, HasLeft, told, added, TellTheSame}
use Rattle.cq_journal.specs.Histories.{MakesAll, Acknowledges, Rewrites, RewritesAtAnyMoment}
use Rattle.cq_journal.specs.Journal.{journal_device, journal_half, journal_records, region_len}
use Rattle.cq_journal.proofs.Regions.{append-none}

-- ---- acknowledged

module _ {D : Type 0} {g : Ghosts D} where
  honest_before : (changes : List Change) (old new : Journal D g) → MakesAll changes old new → IsTrue (g.is_honest (journal_device new)) → IsTrue (g.is_honest (journal_device old))
  honest_before [] old new same honest = subst (λ (j : Journal D g). IsTrue (g.is_honest (journal_device j))) same honest
  honest_before (change ∷ changes) old new all honest = all.1.tries.honest (honest_before changes all.0 new all.2 honest)

  half_before : (changes : List Change) (old new : Journal D g) → MakesAll changes old new → journal_half new ≡ journal_half old
  half_before [] old new same = ap (λ (j : Journal D g). journal_half j) same
  half_before (change ∷ changes) old new all = half_before changes all.0 new all.2 ∙ all.1.half

  len_before : (changes : List Change) (old new : Journal D g) → MakesAll changes old new → region_len new ≡ region_len old
  len_before [] old new same = ap (λ (j : Journal D g). region_len j) same
  len_before (change ∷ changes) old new all = len_before changes all.0 new all.2 ∙ all.1.len

  made : (changes : List Change) (old new : Journal D g) → MakesAll changes old new → IsTrue (g.is_honest (journal_device new)) → journal_records new ≡ after_all (journal_records old) changes
  made [] old new same honest = ap (λ (j : Journal D g). journal_records j) same
  made (change ∷ changes) old new all honest =
      made changes all.0 new all.2 honest ∙ ap (λ (rs : List (List ℕ)). after_all rs changes) (all.1.records (honest_before changes all.0 new all.2 honest))

  pub acknowledged : (changes : List Change) (change : Change) (old mid new : Journal D g) → Acknowledges changes change old mid new
  acknowledged changes change old mid new all tries honest =
      weakened g.moment g.left_since (journal_device mid) (journal_device new) _ (HasLeft (journal_half old) (region_len old) (after_all (journal_records old) changes) change) (tries.moments honest)
      (λ c left. subst (λ (h : ℕ). HasLeft h (region_len old) (after_all (journal_records old) changes) change c) (half_before changes old mid all)
      (subst (λ (l : ℕ). HasLeft (journal_half mid) l (after_all (journal_records old) changes) change c) (len_before changes old mid all)
      (subst (λ (rs : List (List ℕ)). HasLeft (journal_half mid) (region_len mid) rs change c) (made changes old mid all (tries.honest honest)) left)))

-- ---- rewritten

told_parts : (read : List ℕ → List ℕ → List ℕ) (known : List ℕ) (xs ys : List (List ℕ)) → told read known (xs ++ ys) ≡ told read (told read known xs) ys
told_parts read known [] ys = refl
told_parts read known (x ∷ xs) ys = told_parts read (read known x) xs ys

-- what is behind tells the same where what is before it does
behind : (read : List ℕ → List ℕ → List ℕ) (known : List ℕ) (xs ys more : List (List ℕ)) → told read known xs ≡ told read known ys → told read known (xs ++ more) ≡ told read known (ys ++ more)
behind read known xs ys more same = told_parts read known xs more ∙ ap (λ (k : List ℕ). told read k more) same ∙ sym (told_parts read known ys more)

module _ (read : List ℕ → List ℕ → List ℕ) (known : List ℕ) where
  same_told : (xs ys : List (List ℕ)) (changes : List Change) → TellTheSame read known xs changes → told read known xs ≡ told read known ys → told read known (after_all xs changes) ≡ told read known (ys ++ added changes)
  same_told xs ys [] all same = same ∙ ap (told read known) (sym (append-none ys))
  same_told xs ys (adds batch ∷ changes) all same =
      same_told (xs ++ batch) (ys ++ batch) changes all (behind read known xs ys batch same) ∙ ap (told read known) (append_assoc ys batch (added changes))
  same_told xs ys (replaces base ∷ changes) all same = same_told base ys changes all.1 (all.0 ∙ same)
  same_told xs ys (rests ∷ changes) all same = same_told xs ys changes all same

  -- what is asked of all is asked of those before the last, and of the last behind them
  first_ones : (rs : List (List ℕ)) (changes : List Change) (change : Change) → TellTheSame read known rs (changes ++ change ∷ []) → TellTheSame read known rs changes
  first_ones rs [] change all = tt
  first_ones rs (adds batch ∷ changes) change all = first_ones (rs ++ batch) changes change all
  first_ones rs (replaces base ∷ changes) change all = (all.0, first_ones base changes change all.1)
  first_ones rs (rests ∷ changes) change all = first_ones rs changes change all

  last_one : (rs : List (List ℕ)) (changes : List Change) (change : Change) → TellTheSame read known rs (changes ++ change ∷ []) → TellTheSame read known (after_all rs changes) (change ∷ [])
  last_one rs [] change all = all
  last_one rs (adds batch ∷ changes) change all = last_one (rs ++ batch) changes change all
  last_one rs (replaces base ∷ changes) change all = last_one base changes change all.1
  last_one rs (rests ∷ changes) change all = last_one rs changes change all

  left_told : (xs ys : List (List ℕ)) (change : Change) (left : List (List ℕ)) → TellTheSame read known xs (change ∷ []) → told read known xs ≡ told read known ys → MayBeLeft xs change left
      → (many : ℕ) × (told read known left ≡ told read known (ys ++ take many (added (change ∷ []))))
  left_told xs ys (adds batch) left all same may =
      (may.0, ap (told read known) may.1 ∙ behind read known xs ys (take may.0 batch) same ∙ ap (λ (rs : List (List ℕ)). told read known (ys ++ take may.0 rs)) (sym (append-none batch)))
  left_told xs ys (replaces base) left all same may =
      (0, ⊎_elim (λ (old : left ≡ xs). ap (told read known) old ∙ same) (λ (new : left ≡ base). ap (told read known) new ∙ all.0 ∙ same) may ∙ ap (told read known) (sym (append-none ys)))
  left_told xs ys rests left all same may = (0, ap (told read known) may ∙ same ∙ ap (told read known) (sym (append-none ys)))

pub rewrites : Rewrites
rewrites read known rs changes all = same_told read known rs rs changes all refl

pub rewrites_at_any_moment : RewritesAtAnyMoment
rewrites_at_any_moment read known rs changes change left all may =
    left_told read known (after_all rs changes) (rs ++ added changes) change left (last_one read known rs changes change all) (same_told read known rs rs changes (first_ones read known rs changes change all) refl) may
