-- A record may be kept behind those that are there.
use Rattle.std.proofs.Common.{◌≡◌, inl, inr, ⊎_elim, ℕ, zero, suc, ◌≤◌, List, [], ◌∷◌, ◌++◌, length, take, sym, ◌∙◌, ap, append-nil, arith}
use Rattle.std.specs.Prelude.{Option, None, Some}
use Rattle.cq_disk.specs.declared.device.Device.{Ghosts}
use Rattle.cq_journal.specs.declared.journal.Journal.{Journal}
use Rattle.cq_journal.specs.Base.{HasEitherRecords}
use Rattle.cq_journal.specs.Journal.{journal_half, journal_records, region_len}
use Rattle.cq_journal.specs.Regions.{HasPrefixOf, kept}
use Rattle.cq_journal.specs.Rests.{Rests}
use Rattle.cq_journal.proofs.Appends.{prefix_back}
use Rattle.cq_kept_session.specs.Texts.{opened}

-- so many of one record, or of none
some_of : (half len : ℕ) (rs more all : List (List ℕ)) (c : List ℕ) (many : ℕ) → length more ≤ 1 → all ≡ rs ++ more → kept half len c ≡ Some (rs ++ take many more) → HasEitherRecords half len rs all c
some_of half len rs more all c zero short all_is is = inl (is ∙ ap (λ (xs : List (List ℕ)). Some xs) (append-nil rs))
some_of half len rs [] all c (suc many) short all_is is = inl (is ∙ ap (λ (xs : List (List ℕ)). Some xs) (append-nil rs))
some_of half len rs (r ∷ []) all c (suc zero) short all_is is = inr (is ∙ ap (λ (xs : List (List ℕ)). Some xs) (sym all_is))
some_of half len rs (r ∷ []) all c (suc (suc many)) short all_is is = inr (is ∙ ap (λ (xs : List (List ℕ)). Some xs) (sym all_is))
some_of half len rs (r ∷ s ∷ more) all c (suc many) short all_is is = absurd (omega (arith, short))

pub prefix_opened : {D : Type 0} {g : Ghosts D} (old new : Journal D g) → Rests old new → (more all : List (List ℕ)) → length more ≤ 1 → all ≡ journal_records old ++ more → (c : List ℕ)
    → HasPrefixOf (journal_half new) (region_len new) (journal_records new) more c → HasEitherRecords (journal_half old) (region_len old) (journal_records old) all c
prefix_opened old new rests more all short all_is c prefix =
    let back = prefix_back old new more rests.half rests.len rests.records c prefix in
    some_of (journal_half old) (region_len old) (journal_records old) more all c back.0 short all_is back.1

-- ---- records that are found

abbrev of_some : Option (List (List ℕ)) → List (List ℕ)
of_some None = []
of_some (Some found) = found

pub same_found : (rs found : List (List ℕ)) (o : Option (List (List ℕ))) → o ≡ Some rs → o ≡ Some found → found ≡ rs
same_found rs found o is are = ap of_some (sym are ∙ is)

-- with halves and regions of the same lengths, by sessions on as many servers
pub either_at : (size asked half len h l : ℕ) (rs found : List (List ℕ)) (c : List ℕ) → asked ≡ size → h ≡ half → l ≡ len → found ≡ rs → HasEitherRecords h l found (opened asked found) c → HasEitherRecords half len rs (opened size rs) c
either_at size asked half len h l rs found c size_is half_is len_is found_is either = ⊎_elim
    (λ old. inl ((λ i. kept (sym half_is i) (sym len_is i) c) ∙ old ∙ ap (λ (xs : List (List ℕ)). Some xs) found_is))
    (λ more. inr ((λ i. kept (sym half_is i) (sym len_is i) c) ∙ more ∙ (λ i. Some (opened (size_is i) (found_is i)))))
    either
