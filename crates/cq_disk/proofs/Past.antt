-- One more content joins those that a device in memory has had.
use Rattle.std.proofs.Common.{◌≡◌, ◌⊎◌, inl, inr, ⊎_elim, ℕ, zero, suc, ◌≤◌, List, [], ◌∷◌, ◌++◌, length, drop, Vec, refl, sym, ◌∙◌, subst, arith, length-append}
use Rattle.std.specs.declared.alloc.Global.{Global}
use Rattle.cq_disk.specs.Device.{Elapses}
use Rattle.cq_disk.specs.Past.{HadBeen}

abbrev Contents : Type 0
Contents = List (Vec ℕ Global)

stays_had : (past : Contents) (v : Vec ℕ Global) (c : List ℕ) → HadBeen past c → HadBeen (past ++ v ∷ []) c
stays_had [] v c had = absurd had
stays_had (p ∷ past) v c (inl here) = inl here
stays_had (p ∷ past) v c (inr there) = inr (stays_had past v c there)

had_or_new : (past : Contents) (v : Vec ℕ Global) (c : List ℕ) → HadBeen (past ++ v ∷ []) c → HadBeen past c ⊎ (c ≡ v.items)
had_or_new [] v c (inl here) = inr here
had_or_new [] v c (inr none) = absurd none
had_or_new (p ∷ past) v c (inl here) = inl (inl here)
had_or_new (p ∷ past) v c (inr there) = ⊎_elim (λ had. inl (inr had)) (λ new. inr new) (had_or_new past v c there)

newest : (past : Contents) (v : Vec ℕ Global) (c : List ℕ) → c ≡ v.items → HadBeen (past ++ v ∷ []) c
newest [] v c is = inl is
newest (p ∷ past) v c is = inr (newest past v c is)

drop_push : (t : ℕ) (past : Contents) (v : Vec ℕ Global) → t ≤ length past → drop t (past ++ v ∷ []) ≡ drop t past ++ v ∷ []
drop_push zero past v le = refl
drop_push (suc t) [] v le = absurd (omega arith)
drop_push (suc t) (p ∷ past) v le = drop_push t past v (omega arith)

-- what a crash since t might have left
abbrev Since : Contents → List ℕ → ℕ → List ℕ → Type 0
Since past bytes t c = (c ≡ bytes) ⊎ HadBeen (drop t past) c

elapses_push : (past : Contents) (v : Vec ℕ Global) (old new : List ℕ) → v.items ≡ old → Elapses (length past) (length (past ++ v ∷ [])) (Since past old) (Since (past ++ v ∷ []) new) (λ c. c ≡ new)
elapses_push past v old new is = record {
  later = omega (arith, length-append past (v ∷ []));
  nothing_else = λ t c le left. ⊎_elim (λ now. inr now) (λ had. inl (was t c (had_or_new (drop t past) v c (subst (λ (l : Contents). HadBeen l c) (drop_push t past v le) had)))) left;
  keeps = λ t c le left. inr (subst (λ (l : Contents). HadBeen l c) (sym (drop_push t past v le)) (⊎_elim (λ now. newest (drop t past) v c (now ∙ sym is)) (stays_had (drop t past) v c) left));
}
  where
    was : (t : ℕ) (c : List ℕ) → HadBeen (drop t past) c ⊎ (c ≡ v.items) → Since past old t c
    was t c (inl had) = inr had
    was t c (inr new) = inl (new ∙ is)

pub elapses_to : (past later : Contents) (v : Vec ℕ Global) (old new : List ℕ) → v.items ≡ old → later ≡ past ++ v ∷ [] → Elapses (length past) (length later) (Since past old) (Since later new) (λ c. c ≡ new)
elapses_to past later v old new is same =
    subst (λ (l : Contents). Elapses (length past) (length l) (Since past old) (Since l new) (λ c. c ≡ new)) (sym same) (elapses_push past v old new is)
