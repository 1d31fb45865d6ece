-- The contents that a device in memory has had.
use Rattle.std.specs.Prelude.{◌≡◌, ◌⊎◌, ℕ, zero, suc, ◌≤◌, List, [], ◌∷◌, ◌++◌, length, drop, Vec, refl}
use mathlib.Core.Logic.{inl, inr}
use Rattle.std.proofs.Common.{sym, ◌∙◌, ap, subst, arith, append_assoc, ⊎_elim}
use Rattle.std.proofs.lemmas.List.{append-nil, drop_at}
use Rattle.std.specs.declared.alloc.Global.{Global}

-- one of them is this
abbrev pub HadBeen : List (Vec ℕ Global) → List ℕ → Type 0
HadBeen [] bytes = ⊥
HadBeen (v ∷ past) bytes = (bytes ≡ v.items) ⊎ HadBeen past bytes

none_since : (past : List (Vec ℕ Global)) (c : List ℕ) → HadBeen (drop (length past) past) c → ⊥
none_since [] c had = had
none_since (v ∷ past) c had = none_since past c had

-- behind the last of them there is only what is there now
pub only_bytes : (past : List (Vec ℕ Global)) (bytes c : List ℕ) → (c ≡ bytes) ⊎ HadBeen (drop (length past) past) c → c ≡ bytes
only_bytes past bytes c (inl now) = now
only_bytes past bytes c (inr had) = absurd (none_since past c had)

-- the later contents begin with the earlier ones
abbrev pub HasMore : List (Vec ℕ Global) → List (Vec ℕ Global) → Type 0
HasMore past later = (more : List (Vec ℕ Global)) × (later ≡ past ++ more)

pub no_more : (past : List (Vec ℕ Global)) → HasMore past past
no_more past = ([], sym (append-nil past))

pub still_more : (a b c : List (Vec ℕ Global)) → HasMore a b → HasMore b c → HasMore a c
still_more a b c p q = (p.0 ++ q.0, q.1 ∙ ap (λ (l : List (Vec ℕ Global)). l ++ q.0) p.1 ∙ append_assoc a p.0 q.0)

had_parts : (t : ℕ) (past more : List (Vec ℕ Global)) (c : List ℕ) → t ≤ length past → HadBeen (drop t (past ++ more)) c → HadBeen (drop t past) c ⊎ HadBeen more c
had_parts zero [] more c le had = inr had
had_parts zero (v ∷ past) more c le (inl here) = inl (inl here)
had_parts zero (v ∷ past) more c le (inr there) = ⊎_elim (λ early. inl (inr early)) (λ late. inr late) (had_parts zero past more c (omega arith) there)
had_parts (suc t) [] more c le had = absurd (omega (arith, le))
had_parts (suc t) (v ∷ past) more c le had = had_parts t past more c (omega (arith, le)) had

-- what it has been since a moment, it had been before, or has been since
pub had_splits : (past later : List (Vec ℕ Global)) (bytes new : List ℕ) → HasMore past later → (t : ℕ) (c : List ℕ) → t ≤ length past
    → (c ≡ new) ⊎ HadBeen (drop t later) c → ((c ≡ bytes) ⊎ HadBeen (drop t past) c) ⊎ ((c ≡ new) ⊎ HadBeen (drop (length past) later) c)
had_splits past later bytes new more t c le (inl now) = inr (inl now)
had_splits past later bytes new more t c le (inr had) =
    let behind : drop (length past) later ≡ more.0 = ap (λ (l : List (Vec ℕ Global)). drop (length past) l) more.1 ∙ drop_at past more.0 (length past) refl in
    ⊎_elim (λ early. inl (inr early)) (λ late. inr (inr (subst (λ (l : List (Vec ℕ Global)). HadBeen l c) (sym behind) late))) (had_parts t past more.0 c le (subst (λ (l : List (Vec ℕ Global)). HadBeen (drop t l) c) more.1 had))
