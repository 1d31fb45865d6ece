-- Each step of an inbox's ends keeps its rule.
use Rattle.std.proofs.Common.{◌≡◌, ◌≢◌, ◌⊎◌, ℕ, zero, suc, Bool, true, false, cond, true≢false, List, [], ◌∷◌, ◌++◌, length, drop, set, sym, refl, ap, ◌∙◌, subst, inl, inr, ⊎_elim, append_assoc, append-nil}
use Rattle.std.proofs.Math.Seq.{drop-append_seam}
use mathlib.Core.Option.{some, some-ne-none}
use lib.ListN.{get_elem?}
use Rattle.crossbeam_channel.specs.Fifo.{Pushes, Pops, Forks, Merges, Learns}
use Rattle.atomic_table.proofs.Lists.{at_set, at_snoc}
use Rattle.cq_link.specs.declared.rule.Tagged.{Tagged}
use Rattle.cq_link.specs.declared.rule.Known.{Known}
use Rattle.cq_link.specs.Tags.{same, only, if_of, of, put_by}
use Rattle.cq_link.specs.within.Rules.{known, in_roles, may_put, after_put, after_take, Fits, Delivers, Total, HasAll, Settled}

-- ---- lists of views

at_end : {V : Type 0} (l : List V) (a b : V) (j : ℕ) → get_elem? l j ≢ some b → get_elem? (l ++ a ∷ []) j ≡ some b → j ≡ length l
at_end [] a b zero n e = refl
at_end [] a b (suc j) n e = absurd (some-ne-none b (sym e))
at_end (x ∷ xs) a b zero n e = absurd (n e)
at_end (x ∷ xs) a b (suc j) n e = ap suc (at_end xs a b j n e)

abbrev Every : {V : Type 0} → (ℕ → V → Type 0) → List V → Type 0
Every {V} F views = (pass : ℕ) (v : V) → get_elem? views pass ≡ some v → F pass v

every_set : {V : Type 0} (F : ℕ → V → Type 0) (views : List V) (pass : ℕ) (w : V) → F pass w → ((j : ℕ) (u : V) → j ≢ pass → get_elem? views j ≡ some u → F j u) → Every F (set views pass w)
every_set {V} F views pass w mine others j u e = ⊎_elim (λ (x : (j ≡ pass) × (w ≡ u)). subst (λ (y : ℕ × V). F y.0 y.1) (λ i. (sym x.0 i, x.1 i)) mine)
    (λ (x : (j ≢ pass) × (get_elem? views j ≡ some u)). others j u x.0 x.1) (at_set views pass j w u e)

-- ---- ends

not_true : (b : Bool) → b ≢ true → b ≡ false
not_true true n = absurd (n refl)
not_true false n = refl

apart : (e d : Bool) → e ≢ d → same e d ≡ false
apart true true n = absurd (n refl)
apart true false n = refl
apart false true n = refl
apart false false n = absurd (n refl)

pub same_self : (e : Bool) → same e e ≡ true
same_self true = refl
same_self false = refl

module _ {T : Type 0} where
  pub of-append : (e : Bool) (xs ys : List (Tagged T)) → of e (xs ++ ys) ≡ of e xs ++ of e ys
  of-append e [] ys = refl
  of-append e (x ∷ xs) ys = ap (λ l. if_of e x ++ l) (of-append e xs ys) ∙ sym (append_assoc (if_of e x) (of e xs) (of e ys))

  of-snoc : (e : Bool) (got items : List (Tagged T)) (x : Tagged T) → of e (got ++ (items ++ x ∷ [])) ≡ of e (got ++ items) ++ if_of e x
  of-snoc e got items x = ap (of e) (sym (append_assoc got items (x ∷ []))) ∙ of-append e (got ++ items) (x ∷ []) ∙ ap (λ l. of e (got ++ items) ++ l) (append-nil (if_of e x))

  may_after : (e : Bool) (v : Known T) (x : Tagged T) → may_put e (after_put v x) ≡ may_put e v
  may_after true v x = refl
  may_after false v x = refl

  put_after : (e : Bool) (v : Known T) (x : Tagged T) → put_by e (after_put v x) ≡ put_by e v ++ if_of e x
  put_after true v x = refl
  put_after false v x = refl

  may_take : (e : Bool) (v : Known T) (x : Tagged T) → may_put e (after_take v x) ≡ may_put e v
  may_take true v x = refl
  may_take false v x = refl

  pub put_take : (e : Bool) (v : Known T) (x : Tagged T) → put_by e (after_take v x) ≡ put_by e v
  put_take true v x = refl
  put_take false v x = refl

  put_roles : (e a b c : Bool) (v : Known T) → put_by e (in_roles a b c v) ≡ put_by e v
  put_roles true a b c v = refl
  put_roles false a b c v = refl

  -- ---- the steps

  pub begins : Delivers [] (known {T = T} true true true [] [] [] ∷ [])
  begins = (
    λ _. 0,
    0,
    [],
    every_set (Fits (λ _. 0) 0 [] []) (known {T = T} true true true [] [] [] ∷ []) 0 (known {T = T} true true true [] [] []) ((λ e _. (refl, nothing e)), λ _. (refl, refl))
        (λ j u other e. absurd (other (at_end [] _ u j (λ x. some-ne-none u (sym x)) e))),
  )
    where
      nothing : (e : Bool) → put_by e (known {T = T} true true true [] [] []) ≡ []
      nothing true = refl
      nothing false = refl

  pub sends : (n pass : ℕ) (v : Known T) (x : Tagged T) → may_put x.second v ≡ true → Pushes Delivers n pass v x (λ w. w ≡ after_put v x)
  sends n pass v x may items views _ h at = let w : Known T = after_put v x in let mine = h.3 pass v at in (
    w,
    (
      h.0,
      h.1,
      h.2,
      every_set (Fits h.0 h.1 h.2 (items ++ x ∷ [])) views pass w (
        (λ e role.
            let was = mine.0 e (sym (may_after e v x) ∙ role) in
            (was.0, put_after e v x ∙ ap (λ l. l ++ if_of e x) was.1 ∙ sym (of-snoc e h.2 items x))),
        mine.1,
      )
          (λ j u other there. (
            (λ e role.
                let was = (h.3 j u there).0 e role in
                let others : same e x.second ≡ false = apart e x.second (λ is. other (sym was.0 ∙ ap h.0 is ∙ (mine.0 x.second may).0)) in
                (was.0, was.1 ∙ sym (of-snoc e h.2 items x ∙ ap (λ b. of e (h.2 ++ items) ++ only b x.item) others ∙ append-nil (of e (h.2 ++ items))))),
            (h.3 j u there).1,
          )),
    ),
    refl,
  )

  pub gets : (pass : ℕ) (v : Known T) → v.takes ≡ true → Pops Delivers pass v (λ x w. w ≡ after_take v x)
  gets pass v may x items views h at = let w : Known T = after_take v x in let mine = h.3 pass v at in let got = h.2 ++ x ∷ [] in
      let moves : (e : Bool) → of e (h.2 ++ x ∷ items) ≡ of e (got ++ items) = λ e. ap (of e) (sym (append_assoc h.2 (x ∷ []) items)) in (
        w,
        (
          h.0,
          h.1,
          got,
          every_set (Fits h.0 h.1 got items) views pass w
              ((λ e role. let was = mine.0 e (sym (may_take e v x) ∙ role) in (was.0, put_take e v x ∙ was.1 ∙ moves e)), λ _. ((mine.1 may).0, ap (λ l. l ++ x ∷ []) (mine.1 may).1))
              (λ j u other there.
              ((λ e role. let was = (h.3 j u there).0 e role in (was.0, was.1 ∙ moves e)), λ p. absurd (other (sym ((h.3 j u there).1 p).0 ∙ (mine.1 may).0)))),
        ),
        refl,
      )

  pub totals : (pass : ℕ) (v : Known T) → HasAll v → Learns Delivers pass v (Total v)
  totals pass v all items views h at e = let mine = h.3 pass v at in (mine.0 e (may e)).1 ∙ ap (λ g. of e (g ++ items)) (sym (mine.1 all.2).1)
    where
      may : (e : Bool) → may_put e v ≡ true
      may true = all.1
      may false = all.0

  pub settles : (pass : ℕ) (v : Known T) → HasAll v → Pops Delivers pass v (Settled v)
  settles pass v all x items views h at = let step = gets pass v all.2 x items views h at in (step.0, step.1, (step.2, (items, totals pass v all (x ∷ items) views h at)))

  -- the roles of a pass go to two
  abbrev Cut : Known T → Known T → Known T → Type 0
  Cut v l r = ((e : Bool) → may_put e l ≡ true → (may_put e v ≡ true) × (put_by e l ≡ put_by e v) × (may_put e r ≢ true))
      × ((e : Bool) → may_put e r ≡ true → (may_put e v ≡ true) × (put_by e r ≡ put_by e v))
      × (l.takes ≢ true)
      × (r.takes ≡ true → (v.takes ≡ true) × (r.got ≡ v.got))

  forks : (pass : ℕ) (v l r : Known T) → r.takes ≡ true → Cut v l r → Forks Delivers pass v l r
  forks pass v l r reads cut items views h at = let mine = h.3 pass v at in let vs : List (Known T) = set views pass l in
      let seats : Bool → ℕ = λ e. cond (may_put e r) (length vs) (h.0 e) in
      let Old : ℕ → Known T → Type 0 = λ j u. ((e : Bool) → may_put e u ≡ true → (may_put e r ≢ true) × (h.0 e ≡ j) × (put_by e u ≡ of e (h.2 ++ items))) × (u.takes ≢ true) in
      let old : Every Old vs = every_set Old views pass l
      ((λ e role. let c = cut.0 e role in let was = mine.0 e c.0 in (c.2, was.0, c.1 ∙ was.1)), cut.2)
      (λ j u other there. (
        (λ e role. let was = (h.3 j u there).0 e role in ((λ moved. other (sym was.0 ∙ (mine.0 e (cut.1 e moved).0).0)), was.0, was.1)),
        λ p. other (sym ((h.3 j u there).1 p).0 ∙ (mine.1 (cut.3 reads).0).0),
      )) in (
        seats,
        length vs,
        h.2,
        λ j u there. ⊎_elim
            (λ x. (
              (λ e role. let was = (old j u x).0 e role in (ap (λ b. cond b (length vs) (h.0 e)) (not_true (may_put e r) was.0) ∙ was.1, was.2)),
              λ p. absurd ((old j u x).1 p),
            ))
            (λ (is : r ≡ u). (
              (λ e role.
                  let moved : may_put e r ≡ true = ap (may_put e) is ∙ role in
                  let here : j ≡ length vs = at_end vs r u j (λ x. ((old j u x).0 e role).0 moved) there in
                  (ap (λ b. cond b (length vs) (h.0 e)) moved ∙ sym here, ap (put_by e) (sym is) ∙ (cut.1 e moved).1 ∙ (mine.0 e (cut.1 e moved).0).1)),
              λ p.
                  (sym (at_end vs r u j (λ x. (old j u x).1 p) there), ap (λ (y : Known T). y.got) (sym is) ∙ (cut.3 reads).1 ∙ (mine.1 (cut.3 reads).0).1),
            ))
            (at_snoc vs r u j there),
      )

  pub cuts_first : (pass : ℕ) (v : Known T) → HasAll v → Forks Delivers pass v (in_roles true false false v) (in_roles false true true v)
  cuts_first pass v all = forks pass v (in_roles true false false v) (in_roles false true true v) refl (left, right, (λ p. true≢false (sym p)), λ _. (all.2, refl))
    where
      left : (e : Bool) → may_put e (in_roles true false false v) ≡ true → (may_put e v ≡ true) × (put_by e (in_roles true false false v) ≡ put_by e v) × (may_put e (in_roles false true true v) ≢ true)
      left true role = absurd (true≢false (sym role))
      left false role = (all.0, refl, λ p. true≢false (sym p))

      right : (e : Bool) → may_put e (in_roles false true true v) ≡ true → (may_put e v ≡ true) × (put_by e (in_roles false true true v) ≡ put_by e v)
      right true role = (all.1, refl)
      right false role = absurd (true≢false (sym role))

  pub cuts_second : (pass : ℕ) (v : Known T) → v.second ≡ true → v.takes ≡ true → Forks Delivers pass v (in_roles false true false v) (in_roles false false true v)
  cuts_second pass v puts takes = forks pass v (in_roles false true false v) (in_roles false false true v) refl (left, right, (λ p. true≢false (sym p)), λ _. (takes, refl))
    where
      left : (e : Bool) → may_put e (in_roles false true false v) ≡ true → (may_put e v ≡ true) × (put_by e (in_roles false true false v) ≡ put_by e v) × (may_put e (in_roles false false true v) ≢ true)
      left true role = (puts, refl, λ p. true≢false (sym p))
      left false role = absurd (true≢false (sym role))

      right : (e : Bool) → may_put e (in_roles false false true v) ≡ true → (may_put e v ≡ true) × (put_by e (in_roles false false true v) ≡ put_by e v)
      right true role = absurd (true≢false (sym role))
      right false role = absurd (true≢false (sym role))

  abbrev spent : Known T
  spent = known false false false [] [] []

  -- each role of the joined pass was one of the two passes'
  abbrev Joined : Known T → Known T → Known T → Type 0
  Joined v w both = ((e : Bool) → may_put e both ≡ true → ((may_put e v ≡ true) × (put_by e both ≡ put_by e v)) ⊎ ((may_put e w ≡ true) × (put_by e both ≡ put_by e w)))
      × (both.takes ≡ true → ((v.takes ≡ true) × (both.got ≡ v.got)) ⊎ ((w.takes ≡ true) × (both.got ≡ w.got)))

  merges : (pass : ℕ) (v : Known T) (other : ℕ) (w both : Known T) → Joined v w both → Merges Delivers pass v other w both spent
  merges pass v other w both joined items views h at two at' = let mine = h.3 pass v at in let vs : List (Known T) = set views pass both in
      let was : get_elem? views other ≡ some w = ⊎_elim (λ x. absurd (two x.0)) (λ x. x.1) (at_set views pass other both w at') in
      let theirs = h.3 other w was in
      let seats : Bool → ℕ = λ e. cond (may_put e both) pass (h.0 e) in
      let taker : ℕ = cond both.takes pass h.1 in
      let Now : ℕ → Known T → Type 0 = λ j y. j ≢ other → Fits seats taker h.2 items j y in
      let now : Every Now vs = every_set Now views pass both
      (λ _. (
        (λ e role.
            (ap (λ b. cond b pass (h.0 e)) role, ⊎_elim (λ c. c.1 ∙ (mine.0 e c.0).1) (λ c. c.1 ∙ (theirs.0 e c.0).1) (joined.0 e role))),
        λ p. (ap (λ b. cond b pass h.1) p, ⊎_elim (λ c. c.1 ∙ (mine.1 c.0).1) (λ c. c.1 ∙ (theirs.1 c.0).1) (joined.1 p)),
      ))
      (λ j y one there two'. (
        (λ e role.
            let old = (h.3 j y there).0 e role in
            let kept : may_put e both ≡ false = not_true (may_put e both) (λ r. ⊎_elim (λ c. one (sym old.0 ∙ (mine.0 e c.0).0)) (λ c. two' (sym old.0 ∙ (theirs.0 e c.0).0)) (joined.0 e r)) in
            (ap (λ b. cond b pass (h.0 e)) kept ∙ old.0, old.1)),
        λ p.
            let old = (h.3 j y there).1 p in
            let kept : both.takes ≡ false = not_true both.takes (λ r. ⊎_elim (λ c. one (sym old.0 ∙ (mine.1 c.0).0)) (λ c. two' (sym old.0 ∙ (theirs.1 c.0).0)) (joined.1 r)) in
            (ap (λ b. cond b pass h.1) kept ∙ old.0, old.1),
      )) in (
        seats,
        taker,
        h.2,
        every_set (Fits seats taker h.2 items) vs other spent ((λ e role. absurd (true≢false (sym role ∙ none e))), λ p. absurd (true≢false (sym p)))
            (λ j y two' there. now j y there two'),
      )
    where
      none : (e : Bool) → may_put e spent ≡ false
      none true = refl
      none false = refl

  -- the second end's pass joins
  pub joins_first : (pass : ℕ) (v : Known T) (other : ℕ) (w : Known T) → v.first ≡ true → w.second ≡ true → v.takes ≡ true → Merges Delivers pass v other w (known true true v.takes v.of_first w.of_second v.got) spent
  joins_first pass v other w one two takes = merges pass v other w (known true true v.takes v.of_first w.of_second v.got) (puts, λ p. inl (p, refl))
    where
      puts : (e : Bool) → may_put e (known true true v.takes v.of_first w.of_second v.got) ≡ true
          → ((may_put e v ≡ true) × (put_by e (known true true v.takes v.of_first w.of_second v.got) ≡ put_by e v)) ⊎ ((may_put e w ≡ true) × (put_by e (known true true v.takes v.of_first w.of_second v.got) ≡ put_by e w))
      puts true role = inr (two, refl)
      puts false role = inl (one, refl)

  -- the taking end's pass joins
  pub joins_second : (pass : ℕ) (v : Known T) (other : ℕ) (w : Known T) → w.takes ≡ true → Merges Delivers pass v other w (known v.first v.second true v.of_first v.of_second w.got) spent
  joins_second pass v other w takes = merges pass v other w (known v.first v.second true v.of_first v.of_second w.got) (puts, λ p. inr (takes, refl))
    where
      puts : (e : Bool) → may_put e (known v.first v.second true v.of_first v.of_second w.got) ≡ true
          → ((may_put e v ≡ true) × (put_by e (known v.first v.second true v.of_first v.of_second w.got) ≡ put_by e v)) ⊎ ((may_put e w ≡ true) × (put_by e (known v.first v.second true v.of_first v.of_second w.got) ≡ put_by e w))
      puts true role = inl (role, refl)
      puts false role = inl (role, refl)

  -- ---- what is left

  pub left_is : (e : Bool) (v : Known T) (items : List (Tagged T)) → Total v items → drop (length (of e v.got)) (put_by e v) ≡ of e items
  left_is e v items total = ap (drop (length (of e v.got))) (total e ∙ of-append e v.got items) ∙ drop-append_seam (of e v.got) (of e items)

  pub settled_is : (e : Bool) (v : Known T) (items : List (Tagged T)) → Total v items → of e v.got ++ drop (length (of e v.got)) (put_by e v) ≡ put_by e v
  settled_is e v items total = ap (λ l. of e v.got ++ l) (left_is e v items total) ∙ sym (total e ∙ of-append e v.got items)

  pub total_after : (v : Known T) (x : Tagged T) (items : List (Tagged T)) → Total v (x ∷ items) → Total (after_take v x) items
  total_after v x items total e = put_take e v x ∙ total e ∙ ap (of e) (sym (append_assoc v.got (x ∷ []) items))

  pub takes_left : (e : Bool) (v : Known T) (x : Tagged T) (w : Known T) → Settled v x w → drop (length (of e v.got)) (put_by e v) ≡ if_of e x ++ drop (length (of e w.got)) (put_by e w)
  takes_left e v x w settled = left_is e v (x ∷ settled.1.0) settled.1.1
      ∙ sym (ap (λ (y : Known T). if_of e x ++ drop (length (of e y.got)) (put_by e y)) settled.0 ∙ ap (λ l. if_of e x ++ l) (left_is e (after_take v x) settled.1.0 (total_after v x settled.1.0 settled.1.1)))

  -- what a settled inbox says of an end, by what each of its passes knows
  pub settle_is : (e : Bool) (v w : Known T) (got : List (Tagged T)) (put : List T) (items : List (Tagged T)) → Total v items → w ≡ v → got ≡ v.got → put ≡ put_by e v → of e got ++ drop (length (of e w.got)) (put_by e w) ≡ put
  settle_is e v w got put items total kept taken mine = ap (λ (y : List (Tagged T) × Known T). of e y.0 ++ drop (length (of e y.1.got)) (put_by e y.1)) (λ i. (taken i, kept i)) ∙ settled_is e v items total ∙ sym mine
