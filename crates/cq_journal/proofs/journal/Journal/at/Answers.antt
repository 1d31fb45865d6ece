-- What the root names are regions.
use Rattle.std.proofs.Common.{◌≡◌, drop, length, refl, arith, ℕ, ◌+◌, ◌<◌, ◌≤◌, List, [], ◌∷◌, ◌++◌, sym, ◌∙◌, ap, subst}
use Rattle.std.specs.Prelude.{Option, Some, None, MatchOption}
use Rattle.cq_journal.specs.declared.number.TheConstants.{NUMBER_LIMIT}
use Rattle.cq_journal.specs.within.Bounds.{IsWithin}
use Rattle.cq_journal.specs.Regions.{Each, AreApart, torn_in, places_in, regions_text}
use Rattle.cq_journal.specs.Roots.{number_in, numbered}
use Rattle.cq_journal.proofs.Regions.{each_so, each_more, kept_of, last_of}
use Rattle.cq_journal.specs.Numbers.{number_of}
use Rattle.cq_journal.proofs.Halves.{root_is}
use Rattle.cq_journal.proofs.Refused.{some_named, small_number, record_of, closed_within, growing_within, closed_apart}
use Rattle.cq_journal.proofs.journal.Journal.at.Goals.{then-root-ge-NUMBER_LIMIT-via-then-root-ge-NUMBER_LIMIT, then-root-ge-NUMBER_LIMIT-via-else-root-ge-NUMBER_LIMIT+in_ok-is_record_of+then-not-branch, then-not-are_within-via-then-not-are_within, then-not-are_within-via-else-not-are_within+then-not-are_within-2, then-not-are_within-via-else-not-are_within+else-not-are_within-2+then-not-are_apart}
use Rattle.cq_journal.proofs.journal.Journal.at.Goals as goal

if_none : (r : Option ℕ) (A : Type 0) (B : ℕ → Type 0) → MatchOption r A B → ((x : ℕ) → r ≡ Some x → ⊥) → A
if_none None A B is not = is
if_none (Some x) A B is not = absurd (not x refl)

no_items : (xs : List ℕ) → length xs ≡ 0 → xs ≡ []
no_items [] none = refl
no_items (x ∷ xs) none = absurd (omega (arith, none))

pub returns-clause-regions : goal.returns-clause-regions
returns-clause-regions g c =
    let d = g.D.Device in
    let root = c.args.root in
    let h = root.log.device.len in
    let n = c.args.len in
    let seen = d.seen root.log.device.device in
    let closed = c.pop.new.self.items in
    let last = c.in-Some.growing in
    let In : ℕ → Type 0 = IsWithin n (h + h) c.len-whole.result in
    let closed_in : Each In closed = subst (λ (xs : List ℕ). Each In xs) c.deref-3.ensures.value (c.are_within.ensures.within c.if-not-are_within.false) in
    let last_in : In last = (c.are_within-else-not-are_within.ensures.within c.if-not-are_within-2.false).0 in
    record {
      root = c.requires.root;
      behind = each_more (λ a. h + h ≤ a) closed last (each_so In (λ a. h + h ≤ a) (λ a within. within.0) closed closed_in) last_in.0;
      within = subst (λ (k : ℕ). Each (λ a. a + n ≤ k) (closed ++ last ∷ [])) c.len-whole.ensures (each_more (λ a. a + n ≤ c.len-whole.result) closed last (each_so In (λ a. a + n ≤ c.len-whole.result) (λ a within. within.1) closed closed_in) last_in.1);
      apart = subst (λ (xs : List ℕ). Each (λ a. AreApart n a last) xs) c.deref-else-not-are_within-2.ensures.value (c.are_apart.ensures.apart c.if-not-are_apart.false);
      small = each_more (λ a. a < NUMBER_LIMIT) closed last (each_so In (λ a. a < NUMBER_LIMIT) (λ a within. within.2) closed closed_in) last_in.2;
      names = λ honest.
          c.requires.found honest
          ∙ ap (λ (bytes : List ℕ). Some bytes) (sym c.deref-else-root-ge-NUMBER_LIMIT.ensures.value ∙ c.in_ok-is_record_of.ensures.is c.if-not-branch.false
          ∙ ap (λ (xs : List ℕ). numbered root.number (regions_text c.torn_in-torn.result (xs ++ last ∷ []))) c.deref-else-root-ge-NUMBER_LIMIT-2.ensures.value);
    }

pub returns-clause-kept : goal.returns-clause-kept
returns-clause-kept g c = λ honest.
    let root = c.args.root in
    let regions = returns-clause-regions g c in
    kept_of root.log.device.len c.args.len root.number (c.pop.new.self.items ++ c.in-Some.growing ∷ []) (g.D.Device.seen root.log.device.device) regions.small (regions.names honest)

pub is_record_of-requires-clause-growing : goal.is_record_of-requires-clause-growing
is_record_of-requires-clause-growing g c =
    last_of (λ n. n < NUMBER_LIMIT) c.pop.new.self.items c.in-Some.growing (subst (λ (ns : List ℕ). Each (λ n. n < NUMBER_LIMIT) ns) c.in-Some.ensures.items c.in_ok-closed.ensures.small)

pub returns-in_default-clause-damaged : goal.returns-in_default-clause-damaged
returns-in_default-clause-damaged g c = λ err honest i.
    let root = c.args.root in
    let q = c.requires.root in
    let h = root.log.device.len in
    let bytes = g.D.Device.seen root.log.device.device in
    let record_is = c.requires.found honest in
    let text : List ℕ = c.args.found.now.bytes.items in
    let number : number_of text ≡ root.number = sym (ap number_in record_is) ∙ ap number_in (root_is h root.log.device.start q.place bytes root.number (q.current honest) (q.other honest)) ∙ q.current honest in
    some_named h c.args.len bytes i text record_is (ap (λ (r : List ℕ). places_in (drop 6 r)) (sym c.deref-2.ensures.value) ∙ sym c.in_ok-closed.ensures.places ∙ no_items c.in_ok-closed.closed.items (omega (arith, c.in_ok-closed.closed.ok, (if_none c.pop.result _ _ c.pop.ensures.cases c.in_default.not-Some).0)))

pub returns-then-root-ge-NUMBER_LIMIT-clause-damaged : goal.returns-then-root-ge-NUMBER_LIMIT-clause-damaged
returns-then-root-ge-NUMBER_LIMIT-clause-damaged g c = λ err honest i.
    let root = c.args.root in
    let q = c.requires.root in
    let h = root.log.device.len in
    let bytes = g.D.Device.seen root.log.device.device in
    let record_is = c.requires.found honest in
    let text : List ℕ = c.args.found.now.bytes.items in
    let number : number_of text ≡ root.number = sym (ap number_in record_is) ∙ ap number_in (root_is h root.log.device.start q.place bytes root.number (q.current honest) (q.other honest)) ∙ q.current honest in
    let closed : List ℕ = c.pop.new.self.items in
    let torn_is : torn_in text ≡ c.torn_in-torn.result = sym (c.torn_in-torn.ensures ∙ ap torn_in c.deref.ensures.value) in
    let growing = c.in-Some.growing in
    let read : places_in (drop 6 text) ≡ closed ++ growing ∷ [] = ap (λ (r : List ℕ). places_in (drop 6 r)) (sym c.deref-2.ensures.value) ∙ sym c.in_ok-closed.ensures.places ∙ c.in-Some.ensures.items in
    elim c.then-root-ge-NUMBER_LIMIT.branch [
      | then-root-ge-NUMBER_LIMIT-via-then-root-ge-NUMBER_LIMIT w ↦ omega (arith, number, small_number h c.args.len bytes i text record_is, w.if-root-ge-NUMBER_LIMIT.true)
      | then-root-ge-NUMBER_LIMIT-via-else-root-ge-NUMBER_LIMIT+in_ok-is_record_of+then-not-branch w ↦
          w.in_ok-is_record_of.ensures.not w.if-not-branch.true
          (w.deref-else-root-ge-NUMBER_LIMIT.ensures.value ∙ record_of h c.args.len bytes i text record_is closed growing read
          ∙ (λ k. numbered (number k) (regions_text (torn_is k) (sym w.deref-else-root-ge-NUMBER_LIMIT-2.ensures.value k ++ growing ∷ []))))
    ]

pub returns-then-not-are_within-clause-damaged : goal.returns-then-not-are_within-clause-damaged
returns-then-not-are_within-clause-damaged g c = λ err honest i.
    let root = c.args.root in
    let q = c.requires.root in
    let h = root.log.device.len in
    let bytes = g.D.Device.seen root.log.device.device in
    let record_is = c.requires.found honest in
    let text : List ℕ = c.args.found.now.bytes.items in
    let number : number_of text ≡ root.number = sym (ap number_in record_is) ∙ ap number_in (root_is h root.log.device.start q.place bytes root.number (q.current honest) (q.other honest)) ∙ q.current honest in
    let closed : List ℕ = c.pop.new.self.items in
    let growing = c.in-Some.growing in
    let read : places_in (drop 6 text) ≡ closed ++ growing ∷ [] = ap (λ (r : List ℕ). places_in (drop 6 r)) (sym c.deref-2.ensures.value) ∙ sym c.in_ok-closed.ensures.places ∙ c.in-Some.ensures.items in
    let In : ℕ → ℕ → Type 0 = λ whole. IsWithin c.args.len (h + h) whole in
    let closed_in : Each (In c.len-whole.result) c.deref-3.result.now =
    subst (λ (xs : List ℕ). Each (In c.len-whole.result) xs) (sym c.deref-3.ensures.value)
    (subst (λ (k : ℕ). Each (In k) closed) (sym c.len-whole.ensures) (closed_within h c.args.len bytes i text record_is closed growing read)) in
    elim c.then-not-are_within.branch [
      | then-not-are_within-via-then-not-are_within w ↦ c.are_within.ensures.not w.if-not-are_within.true closed_in
      | then-not-are_within-via-else-not-are_within+then-not-are_within-2 w ↦
          w.are_within-else-not-are_within.ensures.not w.if-not-are_within-2.true
          (subst (λ (k : ℕ). In k growing) (sym c.len-whole.ensures) (growing_within h c.args.len bytes i text record_is closed growing read), tt)
      | then-not-are_within-via-else-not-are_within+else-not-are_within-2+then-not-are_apart w ↦
          w.are_apart.ensures.not w.if-not-are_apart.true
          (subst (λ (xs : List ℕ). Each (λ n. AreApart c.args.len n growing) xs) (sym w.deref-else-not-are_within-2.ensures.value) (closed_apart h c.args.len bytes i text record_is closed growing read))
    ]
