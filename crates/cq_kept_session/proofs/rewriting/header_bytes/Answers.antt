-- All parts of the header were put, one behind the other.
use Rattle.std.proofs.Common.{◌≡◌, List, ℕ, [], ◌++◌, sym, ◌∙◌, ap, append_assoc, arith}
use Rattle.cq_wire.specs.Layout.{number32, number64}
use Rattle.cq_kept_session.specs.Bases.{header_of}
use Rattle.cq_kept_session.specs.declared.base.Header.{Header}
use Rattle.cq_kept_session.proofs.Written.{header_bytes, header_is_read, some_header}
use Rattle.cq_kept_session.proofs.rewriting.header_bytes.Goals as goal

three : (before x y z value two one none all : List ℕ) → before ≡ [] → none ≡ [] → one ≡ none ++ x → two ≡ one ++ y → value ≡ two ++ z → all ≡ before ++ value → all ≡ x ++ (y ++ z)
three before x y z value two one none all b n e1 e2 e3 e =
    e ∙ ap (λ (l : List ℕ). l ++ value) b ∙ e3 ∙ ap (λ (l : List ℕ). l ++ z) (e2 ∙ ap (λ (l : List ℕ). l ++ y) (e1 ∙ ap (λ (l : List ℕ). l ++ x) n)) ∙ append_assoc x y z

pub returns : goal.returns
returns c =
    let h : Header = record { lines = c.args.lines; highest = record { clients = c.args.clients; queriers = c.args.queriers } } in
    let before = c.in_ok-put_u32-2.ensures.before ∙ c.in_ok-put_u32.ensures.before ∙ c.in_ok-put_u64.ensures.before ∙ c.after-out.ensures.before ∙ c.new.ensures.items in
    let all : c.whole.result.items ≡ header_bytes h = three _ (number64 h.lines) (number32 h.highest.clients) (number32 h.highest.queriers) _ _ _ _ _ before c.after-out.ensures.value
    c.in_ok-put_u64.ensures.ok c.in_ok-put_u32.ensures.ok c.in_ok-put_u32-2.ensures.ok c.whole.ensures in
    record {
      read = ap header_of all ∙ header_is_read h (omega (arith, c.ranges.lines)) (omega (arith, c.ranges.clients)) (omega (arith, c.ranges.queriers));
      some = λ none. some_header h (sym all ∙ none);
    }
