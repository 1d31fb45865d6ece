-- A row more of links, and a link more of a row.
use Rattle.std.proofs.Common.{◌≡◌, ℕ, ◌<◌, ◌∙◌, ap, sym, refl, subst, arith, List, [], ◌∷◌, ◌++◌, map, length, set, get_or, slice_get, Some, Vec, Global}
use Rattle.std.proofs.lemmas.List.{length-map, map-append, map-set}
use Rattle.std.proofs.lemmas.List.Elements.{All-push}
use Rattle.std.proofs.lemmas.Option.{slice_get-map, slice_get-get_or}
use Rattle.std.specs.Option.{option_map}
use Rattle.cq_link.specs.declared.link.Putter.{Putter}
use Rattle.cq_link.specs.declared.link.Taker.{Taker}
use Rattle.cq_link.specs.Links.{putter_link, taker_link, put_on, taken_from}
use Rattle.cq_link.specs.within.Tables.{IsNewRow, with_column}
use Rattle.cq_link.proofs.Cells.{one_more_item, column_is_same, no_column}

module _ {T : Type 0} where
  pub no_row : (old : List (List (Taker T))) → IsNewRow [] old old
  no_row old = record {
    ends = [];
    links = refl;
    unput = λ k d h. absurd (omega arith);
    untaken = λ k d h. absurd (omega arith);
    columns = sym (no_column old);
  }

  pub link_more : (outs : List (Putter T)) (old new : List (List (Taker T))) (k : ℕ) (column : List (Taker T)) (out : Putter T) (end : Taker T)
      → IsNewRow outs old new → length outs ≡ k → slice_get new k ≡ Some column
      → putter_link out ≡ taker_link end → put_on out ≡ [] → taken_from end ≡ []
      → IsNewRow (outs ++ out ∷ []) old (set new k (column ++ end ∷ []))
  link_more outs old new k column out end row count is link unput untaken = record {
    ends = row.ends ++ end ∷ [];
    links = map-append putter_link outs (out ∷ []) ∙ ap (λ xs. xs ++ putter_link out ∷ []) row.links ∙ ap (λ x. map taker_link row.ends ++ x ∷ []) link ∙ sym (map-append taker_link row.ends (end ∷ []));
    unput = All-push (λ (o : Putter T). put_on o ≡ []) outs out row.unput unput;
    untaken = All-push (λ (t : Taker T). taken_from t ≡ []) row.ends end row.untaken untaken;
    columns = ap (λ (c : List (List (Taker T))). set c k (column ++ end ∷ [])) row.columns ∙ ap (λ n. set (with_column old row.ends) n (column ++ end ∷ [])) (sym long) ∙ one_more_item old row.ends column end here;
  } where
    long : length row.ends ≡ k
    long = sym (length-map row.ends taker_link) ∙ sym (ap length row.links) ∙ length-map outs putter_link ∙ count

    here : slice_get old (length row.ends) ≡ Some column
    here = sym (column_is_same old row.ends) ∙ ap (λ n. slice_get (with_column old row.ends) n) long ∙ ap (λ (c : List (List (Taker T))). slice_get c k) (sym row.columns) ∙ is

  pub link_pushed : (outs outs' : List (Putter T)) (old : List (List (Taker T))) (columns : List (Vec (Taker T) Global)) (k : ℕ) (column now : Vec (Taker T) Global) (out : Putter T) (end : Taker T)
      → IsNewRow outs old (map (λ c. c.items) columns) → length outs ≡ k → k < length columns
      → (putter_link out ≡ taker_link end) → (put_on out ≡ []) × (taken_from end ≡ [])
      → outs' ≡ outs ++ out ∷ [] → now.items ≡ (get_or columns k column).items ++ end ∷ []
      → IsNewRow outs' old (map (λ c. c.items) (set columns k now))
  link_pushed outs outs' old columns k column now out end row count within link unused put is =
      subst (λ (xs : List (Putter T)). IsNewRow xs old (map (λ c. c.items) (set columns k now))) (sym put)
      (subst (λ (xs : List (List (Taker T))). IsNewRow (outs ++ out ∷ []) old xs) (sym changed)
      (link_more outs old (map (λ c. c.items) columns) k (get_or columns k column).items out end row count here link unused.0 unused.1)) where
        changed : map (λ (c : Vec (Taker T) Global). c.items) (set columns k now) ≡ set (map (λ c. c.items) columns) k ((get_or columns k column).items ++ end ∷ [])
        changed = map-set (λ (c : Vec (Taker T) Global). c.items) columns k now ∙ ap (λ (xs : List (Taker T)). set (map (λ (c : Vec (Taker T) Global). c.items) columns) k xs) is

        here : slice_get (map (λ (c : Vec (Taker T) Global). c.items) columns) k ≡ Some (get_or columns k column).items
        here = slice_get-map (λ (c : Vec (Taker T) Global). c.items) columns k ∙ ap (option_map (λ (c : Vec (Taker T) Global). c.items)) (slice_get-get_or columns k column within)
