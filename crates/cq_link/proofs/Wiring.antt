-- A row more of a table of links, and ports as tables.
use Rattle.std.proofs.Common.{◌≡◌, ℕ, ◌+◌, ◌∙◌, ap, sym, refl, subst, List, [], ◌∷◌, ◌++◌, map, length, take, drop, replicate, get_or, Vec, Global}
use Rattle.std.proofs.lemmas.List.{length-map, length-replicate, length_push, map-append, map_push}
use Rattle.std.proofs.lemmas.List.Elements.{All-nil, All-cons, All-head, All-tail, All-push, All-map, All-replicate}
use Rattle.std.specs.List.{All}
use Rattle.cq_link.specs.declared.link.Putter.{Putter}
use Rattle.cq_link.specs.declared.link.Taker.{Taker}
use Rattle.cq_link.specs.Links.{LinkId, putter_link, taker_link, taken_from}
use Rattle.cq_link.specs.Wirings.{cell}
use Rattle.cq_link.specs.within.Tables.{AreUnput, AreUntaken, AreJoined, AreWired, IsNewRow, with_column}
use Rattle.cq_link.proofs.Cells.{AreLong, column_long, length_column, crossed_more, no_cells, map_column, written}

module _ {T : Type 0} where
  -- ---- rows

  pub nothing_wired : (n : ℕ) → AreWired {T = T} 0 n [] (replicate n [])
  nothing_wired n = record {
    rows = (refl, All-nil (λ (r : List (Putter T)). length r ≡ n));
    columns = (length-replicate n [], All-replicate (λ (r : List (Taker T)). length r ≡ 0) n [] refl);
    joined = λ i j. sym (no_cells (taker_link {T = T}) n j i);
    unput = All-nil (AreUnput {T = T});
    untaken = All-replicate (AreUntaken {T = T}) n [] (All-nil (λ (t : Taker T). taken_from t ≡ []));
  }

  all_untaken : (columns : List (List (Taker T))) (ends : List (Taker T)) → All AreUntaken columns → AreUntaken ends → All AreUntaken (with_column columns ends)
  all_untaken [] ends all new = All-nil (AreUntaken {T = T})
  all_untaken (column ∷ columns) [] all new = all
  all_untaken (column ∷ columns) (end ∷ ends) all new = All-cons (AreUntaken {T = T}) (column ++ end ∷ []) (with_column columns ends)
      (All-push (λ (t : Taker T). taken_from t ≡ []) column end (All-head (AreUntaken {T = T}) column columns all) (All-head (λ (t : Taker T). taken_from t ≡ []) end ends new))
      (all_untaken columns ends (All-tail (AreUntaken {T = T}) column columns all) (All-tail (λ (t : Taker T). taken_from t ≡ []) end ends new))

  pub row_more : (k n : ℕ) (rows : List (List (Putter T))) (columns after : List (List (Taker T))) (row : List (Putter T))
      → AreWired k n rows columns → IsNewRow row columns after → length row ≡ length columns → AreWired (k + 1) n (rows ++ row ∷ []) after
  row_more k n rows columns after row wired new same = subst (AreWired (k + 1) n (rows ++ row ∷ [])) (sym new.columns) (record {
    rows = (length_push rows row ∙ ap (λ m. m + 1) wired.rows.0, All-push (λ (r : List (Putter T)). length r ≡ n) rows row wired.rows.1 (same ∙ wired.columns.0));
    columns = (length_column columns new.ends ∙ wired.columns.0, column_long k columns new.ends wired.columns.1 ends);
    joined = joined;
    unput = All-push (AreUnput {T = T}) rows row wired.unput new.unput;
    untaken = all_untaken columns new.ends wired.untaken new.untaken;
  }) where
    ends : length new.ends ≡ length columns
    ends = sym (length-map new.ends taker_link) ∙ sym (ap length new.links) ∙ length-map row putter_link ∙ same

    long : AreLong k (map (map (taker_link {T = T})) columns)
    long = All-map (λ (r : List LinkId). length r ≡ k) (map (taker_link {T = T})) columns (λ n d h. length-map (get_or columns n d) taker_link ∙ wired.columns.1 n d h)

    joined : AreJoined (rows ++ row ∷ []) (with_column columns new.ends)
    joined i j = ap (λ (rs : List (List LinkId)). cell rs i j) (map-append (map (putter_link {T = T})) rows (row ∷ []))
        ∙ ap (λ (r : List LinkId). cell (map (map putter_link) rows ++ r ∷ []) i j) new.links
        ∙ crossed_more k (map (map putter_link) rows) (map (map taker_link) columns) (map taker_link new.ends)
        (length-map rows (map (putter_link {T = T})) ∙ wired.rows.0) long (length-map new.ends taker_link ∙ ends ∙ sym (length-map columns (map (taker_link {T = T})))) wired.joined i j
        ∙ ap (λ (cs : List (List LinkId)). cell cs j i) (sym (map_column (taker_link {T = T}) columns new.ends))

  pub table_more : (k n len : ℕ) (rows rows' : List (Vec (Putter T) Global)) (columns now after : List (Vec (Taker T) Global)) (row : Vec (Putter T) Global)
      → AreWired k n (map (λ r. r.items) rows) (map (λ c. c.items) columns) → now ≡ columns
      → IsNewRow row.items (map (λ c. c.items) now) (map (λ c. c.items) after) → length row.items ≡ length now
      → length after ≡ length now → len ≡ length columns → rows' ≡ rows ++ row ∷ []
      → AreWired (k + 1) n (map (λ r. r.items) rows') (map (λ c. c.items) (take len (after ++ drop (length after) columns)))
  table_more k n len rows rows' columns now after row wired seen new same long all pushed =
      subst (λ (rs : List (Vec (Putter T) Global)). AreWired (k + 1) n (map (λ r. r.items) rs) (map (λ c. c.items) (take len (after ++ drop (length after) columns)))) (sym pushed)
      (subst (λ (cs : List (Vec (Taker T) Global)). AreWired (k + 1) n (map (λ r. r.items) (rows ++ row ∷ [])) (map (λ c. c.items) cs)) (sym back)
      (subst (λ (rs : List (List (Putter T))). AreWired (k + 1) n rs (map (λ c. c.items) after)) (sym (map_push (λ (r : Vec (Putter T) Global). r.items) rows row))
      (row_more k n (map (λ r. r.items) rows) (map (λ c. c.items) columns) (map (λ c. c.items) after) row.items wired of_columns
      (same ∙ ap length seen ∙ sym (length-map columns (λ (c : Vec (Taker T) Global). c.items)))))) where
        back : take len (after ++ drop (length after) columns) ≡ after
        back = written len after columns (long ∙ ap length seen) all

        of_columns : IsNewRow row.items (map (λ c. c.items) columns) (map (λ c. c.items) after)
        of_columns = subst (λ (cs : List (Vec (Taker T) Global)). IsNewRow row.items (map (λ c. c.items) cs) (map (λ c. c.items) after)) seen new
