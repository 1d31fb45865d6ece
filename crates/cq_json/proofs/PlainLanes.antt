-- The plain bytes of a string, sixteen at a time.
use Rattle.std.proofs.Common.{◌≡◌, ℕ, ◌+◌, ◌<◌, ◌≤◌, ◌%◌, ◌^◌, Bool, true, false, cond, eqb, ◌||◌, List, [], ◌∷◌, length, drop, map, replicate, refl, sym, ap, ap₂, ◌∙◌, arith}
use Rattle.std.proofs.lemmas.List.{length-map}
use Rattle.std.proofs.lemmas.List.Folds.{prefix_len-append}
use Rattle.std.proofs.lemmas.Bool.{eq-eqb, ne_eqb}
use Rattle.std.proofs.lemmas.Simd.{run_in_chunk_le, chunk-drop, length-chunk, mask_l-mod, zip2_splat, zip2_of_maps, first_set_mask_l}
use Rattle.std.specs.List.{prefix_len}
use lib.Bits.{bit_or}
use lib.Count.{count_trailing_zeros}
use lib.Dec.{ltb}
use lib.Lanes.{chunk, mask_l, top, zip2}
use Rattle.json.specs.Run.{is_stop, is_plain}

abbrev equal_lane : ℕ → ℕ → ℕ
equal_lane a b = cond (eqb a b) 255 0

abbrev below_lane : ℕ → ℕ → ℕ
below_lane a b = cond (ltb a b) 255 0

abbrev stop_lane : ℕ → ℕ
stop_lane x = bit_or (bit_or (equal_lane x 34) (equal_lane x 92)) (below_lane x 32)

top_of_three : (a b c : Bool) → top 7 (bit_or (bit_or (cond a 255 0) (cond b 255 0)) (cond c 255 0)) ≡ ((a || b) || c)
top_of_three true true true = refl
top_of_three true true false = refl
top_of_three true false true = refl
top_of_three true false false = refl
top_of_three false true true = refl
top_of_three false true false = refl
top_of_three false false true = refl
top_of_three false false false = refl

tops_are_stops : (xs : List ℕ) → map (top 7) (map stop_lane xs) ≡ map is_stop xs
tops_are_stops [] = refl
tops_are_stops (x ∷ xs) = ap₂ (λ b bs. b ∷ bs) (top_of_three (eqb x 34) (eqb x 92) (ltb x 32)) (tops_are_stops xs)

-- the mask that the three comparisons give
abbrev pub stop_mask : List ℕ → ℕ
stop_mask v =
    mask_l (map (top 7) (zip2 bit_or (zip2 bit_or (zip2 equal_lane v (replicate 16 34)) (zip2 equal_lane v (replicate 16 92))) (zip2 below_lane v (replicate 16 32)))) % 2 ^ 64

stop_mask_is : (v : List ℕ) → length v ≡ 16 → stop_mask v ≡ mask_l (map is_stop v)
stop_mask_is v long =
    let quotes = zip2_of_maps bit_or (λ x. equal_lane x 34) (λ x. equal_lane x 92) v (zip2_splat equal_lane v 16 34 long) (zip2_splat equal_lane v 16 92 long) in
    let stops = zip2_of_maps bit_or (λ x. bit_or (equal_lane x 34) (equal_lane x 92)) (λ x. below_lane x 32) v quotes (zip2_splat below_lane v 16 32 long) in
    ap (λ l. mask_l l % 2 ^ 64) (ap (map (top 7)) stops ∙ tops_are_stops v) ∙ mask_l-mod (map is_stop v) 64 (omega (arith, length-map v is_stop))

-- sixteen where it is 0, and otherwise its lowest bit
pub first_stop : (v : List ℕ) → length v ≡ 16 → cond (eqb (stop_mask v) 0) 16 (count_trailing_zeros 64 (stop_mask v)) ≡ prefix_len is_plain v
first_stop v long = ap (λ n. cond (eqb n 0) 16 (count_trailing_zeros 64 n)) (stop_mask_is v long) ∙ first_set_mask_l is_stop v 16 long (omega arith)

split_chunk : (d : List ℕ) (i n r : ℕ) → i + n ≤ length d → r ≡ prefix_len is_plain (chunk i n d)
    → prefix_len is_plain (drop i d) ≡ cond (eqb r n) (n + prefix_len is_plain (drop (i + n) d)) r
split_chunk d i n r room counted =
    ap (prefix_len is_plain) (chunk-drop i n d) ∙ prefix_len-append is_plain (chunk i n d) (drop (i + n) d)
    ∙ ap₂ (λ k l. cond (eqb k l) (l + prefix_len is_plain (drop (i + n) d)) k) (sym counted) (length-chunk i n d room)

-- where all of n bytes are plain, the run goes on behind them
pub plain_on : (d : List ℕ) (i n r : ℕ) → i + n ≤ length d → r ≡ prefix_len is_plain (chunk i n d) → n ≤ r → prefix_len is_plain (drop i d) ≡ n + prefix_len is_plain (drop (i + n) d)
plain_on d i n r room counted all =
    let most : r ≤ n = run_in_chunk_le is_stop d i n r 0 room counted in
    split_chunk d i n r room counted ∙ ap (λ b. cond b (n + prefix_len is_plain (drop (i + n) d)) r) (eq-eqb r n (omega arith))

-- where fewer are, it ends there
pub plain_up_to : (d : List ℕ) (i n r : ℕ) → i + n ≤ length d → r ≡ prefix_len is_plain (chunk i n d) → r < n → prefix_len is_plain (drop i d) ≡ r
plain_up_to d i n r room counted fewer =
    split_chunk d i n r room counted ∙ ap (λ b. cond b (n + prefix_len is_plain (drop (i + n) d)) r) (ne_eqb r n (λ e. omega arith))
