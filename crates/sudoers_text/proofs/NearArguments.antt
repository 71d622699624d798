-- Paths, quoted parts and arguments that begin before a name. Each ends before the name and is the same with another one,
-- or reaches into either.
use Rattle.std.proofs.Common.{◌≡◌, inl, inr, ℕ, suc, ◌+◌, ◌<◌, Bool, true, false, ◌&&◌, not, List, [], ◌∷◌, ◌++◌, length, drop, refl, sym, ap, subst, ◌∙◌, arith}
use Rattle.std.specs.Prelude.{◌==◌, if◌then◌else◌}
use Rattle.std.proofs.lemmas.List.{length-drop, drop-append-le}
use Rattle.sudoers_text.specs.declared.part.ByteRunKind.TheVariants as rule
use Rattle.sudoers_text.specs.Part.{unclosed_quote_unit_size, reach_of_units, leading_run_size, is_upper, has_given_first_byte, quotes_and_run_between_size, argument_units_size, closed_quote_size, quoted_front_to_inner_separator_size}
use Rattle.sudoers_text.specs.Piece.{quoted_argument_rest_size}
use Rattle.sudoers_text.specs.Token.{bad_token_size}
use Rattle.sudoers_text.specs.Found.{command_path_size, argument_size}
use Rattle.sudoers_text.proofs.Reach.{unclosed_quote_size_is_within_bytes}
use Rattle.sudoers_text.proofs.Ahead.{bytes_told_apart_by_test_are_unequal, AreUpperCaseLetters, AgreeUpToPlace, equal_sizes_agree_up_to_place, reaches_of_agreeing_units_agree, leading_run_sizes_agree_before_letters, unclosed_quote_size_is_same_for_letters}
use Rattle.sudoers_text.proofs.NearMarks.{zero_sizes_agree_up_to_place, equal_tests_choose_agreeing_sizes, added_count_keeps_sizes_agreeing, added_byte_keeps_sizes_agreeing}
use Rattle.sudoers_text.proofs.Through.{IsNameByFirstAndOthers, quote_rule_goes_through_names, clean_rule_goes_through_names, byte_at_place_is_same_before_letters, place_of_lower_byte_is_before_letter, quoted_run_sizes_agree_before_names, agreeing_sizes_are_zero_together, argument_units_sizes_agree_before_names}

pub command_path_sizes_agree_before_letters : (q : List ℕ) (u v : ℕ) (xs ys : List ℕ) → AreUpperCaseLetters u v
    → AgreeUpToPlace (length q) (command_path_size (q ++ u ∷ xs)) (command_path_size (q ++ v ∷ ys))
unfolding command_path_size
command_path_sizes_agree_before_letters q u v xs ys is =
    equal_tests_choose_agreeing_sizes (has_given_first_byte 47 (q ++ u ∷ xs)) (has_given_first_byte 47 (q ++ v ∷ ys)) (length q) (leading_run_size rule.Path (q ++ u ∷ xs))
    (leading_run_size rule.Path (q ++ v ∷ ys)) 0 0
    (byte_at_place_is_same_before_letters 47 refl q 0 u v xs ys is (omega arith)) (leading_run_sizes_agree_before_letters rule.Path q u v xs ys is) (zero_sizes_agree_up_to_place (length q))

pub upper_case_letter_begins_no_quoted_run : (w : ℕ) (zs : List ℕ) → is_upper w ≡ true → quotes_and_run_between_size rule.Quote (w ∷ zs) ≡ 0
unfolding quotes_and_run_between_size
upper_case_letter_begins_no_quoted_run w zs h = let a : (w == 34) ≡ false = bytes_told_apart_by_test_are_unequal is_upper 34 w h refl in rw a refl

broken_quote_sizes_agree_before_names : (u v : ℕ) (x y s : List ℕ) → IsNameByFirstAndOthers u x → IsNameByFirstAndOthers v y → (q : List ℕ)
    → AgreeUpToPlace (length q) (quoted_front_to_inner_separator_size (q ++ u ∷ (x ++ s))) (quoted_front_to_inner_separator_size (q ++ v ∷ (y ++ s)))
unfolding quoted_front_to_inner_separator_size
broken_quote_sizes_agree_before_names u v x y s nx ny [] =
    let a : quotes_and_run_between_size rule.Quote (u ∷ (x ++ s)) ≡ 0 = upper_case_letter_begins_no_quoted_run u (x ++ s) nx.first in
    let b : quotes_and_run_between_size rule.Quote (v ∷ (y ++ s)) ≡ 0 = upper_case_letter_begins_no_quoted_run v (y ++ s) ny.first in
    rw (a, b) (by_tests (quotes_and_run_between_size rule.Clean (u ∷ (x ++ s)) == 0) (quotes_and_run_between_size rule.Clean (v ∷ (y ++ s)) == 0)
    (leading_run_size rule.Clean (x ++ s) + 1) (leading_run_size rule.Clean (y ++ s) + 1))
  where
    by_tests : (s t : Bool) (a b : ℕ) → AgreeUpToPlace 0 (if s && false then a else 0) (if t && false then b else 0)
    by_tests true true a b = zero_sizes_agree_up_to_place 0
    by_tests true false a b = zero_sizes_agree_up_to_place 0
    by_tests false true a b = zero_sizes_agree_up_to_place 0
    by_tests false false a b = zero_sizes_agree_up_to_place 0
broken_quote_sizes_agree_before_names u v x y s nx ny (b ∷ q) =
    let X = b ∷ q ++ u ∷ (x ++ s) in
    let Y = b ∷ q ++ v ∷ (y ++ s) in
    equal_tests_choose_agreeing_sizes (quotes_and_run_between_size rule.Clean X == 0 && not (closed_quote_size X == 0)) (quotes_and_run_between_size rule.Clean Y == 0 && not (closed_quote_size Y == 0))
    (suc (length q)) (leading_run_size rule.Clean (q ++ u ∷ (x ++ s)) + 1) (leading_run_size rule.Clean (q ++ v ∷ (y ++ s)) + 1) 0 0
    (ap (λ (t : Bool). t && not (closed_quote_size X == 0))
    (agreeing_sizes_are_zero_together (suc (length q)) (quotes_and_run_between_size rule.Clean X) (quotes_and_run_between_size rule.Clean Y)
    (quoted_run_sizes_agree_before_names rule.Clean clean_rule_goes_through_names u v x y s nx ny (b ∷ q)))
    ∙ ap (λ (t : Bool). quotes_and_run_between_size rule.Clean Y == 0 && not t)
    (agreeing_sizes_are_zero_together (suc (length q)) (closed_quote_size X) (closed_quote_size Y) (quoted_run_sizes_agree_before_names rule.Quote quote_rule_goes_through_names u v x y s nx ny (b ∷ q))))
    (added_byte_keeps_sizes_agreeing (length q) (leading_run_size rule.Clean (q ++ u ∷ (x ++ s))) (leading_run_size rule.Clean (q ++ v ∷ (y ++ s)))
    (leading_run_sizes_agree_before_letters rule.Clean q u v (x ++ s) (y ++ s) (record { one = nx.first; another = ny.first })))
    (zero_sizes_agree_up_to_place (suc (length q)))

pub argument_sizes_agree_before_names : (u v : ℕ) (x y s : List ℕ) → IsNameByFirstAndOthers u x → IsNameByFirstAndOthers v y → (q : List ℕ)
    → AgreeUpToPlace (length q) (argument_size (q ++ u ∷ (x ++ s))) (argument_size (q ++ v ∷ (y ++ s)))
unfolding argument_size
argument_sizes_agree_before_names u v x y s nx ny q = by_whole (argument_units_size (q ++ u ∷ (x ++ s))) (argument_units_size (q ++ v ∷ (y ++ s))) (argument_units_sizes_agree_before_names u v x y s nx ny q)
  where
    by_whole : (n m : ℕ) → AgreeUpToPlace (length q) n m
        → AgreeUpToPlace (length q) (n + quoted_front_to_inner_separator_size (drop n (q ++ u ∷ (x ++ s)))) (m + quoted_front_to_inner_separator_size (drop m (q ++ v ∷ (y ++ s))))
    by_whole n m (inr e) = inr (omega (arith, e.0), omega (arith, e.1))
    by_whole n m (inl e) =
        let one : drop n (q ++ u ∷ (x ++ s)) ≡ drop n q ++ u ∷ (x ++ s) = drop-append-le n q (u ∷ (x ++ s)) e.0 in
        let other : drop m (q ++ v ∷ (y ++ s)) ≡ drop n q ++ v ∷ (y ++ s) =
        ap (λ (k : ℕ). drop k (q ++ v ∷ (y ++ s))) e.1 ∙ drop-append-le n q (v ∷ (y ++ s)) e.0 in
        let place : n + length (drop n q) ≡ length q = omega (arith, e.0, length-drop n q) in
        subst (λ (p : ℕ). AgreeUpToPlace p (n + quoted_front_to_inner_separator_size (drop n (q ++ u ∷ (x ++ s)))) (m + quoted_front_to_inner_separator_size (drop m (q ++ v ∷ (y ++ s))))) place
        (subst (λ (k : ℕ). AgreeUpToPlace (n + length (drop n q)) (n + quoted_front_to_inner_separator_size (drop n (q ++ u ∷ (x ++ s))))
        (k + quoted_front_to_inner_separator_size (drop m (q ++ v ∷ (y ++ s))))) (sym e.1)
        (subst (λ (t : List ℕ). AgreeUpToPlace (n + length (drop n q)) (n + quoted_front_to_inner_separator_size (drop n (q ++ u ∷ (x ++ s)))) (n + quoted_front_to_inner_separator_size t)) (sym other)
        (subst (λ (t : List ℕ). AgreeUpToPlace (n + length (drop n q)) (n + quoted_front_to_inner_separator_size t) (n + quoted_front_to_inner_separator_size (drop n q ++ v ∷ (y ++ s)))) (sym one)
        (added_count_keeps_sizes_agreeing n (length (drop n q)) (quoted_front_to_inner_separator_size (drop n q ++ u ∷ (x ++ s))) (quoted_front_to_inner_separator_size (drop n q ++ v ∷ (y ++ s)))
        (broken_quote_sizes_agree_before_names u v x y s nx ny (drop n q))))))

pub quoted_rest_sizes_agree_before_names : (u v : ℕ) (x y s : List ℕ) → IsNameByFirstAndOthers u x → IsNameByFirstAndOthers v y → (q : List ℕ)
    → AgreeUpToPlace (length q) (quoted_argument_rest_size (q ++ u ∷ (x ++ s))) (quoted_argument_rest_size (q ++ v ∷ (y ++ s)))
unfolding quoted_argument_rest_size
quoted_rest_sizes_agree_before_names u v x y s nx ny q =
    by_run (leading_run_size rule.Clean (q ++ u ∷ (x ++ s))) (leading_run_size rule.Clean (q ++ v ∷ (y ++ s)))
    (leading_run_sizes_agree_before_letters rule.Clean q u v (x ++ s) (y ++ s) (record { one = nx.first; another = ny.first }))
  where
    by_run : (n m : ℕ) → AgreeUpToPlace (length q) n m
        → AgreeUpToPlace (length q) (if has_given_first_byte 34 (drop n (q ++ u ∷ (x ++ s))) then n + 1 else n)
        (if has_given_first_byte 34 (drop m (q ++ v ∷ (y ++ s))) then m + 1 else m)
    by_run n m (inr e) = by_tests (has_given_first_byte 34 (drop n (q ++ u ∷ (x ++ s)))) (has_given_first_byte 34 (drop m (q ++ v ∷ (y ++ s))))
      where
        by_tests : (s t : Bool) → AgreeUpToPlace (length q) (if s then n + 1 else n) (if t then m + 1 else m)
        by_tests true true = inr (omega (arith, e.0), omega (arith, e.1))
        by_tests true false = inr (omega (arith, e.0), omega (arith, e.1))
        by_tests false true = inr (omega (arith, e.0), omega (arith, e.1))
        by_tests false false = inr (omega (arith, e.0), omega (arith, e.1))
    by_run n m (inl e) = by_tests (has_given_first_byte 34 (drop n (q ++ u ∷ (x ++ s)))) (has_given_first_byte 34 (drop m (q ++ v ∷ (y ++ s))))
        (byte_at_place_is_same_before_letters 34 refl q n u v (x ++ s) (y ++ s) (record { one = nx.first; another = ny.first }) e.0
        ∙ ap (λ (k : ℕ). has_given_first_byte 34 (drop k (q ++ v ∷ (y ++ s)))) (sym e.1))
        (place_of_lower_byte_is_before_letter 34 refl q n u (x ++ s) nx.first e.0)
      where
        by_tests : (s t : Bool) → s ≡ t → (s ≡ true → n < length q) → AgreeUpToPlace (length q) (if s then n + 1 else n) (if t then m + 1 else m)
        by_tests true true same inside = inl (omega (arith, inside refl), omega (arith, e.1))
        by_tests false false same inside = inl (e.0, e.1)
        by_tests true false same inside = absurd (cc)
        by_tests false true same inside = absurd (cc)

pub bad_token_sizes_agree_before_names : (u v : ℕ) (x y s : List ℕ) → IsNameByFirstAndOthers u x → IsNameByFirstAndOthers v y → (q : List ℕ)
    → AgreeUpToPlace (length q) (bad_token_size (q ++ u ∷ (x ++ s))) (bad_token_size (q ++ v ∷ (y ++ s)))
unfolding bad_token_size
bad_token_sizes_agree_before_names u v x y s nx ny [] =
    let a : (u == 34) ≡ false = bytes_told_apart_by_test_are_unequal is_upper 34 u nx.first refl in
    let b : (v == 34) ≡ false = bytes_told_apart_by_test_are_unequal is_upper 34 v ny.first refl in
    rw (a, b) (equal_sizes_agree_up_to_place 0 1 1 refl)
bad_token_sizes_agree_before_names u v x y s nx ny (b ∷ q) =
    let X = b ∷ q ++ u ∷ (x ++ s) in
    let Y = b ∷ q ++ v ∷ (y ++ s) in
    let is : AreUpperCaseLetters u v = record { one = nx.first; another = ny.first } in
    equal_tests_choose_agreeing_sizes (b == 34 && (closed_quote_size X == 0)) (b == 34 && (closed_quote_size Y == 0)) (suc (length q)) (reach_of_units unclosed_quote_unit_size 0 (q ++ u ∷ (x ++ s)) + 1)
    (reach_of_units unclosed_quote_unit_size 0 (q ++ v ∷ (y ++ s)) + 1) 1 1
    (ap (λ (t : Bool). b == 34 && t) (agreeing_sizes_are_zero_together (suc (length q)) (closed_quote_size X) (closed_quote_size Y)
    (quoted_run_sizes_agree_before_names rule.Quote quote_rule_goes_through_names u v x y s nx ny (b ∷ q))))
    (added_byte_keeps_sizes_agreeing (length q) (reach_of_units unclosed_quote_unit_size 0 (q ++ u ∷ (x ++ s))) (reach_of_units unclosed_quote_unit_size 0 (q ++ v ∷ (y ++ s)))
    (reaches_of_agreeing_units_agree unclosed_quote_unit_size (u ∷ (x ++ s)) (v ∷ (y ++ s))
    (λ p. equal_sizes_agree_up_to_place (length p) (unclosed_quote_unit_size (p ++ u ∷ (x ++ s))) (unclosed_quote_unit_size (p ++ v ∷ (y ++ s)))
    (unclosed_quote_size_is_same_for_letters p u v (x ++ s) (y ++ s) is)) unclosed_quote_size_is_within_bytes (omega arith) (omega arith) q 0 (omega arith)))
    (equal_sizes_agree_up_to_place (suc (length q)) 1 1 refl)
