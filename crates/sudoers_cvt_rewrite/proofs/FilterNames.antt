-- Names of a filter, each once, letter case ignored.
use Rattle.std.proofs.Common.{Bool, List, [], ap, bytes_eq, false, if◌then◌else◌, get_or, length, map, refl, sym, take, true, ℕ, ◌++◌, ◌+◌, ◌<◌, ◌||◌, ◌∙◌, ◌∷◌, ◌≡◌}
use Rattle.std.proofs.lemmas.List.Folds.{list_any-append, list_any_more}
use Rattle.std.proofs.lemmas.Slice.Eq.{bytes_eq-Decides}
use Rattle.std.specs.List.{list_any}
use Rattle.std.specs.Str.{str_to_ascii_lowercase}
use Rattle.sudoers_cvt_rewrite.specs.internal.SameNames.{AreSameNamesIgnoringCase}
use Rattle.sudoers_cvt_rewrite.proofs.AnyHits.{any_has_passing_element, passing_element_is_any}

pub any_of_mapped_is_any_by_test_after_map : {X Y : Type 0} (p : Y → Bool) (f : X → Y) (xs : List X) → list_any p (map f xs) ≡ list_any (λ x. p (f x)) xs
any_of_mapped_is_any_by_test_after_map p f [] = refl
any_of_mapped_is_any_by_test_after_map p f (x ∷ xs) = ap (λ b. p (f x) || b) (any_of_mapped_is_any_by_test_after_map p f xs)

or_with_weaker : (a b : Bool) → (b ≡ true → a ≡ true) → a ≡ (a || b)
or_with_weaker true b weaker = refl
or_with_weaker false true weaker = weaker refl
or_with_weaker false false weaker = refl

or_false_after : (a b : Bool) → (a || (b || false)) ≡ (a || b)
or_false_after true b = refl
or_false_after false true = refl
or_false_after false false = refl

-- A name is added unless it is there.
pub added_name_is_among_names : (names more : List (List ℕ)) (word : List ℕ) → more ≡ (if list_any (bytes_eq word) names then names else names ++ word ∷ [])
    → (test : List ℕ → Bool) → list_any test more ≡ (list_any test names || test word)
added_name_is_among_names names more word is test = ap (list_any test) is ∙ by (list_any (bytes_eq word) names) refl
  where
    by : (known : Bool) → list_any (bytes_eq word) names ≡ known → list_any test (if known then names else names ++ word ∷ []) ≡ (list_any test names || test word)
    by true known =
        let r = any_has_passing_element (bytes_eq word) names known in
        or_with_weaker (list_any test names) (test word) (λ passes. passing_element_is_any test names r.element r.stands (ap test (sym ((bytes_eq-Decides word r.element).0 r.passes)) ∙ passes))
    by false known = list_any-append test names (word ∷ []) ∙ or_false_after (list_any test names) (test word)

pub any_of_pushed_is_any_or_last : {X : Type 0} (test : X → Bool) (names more : List X) (value : X) → more ≡ names ++ value ∷ [] → list_any test more ≡ (list_any test names || test value)
any_of_pushed_is_any_or_last test names more value is = ap (list_any test) is ∙ list_any-append test names (value ∷ []) ∙ or_false_after (list_any test names) (test value)

module _ (names values : List (List ℕ)) (n : ℕ) (value : List ℕ) (h : n < length values) (is : value ≡ get_or values n value) (same : AreSameNamesIgnoringCase names (take n values)) where
  any_of_more : (test : List ℕ → Bool) → (list_any test (take n values) || test value) ≡ list_any test (take (n + 1) values)
  any_of_more test = ap (λ v. list_any test (take n values) || test v) is ∙ sym (list_any_more test values n value h)

  pub known_value_adds_no_name : list_any (bytes_eq (str_to_ascii_lowercase value)) (map str_to_ascii_lowercase names) ≡ true → AreSameNamesIgnoringCase names (take (n + 1) values)
  known_value_adds_no_name known test ignores =
      let r = any_has_passing_element (λ name. bytes_eq (str_to_ascii_lowercase value) (str_to_ascii_lowercase name)) names (sym (any_of_mapped_is_any_by_test_after_map (bytes_eq (str_to_ascii_lowercase value)) str_to_ascii_lowercase names) ∙ known) in
      let alike : test value ≡ test r.element = ignores value r.element ((bytes_eq-Decides (str_to_ascii_lowercase value) (str_to_ascii_lowercase r.element)).0 r.passes) in
      or_with_weaker (list_any test names) (test value) (λ passes. passing_element_is_any test names r.element r.stands (sym alike ∙ passes))
      ∙ ap (λ b. b || test value) (same test ignores)
      ∙ any_of_more test

  pub new_value_adds_its_name : AreSameNamesIgnoringCase (names ++ value ∷ []) (take (n + 1) values)
  new_value_adds_its_name test ignores =
      list_any-append test names (value ∷ [])
      ∙ or_false_after (list_any test names) (test value)
      ∙ ap (λ b. b || test value) (same test ignores)
      ∙ any_of_more test
