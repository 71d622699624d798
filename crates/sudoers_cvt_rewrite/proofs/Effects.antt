-- What the last atoms of a list say of the names that are not denied.
use Rattle.std.proofs.Common.{Bool, List, None, Option, Some, [], ap, ap₂, bytes_eq, false, if◌then◌else◌, inl, inr, not, refl, sym, true, ℕ, ◌&&◌, ◌++◌, ◌||◌, ◌∙◌, ◌∷◌, ◌≡◌}
use Rattle.std.proofs.lemmas.Bool.{and_right, and_from, and_left, cases_Bool, false_from_ne_true, false≢true, not_from_true, not_from_false, or_left, or_right}
use Rattle.std.proofs.lemmas.List.Folds.{list_any-append}
use Rattle.std.proofs.lemmas.Slice.Eq.{bytes_eq-Decides}
use Rattle.std.specs.List.{list_any}
use Rattle.std.specs.Str.{str_to_ascii_lowercase}
use Rattle.sudoers_grammar.specs.declared.node.Atom.{Atom}
use Rattle.sudoers_grammar.specs.declared.node.Atom.TheVariants as atom
use Rattle.sudoers_match_member.specs.Hits.{is_name_equal_ignoring_case}
use Rattle.sudoers_check.specs.Chain.{ListHasElement}
use Rattle.sudoers_match_list.specs.declared.verdict.MemberHit.{MemberHit}
use Rattle.sudoers_cvt_rewrite.specs.declared.filter_text.FilterKey.{FilterKey}
use Rattle.sudoers_cvt_rewrite.specs.declared.filter_text.FilterKey.TheVariants.{User, Group, Host}
use Rattle.sudoers_match_list.specs.Flat.{SignedAtom, hit_of_signed_atom, last_hit_of_list, later_hit_if_any}
use Rattle.sudoers_cvt_rewrite.specs.Filter.{is_allowing_hit}
use Rattle.sudoers_cvt_rewrite.specs.internal.SameNames.{is_name_denied}
use Rattle.sudoers_cvt_rewrite.specs.internal.Values.{is_any_undenied_name_allowed, is_atom_matching_value}
use Rattle.sudoers_cvt_rewrite.proofs.AnyHits.{any_has_passing_element, any_test, hit_if_matching, hit_is_of_matching_atom, last_hit_by_all_is_that_of_each, last_hit_of_any_is_that_of_one, list_that_hits_none_hits_not_one, no_element_passes_false_test, passing_element_is_any, tests_alike_on_elements_pass_alike}
use Rattle.sudoers_match_list.proofs.Flats.{last_hit_of_appended_is_later_hit}

pub all_matches_each_value : (key : FilterKey) (name : List ℕ) → is_atom_matching_value key name atom.All ≡ true
all_matches_each_value User name = refl
all_matches_each_value Group name = refl
all_matches_each_value Host name = refl

same_bytes_are_equal : (a b : List ℕ) → bytes_eq a b ≡ true → a ≡ b
same_bytes_are_equal a b e = (bytes_eq-Decides a b).0 e

equal_bytes_are_same : (a b : List ℕ) → a ≡ b → bytes_eq a b ≡ true
equal_bytes_are_same a b e = (bytes_eq-Decides a b).1 e

or_false : (b : Bool) → (b || (false || false)) ≡ b
or_false true = refl
or_false false = refl

name_added_is_denied : (low : List ℕ) (denied : List (List ℕ)) (has : Bool) → list_any (bytes_eq low) denied ≡ has → list_any (bytes_eq low) (if has then denied else denied ++ low ∷ []) ≡ true
name_added_is_denied low denied true e = e
name_added_is_denied low denied false e = list_any-append (bytes_eq low) denied (low ∷ []) ∙ or_right (list_any (bytes_eq low) denied) (list_any (bytes_eq low) (low ∷ [])) (or_left (bytes_eq low low) false (equal_bytes_are_same low low refl))

other_name_is_denied_as_before : (other low : List ℕ) (denied : List (List ℕ)) (has : Bool) → bytes_eq other low ≡ false → list_any (bytes_eq other) (if has then denied else denied ++ low ∷ []) ≡ list_any (bytes_eq other) denied
other_name_is_denied_as_before other low denied true e = refl
other_name_is_denied_as_before other low denied false e = list_any-append (bytes_eq other) denied (low ∷ []) ∙ ap (λ b. list_any (bytes_eq other) denied || (b || false)) e ∙ or_false (list_any (bytes_eq other) denied)

module _ (key : FilterKey) (names denied : List (List ℕ)) (last : List SignedAtom) where
  abbrev test : List ℕ → Atom → Bool
  test = is_atom_matching_value key

  abbrev allows : List (List ℕ) → List SignedAtom → List ℕ → Bool
  allows refused fs name = not (is_name_denied refused name) && is_allowing_hit (last_hit_of_list (test name) fs)

  last_hit_after : (before : List SignedAtom) (name : List ℕ) (hit : Option MemberHit) → last_hit_of_list (test name) last ≡ hit → last_hit_of_list (test name) (before ++ last) ≡ later_hit_if_any (last_hit_of_list (test name) before) hit
  last_hit_after before name hit e = last_hit_of_appended_is_later_hit (test name) before last ∙ ap (later_hit_if_any (last_hit_of_list (test name) before)) e

  pub atoms_without_hit_change_nothing : last_hit_of_list (any_test test names) last ≡ None → (before : List SignedAtom) → is_any_undenied_name_allowed key names denied before ≡ is_any_undenied_name_allowed key names denied (before ++ last)
  atoms_without_hit_change_nothing e before = tests_alike_on_elements_pass_alike (allows denied before) (allows denied (before ++ last)) names (λ name has.
      ap (λ o. not (is_name_denied denied name) && is_allowing_hit o) (sym (last_hit_after before name None (list_that_hits_none_hits_not_one test names last name has e))))

  module _ (hit : MemberHit) (said : last_hit_of_list (any_test test names) last ≡ Some hit) where
    all_says : hit.by_all ≡ true → (before : List SignedAtom) (name : List ℕ) → ListHasElement names name → allows denied (before ++ last) name ≡ (not (is_name_denied denied name) && hit.allow)
    all_says by before name has = ap (λ o. not (is_name_denied denied name) && is_allowing_hit o)
        (last_hit_after before name (Some hit) (last_hit_by_all_is_that_of_each test names (all_matches_each_value key) last name hit has said by))

    pub all_denies_each : hit.by_all ≡ true → hit.allow ≡ false → (before : List SignedAtom) → false ≡ is_any_undenied_name_allowed key names denied (before ++ last)
    all_denies_each by denies before = sym (no_element_passes_false_test (allows denied (before ++ last)) names (λ name has.
        all_says by before name has ∙ and_right (not (is_name_denied denied name)) hit.allow denies))

    and_true : (a b : Bool) → b ≡ true → a ≡ (a && b)
    and_true true b e = sym e
    and_true false b e = refl

    pub all_allows_each_undenied : hit.by_all ≡ true → hit.allow ≡ true → (before : List SignedAtom) → list_any (λ name. not (is_name_denied denied name)) names ≡ is_any_undenied_name_allowed key names denied (before ++ last)
    all_allows_each_undenied by allowed before = tests_alike_on_elements_pass_alike (λ name. not (is_name_denied denied name)) (allows denied (before ++ last)) names (λ name has.
        and_true (not (is_name_denied denied name)) hit.allow allowed ∙ sym (all_says by before name has))

    pub first_hit_allows : denied ≡ [] → hit.allow ≡ true → (before : List SignedAtom) → true ≡ is_any_undenied_name_allowed key names denied (before ++ last)
    first_hit_allows none allowed before =
        let r = last_hit_of_any_is_that_of_one test names last hit said in
        sym (passing_element_is_any (allows denied (before ++ last)) names r.name r.stands
        (and_from (not (is_name_denied denied r.name)) (is_allowing_hit (last_hit_of_list (test r.name) (before ++ last))) (ap (λ ds. not (is_name_denied ds r.name)) none) (ap is_allowing_hit (last_hit_after before r.name (Some hit) r.is) ∙ allowed)))

-- ---- one atom that is a name

module _ (key : FilterKey) (names denied : List (List ℕ)) (s : SignedAtom) (word low : List ℕ) (matching : (name : List ℕ) → is_atom_matching_value key name s.atom ≡ is_name_equal_ignoring_case word name)
    (folded : low ≡ str_to_ascii_lowercase word) (hit : MemberHit) (said : hit_of_signed_atom (any_test (is_atom_matching_value key) names) s ≡ Some hit) where
  abbrev test_one : List ℕ → Atom → Bool
  test_one = is_atom_matching_value key

  abbrev allows_one : List (List ℕ) → List SignedAtom → List ℕ → Bool
  allows_one refused fs name = not (is_name_denied refused name) && is_allowing_hit (last_hit_of_list (test_one name) fs)

  matches_if_same : (name : List ℕ) → test_one name s.atom ≡ bytes_eq low (str_to_ascii_lowercase name)
  matches_if_same name = matching name ∙ ap (λ w. bytes_eq w (str_to_ascii_lowercase name)) (sym folded)

  one_hit : (name : List ℕ) → test_one name s.atom ≡ true → hit_of_signed_atom (test_one name) s ≡ Some hit
  one_hit name matches = ap (λ b. hit_if_matching b s) (matches ∙ sym (hit_is_of_matching_atom (any_test test_one names s.atom) s hit said).0) ∙ said

  after : (before : List SignedAtom) (name : List ℕ) (o : Option MemberHit) → hit_of_signed_atom (test_one name) s ≡ o → last_hit_of_list (test_one name) (before ++ s ∷ []) ≡ later_hit_if_any (last_hit_of_list (test_one name) before) o
  after before name o e = last_hit_of_appended_is_later_hit (test_one name) before (s ∷ []) ∙ ap (later_hit_if_any (last_hit_of_list (test_one name) before)) e

  other_says_before : (before : List SignedAtom) (name : List ℕ) → test_one name s.atom ≡ false → last_hit_of_list (test_one name) (before ++ s ∷ []) ≡ last_hit_of_list (test_one name) before
  other_says_before before name fails = after before name None (ap (λ b. hit_if_matching b s) fails)

  -- A name that is denied is one more of those.
  pub denied_name_is_added : hit.allow ≡ false → (more : List (List ℕ)) → more ≡ (if list_any (bytes_eq low) denied then denied else denied ++ low ∷ []) → (before : List SignedAtom)
      → is_any_undenied_name_allowed key names more before ≡ is_any_undenied_name_allowed key names denied (before ++ s ∷ [])
  denied_name_is_added denies more is before = tests_alike_on_elements_pass_alike (allows_one more before) (allows_one denied (before ++ s ∷ [])) names (λ name has. elim (cases_Bool (test_one name s.atom)) [
    | inl matches ↦
        let same = same_bytes_are_equal low (str_to_ascii_lowercase name) (sym (matches_if_same name) ∙ matches) in
        let in_more : is_name_denied more name ≡ true = ap (λ w. list_any (bytes_eq w) more) (sym same) ∙ ap (list_any (bytes_eq low)) is ∙ name_added_is_denied low denied (list_any (bytes_eq low) denied) refl in
        and_left (not (is_name_denied more name)) (is_allowing_hit (last_hit_of_list (test_one name) before)) (not_from_true (is_name_denied more name) in_more)
        ∙ sym (and_right (not (is_name_denied denied name)) (is_allowing_hit (last_hit_of_list (test_one name) (before ++ s ∷ []))) (ap is_allowing_hit (after before name (Some hit) (one_hit name matches)) ∙ denies))
    | inr fails ↦
        let apart : bytes_eq (str_to_ascii_lowercase name) low ≡ false = false_from_ne_true (bytes_eq (str_to_ascii_lowercase name) low) (λ t. false≢true (sym fails ∙ matches_if_same name ∙ equal_bytes_are_same low (str_to_ascii_lowercase name) (sym (same_bytes_are_equal (str_to_ascii_lowercase name) low t)))) in
        ap₂ (λ b o. not b && is_allowing_hit o)
        (ap (list_any (bytes_eq (str_to_ascii_lowercase name))) is ∙ other_name_is_denied_as_before (str_to_ascii_lowercase name) low denied (list_any (bytes_eq low) denied) apart)
        (sym (other_says_before before name fails))
  ])

  -- A name that is allowed and was denied later says nothing.
  pub allowed_name_was_denied : list_any (bytes_eq low) denied ≡ true → (before : List SignedAtom) → is_any_undenied_name_allowed key names denied before ≡ is_any_undenied_name_allowed key names denied (before ++ s ∷ [])
  allowed_name_was_denied was before = tests_alike_on_elements_pass_alike (allows_one denied before) (allows_one denied (before ++ s ∷ [])) names (λ name has. elim (cases_Bool (test_one name s.atom)) [
    | inl matches ↦
        let same = same_bytes_are_equal low (str_to_ascii_lowercase name) (sym (matches_if_same name) ∙ matches) in
        let is_in : not (is_name_denied denied name) ≡ false = not_from_true (is_name_denied denied name) (ap (λ w. list_any (bytes_eq w) denied) (sym same) ∙ was) in
        and_left (not (is_name_denied denied name)) (is_allowing_hit (last_hit_of_list (test_one name) before)) is_in
        ∙ sym (and_left (not (is_name_denied denied name)) (is_allowing_hit (last_hit_of_list (test_one name) (before ++ s ∷ []))) is_in)
    | inr fails ↦ ap (λ o. not (is_name_denied denied name) && is_allowing_hit o) (sym (other_says_before before name fails))
  ])

  -- A name that is allowed and was not denied later is allowed.
  pub allowed_name_was_not_denied : hit.allow ≡ true → list_any (bytes_eq low) denied ≡ false → (before : List SignedAtom) → true ≡ is_any_undenied_name_allowed key names denied (before ++ s ∷ [])
  allowed_name_was_not_denied allowed was before =
      let r = any_has_passing_element (λ n. test_one n s.atom) names (hit_is_of_matching_atom (any_test test_one names s.atom) s hit said).0 in
      let name = r.element in
      let same = same_bytes_are_equal low (str_to_ascii_lowercase name) (sym (matches_if_same name) ∙ r.passes) in
      sym (passing_element_is_any (allows_one denied (before ++ s ∷ [])) names name r.stands
      (and_from (not (is_name_denied denied name)) (is_allowing_hit (last_hit_of_list (test_one name) (before ++ s ∷ [])))
      (not_from_false (is_name_denied denied name) (ap (λ w. list_any (bytes_eq w) denied) (sym same) ∙ was)) (ap is_allowing_hit (after before name (Some hit) (one_hit name r.passes)) ∙ allowed)))
