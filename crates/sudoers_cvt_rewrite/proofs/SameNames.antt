-- Values that match the same atoms, letter case ignored.
use Rattle.std.proofs.Common.{Bool, List, [], ap, ap₂, bytes_eq, false, if◌then◌else◌, inl, inr, not, refl, sym, take, true, ℕ, ◌&&◌, ◌+◌, ◌==◌, ◌∙◌, ◌∷◌, ◌≡◌}
use Rattle.std.proofs.Common.{arith, cond, suc}
use Rattle.std.proofs.lemmas.Bool.{cases_lt, cond_both, le-leb, le-ltb, lt-leb, lt-ltb, ltb-false, ne_eqb}
use Rattle.std.specs.Prelude.{nat_le, nat_lt}
use Rattle.std.specs.List.{list_any, prefix_len}
use Rattle.std.specs.Char.{to_ascii_lowercase}
use Rattle.std.specs.Str.{str_to_ascii_lowercase}
use Rattle.sudoers_grammar.specs.declared.node.Atom.{Atom}
use Rattle.sudoers_grammar.specs.declared.node.Atom.TheVariants as atom
use Rattle.sudoers_match_member.specs.Hits.{has_dot}
use Rattle.sudoers_match_member.specs.Folded.{byte_case_folded_if_wanted, bytes_case_folded_if_wanted}
use Rattle.sudoers_match_member.specs.Wildcard.{is_pattern_match}
use Rattle.sudoers_match_member.specs.declared.wildcards.GlobMode.TheVariants as mode
use Rattle.sudoers_match_list.specs.Flat.{SignedAtom, last_hit_of_list, later_hit_if_any}
use Rattle.sudoers_cvt_rewrite.specs.declared.filter_text.FilterKey.{FilterKey}
use Rattle.sudoers_cvt_rewrite.specs.declared.filter_text.FilterKey.TheVariants.{User, Group, Host}
use Rattle.sudoers_cvt_rewrite.specs.Filter.{is_list_without_items, host_name_before_dot}
use Rattle.sudoers_cvt_rewrite.proofs.Common.{Kind, Line, Member}
use Rattle.sudoers_cvt_rewrite.specs.declared.values_matcher.ValuesMatcher.{ValuesMatcher}
use Rattle.sudoers_cvt_rewrite.specs.internal.Matcher.{IsValidValuesMatcher, is_any_value_matched_or_allowed, is_hit_any_or_allowing}
use Rattle.sudoers_cvt_rewrite.specs.internal.SameNames.{AreSameNamesIgnoringCase}
use Rattle.sudoers_cvt_rewrite.specs.internal.Values.{is_all_or_name_of_value, is_atom_matching_any_name, is_atom_matching_value, signed_atoms_of_expanded_list}
use Rattle.sudoers_cvt_rewrite.proofs.AnyHits.{hit_if_matching}

-- ---- letter case

byte_is_folded : (b : ℕ) → byte_case_folded_if_wanted true b ≡ to_ascii_lowercase b
unfolding byte_case_folded_if_wanted
byte_is_folded b = elim (cases_lt b 65) [
  | inl low ↦ ap (λ t. if t && nat_le b 90 then b + 32 else b) (lt-leb 65 b low) ∙ ap (λ t. cond t b (cond (nat_lt b 91) (b + 32) b)) (sym (lt-ltb b 65 low))
  | inr high ↦ elim (cases_lt b 91) [
    | inl letter ↦
        ap₂ (λ t u. if t && u then b + 32 else b) (le-leb 65 b high) (le-leb b 90 (omega arith))
        ∙ ap₂ (λ t u. cond t b (cond u (b + 32) b)) (sym (le-ltb b 65 high)) (sym (lt-ltb b 91 letter))
    | inr other ↦
        ap₂ (λ t u. if t && u then b + 32 else b) (le-leb 65 b high) (lt-leb b 90 (omega arith))
        ∙ ap₂ (λ t u. cond t b (cond u (b + 32) b)) (sym (le-ltb b 65 high)) (sym (le-ltb b 91 other))
  ]
]

pub bytes_are_folded : (bs : List ℕ) → bytes_case_folded_if_wanted true bs ≡ str_to_ascii_lowercase bs
bytes_are_folded [] = refl
bytes_are_folded (b ∷ bs) = ap₂ (λ c cs. c ∷ cs) (byte_is_folded b) (bytes_are_folded bs)

dot_is_no_letter : (b : ℕ) → (to_ascii_lowercase b == 46) ≡ (b == 46)
dot_is_no_letter b = cond_both (nat_lt b 65) b (cond (nat_lt b 91) (b + 32) b) (λ c. (c == 46) ≡ (b == 46)) (λ low. refl)
    (λ high. cond_both (nat_lt b 91) (b + 32) b (λ c. (c == 46) ≡ (b == 46))
    (λ letter. let from = ltb-false b 65 high in ne_eqb (b + 32) 46 (λ is. omega (arith, is, from)) ∙ sym (ne_eqb b 46 (λ is. omega (arith, is, from)))) (λ other. refl))

name_before_dot_is_front_and_rest : (b : ℕ) (bs : List ℕ) (dot : Bool) → (b == 46) ≡ dot → host_name_before_dot (b ∷ bs) ≡ (if dot then [] else b ∷ host_name_before_dot bs)
name_before_dot_is_front_and_rest b bs true e = ap (λ t. take (cond (not t) (1 + prefix_len (λ c. not (c == 46)) bs) 0) (b ∷ bs)) e
name_before_dot_is_front_and_rest b bs false e =
    let more : 1 + prefix_len (λ c. not (c == 46)) bs ≡ suc (prefix_len (λ c. not (c == 46)) bs) = omega arith in
    ap (λ t. take (cond (not t) (1 + prefix_len (λ c. not (c == 46)) bs) 0) (b ∷ bs)) e
    ∙ ap (λ n. take n (b ∷ bs)) more

same_front_or_nothing : (v w : ℕ) (vs ws : List ℕ) (dot : Bool) → to_ascii_lowercase v ≡ to_ascii_lowercase w → str_to_ascii_lowercase vs ≡ str_to_ascii_lowercase ws
    → str_to_ascii_lowercase (if dot then [] else v ∷ vs) ≡ str_to_ascii_lowercase (if dot then [] else w ∷ ws)
same_front_or_nothing v w vs ws true e f = refl
same_front_or_nothing v w vs ws false e f = ap₂ (λ c cs. c ∷ cs) e f

same_before_dot : (v w : List ℕ) → str_to_ascii_lowercase v ≡ str_to_ascii_lowercase w → str_to_ascii_lowercase (host_name_before_dot v) ≡ str_to_ascii_lowercase (host_name_before_dot w)
same_before_dot [] [] e = refl
same_before_dot [] (y ∷ w) e = absurd (grind arith)
same_before_dot (x ∷ v) [] e = absurd (grind arith)
same_before_dot (x ∷ v) (y ∷ w) e =
    let front : to_ascii_lowercase x ≡ to_ascii_lowercase y = grind arith in
    let rest : str_to_ascii_lowercase v ≡ str_to_ascii_lowercase w = grind arith in
    let dots : (y == 46) ≡ (x == 46) = sym (dot_is_no_letter y) ∙ ap (λ c. c == 46) (sym front) ∙ dot_is_no_letter x in
    ap str_to_ascii_lowercase (name_before_dot_is_front_and_rest x v (x == 46) refl)
    ∙ same_front_or_nothing x y (host_name_before_dot v) (host_name_before_dot w) (x == 46) front (same_before_dot v w rest)
    ∙ ap str_to_ascii_lowercase (sym (name_before_dot_is_front_and_rest y w (x == 46) dots))

folded_alike : (v w : List ℕ) → str_to_ascii_lowercase v ≡ str_to_ascii_lowercase w → bytes_case_folded_if_wanted true v ≡ bytes_case_folded_if_wanted true w
folded_alike v w e = bytes_are_folded v ∙ e ∙ sym (bytes_are_folded w)

host_pattern_alike : (v w pattern : List ℕ) (dot : Bool) → str_to_ascii_lowercase v ≡ str_to_ascii_lowercase w
    → is_pattern_match mode.Args (bytes_case_folded_if_wanted true pattern) (bytes_case_folded_if_wanted true (if dot then v else host_name_before_dot v))
    ≡ is_pattern_match mode.Args (bytes_case_folded_if_wanted true pattern) (bytes_case_folded_if_wanted true (if dot then w else host_name_before_dot w))
host_pattern_alike v w pattern true e = ap (is_pattern_match mode.Args (bytes_case_folded_if_wanted true pattern)) (folded_alike v w e)
host_pattern_alike v w pattern false e = ap (is_pattern_match mode.Args (bytes_case_folded_if_wanted true pattern)) (folded_alike (host_name_before_dot v) (host_name_before_dot w) (same_before_dot v w e))

same_names_match_alike : (key : FilterKey) (v w : List ℕ) → str_to_ascii_lowercase v ≡ str_to_ascii_lowercase w → (a : Atom) → is_atom_matching_value key v a ≡ is_atom_matching_value key w a
same_names_match_alike User v w e (atom.Alias name) = ap (bytes_eq (str_to_ascii_lowercase name)) e
same_names_match_alike User v w e (atom.Name name) = ap (bytes_eq (str_to_ascii_lowercase name)) e
same_names_match_alike User v w e other = refl
same_names_match_alike Group v w e (atom.Group name) = ap (bytes_eq (str_to_ascii_lowercase name)) e
same_names_match_alike Group v w e other = refl
same_names_match_alike Host v w e (atom.Alias pattern) = host_pattern_alike v w pattern (has_dot pattern) e
same_names_match_alike Host v w e (atom.Host pattern) = host_pattern_alike v w pattern (has_dot pattern) e
same_names_match_alike Host v w e other = refl

tests_alike_have_same_last_hit : (test other : Atom → Bool) → ((a : Atom) → test a ≡ other a) → (fs : List SignedAtom) → last_hit_of_list test fs ≡ last_hit_of_list other fs
tests_alike_have_same_last_hit test other alike [] = refl
tests_alike_have_same_last_hit test other alike (s ∷ fs) = ap₂ later_hit_if_any (ap (λ b. hit_if_matching b s) (alike s.atom)) (tests_alike_have_same_last_hit test other alike fs)

-- What lists say of values does not go by letter case.
same_values_are_matched_or_allowed_alike : (allowing : Bool) (key : FilterKey) (names values : List (List ℕ)) (fs : List SignedAtom) → AreSameNamesIgnoringCase names values
    → list_any (λ name. is_hit_any_or_allowing allowing (last_hit_of_list (is_atom_matching_value key name) fs)) names ≡ list_any (λ value. is_hit_any_or_allowing allowing (last_hit_of_list (is_atom_matching_value key value) fs)) values
same_values_are_matched_or_allowed_alike allowing key names values fs same =
    same (λ value. is_hit_any_or_allowing allowing (last_hit_of_list (is_atom_matching_value key value) fs))
    (λ v w e. ap (is_hit_any_or_allowing allowing) (tests_alike_have_same_last_hit (is_atom_matching_value key v) (is_atom_matching_value key w) (same_names_match_alike key v w e) fs))

-- What the names say that a matcher keeps is what the values say.
pub matcher_says_what_values_say : (allowing : Bool) (k : Kind) (lines : List Line) (key : FilterKey) (values : List (List ℕ)) (m : ValuesMatcher) (ms : List Member) → IsValidValuesMatcher k lines key values m
    → is_any_value_matched_or_allowed allowing lines k (is_atom_matching_value m.values.key) m.values.names.items ms ≡ is_any_value_matched_or_allowed allowing lines k (is_atom_matching_value key) values ms
matcher_says_what_values_say allowing k lines key values m ms valid =
    ap (λ word. is_any_value_matched_or_allowed allowing lines k (is_atom_matching_value word) m.values.names.items ms) valid.key_is
    ∙ same_values_are_matched_or_allowed_alike allowing key m.values.names.items values (signed_atoms_of_expanded_list lines k ms) valid.same

-- ---- any of the values, by cases

some_value_is_any : {X : Type 0} (xs : List X) → not (is_list_without_items xs) ≡ list_any (λ x. true) xs
some_value_is_any [] = refl
some_value_is_any (x ∷ xs) = refl

no_value_is_any : {X : Type 0} (xs : List X) → false ≡ list_any (λ x. false) xs
no_value_is_any [] = refl
no_value_is_any (x ∷ xs) = no_value_is_any xs

pub all_or_name_matches_any_value : (key : FilterKey) (names : List (List ℕ)) (a : Atom) → is_all_or_name_of_value key names a ≡ is_atom_matching_any_name key names a
all_or_name_matches_any_value User names atom.All = some_value_is_any names
all_or_name_matches_any_value User names (atom.Alias name) = refl
all_or_name_matches_any_value User names (atom.Name name) = refl
all_or_name_matches_any_value User names other = no_value_is_any names
all_or_name_matches_any_value Group names atom.All = some_value_is_any names
all_or_name_matches_any_value Group names (atom.Group name) = refl
all_or_name_matches_any_value Group names other = no_value_is_any names
all_or_name_matches_any_value Host names atom.All = some_value_is_any names
all_or_name_matches_any_value Host names (atom.Alias pattern) = refl
all_or_name_matches_any_value Host names (atom.Host pattern) = refl
all_or_name_matches_any_value Host names other = no_value_is_any names
