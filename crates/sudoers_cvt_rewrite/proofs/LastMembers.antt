-- Lists that are asked for from their last member to their first.
use Rattle.sudoers_cvt_rewrite.proofs.Common.{Kind, Line, List, Member, None, [], alias_members_of_atom, ap, definitions_of_lines, false, get_or, length, list_any, list_expanded_n_times, map, map-append, not, refl}
use Rattle.sudoers_cvt_rewrite.proofs.Common.{signed_atom_of_member, sym, take, ℕ, ◌++◌, ◌+◌, ◌<◌, ◌&&◌, ◌∙◌, ◌∷◌, ◌≡◌}
use Rattle.sudoers_cvt_rewrite.proofs.Common.{Bool, arith, ◌≤◌}
use Rattle.std.specs.Prelude.{◌-◌}
use Rattle.sudoers_match.specs.internal.Straight.{LeadsToNoCyclicAlias}
use Rattle.sudoers_cvt_rewrite.proofs.Matchers.{row_of_acyclic_list_is_acyclic}
use Rattle.sudoers_cvt_rewrite.specs.declared.filter_values.FilterValues.{FilterValues}
use Rattle.std.proofs.lemmas.Bool.{and_right}
use Rattle.std.proofs.lemmas.List.{take_more}
use Rattle.sudoers_match_list.proofs.Parts.{times_append, times_empty, times_plain}
use Rattle.sudoers_cvt_rewrite.specs.declared.filter_text.FilterKey.{FilterKey}
use Rattle.sudoers_cvt_rewrite.specs.internal.SameNames.{is_name_denied}
use Rattle.sudoers_cvt_rewrite.specs.internal.Values.{IsEffectOfLastAtoms, IsPlainNameOfAtom, is_any_undenied_name_allowed, is_atom_matching_any_name, signed_atoms_of_expanded_list}
use Rattle.sudoers_cvt_rewrite.specs.declared.member_effects.MemberEffect.{MemberEffect}
use Rattle.sudoers_cvt_rewrite.specs.declared.member_effects.MemberEffect.TheVariants.{Nothing, Answer}
use Rattle.sudoers_cvt_rewrite.proofs.Effects.{allowed_name_was_denied, allowed_name_was_not_denied, denied_name_is_added}
use Rattle.sudoers_match_list.specs.declared.verdict.MemberHit.{MemberHit}
use Rattle.sudoers_match_list.specs.Flat.{hit_of_signed_atom}
use Rattle.std.specs.Str.{bytes_eq, str_to_ascii_lowercase}
use Rattle.sudoers_cvt_rewrite.proofs.Common.{Some, if◌then◌else◌, last_hit_in_expanded_list, last_hit_of_list, subst, true}
use Rattle.sudoers_cvt_rewrite.proofs.AnyHits.{no_element_passes_false_test}

module _ (k : Kind) (lines : List Line) where
  -- The atoms of a list are those of its members before the last, and those of the last.
  expanded_list_ends_with_last_member : {R : Type 0} (f : R → Member) (rows : List R) (n : ℕ) (d : R) → n < length rows
      → signed_atoms_of_expanded_list lines k (map f (take (n + 1) rows)) ≡ signed_atoms_of_expanded_list lines k (map f (take n rows)) ++ signed_atoms_of_expanded_list lines k (f (get_or rows n d) ∷ [])
  expanded_list_ends_with_last_member f rows n d h =
      let times = length (definitions_of_lines lines) in
      let last = get_or rows n d in
      let whole : map f (take (n + 1) rows) ≡ map f (take n rows) ++ f last ∷ [] = ap (map f) (take_more rows n d h) ∙ map-append f (take n rows) (last ∷ []) in
      ap (λ ms. map signed_atom_of_member (list_expanded_n_times times k lines ms)) whole
      ∙ ap (map signed_atom_of_member) (times_append k lines times (map f (take n rows)) (f last ∷ []))
      ∙ map-append signed_atom_of_member (list_expanded_n_times times k lines (map f (take n rows))) (list_expanded_n_times times k lines (f last ∷ []))

  pub last_row_leads_to_no_cycle : {R : Type 0} (f : R → Member) (rows : List R) (n : ℕ) (d : R) → n < length rows → LeadsToNoCyclicAlias k lines (map f rows) → LeadsToNoCyclicAlias k lines (f (get_or rows n d) ∷ [])
  last_row_leads_to_no_cycle f rows n d h straight = row_of_acyclic_list_is_acyclic k lines f rows n d (get_or rows n d ∷ []) h refl straight

  module _ {R : Type 0} (f : R → Member) (rows : List R) (left : ℕ) (some : 0 < left) (within : left ≤ length rows) (v values : FilterValues) (same : v ≡ values) (denied more : List (List ℕ)) (effect : MemberEffect) (total : Bool) where
    abbrev allowed : List (List ℕ) → List Member → Bool
    allowed refused ms = is_any_undenied_name_allowed values.key values.names.items refused (signed_atoms_of_expanded_list lines k ms)

    before_last : (d : R) → signed_atoms_of_expanded_list lines k (map f (take left rows)) ≡ signed_atoms_of_expanded_list lines k (map f (take (left - 1) rows)) ++ signed_atoms_of_expanded_list lines k (f (get_or rows (left - 1) d) ∷ [])
    before_last d =
        let one : left ≡ left - 1 + 1 = omega (arith, some) in
        ap (λ n. signed_atoms_of_expanded_list lines k (map f (take n rows))) one ∙ expanded_list_ends_with_last_member f rows (left - 1) d (omega (arith, some, within))

    pub members_before_last_decide : (d : R) → effect ≡ Nothing → IsEffectOfLastAtoms v.key v.names.items denied more (signed_atoms_of_expanded_list lines k (f (get_or rows (left - 1) d) ∷ [])) effect
        → allowed denied (map f (take left rows)) ≡ total → allowed more (map f (take (left - 1) rows)) ≡ total
    members_before_last_decide d is says so_far =
        let last = signed_atoms_of_expanded_list lines k (f (get_or rows (left - 1) d) ∷ []) in
        let nothing = subst (λ (e : MemberEffect). IsEffectOfLastAtoms values.key values.names.items denied more last e) is (subst (λ (u : FilterValues). IsEffectOfLastAtoms u.key u.names.items denied more last effect) same says) in
        nothing (signed_atoms_of_expanded_list lines k (map f (take (left - 1) rows))) ∙ ap (is_any_undenied_name_allowed values.key values.names.items denied) (sym (before_last d)) ∙ so_far

    pub last_member_answers : (d : R) (answer : Bool) → effect ≡ Answer answer → IsEffectOfLastAtoms v.key v.names.items denied more (signed_atoms_of_expanded_list lines k (f (get_or rows (left - 1) d) ∷ [])) effect
        → allowed denied (map f (take left rows)) ≡ total → answer ≡ total
    last_member_answers d answer is says so_far =
        let last = signed_atoms_of_expanded_list lines k (f (get_or rows (left - 1) d) ∷ []) in
        let said = subst (λ (e : MemberEffect). IsEffectOfLastAtoms values.key values.names.items denied more last e) is (subst (λ (u : FilterValues). IsEffectOfLastAtoms u.key u.names.items denied more last effect) same says) in
        said (signed_atoms_of_expanded_list lines k (map f (take (left - 1) rows))) ∙ ap (is_any_undenied_name_allowed values.key values.names.items denied) (sym (before_last d)) ∙ so_far

  pub empty_list_has_no_atoms : signed_atoms_of_expanded_list lines k [] ≡ []
  empty_list_has_no_atoms = ap (map signed_atom_of_member) (times_empty k lines (length (definitions_of_lines lines)))

  pub undefined_member_is_its_atom : (m : Member) → alias_members_of_atom k lines m.atom ≡ None → signed_atoms_of_expanded_list lines k (m ∷ []) ≡ signed_atom_of_member m ∷ []
  undefined_member_is_its_atom m e = ap (map signed_atom_of_member) (times_plain k lines (length (definitions_of_lines lines)) m e)

pub empty_list_allows_no_name : (key : FilterKey) (names denied : List (List ℕ)) → false ≡ is_any_undenied_name_allowed key names denied []
empty_list_allows_no_name key names denied = sym (no_element_passes_false_test (λ name. not (is_name_denied denied name) && false) names (λ name has. and_right (not (is_name_denied denied name)) false refl))

-- ---- a last member that is a name

module _ (k : Kind) (lines : List Line) (key : FilterKey) (names denied : List (List ℕ)) (m : Member) (word low : List ℕ) (plain : IsPlainNameOfAtom k lines key m.atom word) (folded : low ≡ str_to_ascii_lowercase word)
    (hit : MemberHit) (said : last_hit_in_expanded_list lines k (is_atom_matching_any_name key names) (m ∷ []) ≡ Some hit) where
  is_its_atom : signed_atoms_of_expanded_list lines k (m ∷ []) ≡ signed_atom_of_member m ∷ []
  is_its_atom = undefined_member_is_its_atom k lines m plain.undefined

  said_by_atom : hit_of_signed_atom (is_atom_matching_any_name key names) (signed_atom_of_member m) ≡ Some hit
  said_by_atom = ap (last_hit_of_list (is_atom_matching_any_name key names)) (sym is_its_atom) ∙ said

  of_atom : (more : List (List ℕ)) (effect : MemberEffect) → IsEffectOfLastAtoms key names denied more (signed_atom_of_member m ∷ []) effect → IsEffectOfLastAtoms key names denied more (signed_atoms_of_expanded_list lines k (m ∷ [])) effect
  of_atom more effect e = subst (λ last. IsEffectOfLastAtoms key names denied more last effect) (sym is_its_atom) e

  pub denying_name_is_added : hit.allow ≡ false → (more : List (List ℕ)) → more ≡ (if list_any (bytes_eq low) denied then denied else denied ++ low ∷ [])
      → IsEffectOfLastAtoms key names denied more (signed_atoms_of_expanded_list lines k (m ∷ [])) Nothing
  denying_name_is_added denies more is = of_atom more Nothing (denied_name_is_added key names denied (signed_atom_of_member m) word low plain.matching folded hit said_by_atom denies more is)

  pub allowing_name_that_was_denied : list_any (bytes_eq low) denied ≡ true → IsEffectOfLastAtoms key names denied denied (signed_atoms_of_expanded_list lines k (m ∷ [])) Nothing
  allowing_name_that_was_denied was = of_atom denied Nothing (allowed_name_was_denied key names denied (signed_atom_of_member m) word low plain.matching folded hit said_by_atom was)

  pub allowing_name_that_was_not_denied : hit.allow ≡ true → list_any (bytes_eq low) denied ≡ false → IsEffectOfLastAtoms key names denied denied (signed_atoms_of_expanded_list lines k (m ∷ [])) (Answer true)
  allowing_name_that_was_not_denied allowed was = of_atom denied (Answer true) (allowed_name_was_not_denied key names denied (signed_atom_of_member m) word low plain.matching folded hit said_by_atom allowed was)
