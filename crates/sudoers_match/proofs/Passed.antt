-- One line more.
use Rattle.sudoers_match.proofs.Common.{AreMatchingHostGroupPlacesOfSpec, HostGroupPlace, IsConcatenationOfParts, Line, List, None, Option, Some, Tables, UserSpec, Who, [], ap, append-nil, append_assoc, cons_option, drop, drop_all}
use Rattle.sudoers_match.proofs.Common.{drop_more, get_or, host_groups_of_view, length, line_of_row, map, members_of_view, node_in_tables, node_of_view, option_map, parameters_of_view, refl, runas_defaults_in_node}
use Rattle.sudoers_match.proofs.Common.{scope_of_view, slice_get, specs_with_line_numbers, subst, sym, user_spec_in_node, user_specs_of_lines, ℕ, ◌++◌, ◌+◌, ◌<◌, ◌∙◌, ◌∷◌, ◌≡◌, ◌≤◌}
use Rattle.sudoers_match.proofs.Common.{runas_defaults_in_params, setting_with_scope}
use Rattle.sudoers_grammar.specs.Node as node
use Rattle.sudoers_line_rows.specs.declared.row_lists.RowsOfTable.{RowsOfTable}
use Rattle.sudoers_line_rows.specs.declared.rows.MemberRow.{MemberRow}
use Rattle.sudoers_line_rows.specs.declared.rows.HostGroupRow.{HostGroupRow}
use Rattle.sudoers_line_rows.specs.declared.rows.ParamRow.{ParamRow}
use Rattle.sudoers_line_rows.specs.declared.view.Scope.{Scope as ScopeView}
use Rattle.sudoers_line_rows.specs.declared.view.Node.{Node as NodeView}
use Rattle.sudoers_line_rows.specs.declared.view.Node.TheVariants as view
use Rattle.sudoers_tree.specs.declared.line.LineRow.{LineRow}
use Rattle.sudoers_match.proofs.Gathered.{mapped_row_is_at_its_index, joined_more}

view_other_than_spec_has_none : (n : NodeView) → ((users : RowsOfTable MemberRow) (groups : RowsOfTable HostGroupRow) → n ≡ view.Spec users groups → ⊥) → user_spec_in_node (node_of_view n) ≡ None
view_other_than_spec_has_none (view.Spec users groups) other = absurd (other users groups refl)
view_other_than_spec_has_none view.Blank other = refl
view_other_than_spec_has_none view.Comment other = refl
view_other_than_spec_has_none (view.Include dir path) other = refl
view_other_than_spec_has_none (view.Defaults scope params) other = refl
view_other_than_spec_has_none (view.Alias kind defs) other = refl

pub view_other_than_defaults_has_none : (n : NodeView) → ((scope : Option ScopeView) (params : RowsOfTable ParamRow) → n ≡ view.Defaults scope params → ⊥) → runas_defaults_in_node (node_of_view n) ≡ []
view_other_than_defaults_has_none (view.Defaults scope params) other = absurd (other scope params refl)
view_other_than_defaults_has_none view.Blank other = refl
view_other_than_defaults_has_none view.Comment other = refl
view_other_than_defaults_has_none (view.Include dir path) other = refl
view_other_than_defaults_has_none (view.Spec users groups) other = refl
view_other_than_defaults_has_none (view.Alias kind defs) other = refl

module _ (t : Tables) (rows : List LineRow) (i : ℕ) (d : LineRow) (within : i < length rows) (n : NodeView) (is : node_of_view n ≡ node_in_tables t (get_or rows i d).node) where
  abbrev pub line : Line
  line = line_of_row t (get_or rows i d)

  pub line_at : slice_get (map (line_of_row t) rows) i ≡ Some line
  line_at = mapped_row_is_at_its_index (line_of_row t) rows i d within line refl

  abbrev pub Specs : ℕ → List UserSpec
  Specs from = user_specs_of_lines (map (line_of_row t) (drop from rows))

  left_specs : Specs i ≡ cons_option (user_spec_in_node (node_of_view n)) (Specs (i + 1))
  left_specs = ap (λ rest. user_specs_of_lines (map (line_of_row t) rest)) (drop_more rows i d within) ∙ ap (λ m. cons_option (user_spec_in_node m) (Specs (i + 1))) (sym is)

  module _ (users : RowsOfTable MemberRow) (groups : RowsOfTable HostGroupRow) (it : n ≡ view.Spec users groups) where
    abbrev pub spec : UserSpec
    spec = record { users = members_of_view users; groups = host_groups_of_view groups }

    pub says : line.node ≡ node.Spec (members_of_view users) (host_groups_of_view groups)
    says = sym is ∙ ap node_of_view it

    pub left_spec : Specs i ≡ spec ∷ Specs (i + 1)
    left_spec = left_specs ∙ ap (λ m. cons_option (user_spec_in_node (node_of_view m)) (Specs (i + 1))) it

    -- a user specification more
    pub spec_more : (who : Who) (lines : List Line) (Goal : List HostGroupPlace → Type 0) (s : ℕ) (places new more : List HostGroupPlace)
        → ((rest : List HostGroupPlace) → IsConcatenationOfParts (AreMatchingHostGroupPlacesOfSpec lines who) s (Specs i) rest → Goal (places ++ rest))
        → new ≡ places ++ more → AreMatchingHostGroupPlacesOfSpec lines who s spec more
        → (rest : List HostGroupPlace) → IsConcatenationOfParts (AreMatchingHostGroupPlacesOfSpec lines who) (s + 1) (Specs (i + 1)) rest → Goal (new ++ rest)
    spec_more who lines Goal s places new more so_far e p rest j =
        subst Goal (sym (ap (λ ys. ys ++ rest) e ∙ append_assoc places more rest))
        (so_far (more ++ rest) (subst (λ xs. IsConcatenationOfParts (AreMatchingHostGroupPlacesOfSpec lines who) s xs (more ++ rest)) (sym left_spec)
        (joined_more (AreMatchingHostGroupPlacesOfSpec lines who) s spec (Specs (i + 1)) more rest p j)))

  module _ (scope : Option ScopeView) (params : RowsOfTable ParamRow) (it : n ≡ view.Defaults scope params) where
    pub says_defaults : line.node ≡ node.Defaults (option_map scope_of_view scope) (parameters_of_view params)
    says_defaults = sym is ∙ ap node_of_view it

  pub no_default_in : ((scope : Option ScopeView) (params : RowsOfTable ParamRow) → n ≡ view.Defaults scope params → ⊥) → runas_defaults_in_node line.node ≡ []
  no_default_in other = ap runas_defaults_in_node (sym is) ∙ view_other_than_defaults_has_none n other

  pub left_none : ((users : RowsOfTable MemberRow) (groups : RowsOfTable HostGroupRow) → n ≡ view.Spec users groups → ⊥) → Specs i ≡ Specs (i + 1)
  left_none other = left_specs ∙ ap (λ o. cons_option o (Specs (i + 1))) (view_other_than_spec_has_none n other)

  -- ---- user specifications with the numbers of their lines

  abbrev pub Numbered : ℕ → List (ℕ × UserSpec)
  Numbered from = specs_with_line_numbers from (map (line_of_row t) (drop from rows))

  left_numbered : Numbered i ≡ cons_option (option_map (λ (s : UserSpec). (i, s)) (user_spec_in_node (node_of_view n))) (Numbered (i + 1))
  left_numbered =
      ap (λ rest. specs_with_line_numbers i (map (line_of_row t) rest)) (drop_more rows i d within)
      ∙ ap (λ m. cons_option (option_map (λ (s : UserSpec). (i, s)) (user_spec_in_node m)) (Numbered (i + 1))) (sym is)

  pub numbered_spec : (users : RowsOfTable MemberRow) (groups : RowsOfTable HostGroupRow) (it : n ≡ view.Spec users groups) → Numbered i ≡ (i, spec users groups it) ∷ Numbered (i + 1)
  numbered_spec users groups it =
      left_numbered ∙ ap (λ m. cons_option (option_map (λ (s : UserSpec). (i, s)) (user_spec_in_node (node_of_view m))) (Numbered (i + 1))) it

  pub numbered_none : ((users : RowsOfTable MemberRow) (groups : RowsOfTable HostGroupRow) → n ≡ view.Spec users groups → ⊥) → Numbered i ≡ Numbered (i + 1)
  numbered_none other = left_numbered ∙ ap (λ o. cons_option (option_map (λ (s : UserSpec). (i, s)) o) (Numbered (i + 1))) (view_other_than_spec_has_none n other)

  -- another line more
  pub none_more : ((users : RowsOfTable MemberRow) (groups : RowsOfTable HostGroupRow) → n ≡ view.Spec users groups → ⊥)
      → (Part : ℕ → UserSpec → List HostGroupPlace → Type 0) (s : ℕ) (rest : List HostGroupPlace) → IsConcatenationOfParts Part s (Specs (i + 1)) rest → IsConcatenationOfParts Part s (Specs i) rest
  none_more other Part s rest j =
      subst (λ xs. IsConcatenationOfParts Part s xs rest) (sym (left_none other)) j

-- all lines
pub places_after_all_lines_are_complete : (t : Tables) (rows : List LineRow) (who : Who) (policy lines : List Line) → map (line_of_row t) rows ≡ policy → lines ≡ policy
    → (i s : ℕ) (places : List HostGroupPlace) → length rows ≤ i
    → ((rest : List HostGroupPlace) → IsConcatenationOfParts (AreMatchingHostGroupPlacesOfSpec lines who) s (user_specs_of_lines (map (line_of_row t) (drop i rows))) rest → IsConcatenationOfParts (AreMatchingHostGroupPlacesOfSpec lines who) 0 (user_specs_of_lines (map (line_of_row t) rows)) (places ++ rest))
    → IsConcatenationOfParts (AreMatchingHostGroupPlacesOfSpec policy who) 0 (user_specs_of_lines policy) places
places_after_all_lines_are_complete t rows who policy lines shown same i s places end so_far =
    subst (λ ls. IsConcatenationOfParts (AreMatchingHostGroupPlacesOfSpec ls who) 0 (user_specs_of_lines policy) places) same
    (subst (λ ls. IsConcatenationOfParts (AreMatchingHostGroupPlacesOfSpec lines who) 0 (user_specs_of_lines ls) places) shown
    (subst (IsConcatenationOfParts (AreMatchingHostGroupPlacesOfSpec lines who) 0 (user_specs_of_lines (map (line_of_row t) rows))) (append-nil places)
    (so_far [] (subst (λ xs. IsConcatenationOfParts (AreMatchingHostGroupPlacesOfSpec lines who) s (user_specs_of_lines (map (line_of_row t) xs)) []) (sym (drop_all i rows end)) refl))))

pub defaults_view_without_setting_has_none : (n : NodeView) (scope : Option ScopeView) (params : RowsOfTable ParamRow) → n ≡ view.Defaults scope params
    → runas_defaults_in_params (parameters_of_view params) ≡ [] → runas_defaults_in_node (node_of_view n) ≡ []
defaults_view_without_setting_has_none n scope params it none =
    ap (λ m. runas_defaults_in_node (node_of_view m)) it ∙ ap (map (setting_with_scope (option_map scope_of_view scope))) none
