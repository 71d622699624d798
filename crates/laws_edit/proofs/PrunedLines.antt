-- A prune leaves everything but unused definitions, by what it leaves of each line of the walk.
use Rattle.std.proofs.Common.{◌≡◌, ◌∙◌, inl, inr, ℕ, ◌+◌, Bool, true, false, List, [], ◌∷◌, ◌++◌, length, map, refl, sym, ap, subst, arith, if◌then◌else◌}
use Rattle.std.proofs.lemmas.Bool.{and_parts}
use Rattle.std.proofs.lemmas.Slice.Eq.{bytes_eq-Decides}
use Rattle.std.specs.List.{AllByRecursion, cons_option, filter}
use Rattle.std.specs.Prelude.{not}
use Rattle.std.specs.Str.{bytes_eq}
use Rattle.sudoers_grammar.specs.Node.{Def, Node}
use Rattle.sudoers_grammar.specs.declared.node.Kind.{Kind}
use Rattle.sudoers_grammar.specs.Node as node
use Rattle.sudoers_tree.specs.Fault.{is_some}
use Rattle.sudoers_tree.specs.Line.{Line}
use Rattle.sudoers_tree.specs.Definition.{PlacedDefinition, definitions_of_lines, definitions_from_place, definitions_in_line, definitions_from_line_number}
use Rattle.sudoers_check.specs.Chain.{ListHasElement}
use Rattle.sudoers_check.specs.Chains.{IsReachedFromSpecOrDefaults}
use Rattle.sudoers_check.specs.Led.{is_unused}
use Rattle.sudoers_check.proofs.Named.{element_of_front_is_in_appended, element_of_back_is_in_appended}
use Rattle.sudoers_match.specs.Beside.{node_unless_alias_line, nodes_without_alias_lines}
use Rattle.sudoers_match_list.proofs.Defined.{list_element_has_property_of_all}
use Rattle.sudoers_line_rows.specs.Alike.{are_lists_alike, is_same_def, is_same_member}
use Rattle.sudoers_edit.specs.SpliceEdits.{definitions_of_alias_line}
use Rattle.sudoers_edit.specs.Pruned.{ArePrunedLines, AreLinesLeftOfPrunedLine, gone, kept, less, used_definitions_of_line}
use Rattle.laws_edit.specs.Pruned.{KeepsReachableAliasesOnly, has_no_alias_definition}
use Rattle.laws_edit.proofs.KeptDefinitions.{AreUsed, IsUsed, UsedDefinitionsAreReachable, used_alias, used_other}
use Rattle.laws_edit.proofs.LeftDefinitions.{AreLeft, IsUnreachableAlias, AreLeftBesidesGone, leaves_append, leaves_skip, left_itself, definitions_left_keep_reachable_aliases, left_then, left_with, since_itself}
use Rattle.laws_edit.proofs.PruneLeaves.{UnusedDefinitionsAreUnreachable, alike_definition_is_same_definition, whole_left}

module _ (policy : List Line) (law : UnusedDefinitionsAreUnreachable) (uses : UsedDefinitionsAreReachable) where
  -- ---- the definitions of a line

  abbrev at : Kind → ℕ → ℕ → Def → PlacedDefinition
  at k n m d = record { kind = k; place = record { line = n; def = m }; def = d }

  -- those that are left are those of the policy but the unused
  left_from : (k : Kind) (n m i p j o : ℕ) (defs left : List Def) → ((d : PlacedDefinition) → ListHasElement (definitions_from_place k n m defs) d → ListHasElement (definitions_of_lines policy) d)
      → are_lists_alike is_same_def (map (λ (d : PlacedDefinition). d.def) (filter (λ d. not (is_unused policy d)) (definitions_from_place k n m defs))) left ≡ true
      → AreLeftBesidesGone (IsUnreachableAlias policy) (definitions_from_place k i p defs) (definitions_from_place k j o left)
  left_from k n m i p j o [] [] among alike = tt
  left_from k n m i p j o [] (e ∷ left) among alike = absurd (cc)
  left_from k n m i p j o (d ∷ defs) left among alike =
      by (is_unused policy (at k n m d)) refl (λ q es h. left_from k n (m + 1) i (p + 1) j q defs es (λ e has. among e (inr has)) h) alike
    where
      rest : List Def
      rest = map (λ (e : PlacedDefinition). e.def) (filter (λ e. not (is_unused policy e)) (definitions_from_place k n (m + 1) defs))

      by : (b : Bool) → is_unused policy (at k n m d) ≡ b
          → ((q : ℕ) (es : List Def) → are_lists_alike is_same_def rest es ≡ true → AreLeftBesidesGone (IsUnreachableAlias policy) (definitions_from_place k i (p + 1) defs) (definitions_from_place k j q es))
          → are_lists_alike is_same_def (map (λ (e : PlacedDefinition). e.def) (if not b then at k n m d ∷ filter (λ e. not (is_unused policy e)) (definitions_from_place k n (m + 1) defs)
          else filter (λ e. not (is_unused policy e)) (definitions_from_place k n (m + 1) defs))) left ≡ true
          → AreLeftBesidesGone (IsUnreachableAlias policy) (definitions_from_place k i p (d ∷ defs)) (definitions_from_place k j o left)
      by true is later h =
          leaves_skip (IsUnreachableAlias policy) (at k i p d) (law policy (at k n m d) (among (at k n m d) (inl refl)) is) (definitions_from_place k i (p + 1) defs) (definitions_from_place k j o left)
          (later o left h)
      by false is later h = by_left left h
        where
          by_left : (es : List Def) → are_lists_alike is_same_def (d ∷ rest) es ≡ true → AreLeftBesidesGone (IsUnreachableAlias policy) (definitions_from_place k i p (d ∷ defs)) (definitions_from_place k j o es)
          by_left [] e = absurd (cc)
          by_left (x ∷ es) e =
              let parts = and_parts (is_same_def d x) (are_lists_alike is_same_def rest es) e in
              inr (alike_definition_is_same_definition k i j p o d x parts.0, later (o + 1) es parts.1)

  -- and they are used
  used_left : (k : Kind) (n m : ℕ) (defs left : List Def) → ((d : PlacedDefinition) → ListHasElement (definitions_from_place k n m defs) d → ListHasElement (definitions_of_lines policy) d)
      → are_lists_alike is_same_def (map (λ (d : PlacedDefinition). d.def) (filter (λ d. not (is_unused policy d)) (definitions_from_place k n m defs))) left ≡ true
      → AllByRecursion (λ (e : Def). IsReachedFromSpecOrDefaults k policy e.name) left
  used_left k n m [] [] among alike = tt
  used_left k n m [] (e ∷ left) among alike = absurd (cc)
  used_left k n m (d ∷ defs) left among alike =
      by (is_unused policy (at k n m d)) refl (λ es h. used_left k n (m + 1) defs es (λ e has. among e (inr has)) h) alike
    where
      rest : List Def
      rest = map (λ (e : PlacedDefinition). e.def) (filter (λ e. not (is_unused policy e)) (definitions_from_place k n (m + 1) defs))

      by : (b : Bool) → is_unused policy (at k n m d) ≡ b
          → ((es : List Def) → are_lists_alike is_same_def rest es ≡ true → AllByRecursion (λ (e : Def). IsReachedFromSpecOrDefaults k policy e.name) es)
          → are_lists_alike is_same_def (map (λ (e : PlacedDefinition). e.def) (if not b then at k n m d ∷ filter (λ e. not (is_unused policy e)) (definitions_from_place k n (m + 1) defs)
          else filter (λ e. not (is_unused policy e)) (definitions_from_place k n (m + 1) defs))) left ≡ true
          → AllByRecursion (λ (e : Def). IsReachedFromSpecOrDefaults k policy e.name) left
      by true is later h = later left h
      by false is later h = by_left left h
        where
          by_left : (es : List Def) → are_lists_alike is_same_def (d ∷ rest) es ≡ true → AllByRecursion (λ (e : Def). IsReachedFromSpecOrDefaults k policy e.name) es
          by_left [] e = absurd (cc)
          by_left (x ∷ es) e =
              let parts = and_parts (is_same_def d x) (are_lists_alike is_same_def rest es) e in
              let name = (bytes_eq-Decides d.name x.name).0 (and_parts (bytes_eq d.name x.name) (are_lists_alike is_same_member d.members x.members) parts.0).0 in
              (subst (IsReachedFromSpecOrDefaults k policy) name (uses policy (at k n m d) (among (at k n m d) (inl refl)) is), later es parts.1)

  -- a line none of whose definitions is unused
  all_used : (k : Kind) (n m : ℕ) (defs : List Def) → ((d : PlacedDefinition) → ListHasElement (definitions_from_place k n m defs) d → ListHasElement (definitions_of_lines policy) d)
      → filter (is_unused policy) (definitions_from_place k n m defs) ≡ [] → AllByRecursion (λ (e : Def). IsReachedFromSpecOrDefaults k policy e.name) defs
  all_used k n m [] among none = tt
  all_used k n m (d ∷ defs) among none =
      by (is_unused policy (at k n m d)) refl (λ h. all_used k n (m + 1) defs (λ e has. among e (inr has)) h) none
    where
      by : (b : Bool) → is_unused policy (at k n m d) ≡ b
          → (filter (is_unused policy) (definitions_from_place k n (m + 1) defs) ≡ [] → AllByRecursion (λ (e : Def). IsReachedFromSpecOrDefaults k policy e.name) defs)
          → (if b then at k n m d ∷ filter (is_unused policy) (definitions_from_place k n (m + 1) defs) else filter (is_unused policy) (definitions_from_place k n (m + 1) defs)) ≡ []
          → AllByRecursion (λ (e : Def). IsReachedFromSpecOrDefaults k policy e.name) (d ∷ defs)
      by true is later h = absurd (cc)
      by false is later h = (uses policy (at k n m d) (among (at k n m d) (inl refl)) is, later h)

  -- ---- lines

  -- what is left of lines, and used
  pub record IsLeft (old new : List Line) : Type 0 where
    pub left : AreLeft (IsUnreachableAlias policy) old new
    pub used : AreUsed policy new

  -- the line stays, or its definitions that are left are in its place
  less_left : (line new : Line) (after : List Line) (k : Kind) (n : ℕ) (defs es : List Def) → line.node ≡ node.Alias k defs → new.node ≡ node.Alias k es
      → ((d : PlacedDefinition) → ListHasElement (definitions_from_place k n 0 defs) d → ListHasElement (definitions_of_lines policy) d) → are_lists_alike is_same_def (used_definitions_of_line policy k n defs) es ≡ true
      → AreLeft (IsUnreachableAlias policy) (line ∷ after) (new ∷ after)
  less_left line new after k n defs es makes made among alike = record {
    beside =
        ap (λ (m : Node). cons_option (node_unless_alias_line m) (nodes_without_alias_lines after)) made
        ∙ sym (ap (λ (m : Node). cons_option (node_unless_alias_line m) (nodes_without_alias_lines after)) makes);
    others =
        ap (λ (m : Node). if not (is_some (definitions_of_alias_line m)) then new ∷ filter has_no_alias_definition after else filter has_no_alias_definition after) made
        ∙ sym (ap (λ (m : Node). if not (is_some (definitions_of_alias_line m)) then line ∷ filter has_no_alias_definition after else filter has_no_alias_definition after) makes);
    part = λ i j.
        leaves_append (IsUnreachableAlias policy) (definitions_in_line i line.node) (definitions_in_line j new.node) (definitions_from_line_number (i + 1) after) (definitions_from_line_number (j + 1) after)
        (subst (λ (m : Node). AreLeftBesidesGone (IsUnreachableAlias policy) (definitions_in_line i m) (definitions_in_line j new.node)) (sym makes)
        (subst (λ (m : Node). AreLeftBesidesGone (IsUnreachableAlias policy) (definitions_in_line i (node.Alias k defs)) (definitions_in_line j m)) (sym made)
        (left_from k n 0 i 0 j 0 defs es among alike)))
        (since_itself (IsUnreachableAlias policy) (i + 1) (j + 1) after);
  }

  one_left : (n : ℕ) (line : Line) (rest others piece : List Line) → ((d : PlacedDefinition) → ListHasElement (definitions_in_line n line.node) d → ListHasElement (definitions_of_lines policy) d)
      → AreLinesLeftOfPrunedLine policy n line piece → IsLeft rest others → IsLeft (line ∷ rest) (piece ++ others)
  one_left n line rest others _ among (kept none) behind =
      by_node line.node refl
    where
      left : AreLeft (IsUnreachableAlias policy) (line ∷ rest) (line ∷ others)
      left = left_with (IsUnreachableAlias policy) (line ∷ []) rest others behind.left

      plain : (says : Node) → line.node ≡ says → ((i : ℕ) → AllByRecursion (IsUsed policy) (definitions_in_line i says)) → IsLeft (line ∷ rest) (line ∷ others)
      plain says is here = record { left = left; used = used_other policy line others says is here behind.used }

      by_node : (says : Node) → line.node ≡ says → IsLeft (line ∷ rest) (line ∷ others)
      by_node (node.Alias k defs) is = record {
        left = left;
        used = used_alias policy line others k defs is
            (all_used k n 0 defs (subst (λ (m : Node). (d : PlacedDefinition) → ListHasElement (definitions_in_line n m) d → ListHasElement (definitions_of_lines policy) d) is among)
            (ap (λ (m : Node). filter (is_unused policy) (definitions_in_line n m)) (sym is) ∙ none)) behind.used;
      }
      by_node node.Blank is = plain node.Blank is (λ i. tt)
      by_node node.Comment is = plain node.Comment is (λ i. tt)
      by_node (node.Include dir path) is = plain (node.Include dir path) is (λ i. tt)
      by_node (node.Defaults scope params) is = plain (node.Defaults scope params) is (λ i. tt)
      by_node (node.Spec users groups) is = plain (node.Spec users groups) is (λ i. tt)
  one_left n line rest others _ among (gone some all) behind = by_node line.node refl
    where
      none_there : (says : Node) → line.node ≡ says → definitions_in_line n says ≡ [] → IsLeft (line ∷ rest) others
      none_there says is none =
          let count : length (filter (is_unused policy) (definitions_in_line n line.node)) ≡ 0 =
          ap (λ (m : Node). length (filter (is_unused policy) (definitions_in_line n m))) is ∙ ap (λ ds. length (filter (is_unused policy) ds)) none in
          absurd (omega (arith, some, count))

      by_node : (says : Node) → line.node ≡ says → IsLeft (line ∷ rest) others
      by_node (node.Alias k defs) is = record {
        left = left_then (IsUnreachableAlias policy) (line ∷ rest) rest others
            (whole_left policy law k n defs (subst (λ (m : Node). (d : PlacedDefinition) → ListHasElement (definitions_in_line n m) d → ListHasElement (definitions_of_lines policy) d) is among) line rest is
            (ap (λ (m : Node). length (filter (is_unused policy) (definitions_in_line n m))) (sym is) ∙ all ∙ ap (λ (m : Node). length (definitions_in_line n m)) is))
            behind.left;
        used = behind.used;
      }
      by_node node.Blank is = none_there node.Blank is refl
      by_node node.Comment is = none_there node.Comment is refl
      by_node (node.Include dir path) is = none_there (node.Include dir path) is refl
      by_node (node.Defaults scope params) is = none_there (node.Defaults scope params) is refl
      by_node (node.Spec users groups) is = none_there (node.Spec users groups) is refl
  one_left n line rest others _ among (less k defs es new some makes made alike) behind =
      let here = subst (λ (m : Node). (d : PlacedDefinition) → ListHasElement (definitions_in_line n m) d → ListHasElement (definitions_of_lines policy) d) makes among in
      record {
        left = left_then (IsUnreachableAlias policy) (line ∷ rest) (new ∷ rest) (new ∷ others)
            (less_left line new rest k n defs es makes made here alike) (left_with (IsUnreachableAlias policy) (new ∷ []) rest others behind.left);
        used = used_alias policy new others k es made (used_left k n 0 defs es here alike) behind.used;
      }

  all_left : (n : ℕ) (lines news : List Line) → ((d : PlacedDefinition) → ListHasElement (definitions_from_line_number n lines) d → ListHasElement (definitions_of_lines policy) d) → ArePrunedLines policy n lines news
      → IsLeft lines news
  all_left n [] news among are =
      subst (IsLeft []) (sym are) (record { left = left_itself (IsUnreachableAlias policy) []; used = λ i. tt })
  all_left n (line ∷ rest) news among are =
      subst (IsLeft (line ∷ rest)) (sym are.2)
      (one_left n line rest are.1 are.0 (λ d h. among d (element_of_front_is_in_appended (definitions_in_line n line.node) (definitions_from_line_number (n + 1) rest) d h)) are.3
      (all_left (n + 1) rest are.1 (λ d h. among d (element_of_back_is_in_appended (definitions_in_line n line.node) (definitions_from_line_number (n + 1) rest) d h)) are.4))

  -- What a prune leaves of a policy is what is left of it, and used.
  pub pruned_left : (news : List Line) → ArePrunedLines policy 0 policy news → IsLeft policy news
  pruned_left news are = all_left 0 policy news (λ d h. h) are

  pub reachable_left : (news : List Line) → ArePrunedLines policy 0 policy news → KeepsReachableAliasesOnly policy news
  reachable_left news are =
      let is = pruned_left news are in
      record {
        others = is.left.others;
        kept = (definitions_left_keep_reachable_aliases policy news is.left).members;
        reachable = list_element_has_property_of_all (IsUsed policy) (definitions_of_lines news) (is.used 0);
      }
