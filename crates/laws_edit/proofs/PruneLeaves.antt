-- What is left of a line of a policy when unused definitions are taken out of it.
use Rattle.std.proofs.Common.{◌≡◌, ℕ, zero, suc, ◌+◌, ◌≤◌, ◌<◌, Bool, true, false, inr, List, [], ◌∷◌, ◌++◌, length, remove, reverse, Some, refl, sym, ap, subst, ◌∙◌, append_assoc, arith, if◌then◌else◌}
use Rattle.std.proofs.lemmas.Bool.{and_parts}
use Rattle.std.proofs.lemmas.List.{length-append, reverse-append}
use Rattle.std.proofs.lemmas.Slice.Eq.{bytes_eq-Decides}
use Rattle.std.specs.List.{AllByRecursion, cons_option, filter}
use Rattle.std.specs.Prelude.{not, slice_get}
use Rattle.std.specs.Str.{bytes_eq}
use Rattle.sudoers_grammar.specs.Node.{Def, Node}
use Rattle.sudoers_grammar.specs.declared.node.Kind.{Kind}
use Rattle.sudoers_grammar.specs.Node as node
use Rattle.sudoers_tree.specs.Fault.{is_some}
use Rattle.sudoers_tree.specs.Line.{Line}
use Rattle.sudoers_tree.specs.Definition.{PlacedDefinition, definitions_of_lines, definitions_from_place, definitions_in_line, definitions_from_line_number}
use Rattle.sudoers_check.specs.Chain.{ListHasElement}
use Rattle.sudoers_check.specs.Chains.{IsReachedFromSpecOrDefaults}
use Rattle.sudoers_check.specs.Led.{is_unused}
use Rattle.sudoers_check.proofs.Named.{filtered_element_is_in_list_and_passes}
use Rattle.sudoers_match.specs.Beside.{node_unless_alias_line, nodes_without_alias_lines}
use Rattle.sudoers_match.proofs.Lasts.{all_append}
use Rattle.sudoers_match.proofs.MetMembers.{of_has}
use Rattle.sudoers_match_list.proofs.Defined.{list_element_has_property_of_all}
use Rattle.sudoers_line_rows.specs.Alike.{are_lists_alike, is_same_def, is_same_member}
use Rattle.sudoers_edit.specs.SpliceEdits.{definitions_of_alias_line}
use Rattle.laws_edit.specs.Pruned.{has_no_alias_definition}
use Rattle.laws_edit.proofs.LeftDefinitions.{IsSameDefinition, AreLeftBesidesGone, leaves_skip, leaves_append, since_itself, AreLeft, IsUnreachableAlias}
use Rattle.laws_edit.proofs.SameMembers.{alike_members_are_rewritten_unchanged}
use Rattle.sudoers_edit.proofs.Whole.{item_behind_front_is_at_front_length}

-- what the law of unused definitions says
abbrev pub UnusedDefinitionsAreUnreachable : Type 0
UnusedDefinitionsAreUnreachable = (lines : List Line) (d : PlacedDefinition) → ListHasElement (definitions_of_lines lines) d → is_unused lines d ≡ true → IsReachedFromSpecOrDefaults d.kind lines d.def.name → ⊥

-- No chain of mentions leads to the alias that is defined at this place among these.
abbrev pub IsUnreachableAtPlace : List Line → Kind → List Def → ℕ → Type 0
IsUnreachableAtPlace policy k defs at = (e : Def) → slice_get defs at ≡ Some e → IsUnreachableAlias policy k e.name

-- So it is with the alias of each of these definitions of the line.
abbrev pub AreUnreachableDefinitions : List Line → Kind → List Def → List PlacedDefinition → Type 0
AreUnreachableDefinitions policy k defs ds = AllByRecursion (λ (d : PlacedDefinition). IsUnreachableAtPlace policy k defs d.place.def) ds

-- ---- tests of lists

pub filtered_list_is_not_longer : {X : Type 0} (test : X → Bool) (xs : List X) → length (filter test xs) ≤ length xs
filtered_list_is_not_longer test [] = omega arith
filtered_list_is_not_longer test (x ∷ xs) = by (test x) (filtered_list_is_not_longer test xs)
  where
    by : (b : Bool) → length (filter test xs) ≤ length xs → length (if b then x ∷ filter test xs else filter test xs) ≤ length (x ∷ xs)
    by true less = omega (arith, less)
    by false less = omega (arith, less)

filter_of_full_length_keeps_all : {X : Type 0} (test : X → Bool) (xs : List X) → length (filter test xs) ≡ length xs → AllByRecursion (λ (x : X). test x ≡ true) xs
filter_of_full_length_keeps_all test [] same = tt
filter_of_full_length_keeps_all {X} test (x ∷ xs) same = by (test x) refl same (filtered_list_is_not_longer test xs) (filter_of_full_length_keeps_all test xs)
  where
    by : (b : Bool) → test x ≡ b → length (if b then x ∷ filter test xs else filter test xs) ≡ length (x ∷ xs) → length (filter test xs) ≤ length xs
        → (length (filter test xs) ≡ length xs → AllByRecursion (λ (y : X). test y ≡ true) xs) → (test x ≡ true) × AllByRecursion (λ (y : X). test y ≡ true) xs
    by true is same less more = (is, more (omega (arith, same)))
    by false is same less more = absurd (omega (arith, same, less))

property_of_list_holds_of_reversed : {X : Type 0} (P : X → Type 0) (xs : List X) → AllByRecursion P xs → AllByRecursion P (reverse xs)
property_of_list_holds_of_reversed P [] all = tt
property_of_list_holds_of_reversed P (x ∷ xs) all =
    subst (AllByRecursion P) (sym (reverse-append (x ∷ []) xs)) (all_append P (reverse xs) (x ∷ []) (property_of_list_holds_of_reversed P xs all.1) (all.0, tt))

-- ---- one definition less

pub alike_definition_is_same_definition : (k : Kind) (l m n o : ℕ) (d e : Def) → is_same_def d e ≡ true
    → IsSameDefinition (record { kind = k; place = record { line = l; def = n }; def = d }) (record { kind = k; place = record { line = m; def = o }; def = e })
alike_definition_is_same_definition k l m n o d e h =
    let p = and_parts (bytes_eq d.name e.name) (are_lists_alike is_same_member d.members e.members) h in
    record { kind = refl; called = sym ((bytes_eq-Decides d.name e.name).0 p.0); members = alike_members_are_rewritten_unchanged d.members e.members p.1 }

module _ (policy : List Line) where
  alike_leaves : (k : Kind) (l m n o : ℕ) (ds es : List Def) → are_lists_alike is_same_def ds es ≡ true
      → AreLeftBesidesGone (IsUnreachableAlias policy) (definitions_from_place k l n ds) (definitions_from_place k m o es)
  alike_leaves k l m n o [] [] h = tt
  alike_leaves k l m n o [] (e ∷ es) h = absurd (cc)
  alike_leaves k l m n o (d ∷ ds) [] h = absurd (cc)
  alike_leaves k l m n o (d ∷ ds) (e ∷ es) h =
      let p = and_parts (is_same_def d e) (are_lists_alike is_same_def ds es) h in
      inr (alike_definition_is_same_definition k l m n o d e p.0, alike_leaves k l m (n + 1) (o + 1) ds es p.1)

  less_leaves : (k : Kind) (l m n o : ℕ) (ds : List Def) (at : ℕ) (es : List Def) → are_lists_alike is_same_def (remove ds at) es ≡ true
      → IsUnreachableAtPlace policy k ds at → AreLeftBesidesGone (IsUnreachableAlias policy) (definitions_from_place k l n ds) (definitions_from_place k m o es)
  less_leaves k l m n o [] zero [] h gone = tt
  less_leaves k l m n o [] (suc at) [] h gone = tt
  less_leaves k l m n o [] zero (e ∷ es) h gone = absurd (cc)
  less_leaves k l m n o [] (suc at) (e ∷ es) h gone = absurd (cc)
  less_leaves k l m n o (d ∷ ds) zero es h gone =
      leaves_skip (IsUnreachableAlias policy) (record { kind = k; place = record { line = l; def = n }; def = d }) (gone d refl) (definitions_from_place k l (n + 1) ds)
      (definitions_from_place k m o es) (alike_leaves k l m (n + 1) o ds es h)
  less_leaves k l m n o (d ∷ ds) (suc at) [] h gone = absurd (cc)
  less_leaves k l m n o (d ∷ ds) (suc at) (e ∷ es) h gone =
      let p = and_parts (is_same_def d e) (are_lists_alike is_same_def (remove ds at) es) h in
      inr (alike_definition_is_same_definition k l m n o d e p.0, less_leaves k l m (n + 1) (o + 1) ds at es p.1 (λ x is. gone x is))

  -- The line has one definition less.
  pub drop_left : (line new : Line) (after : List Line) (k : Kind) (defs less : List Def) (at : ℕ) → line.node ≡ node.Alias k defs → new.node ≡ node.Alias k less
      → are_lists_alike is_same_def (remove defs at) less ≡ true → IsUnreachableAtPlace policy k defs at → AreLeft (IsUnreachableAlias policy) (line ∷ after) (new ∷ after)
  drop_left line new after k defs less at makes made alike gone = record {
    beside =
        ap (λ (n : Node). cons_option (node_unless_alias_line n) (nodes_without_alias_lines after)) made
        ∙ sym (ap (λ (n : Node). cons_option (node_unless_alias_line n) (nodes_without_alias_lines after)) makes);
    others =
        ap (λ (n : Node). if not (is_some (definitions_of_alias_line n)) then new ∷ filter has_no_alias_definition after else filter has_no_alias_definition after) made
        ∙ sym (ap (λ (n : Node). if not (is_some (definitions_of_alias_line n)) then line ∷ filter has_no_alias_definition after else filter has_no_alias_definition after) makes);
    part = λ i j.
        leaves_append (IsUnreachableAlias policy) (definitions_in_line i line.node) (definitions_in_line j new.node) (definitions_from_line_number (i + 1) after) (definitions_from_line_number (j + 1) after)
        (subst (λ (n : Node). AreLeftBesidesGone (IsUnreachableAlias policy) (definitions_in_line i n) (definitions_in_line j new.node)) (sym makes)
        (subst (λ (n : Node). AreLeftBesidesGone (IsUnreachableAlias policy) (definitions_in_line i (node.Alias k defs)) (definitions_in_line j n)) (sym made)
        (less_leaves k i j 0 0 defs at less alike gone)))
        (since_itself (IsUnreachableAlias policy) (i + 1) (j + 1) after);
  }

  -- ---- those before it

  pub record WasAt (defs : List Def) (p : ℕ) (e : Def) : Type 0 where
    pub one : Def
    pub at : slice_get defs p ≡ Some one
    pub called : one.name ≡ e.name

  pub before_same : (defs : List Def) (at : ℕ) (less : List Def) → are_lists_alike is_same_def (remove defs at) less ≡ true → (p : ℕ) → p < at → (e : Def)
      → slice_get less p ≡ Some e → WasAt defs p e
  before_same [] zero [] h p below e is = absurd (cc)
  before_same [] (suc at) [] h p below e is = absurd (cc)
  before_same [] zero (x ∷ less) h p below e is = absurd (cc)
  before_same [] (suc at) (x ∷ less) h p below e is = absurd (cc)
  before_same (d ∷ defs) zero less h p below e is = absurd (omega (arith, below))
  before_same (d ∷ defs) (suc at) [] h p below e is = absurd (cc)
  before_same (d ∷ defs) (suc at) (x ∷ less) h zero below e is =
      let parts = and_parts (is_same_def d x) (are_lists_alike is_same_def (remove defs at) less) h in
      let name = (bytes_eq-Decides d.name x.name).0 (and_parts (bytes_eq d.name x.name) (are_lists_alike is_same_member d.members x.members) parts.0).0 in
      let same : x ≡ e = cc in
      record { one = d; at = refl; called = name ∙ ap (λ (y : Def). y.name) same }
  before_same (d ∷ defs) (suc at) (x ∷ less) h (suc p) below e is =
      let parts = and_parts (is_same_def d x) (are_lists_alike is_same_def (remove defs at) less) h in
      let was = before_same defs at less parts.1 p (omega (arith, below)) e is in
      record { one = was.one; at = was.at; called = was.called }

  -- The definitions before a dropped one stay where they are.
  pub still_gone : (k : Kind) (defs : List Def) (at : ℕ) (less : List Def) → are_lists_alike is_same_def (remove defs at) less ≡ true → (p : ℕ) → p < at
      → IsUnreachableAtPlace policy k defs p → IsUnreachableAtPlace policy k less p
  still_gone k defs at less alike p below gone e is =
      let was = before_same defs at less alike p below e is in
      subst (IsUnreachableAlias policy k) was.called (gone was.one was.at)

  -- ---- the definitions of a line

  record Stands (k : Kind) (all : List Def) (d : PlacedDefinition) : Type 0 where
    kind : d.kind ≡ k
    at : slice_get all d.place.def ≡ Some d.def

  all_stand : (k : Kind) (l n : ℕ) (front defs : List Def) → length front ≡ n → AllByRecursion (Stands k (front ++ defs)) (definitions_from_place k l n defs)
  all_stand k l n front [] count = tt
  all_stand k l n front (d ∷ defs) count = (
    record { kind = refl; at = subst (λ m. slice_get (front ++ d ∷ defs) m ≡ Some d) count (item_behind_front_is_at_front_length front d defs) },
    subst (λ ds. AllByRecursion (Stands k ds) (definitions_from_place k l (n + 1) defs)) (append_assoc front (d ∷ []) defs)
        (all_stand k l (n + 1) (front ++ d ∷ []) defs (omega (arith, length-append front (d ∷ []), count))),
  )

  module _ (law : UnusedDefinitionsAreUnreachable) (k : Kind) (n : ℕ) (defs : List Def) (among : (d : PlacedDefinition) → ListHasElement (definitions_from_place k n 0 defs) d → ListHasElement (definitions_of_lines policy) d) where
    one_gone : (d : PlacedDefinition) → ListHasElement (definitions_from_place k n 0 defs) d → is_unused policy d ≡ true → IsUnreachableAtPlace policy k defs d.place.def
    one_gone d stands unused e is =
        let at = list_element_has_property_of_all (Stands k defs) (definitions_from_place k n 0 defs) (all_stand k n 0 [] defs refl) d stands in
        let same : d.def ≡ e = let both : Some d.def ≡ Some e = sym at.at ∙ is in cc in
        subst (λ (x : Def). IsUnreachableAlias policy k x.name) same
        (subst (λ (j : Kind). IsUnreachableAlias policy j d.def.name) at.kind (law policy d (among d stands) unused))

    -- No chain of mentions leads to an unused alias.
    pub unused_gone : AreUnreachableDefinitions policy k defs (reverse (filter (is_unused policy) (definitions_from_place k n 0 defs)))
    unused_gone =
        let ds = definitions_from_place k n 0 defs in
        let unused = filter (is_unused policy) ds in
        property_of_list_holds_of_reversed (λ (d : PlacedDefinition). IsUnreachableAtPlace policy k defs d.place.def) unused
        (of_has (λ (d : PlacedDefinition). IsUnreachableAtPlace policy k defs d.place.def) unused
        (λ d h. let p = filtered_element_is_in_list_and_passes (is_unused policy) ds d h in one_gone d p.0 p.1))

    -- ---- a line all of whose definitions are unused

    names_gone : (i : ℕ) (n : ℕ) (ds : List Def) → AllByRecursion (λ (d : Def). IsUnreachableAlias policy k d.name) ds
        → AreLeftBesidesGone (IsUnreachableAlias policy) (definitions_from_place k i n ds) []
    names_gone i n [] all = tt
    names_gone i n (d ∷ ds) all = (all.0, names_gone i (n + 1) ds all.1)

    names_of : (m : ℕ) (ds : List Def) → AllByRecursion (λ (d : PlacedDefinition). IsUnreachableAlias policy d.kind d.def.name) (definitions_from_place k n m ds)
        → AllByRecursion (λ (d : Def). IsUnreachableAlias policy k d.name) ds
    names_of m [] all = tt
    names_of m (d ∷ ds) all = (all.0, names_of (m + 1) ds all.1)

    pub whole_left : (line : Line) (after : List Line) → line.node ≡ node.Alias k defs
        → length (filter (is_unused policy) (definitions_from_place k n 0 defs)) ≡ length (definitions_from_place k n 0 defs)
        → AreLeft (IsUnreachableAlias policy) (line ∷ after) after
    whole_left line after makes count =
        let ds = definitions_from_place k n 0 defs in
        let unused = filter_of_full_length_keeps_all (is_unused policy) ds count in
        let idle = of_has (λ (d : PlacedDefinition). IsUnreachableAlias policy d.kind d.def.name) ds
        (λ d h. law policy d (among d h) (list_element_has_property_of_all (λ (x : PlacedDefinition). is_unused policy x ≡ true) ds unused d h)) in
        record {
          beside = sym (ap (λ (m : Node). cons_option (node_unless_alias_line m) (nodes_without_alias_lines after)) makes);
          others = sym (ap (λ (m : Node). if not (is_some (definitions_of_alias_line m)) then line ∷ filter has_no_alias_definition after else filter has_no_alias_definition after) makes);
          part = λ i j.
              leaves_append (IsUnreachableAlias policy) (definitions_in_line i line.node) [] (definitions_from_line_number (i + 1) after) (definitions_from_line_number j after)
              (subst (λ (m : Node). AreLeftBesidesGone (IsUnreachableAlias policy) (definitions_in_line i m) []) (sym makes) (names_gone i 0 defs (names_of 0 defs idle)))
              (since_itself (IsUnreachableAlias policy) (i + 1) j after);
        }
