-- One definition on the walk lacks a member: all others are as they were.
use Rattle.std.proofs.Common.{◌≡◌, ◌∙◌, ℕ, zero, suc, ◌+◌, ◌≤◌, Bool, true, false, ◌&&◌, ◌==◌, if◌then◌else◌, List, [], ◌∷◌, ◌++◌, remove, slice_get, slice_index_or, Some, None, refl, sym, ap, ap₂, subst, arith}
use Rattle.std.proofs.lemmas.Bool.{and_parts, eq-eqb, eqb-true}
use Rattle.std.proofs.lemmas.Slice.Eq.{bytes_eq-Decides}
use Rattle.std.specs.Str.{bytes_eq}
use Rattle.sudoers_grammar.specs.Node as node
use Rattle.sudoers_grammar.specs.Node.{Def, Node}
use Rattle.sudoers_grammar.specs.declared.node.Kind.{Kind}
use Rattle.sudoers_line_rows.specs.Alike.{are_lists_alike, is_same_def, is_same_member}
use Rattle.sudoers_tree.specs.Definition.{PlacedDefinition, definitions_from_line_number, definitions_from_place, definitions_in_line, first_definition_of, is_definition_of_name, is_equal_kind}
use Rattle.sudoers_tree.specs.FilePlaces.{file_place_of_walk_place}
use Rattle.sudoers_tree.specs.Files.{ParsedFile, lines_of_numbered_file}
use Rattle.sudoers_tree.specs.Line.{Line}
use Rattle.sudoers_tree.specs.Load.{AreLinesAtSpots}
use Rattle.sudoers_tree.specs.Mapped.{mapped_lines_at_spots}
use Rattle.sudoers_tree.specs.Walk.{WalkState, spot_of_walk_line}
use Rattle.sudoers_tree.specs.declared.place.DefinitionFilePlace.{DefinitionFilePlace}
use Rattle.sudoers_tree.specs.declared.place.WalkLineSpot.{WalkLineSpot}
use Rattle.sudoers_match.proofs.Alike.{appended_related_lists_are_related}
use Rattle.sudoers_match_list.specs.Alike.{IsPointwiseRelated}
use Rattle.sudoers_edit.proofs.PruneLists.{mapping_of_one_line}
use Rattle.sudoers_edit.specs.Splice.{definition_without_member, definitions_with_one_changed}
use Rattle.laws_edit.proofs.LeftDefinitions.{IsSameDefinition, members_are_rewritten_to_themselves}
use Rattle.laws_edit.proofs.PruneLeaves.{alike_definition_is_same_definition}

-- The second definition is the first, as it was. Or the first stands at this place of its file and is the old one, of this kind, and the
-- second lacks one of its members.
pub data IsKeptOrLacksMember (w : WalkState) (place : DefinitionFilePlace) (at : ℕ) (k : Kind) (old : Def)
    (d e : PlacedDefinition) : Type 0 where
  kept : (file_place_of_walk_place w d.place ≡ place → ⊥) → IsSameDefinition d e → IsKeptOrLacksMember w place at k old d e
  lacks : file_place_of_walk_place w d.place ≡ place → d.kind ≡ k → e.kind ≡ k → d.def ≡ old
      → is_same_def (definition_without_member at old) e.def ≡ true → IsKeptOrLacksMember w place at k old d e

-- A line of a file defines the old definition at this place. The new line reads as it, but the definition lacks a member there.
pub record IsLineWithoutMember (files : List ParsedFile) (place : DefinitionFilePlace) (at : ℕ) (k : Kind) (old : Def)
    (line new : Line) : Type 0 where
  pub here : slice_get (lines_of_numbered_file files place.file) place.line ≡ Some line
  pub more : List Def
  pub less : List Def
  pub was : line.node ≡ node.Alias k more
  pub is : new.node ≡ node.Alias k less
  pub stands : slice_get more place.def ≡ Some old
  pub alike : are_lists_alike is_same_def (definitions_with_one_changed place.def (definition_without_member at) more) less ≡ true

-- Both lists lack a definition of the name in the kind, or their first ones are kept, or lack a member.
pub data AreFirstDefinitionsKept (R : PlacedDefinition → PlacedDefinition → Type 0) (j : Kind) (name : List ℕ)
    (ds es : List PlacedDefinition) : Type 0 where
  undefined : first_definition_of j name ds ≡ None → first_definition_of j name es ≡ None → AreFirstDefinitionsKept R j name ds es
  defined : (d e : PlacedDefinition) → first_definition_of j name ds ≡ Some d → first_definition_of j name es ≡ Some e
      → is_definition_of_name j name d ≡ true → R d e → AreFirstDefinitionsKept R j name ds es

-- ---- the definitions of the walk

module _ (w : WalkState) (place : DefinitionFilePlace) (at : ℕ) (k : Kind) (old : Def) where
  abbrev AreKeptOrLackMember : List PlacedDefinition → List PlacedDefinition → Type 0
  AreKeptOrLackMember ds es = IsPointwiseRelated (IsKeptOrLacksMember w place at k old) ds es

  -- definitions of another line
  definitions_of_other_line_are_kept : (i : ℕ) (says : Node)
      → ((m : ℕ) → file_place_of_walk_place w (record { line = i; def = m }) ≡ place → ⊥)
      → AreKeptOrLackMember (definitions_in_line i says) (definitions_in_line i says)
  definitions_of_other_line_are_kept i (node.Alias j defs) other = by 0 defs
    where
      by : (n : ℕ) (ds : List Def) → AreKeptOrLackMember (definitions_from_place j i n ds) (definitions_from_place j i n ds)
      by n [] = tt
      by n (d ∷ ds) =
          (kept (other n) (record { kind = refl; called = refl; members = members_are_rewritten_to_themselves d.members }), by (n + 1) ds)
  definitions_of_other_line_are_kept i node.Blank other = tt
  definitions_of_other_line_are_kept i node.Comment other = tt
  definitions_of_other_line_are_kept i (node.Include dir path) other = tt
  definitions_of_other_line_are_kept i (node.Defaults scope params) other = tt
  definitions_of_other_line_are_kept i (node.Spec users groups) other = tt

  -- those behind the place, in its line
  alike_definitions_at_other_places_are_kept : (i n : ℕ) (ds es : List Def) → are_lists_alike is_same_def ds es ≡ true
      → ((m : ℕ) → n ≤ m → file_place_of_walk_place w (record { line = i; def = m }) ≡ place → ⊥)
      → AreKeptOrLackMember (definitions_from_place k i n ds) (definitions_from_place k i n es)
  alike_definitions_at_other_places_are_kept i n [] [] h other = tt
  alike_definitions_at_other_places_are_kept i n [] (e ∷ es) h other = absurd cc
  alike_definitions_at_other_places_are_kept i n (d ∷ ds) [] h other = absurd cc
  alike_definitions_at_other_places_are_kept i n (d ∷ ds) (e ∷ es) h other =
      let p = and_parts (is_same_def d e) (are_lists_alike is_same_def ds es) h in (
        kept (other n (omega arith)) (alike_definition_is_same_definition k i i n n d e p.0),
        alike_definitions_at_other_places_are_kept i (n + 1) ds es p.1 (λ m less. other m (omega (arith, less))),
      )

  number_of_place : (m : ℕ) {there : DefinitionFilePlace} → there ≡ record { file = place.file; line = place.line; def = m } → there ≡ place
      → m ≡ place.def
  number_of_place m is same = ap (λ (x : DefinitionFilePlace). x.def) (sym is ∙ same)

  -- those of its line, from one on
  definitions_of_line_are_kept_or_lack_member : (i n def : ℕ) (ds es : List Def)
      → are_lists_alike is_same_def (definitions_with_one_changed def (definition_without_member at) ds) es ≡ true
      → slice_get ds def ≡ Some old
      → ((m : ℕ) → file_place_of_walk_place w (record { line = i; def = m }) ≡ record { file = place.file; line = place.line; def = m })
      → n + def ≡ place.def → AreKeptOrLackMember (definitions_from_place k i n ds) (definitions_from_place k i n es)
  definitions_of_line_are_kept_or_lack_member i n def [] es h stands spot count = absurd cc
  definitions_of_line_are_kept_or_lack_member i n zero (d ∷ ds) [] h stands spot count = absurd cc
  definitions_of_line_are_kept_or_lack_member i n (suc def) (d ∷ ds) [] h stands spot count = absurd cc
  definitions_of_line_are_kept_or_lack_member i n zero (d ∷ ds) (e ∷ es) h stands spot count =
      let p = and_parts (is_same_def (definition_without_member at d) e) (are_lists_alike is_same_def ds es) h in
      let one : d ≡ old = cc in
      let here : n ≡ place.def = omega (arith, count) in (
        lacks (spot n ∙ ap (λ m. the_place m) here) refl refl one
            (subst (λ (x : Def). is_same_def (definition_without_member at x) e ≡ true) one p.0),
        alike_definitions_at_other_places_are_kept i (n + 1) ds es p.1
            (λ m less same. omega (arith, less, here, number_of_place m (spot m) same)),
      )
    where
      the_place : ℕ → DefinitionFilePlace
      the_place m = record { file = place.file; line = place.line; def = m }
  definitions_of_line_are_kept_or_lack_member i n (suc def) (d ∷ ds) (e ∷ es) h stands spot count =
      let rest : Bool = are_lists_alike is_same_def (definitions_with_one_changed def (definition_without_member at) ds) es in
      let p = and_parts (is_same_def d e) rest h in (
        kept (λ same. omega (arith, count, number_of_place n (spot n) same))
            (alike_definition_is_same_definition k i i n n d e p.0),
        definitions_of_line_are_kept_or_lack_member i (n + 1) def ds es p.1 stands spot (omega (arith, count)),
      )

  -- those of the lines from one on, where the new line stands in the place of the old
  pub definitions_of_walk_are_kept_or_lack_member : (files : List ParsedFile) (line new : Line)
      → IsLineWithoutMember files place at k old line new
      → (i : ℕ) (spots : List WalkLineSpot) (lines : List Line)
      → ((j : ℕ) → slice_index_or spots j (record { file = 0; line = 0; row = 1 }) ≡ spot_of_walk_line w (i + j))
      → AreLinesAtSpots files spots lines
      → IsPointwiseRelated (IsKeptOrLacksMember w place at k old) (definitions_from_line_number i lines)
      (definitions_from_line_number i (mapped_lines_at_spots (mapping_of_one_line place.file place.line (new ∷ [])) spots lines))
  definitions_of_walk_are_kept_or_lack_member files line new c i [] [] spot stand = tt
  definitions_of_walk_are_kept_or_lack_member files line new c i [] (l ∷ lines) spot stand = absurd stand
  definitions_of_walk_are_kept_or_lack_member files line new c i (a ∷ spots) [] spot stand = absurd stand
  definitions_of_walk_are_kept_or_lack_member files line new c i (a ∷ spots) (l ∷ lines) spot stand =
      by ((a.file == place.file) && (a.line == place.line)) refl
      (definitions_of_walk_are_kept_or_lack_member files line new c (i + 1) spots lines
      (λ j. spot (suc j) ∙ ap (spot_of_walk_line w) (omega arith)) stand.1)
    where
      later : List Line
      later = mapped_lines_at_spots (mapping_of_one_line place.file place.line (new ∷ [])) spots lines

      at_spot : (m : ℕ) → file_place_of_walk_place w (record { line = i; def = m }) ≡ record { file = a.file; line = a.line; def = m }
      at_spot m =
          let same : spot_of_walk_line w i ≡ a = ap (spot_of_walk_line w) (omega arith) ∙ sym (spot 0) in
          ap (λ (s : WalkLineSpot). let x : DefinitionFilePlace = record { file = s.file; line = s.line; def = m } in x) same

      joined : (n : Node) → AreKeptOrLackMember (definitions_in_line i l.node) (definitions_in_line i n)
          → AreKeptOrLackMember (definitions_from_line_number (i + 1) lines) (definitions_from_line_number (i + 1) later)
          → AreKeptOrLackMember (definitions_in_line i l.node ++ definitions_from_line_number (i + 1) lines)
          (definitions_in_line i n ++ definitions_from_line_number (i + 1) later)
      joined n first rest =
          appended_related_lists_are_related (IsKeptOrLacksMember w place at k old) (definitions_in_line i l.node) (definitions_in_line i n)
          (definitions_from_line_number (i + 1) lines) (definitions_from_line_number (i + 1) later) first rest

      by : (b : Bool) → ((a.file == place.file) && (a.line == place.line)) ≡ b
          → AreKeptOrLackMember (definitions_from_line_number (i + 1) lines) (definitions_from_line_number (i + 1) later)
          → AreKeptOrLackMember (definitions_in_line i l.node ++ definitions_from_line_number (i + 1) lines)
          (definitions_from_line_number i ((if b then new ∷ [] else l ∷ []) ++ later))
      by true is rest =
          let p = and_parts (a.file == place.file) (a.line == place.line) is in
          let file : a.file ≡ place.file = eqb-true a.file place.file p.0 in
          let number : a.line ≡ place.line = eqb-true a.line place.line p.1 in
          let found : Some l ≡ Some line =
          sym stand.0.is_line ∙ ap₂ (λ f n. slice_get (lines_of_numbered_file files f) n) file number ∙ c.here in
          let one : l ≡ line = cc in
          let says : l.node ≡ node.Alias k c.more = ap (λ (x : Line). x.node) one ∙ c.was in
          let there : (m : ℕ)
          → file_place_of_walk_place w (record { line = i; def = m }) ≡ record { file = place.file; line = place.line; def = m } =
          λ m. at_spot m ∙ ap₂ (λ f n. let x : DefinitionFilePlace = record { file = f; line = n; def = m } in x) file number in
          joined new.node
          (subst (λ (x : Node). AreKeptOrLackMember (definitions_in_line i x) (definitions_in_line i new.node)) (sym says)
          (subst (λ (x : Node). AreKeptOrLackMember (definitions_from_place k i 0 c.more) (definitions_in_line i x)) (sym c.is)
          (definitions_of_line_are_kept_or_lack_member i 0 place.def c.more c.less c.alike c.stands there (omega arith)))) rest
      by false is rest = joined l.node (definitions_of_other_line_are_kept i l.node (λ m same. other m same)) rest
        where
          other : (m : ℕ) → file_place_of_walk_place w (record { line = i; def = m }) ≡ place → ⊥
          other m same =
              let at_place : record { file = a.file; line = a.line; def = m } ≡ place = sym (at_spot m) ∙ same in
              let file : a.file ≡ place.file = ap (λ (x : DefinitionFilePlace). x.file) at_place in
              let number : a.line ≡ place.line = ap (λ (x : DefinitionFilePlace). x.line) at_place in
              let both : ((a.file == place.file) && (a.line == place.line)) ≡ true =
              rw (eq-eqb a.file place.file file, eq-eqb a.line place.line number) refl in
              let no : true ≡ false = sym both ∙ is in
              cc

  -- ---- the definition of a name

  -- one that is kept, or lacks a member, keeps its name and its kind
  kept_definition_has_same_name : (j : Kind) (name : List ℕ) (d e : PlacedDefinition) → IsKeptOrLacksMember w place at k old d e
      → is_definition_of_name j name e ≡ is_definition_of_name j name d
  kept_definition_has_same_name j name d e (kept other same) =
      ap₂ (λ (i : Kind) (word : List ℕ). is_equal_kind j i && bytes_eq name word) same.kind same.called
  kept_definition_has_same_name j name d e (lacks there was is one alike) =
      let rest : Bool = are_lists_alike is_same_member (remove old.members at) e.def.members in
      let p = and_parts (bytes_eq old.name e.def.name) rest alike in
      ap₂ (λ (i : Kind) (word : List ℕ). is_equal_kind j i && bytes_eq name word) (is ∙ sym was)
      (sym ((bytes_eq-Decides old.name e.def.name).0 p.0) ∙ ap (λ (x : Def). x.name) (sym one))

  pub first_definitions_are_kept_or_lack_member : (j : Kind) (name : List ℕ) (ds es : List PlacedDefinition)
      → IsPointwiseRelated (IsKeptOrLacksMember w place at k old) ds es
      → AreFirstDefinitionsKept (IsKeptOrLacksMember w place at k old) j name ds es
  first_definitions_are_kept_or_lack_member j name [] [] all = undefined refl refl
  first_definitions_are_kept_or_lack_member j name [] (e ∷ es) all = absurd all
  first_definitions_are_kept_or_lack_member j name (d ∷ ds) [] all = absurd all
  first_definitions_are_kept_or_lack_member j name (d ∷ ds) (e ∷ es) all =
      by (is_definition_of_name j name d) refl (first_definitions_are_kept_or_lack_member j name ds es all.1)
    where
      same : is_definition_of_name j name e ≡ is_definition_of_name j name d
      same = kept_definition_has_same_name j name d e all.0

      first_of : (b : Bool) (x : PlacedDefinition) (xs : List PlacedDefinition) → is_definition_of_name j name x ≡ b
          → first_definition_of j name (x ∷ xs) ≡ (if b then Some x else first_definition_of j name xs)
      first_of b x xs is = ap (λ (t : Bool). if t then Some x else first_definition_of j name xs) is

      later : AreFirstDefinitionsKept (IsKeptOrLacksMember w place at k old) j name ds es → is_definition_of_name j name d ≡ false
          → AreFirstDefinitionsKept (IsKeptOrLacksMember w place at k old) j name (d ∷ ds) (e ∷ es)
      later (undefined none nothing) is = undefined (first_of false d ds is ∙ none) (first_of false e es (same ∙ is) ∙ nothing)
      later (defined x y found there names r) is =
          defined x y (first_of false d ds is ∙ found) (first_of false e es (same ∙ is) ∙ there) names r

      by : (b : Bool) → is_definition_of_name j name d ≡ b → AreFirstDefinitionsKept (IsKeptOrLacksMember w place at k old) j name ds es
          → AreFirstDefinitionsKept (IsKeptOrLacksMember w place at k old) j name (d ∷ ds) (e ∷ es)
      by true is more = defined d e (first_of true d ds is) (first_of true e es (same ∙ is)) is all.0
      by false is more = later more is
