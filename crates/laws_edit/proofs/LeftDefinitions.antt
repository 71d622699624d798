-- Lines of a policy of which definitions are gone: what is left of the definitions, and what the aliases name.
use Rattle.std.proofs.Common.{◌≡◌, ◌⊎◌, inl, inr, ℕ, ◌+◌, Bool, true, false, ◌&&◌, List, [], ◌∷◌, ◌++◌, Option, Some, None, refl, sym, ap, ap₂, subst, ◌∙◌, if◌then◌else◌}
use Rattle.std.specs.List.{cons_option, filter}
use Rattle.std.specs.Option.{option_map}
use Rattle.std.specs.Str.{bytes_eq}
use Rattle.sudoers_grammar.specs.declared.node.Kind.{Kind}
use Rattle.sudoers_grammar.specs.Node.{Def, Member, Node}
use Rattle.sudoers_grammar.specs.Node as node
use Rattle.sudoers_tree.specs.Line.{Line}
use Rattle.sudoers_tree.specs.Definition.{PlacedDefinition, is_equal_kind, is_definition_of_name, first_definition_of, definitions_of_lines, definitions_from_place, definitions_in_line, definitions_from_line_number}
use Rattle.sudoers_check.specs.Chains.{IsReachedFromSpecOrDefaults}
use Rattle.sudoers_check.proofs.Named.{definition_of_name_has_kind_and_name}
use Rattle.sudoers_match_list.specs.Alike.{IsPointwiseRelated, IsMemberWithAtomMapped, AreBothUndefinedOrHaveSameMembers, unchanged_atom}
use Rattle.sudoers_match.specs.Beside.{node_unless_alias_line, nodes_without_alias_lines, HasSameLinesAndReachableAliases}
use Rattle.laws_edit.specs.Pruned.{has_no_alias_definition}

-- The definition has the kind, the name and the members of the other.
pub record IsSameDefinition (d e : PlacedDefinition) : Type 0 where
  pub kind : e.kind ≡ d.kind
  pub called : e.def.name ≡ d.def.name
  pub members : IsPointwiseRelated (IsMemberWithAtomMapped unchanged_atom) d.def.members e.def.members

-- The second are the first in their order, but for some whose aliases may be gone.
abbrev pub AreLeftBesidesGone : (Kind → List ℕ → Type 0) → List PlacedDefinition → List PlacedDefinition → Type 0
AreLeftBesidesGone Gone [] [] = Unit {0}
AreLeftBesidesGone Gone [] (e ∷ es) = ⊥
AreLeftBesidesGone Gone (d ∷ ds) [] = Gone d.kind d.def.name × AreLeftBesidesGone Gone ds []
AreLeftBesidesGone Gone (d ∷ ds) (e ∷ es) = (Gone d.kind d.def.name × AreLeftBesidesGone Gone ds (e ∷ es)) ⊎ (IsSameDefinition d e × AreLeftBesidesGone Gone ds es)

-- ---- members

pub members_are_rewritten_to_themselves : (ms : List Member) → IsPointwiseRelated (IsMemberWithAtomMapped unchanged_atom) ms ms
members_are_rewritten_to_themselves [] = tt
members_are_rewritten_to_themselves (m ∷ ms) = (record { negated = refl; digests = refl; atom = refl }, members_are_rewritten_to_themselves ms)

unchanged_rewriting_is_transitive : (ms ns os : List Member) → IsPointwiseRelated (IsMemberWithAtomMapped unchanged_atom) ms ns → IsPointwiseRelated (IsMemberWithAtomMapped unchanged_atom) ns os → IsPointwiseRelated (IsMemberWithAtomMapped unchanged_atom) ms os
unchanged_rewriting_is_transitive [] [] os a b = b
unchanged_rewriting_is_transitive [] (n ∷ ns) os a b = absurd a
unchanged_rewriting_is_transitive (m ∷ ms) [] os a b = absurd a
unchanged_rewriting_is_transitive (m ∷ ms) (n ∷ ns) [] a b = absurd b
unchanged_rewriting_is_transitive (m ∷ ms) (n ∷ ns) (o ∷ os) a b = (
  record { negated = b.0.negated ∙ a.0.negated; digests = b.0.digests ∙ a.0.digests; atom = b.0.atom ∙ a.0.atom },
  unchanged_rewriting_is_transitive ms ns os a.1 b.1,
)

module _ (Gone : Kind → List ℕ → Type 0) where
  -- ---- lists of definitions

  pub leaves_skip : (d : PlacedDefinition) → Gone d.kind d.def.name → (ds es : List PlacedDefinition) → AreLeftBesidesGone Gone ds es → AreLeftBesidesGone Gone (d ∷ ds) es
  leaves_skip d gone ds [] l = (gone, l)
  leaves_skip d gone ds (e ∷ es) l = inl (gone, l)

  pub leaves_append : (ds es xs ys : List PlacedDefinition) → AreLeftBesidesGone Gone ds es → AreLeftBesidesGone Gone xs ys → AreLeftBesidesGone Gone (ds ++ xs) (es ++ ys)
  leaves_append [] [] xs ys l m = m
  leaves_append [] (e ∷ es) xs ys l m = absurd l
  leaves_append (d ∷ ds) [] xs ys l m = leaves_skip d l.0 (ds ++ xs) ys (leaves_append ds [] xs ys l.1 m)
  leaves_append (d ∷ ds) (e ∷ es) xs ys (inl l) m = inl (l.0, leaves_append ds (e ∷ es) xs ys l.1 m)
  leaves_append (d ∷ ds) (e ∷ es) xs ys (inr l) m = inr (l.0, leaves_append ds es xs ys l.1 m)

  pub leaves_then : (ds es fs : List PlacedDefinition) → AreLeftBesidesGone Gone ds es → AreLeftBesidesGone Gone es fs → AreLeftBesidesGone Gone ds fs
  leaves_then [] [] fs l m = m
  leaves_then [] (e ∷ es) fs l m = absurd l
  leaves_then (d ∷ ds) [] fs l m = leaves_skip d l.0 ds fs (leaves_then ds [] fs l.1 m)
  leaves_then (d ∷ ds) (e ∷ es) fs (inl l) m = leaves_skip d l.0 ds fs (leaves_then ds (e ∷ es) fs l.1 m)
  leaves_then (d ∷ ds) (e ∷ es) [] (inr l) m =
      (subst (λ (k : Kind). Gone k d.def.name) l.0.kind (subst (λ (name : List ℕ). Gone e.kind name) l.0.called m.0), leaves_then ds es [] l.1 m.1)
  leaves_then (d ∷ ds) (e ∷ es) (f ∷ fs) (inr l) (inl m) =
      inl (subst (λ (k : Kind). Gone k d.def.name) l.0.kind (subst (λ (name : List ℕ). Gone e.kind name) l.0.called m.0), leaves_then ds es (f ∷ fs) l.1 m.1)
  leaves_then (d ∷ ds) (e ∷ es) (f ∷ fs) (inr l) (inr m) = inr (
    record {
      kind = m.0.kind ∙ l.0.kind;
      called = m.0.called ∙ l.0.called;
      members = unchanged_rewriting_is_transitive d.def.members e.def.members f.def.members l.0.members m.0.members;
    },
    leaves_then ds es fs l.1 m.1,
  )

  -- the same definitions at other places
  from_itself : (k : Kind) (l m n o : ℕ) (defs : List Def) → AreLeftBesidesGone Gone (definitions_from_place k l n defs) (definitions_from_place k m o defs)
  from_itself k l m n o [] = tt
  from_itself k l m n o (d ∷ defs) = inr (record { kind = refl; called = refl; members = members_are_rewritten_to_themselves d.members }, from_itself k l m (n + 1) (o + 1) defs)

  in_itself : (l m : ℕ) (says : Node) → AreLeftBesidesGone Gone (definitions_in_line l says) (definitions_in_line m says)
  in_itself l m (node.Alias k defs) = from_itself k l m 0 0 defs
  in_itself l m node.Blank = tt
  in_itself l m node.Comment = tt
  in_itself l m (node.Include dir path) = tt
  in_itself l m (node.Defaults scope params) = tt
  in_itself l m (node.Spec users groups) = tt

  pub since_itself : (n m : ℕ) (lines : List Line) → AreLeftBesidesGone Gone (definitions_from_line_number n lines) (definitions_from_line_number m lines)
  since_itself n m [] = tt
  since_itself n m (line ∷ lines) =
      leaves_append (definitions_in_line n line.node) (definitions_in_line m line.node) (definitions_from_line_number (n + 1) lines) (definitions_from_line_number (m + 1) lines)
      (in_itself n m line.node) (since_itself (n + 1) (m + 1) lines)

  -- ---- lists of lines

  -- Definitions of some lines are gone, and everything else is left.
  pub record AreLeft (old new : List Line) : Type 0 where
    pub beside : nodes_without_alias_lines new ≡ nodes_without_alias_lines old
    pub others : filter has_no_alias_definition new ≡ filter has_no_alias_definition old
    pub part : (i j : ℕ) → AreLeftBesidesGone Gone (definitions_from_line_number i old) (definitions_from_line_number j new)

  pub left_itself : (lines : List Line) → AreLeft lines lines
  left_itself lines = record { beside = refl; others = refl; part = λ i j. since_itself i j lines }

  pub left_then : (old mid new : List Line) → AreLeft old mid → AreLeft mid new → AreLeft old new
  left_then old mid new a b = record {
    beside = b.beside ∙ a.beside;
    others = b.others ∙ a.others;
    part = λ i j. leaves_then (definitions_from_line_number i old) (definitions_from_line_number 0 mid) (definitions_from_line_number j new) (a.part i 0) (b.part 0 j);
  }

  pub left_with : (front old new : List Line) → AreLeft old new → AreLeft (front ++ old) (front ++ new)
  left_with [] old new is = is
  left_with (line ∷ front) old new is =
      let more = left_with front old new is in
      record {
        beside = ap (cons_option (node_unless_alias_line line.node)) more.beside;
        others = ap (λ (ls : List Line). if has_no_alias_definition line then line ∷ ls else ls) more.others;
        part = λ i j.
            leaves_append (definitions_in_line i line.node) (definitions_in_line j line.node) (definitions_from_line_number (i + 1) (front ++ old)) (definitions_from_line_number (j + 1) (front ++ new))
            (in_itself i j line.node) (more.part (i + 1) (j + 1));
      }

  -- ---- what aliases name

  abbrev members_in : Option PlacedDefinition → Option (List Member)
  members_in o = option_map (λ (d : PlacedDefinition). d.def.members) o

  -- A definition that may be gone is of another name.
  past_gone : (k : Kind) (name : List ℕ) → (Gone k name → ⊥) → (d : PlacedDefinition) → Gone d.kind d.def.name → (ds : List PlacedDefinition) (o : Option (List Member))
      → AreBothUndefinedOrHaveSameMembers (members_in (first_definition_of k name ds)) o → AreBothUndefinedOrHaveSameMembers (members_in (first_definition_of k name (d ∷ ds))) o
  past_gone k name stays d gone ds o more = by (is_definition_of_name k name d) refl
    where
      by : (b : Bool) → is_definition_of_name k name d ≡ b → AreBothUndefinedOrHaveSameMembers (members_in (if b then Some d else first_definition_of k name ds)) o
      by true is =
          let p = definition_of_name_has_kind_and_name k name d is in
          absurd (stays (subst (λ (j : Kind). Gone j name) p.0 (subst (λ (word : List ℕ). Gone d.kind word) p.1 gone)))
      by false is = more

  still_defined : (k : Kind) (name : List ℕ) → (Gone k name → ⊥) → (ds es : List PlacedDefinition) → AreLeftBesidesGone Gone ds es
      → AreBothUndefinedOrHaveSameMembers (members_in (first_definition_of k name ds)) (members_in (first_definition_of k name es))
  still_defined k name stays [] [] l = tt
  still_defined k name stays [] (e ∷ es) l = absurd l
  still_defined k name stays (d ∷ ds) [] l = past_gone k name stays d l.0 ds None (still_defined k name stays ds [] l.1)
  still_defined k name stays (d ∷ ds) (e ∷ es) (inl l) =
      past_gone k name stays d l.0 ds (members_in (first_definition_of k name (e ∷ es))) (still_defined k name stays ds (e ∷ es) l.1)
  still_defined k name stays (d ∷ ds) (e ∷ es) (inr l) =
      subst (λ (b : Bool). AreBothUndefinedOrHaveSameMembers (members_in (if is_definition_of_name k name d then Some d else first_definition_of k name ds)) (members_in (if b then Some e else first_definition_of k name es)))
      (sym (ap₂ (λ (j : Kind) (word : List ℕ). is_equal_kind k j && bytes_eq name word) l.0.kind l.0.called))
      (by (is_definition_of_name k name d) (still_defined k name stays ds es l.1))
    where
      by : (b : Bool) → AreBothUndefinedOrHaveSameMembers (members_in (first_definition_of k name ds)) (members_in (first_definition_of k name es))
          → AreBothUndefinedOrHaveSameMembers (members_in (if b then Some d else first_definition_of k name ds)) (members_in (if b then Some e else first_definition_of k name es))
      by true more = l.0.members
      by false more = more

-- No chain of mentions leads to the alias of this name and kind from a user specification or a Defaults line.
abbrev pub IsUnreachableAlias : List Line → Kind → List ℕ → Type 0
IsUnreachableAlias lines k name = IsReachedFromSpecOrDefaults k lines name → ⊥

-- What is left keeps the aliases to which chains of mentions lead.
pub definitions_left_keep_reachable_aliases : (lines others : List Line) → AreLeft (IsUnreachableAlias lines) lines others → HasSameLinesAndReachableAliases lines others
definitions_left_keep_reachable_aliases lines others left = record {
  beside = left.beside;
  members = λ k name reached. still_defined (IsUnreachableAlias lines) k name (λ idle. idle reached) (definitions_of_lines lines) (definitions_of_lines others) (left.part 0 0);
}
