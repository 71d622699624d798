-- A name that is neither defined nor mentioned in a kind stands in no line as an alias of that kind.
use Rattle.sudoers_edit.proofs.Common.{AllByRecursion, Atom, Bool, Def, Kind, Line, List, Member, Node, Span, [], alias_offsets_in_node, ap, ap₂, bytes_eq, definitions_from_line_number, definitions_from_place}
use Rattle.sudoers_edit.proofs.Common.{definitions_in_line, false, flat_map, flat_map-append, if◌then◌else◌, is_equal_kind, length, map, map-append, members_of_kind_in_line, mention_offsets_in_members}
use Rattle.sudoers_edit.proofs.Common.{mention_span_of_member, mention_spans_among_members, mentions_from_line_number, mentions_in_line, name_offsets_in_definition, name_offsets_in_line, named_alias_of_kind_and_name, refl}
use Rattle.sudoers_edit.proofs.Common.{sym, true, ℕ, ◌&&◌, ◌++◌, ◌+◌, ◌-◌, ◌∙◌, ◌∷◌, ◌≡◌}
use Rattle.sudoers_grammar.specs.declared.node.Atom.TheVariants as atom
use Rattle.sudoers_grammar.specs.Node as node
use Rattle.sudoers_edit.proofs.NameStarts.{alias_offsets_of_node_are_name_offsets}
use Rattle.sudoers_edit.proofs.RenamedNames.{IsNotDefinitionOfAlias}

-- ---- members

pub empty_joined_list_has_empty_parts : {X : Type 0} (xs ys : List X) → xs ++ ys ≡ [] → (xs ≡ []) × (ys ≡ [])
empty_joined_list_has_empty_parts [] ys h = (refl, h)
empty_joined_list_has_empty_parts (x ∷ xs) ys h = absurd (cc)

span_start_is_same_in_any_line : (b : Bool) (m n start stop : ℕ)
    → map (λ (s : Span). s.start) (if b then record { line = m; start = start; stop = stop } ∷ [] else [])
    ≡ map (λ (s : Span). s.start) (if b then record { line = n; start = start; stop = stop } ∷ [] else [])
span_start_is_same_in_any_line true m n start stop = refl
span_start_is_same_in_any_line false m n start stop = refl

mention_start_is_same_in_any_line : (name : List ℕ) (n : ℕ) (m : Member) (a : Atom)
    → map (λ (s : Span). s.start) (mention_span_of_member 0 name m a) ≡ map (λ (s : Span). s.start) (mention_span_of_member n name m a)
mention_start_is_same_in_any_line name n m (atom.Alias word) = span_start_is_same_in_any_line (bytes_eq name word) 0 n (m.stop - length name) m.stop
mention_start_is_same_in_any_line name n m a = refl

mention_offsets_are_starts_of_spans : (name : List ℕ) (n : ℕ) (ms : List Member) → mention_offsets_in_members name ms ≡ map (λ (s : Span). s.start) (mention_spans_among_members n name ms)
mention_offsets_are_starts_of_spans name n [] = refl
mention_offsets_are_starts_of_spans name n (m ∷ ms) =
    ap₂ (λ (us vs : List ℕ). us ++ vs) (mention_start_is_same_in_any_line name n m m.atom) (mention_offsets_are_starts_of_spans name n ms)
    ∙ sym (map-append (λ (s : Span). s.start) (mention_span_of_member n name m m.atom) (mention_spans_among_members n name ms))

members_without_mention_have_no_offset : (name : List ℕ) (n : ℕ) (ms : List Member) → mention_spans_among_members n name ms ≡ [] → mention_offsets_in_members name ms ≡ []
members_without_mention_have_no_offset name n ms none = mention_offsets_are_starts_of_spans name n ms ∙ ap (map (λ (s : Span). s.start)) none

-- ---- definitions

definition_without_name_has_no_offset : (b : Bool) (start : ℕ) (xs : List ℕ) → b ≡ false → xs ≡ [] → (if b then start ∷ [] else []) ++ xs ≡ []
definition_without_name_has_no_offset true start xs h none = absurd (cc)
definition_without_name_has_no_offset false start xs h none = none

definitions_without_name_have_no_offset : (k j : Kind) (name : List ℕ) (n i : ℕ) (defs : List Def) → is_equal_kind k j ≡ true
    → mention_spans_among_members n name (flat_map (λ (d : Def). d.members) defs) ≡ [] → AllByRecursion (IsNotDefinitionOfAlias k name) (definitions_from_place j n i defs)
    → flat_map (name_offsets_in_definition name) defs ≡ []
definitions_without_name_have_no_offset k j name n i [] is none lack = refl
definitions_without_name_have_no_offset k j name n i (d ∷ defs) is none lack =
    let more : List Member = flat_map (λ (e : Def). e.members) defs in
    let p = empty_joined_list_has_empty_parts (mention_spans_among_members n name d.members) (mention_spans_among_members n name more)
    (sym (flat_map-append (λ (m : Member). mention_span_of_member n name m m.atom) d.members more) ∙ none) in
    ap₂ (λ (us vs : List ℕ). us ++ vs)
    (definition_without_name_has_no_offset (bytes_eq name d.name) d.start (mention_offsets_in_members name d.members) (ap (λ (b : Bool). b && bytes_eq name d.name) (sym is) ∙ lack.0)
    (members_without_mention_have_no_offset name n d.members p.0))
    (definitions_without_name_have_no_offset k j name n (i + 1) defs is p.1 lack.1)

-- ---- lines

line_without_name_has_no_offset : (k : Kind) (name : List ℕ) (n : ℕ) (says : Node) → mentions_in_line k name n says ≡ [] → AllByRecursion (IsNotDefinitionOfAlias k name) (definitions_in_line n says)
    → name_offsets_in_line k name says ≡ []
line_without_name_has_no_offset k name n (node.Alias j defs) none lack = by (is_equal_kind k j) refl none
  where
    by : (b : Bool) → is_equal_kind k j ≡ b → mention_spans_among_members n name (if b then flat_map (λ (d : Def). d.members) defs else []) ≡ []
        → (if b then flat_map (name_offsets_in_definition name) defs else []) ≡ []
    by true is none = definitions_without_name_have_no_offset k j name n 0 defs is none lack
    by false is none = refl
line_without_name_has_no_offset k name n node.Blank none lack = refl
line_without_name_has_no_offset k name n node.Comment none lack = refl
line_without_name_has_no_offset k name n (node.Include dir path) none lack = refl
line_without_name_has_no_offset k name n (node.Defaults scope params) none lack = members_without_mention_have_no_offset name n (members_of_kind_in_line k (node.Defaults scope params)) none
line_without_name_has_no_offset k name n (node.Spec users groups) none lack = members_without_mention_have_no_offset name n (members_of_kind_in_line k (node.Spec users groups)) none

abbrev pub IsLineWithoutAlias : Kind → List ℕ → Line → Type 0
IsLineWithoutAlias k name line = alias_offsets_in_node (named_alias_of_kind_and_name k name) line.node ≡ []

property_of_joined_list_holds_of_parts : {X : Type 0} (P : X → Type 0) (xs ys : List X) → AllByRecursion P (xs ++ ys) → AllByRecursion P xs × AllByRecursion P ys
property_of_joined_list_holds_of_parts P [] ys a = (tt, a)
property_of_joined_list_holds_of_parts P (x ∷ xs) ys a = let p = property_of_joined_list_holds_of_parts P xs ys a.1 in ((a.0, p.0), p.1)

pub lines_not_naming_alias_are_without_it : (k : Kind) (name : List ℕ) (n : ℕ) (lines : List Line) → mentions_from_line_number k name n lines ≡ []
    → AllByRecursion (IsNotDefinitionOfAlias k name) (definitions_from_line_number n lines) → AllByRecursion (IsLineWithoutAlias k name) lines
lines_not_naming_alias_are_without_it k name n [] none lack = tt
lines_not_naming_alias_are_without_it k name n (line ∷ lines) none lack =
    let p = empty_joined_list_has_empty_parts (mentions_in_line k name n line.node) (mentions_from_line_number k name (n + 1) lines) none in
    let q = property_of_joined_list_holds_of_parts (IsNotDefinitionOfAlias k name) (definitions_in_line n line.node) (definitions_from_line_number (n + 1) lines) lack in
    (alias_offsets_of_node_are_name_offsets k name line.node ∙ line_without_name_has_no_offset k name n line.node p.0 q.0, lines_not_naming_alias_are_without_it k name (n + 1) lines p.1 q.1)
