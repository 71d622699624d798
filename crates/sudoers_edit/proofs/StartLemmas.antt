-- Where a name stands, picked from the aliases among the members of all lists.
use Rattle.sudoers_edit.proofs.Common.{AliasDefinitionRow, Atom, Bool, Kind, List, ListedMember, Member, Node, NodeView, Span, [], alias_member_of_atom, aliases_among_listed, aliases_in_node, ap, arith, false}
use Rattle.sudoers_edit.proofs.Common.{flat_map, flat_map-append, if◌then◌else◌, is_equal_kind, length, members_of_kind_among_listed, listed_members_of_node, map, members_listed_as_kind, members_of_kind_in_line}
use Rattle.sudoers_edit.proofs.Common.{mention_offsets_in_members, mention_span_of_member, name_offset_if_alias_member_matches, name_offsets_in_line, node_of_view, refl, sym, true, ℕ, ◌&&◌, ◌++◌, ◌-◌, ◌∙◌, ◌∷◌, ◌≡◌}
use Rattle.std.proofs.Common.{bytes_eq}
use Rattle.sudoers_grammar.specs.declared.node.Kind.TheVariants as kind
use Rattle.sudoers_grammar.specs.declared.node.Atom.TheVariants as atom
use Rattle.sudoers_line_rows.specs.declared.row_lists.RowsOfTable.{RowsOfTable}
use Rattle.sudoers_line_rows.specs.declared.view.Node.TheVariants as node_view

guarded_start_is_start_of_guarded_span : (b c : Bool) (s : Span) → (if b && c then s.start ∷ [] else []) ++ [] ≡ (if b then map (λ (t : Span). t.start) (if c then s ∷ [] else []) else [])
guarded_start_is_start_of_guarded_span true true s = refl
guarded_start_is_start_of_guarded_span true false s = refl
guarded_start_is_start_of_guarded_span false c s = refl

no_offset_is_choice_of_none : (b : Bool) → (let none : List ℕ = [] in none ≡ (if b then none else none))
no_offset_is_choice_of_none true = refl
no_offset_is_choice_of_none false = refl

-- one member
atom_alias_offset_is_mention_of_kind : (k j : Kind) (name : List ℕ) (m : Member) (a : Atom)
    → flat_map (name_offset_if_alias_member_matches k name) (alias_member_of_atom j m a) ≡ (if is_equal_kind k j then map (λ (s : Span). s.start) (mention_span_of_member 0 name m a) else [])
atom_alias_offset_is_mention_of_kind k j name m (atom.Alias other) =
    guarded_start_is_start_of_guarded_span (is_equal_kind k j) (bytes_eq name other) (record { line = 0; start = m.stop - length name; stop = m.stop })
atom_alias_offset_is_mention_of_kind k j name m a = no_offset_is_choice_of_none (is_equal_kind k j)

-- members of lists
pub kind_mentions_are_offsets_of_listed_aliases : (k : Kind) (name : List ℕ) (ls : List ListedMember) → mention_offsets_in_members name (members_of_kind_among_listed k ls) ≡ flat_map (name_offset_if_alias_member_matches k name) (aliases_among_listed ls)
kind_mentions_are_offsets_of_listed_aliases k name [] = refl
kind_mentions_are_offsets_of_listed_aliases k name (l ∷ ls) = grind (
  arith,
  kind_mentions_are_offsets_of_listed_aliases k name ls,
  atom_alias_offset_is_mention_of_kind k l.0 name l.1 l.1.atom,
  flat_map-append (name_offset_if_alias_member_matches k name) (alias_member_of_atom l.0 l.1 l.1.atom) (aliases_among_listed ls),
)

-- members of one list
alias_kind_is_equal_to_itself : (k : Kind) → is_equal_kind k k ≡ true
alias_kind_is_equal_to_itself kind.User = refl
alias_kind_is_equal_to_itself kind.Runas = refl
alias_kind_is_equal_to_itself kind.Host = refl
alias_kind_is_equal_to_itself kind.Cmnd = refl

members_listed_as_kind_are_of_kind : (k : Kind) (members : List Member) → members_of_kind_among_listed k (members_listed_as_kind k members) ≡ members
members_listed_as_kind_are_of_kind k [] = refl
members_listed_as_kind_are_of_kind k (m ∷ members) =
    ap (λ same. if same then m ∷ members_of_kind_among_listed k (members_listed_as_kind k members) else members_of_kind_among_listed k (members_listed_as_kind k members)) (alias_kind_is_equal_to_itself k)
    ∙ ap (λ rest. m ∷ rest) (members_listed_as_kind_are_of_kind k members)

pub offsets_of_listed_members_are_mentions : (k : Kind) (name : List ℕ) (members : List Member)
    → flat_map (name_offset_if_alias_member_matches k name) (aliases_among_listed (members_listed_as_kind k members)) ≡ mention_offsets_in_members name members
offsets_of_listed_members_are_mentions k name members = sym (kind_mentions_are_offsets_of_listed_aliases k name (members_listed_as_kind k members)) ∙ ap (mention_offsets_in_members name) (members_listed_as_kind_are_of_kind k members)

-- a line that makes no definitions
pub line_alias_offsets_are_name_offsets : (k : Kind) (name : List ℕ) (n : NodeView) → ((j : Kind) (m : Node) → members_of_kind_in_line j m ≡ members_of_kind_among_listed j (listed_members_of_node m))
    → ((j : Kind) (defs : RowsOfTable AliasDefinitionRow) → n ≡ node_view.Alias j defs → ⊥) → flat_map (name_offset_if_alias_member_matches k name) (aliases_in_node (node_of_view n)) ≡ name_offsets_in_line k name (node_of_view n)
line_alias_offsets_are_name_offsets k name n law none = sym (ap (mention_offsets_in_members name) (law k (node_of_view n)) ∙ kind_mentions_are_offsets_of_listed_aliases k name (listed_members_of_node (node_of_view n))) ∙ no_defs n none
  where
    no_defs : (n : NodeView) → ((j : Kind) (defs : RowsOfTable AliasDefinitionRow) → n ≡ node_view.Alias j defs → ⊥) → mention_offsets_in_members name (members_of_kind_in_line k (node_of_view n)) ≡ name_offsets_in_line k name (node_of_view n)
    no_defs node_view.Blank none = refl
    no_defs node_view.Comment none = refl
    no_defs (node_view.Include dir path) none = refl
    no_defs (node_view.Defaults scope params) none = refl
    no_defs (node_view.Alias j defs) none = absurd (none j defs refl)
    no_defs (node_view.Spec users groups) none = refl
