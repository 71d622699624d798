-- What the lists of lines mention, in the order of the lines.
use Rattle.std.specs.Prelude.{ℕ, ◌+◌, ◌-◌, ◌&&◌, Bool, List, [], ◌∷◌, ◌++◌, length}
use Rattle.std.specs.List.{flat_map}
use Rattle.std.specs.Str.{bytes_eq}
use Rattle.sudoers_grammar.specs.declared.node.Kind.{Kind}
use Rattle.sudoers_grammar.specs.declared.node.Atom.{Atom}
use Rattle.sudoers_grammar.specs.declared.node.Atom.TheVariants as atom
use Rattle.sudoers_grammar.specs.Node.{Member, Node}
use Rattle.sudoers_grammar.specs.Listed.{AliasMember, ListedMember, listed_members_of_node}
use Rattle.sudoers_tree.specs.Line.{Line}
use Rattle.sudoers_tree.specs.declared.place.Span.{Span}
use Rattle.sudoers_tree.specs.Definition.{is_equal_kind}

-- a name that stands as a member of a list of this kind, and where
pub record Mention : Type 0 where
  pub kind : Kind
  pub name : List ℕ
  pub span : Span

abbrev pub mention_of_atom : ℕ → Kind → Member → Atom → List Mention
mention_of_atom line k m (atom.Alias name) =
    record { kind = k; name = name; span = record { line = line; start = m.stop - length name; stop = m.stop } } ∷ []
mention_of_atom line k m other = []

-- the mentions among members of lists of the line with this number, from 0
abbrev pub mentions_among_listed_members : ℕ → List ListedMember → List Mention
mentions_among_listed_members line ls = flat_map (λ (l : ListedMember). mention_of_atom line l.0 l.1 l.1.atom) ls

-- what the line with this number, from 0, mentions that says this
abbrev pub mentions_in_node : ℕ → Node → List Mention
mentions_in_node line n = mentions_among_listed_members line (listed_members_of_node n)

-- the mention that an alias is in the line with this number
abbrev pub mention_of_alias_member : ℕ → AliasMember → Mention
mention_of_alias_member line a =
    record { kind = a.kind; name = a.name; span = record { line = line; start = a.stop - length a.name; stop = a.stop } }

-- what lines mention that are numbered from this number on
abbrev pub mentions_in_lines_numbered_from : ℕ → List Line → List Mention
mentions_in_lines_numbered_from n [] = []
mentions_in_lines_numbered_from n (line ∷ lines) = mentions_in_node n line.node ++ mentions_in_lines_numbered_from (n + 1) lines

-- all mentions, in the order of the lines
abbrev pub all_mentions_in_lines : List Line → List Mention
all_mentions_in_lines lines = mentions_in_lines_numbered_from 0 lines

-- the mention is one of this name in this kind
abbrev pub is_mention_of_name : Kind → List ℕ → Mention → Bool
is_mention_of_name k name m = is_equal_kind k m.kind && bytes_eq name m.name
