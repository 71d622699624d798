-- A device of the proofs, which no public contract cites: where code looks for the name of an alias in a line, and what it puts there.
use Rattle.std.specs.Prelude.{ℕ, ◌+◌, ◌-◌, ◌&&◌, if◌then◌else◌, List, [], ◌∷◌, ◌++◌, length, take, drop, map}
use Rattle.std.specs.List.{flat_map}
use Rattle.std.specs.Str.{bytes_eq}
use Rattle.sudoers_text.specs.Line.{join}
use Rattle.sudoers_grammar.specs.Node.{Def, Member, Node}
use Rattle.sudoers_grammar.specs.declared.node.Kind.{Kind}
use Rattle.sudoers_grammar.specs.Listed.{AliasMember}
use Rattle.sudoers_grammar.specs.Node as node
use Rattle.sudoers_tree.specs.Line.{Line}
use Rattle.sudoers_tree.specs.declared.place.Span.{Span}
use Rattle.sudoers_tree.specs.Definition.{is_equal_kind}
use Rattle.sudoers_tree.specs.Mention.{members_of_kind_in_line, mention_span_of_member}
use Rattle.sudoers_tree.specs.Files.{ParsedFile}
use Rattle.sudoers_tree.specs.Load.{LoadedPolicy, named_file_of_parsed}
use Rattle.sudoers_tree.specs.Walk.{WalkState, is_file_on_walk}
use Rattle.sudoers_tree.specs.declared.named_files.NamedFile.{NamedFile}

-- WHERE THE NAME STANDS

-- where it is mentioned by this member: at which bytes of the line
abbrev pub mention_offset_of_member : List ℕ → Member → List ℕ
mention_offset_of_member name m = map (λ (s : Span). s.start) (mention_span_of_member 0 name m m.atom)

-- where it is mentioned by one of these members
abbrev pub mention_offsets_in_members : List ℕ → List Member → List ℕ
mention_offsets_in_members name members = flat_map (mention_offset_of_member name) members

-- where it stands in a definition: as the name that is defined, and in the members
abbrev pub name_offsets_in_definition : List ℕ → Def → List ℕ
name_offsets_in_definition name d = (if bytes_eq name d.name then d.start ∷ [] else []) ++ mention_offsets_in_members name d.members

-- where it stands in what a line says, as an alias of this kind
abbrev pub name_offsets_in_line : Kind → List ℕ → Node → List ℕ
name_offsets_in_line k name (node.Alias j defs) = if is_equal_kind k j then flat_map (name_offsets_in_definition name) defs else []
name_offsets_in_line k name (node.Spec users groups) = mention_offsets_in_members name (members_of_kind_in_line k (node.Spec users groups))
name_offsets_in_line k name (node.Defaults scope params) = mention_offsets_in_members name (members_of_kind_in_line k (node.Defaults scope params))
name_offsets_in_line k name node.Blank = []
name_offsets_in_line k name node.Comment = []
name_offsets_in_line k name (node.Include dir path) = []

-- where an alias among the members of all lists stands, if it is this name in a list of this kind
abbrev pub name_offset_if_alias_member_matches : Kind → List ℕ → AliasMember → List ℕ
name_offset_if_alias_member_matches k name a = if is_equal_kind k a.kind && bytes_eq name a.name then (a.stop - length name) ∷ [] else []

-- ANOTHER NAME IN ITS PLACE

-- the line from a byte on, with other bytes where at these places so many stand
abbrev pub line_replaced_at_offsets : ℕ → ℕ → List ℕ → List ℕ → List ℕ → List ℕ
line_replaced_at_offsets from size fresh [] line = drop from line
line_replaced_at_offsets from size fresh (start ∷ starts) line = take (start - from) (drop from line) ++ fresh ++ line_replaced_at_offsets (start + size) size fresh starts line

abbrev pub text_with_name_replaced : Kind → List ℕ → List ℕ → Line → List ℕ
text_with_name_replaced k name fresh line = line_replaced_at_offsets 0 (length name) fresh (name_offsets_in_line k name line.node) line.text

-- the texts of lines with another name for an alias
abbrev pub texts_with_name_replaced : Kind → List ℕ → List ℕ → List Line → List (List ℕ)
texts_with_name_replaced k name fresh policy = map (text_with_name_replaced k name fresh) policy

-- these files, the first of which has the number n, with another name for the alias in those that are on the walk
abbrev pub named_files_numbered_from_replaced_if_on_walk : ℕ → Kind → List ℕ → List ℕ → WalkState → List ParsedFile → List NamedFile
named_files_numbered_from_replaced_if_on_walk n k name fresh w [] = []
named_files_numbered_from_replaced_if_on_walk n k name fresh w (file ∷ files) =
    (if is_file_on_walk w n then record { name = file.name; bytes = join (texts_with_name_replaced k name fresh file.lines) } else named_file_of_parsed file)
    ∷ named_files_numbered_from_replaced_if_on_walk (n + 1) k name fresh w files

abbrev pub named_files_with_name_replaced : Kind → List ℕ → List ℕ → LoadedPolicy → List NamedFile
named_files_with_name_replaced k name fresh policy = named_files_numbered_from_replaced_if_on_walk 0 k name fresh policy.walk policy.files
