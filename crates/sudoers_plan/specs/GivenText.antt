-- Members and lines that are given as text.
use Rattle.std.specs.Prelude.{ℕ, ◌+◌, ◌==◌, ◌&&◌, ◌||◌, Bool, true, false, List, [], ◌∷◌, ◌++◌, length, codes, Option, Some, None, if◌then◌else◌}
use Rattle.std.specs.List.{list_any, list_all}
use Rattle.std.specs.Str.{bytes_eq}
use Rattle.sudoers_grammar.specs.declared.node.Kind.{Kind}
use Rattle.sudoers_grammar.specs.Kind.{alias_line_keyword}
use Rattle.sudoers_grammar.specs.Node.{Def, Member, Node}
use Rattle.sudoers_grammar.specs.Node as node
use Rattle.sudoers_text.specs.Whole.{is_logical_line}
use Rattle.sudoers_tree.specs.Single.{reading_of_single_line}
use Rattle.sudoers_line_rows.specs.Alike.{is_same_member}

-- MEMBERS

-- what stands before a list that is alone in its line
abbrev pub head_of_lone_list : Kind → List ℕ
head_of_lone_list k = alias_line_keyword k ++ codes " A = "

-- the line whose one definition has the text for its list
abbrev pub line_of_lone_list : Kind → List ℕ → List ℕ
line_of_lone_list k text = head_of_lone_list k ++ text ++ 10 ∷ []

-- the only one of the members, if it stands from one byte to another
abbrev pub only_member_between : ℕ → ℕ → List Member → Option Member
only_member_between from to [] = None
only_member_between from to (m ∷ []) = if (m.start == from) && (m.stop == to) then Some m else None
only_member_between from to (m ∷ n ∷ ms) = None

-- the only member of the only definition, if it stands there
abbrev pub only_member_of_definitions : ℕ → ℕ → List Def → Option Member
only_member_of_definitions from to [] = None
only_member_of_definitions from to (d ∷ []) = only_member_between from to d.members
only_member_of_definitions from to (d ∷ e ∷ ds) = None

abbrev pub only_member_of_line : ℕ → ℕ → Option Node → Option Member
only_member_of_line from to (Some (node.Alias k defs)) = only_member_of_definitions from to defs
only_member_of_line from to says = None

-- the member of lists of a kind that the text is, with nothing before it and nothing behind it; none if it is not exactly one
unfoldable pub member_of_text : Kind → List ℕ → Option Member
member_of_text k text =
    only_member_of_line (length (head_of_lone_list k)) (length (head_of_lone_list k) + length text) (reading_of_single_line (line_of_lone_list k text))

-- one of the members says the same: it has the same sign and the same digests, and is the same
abbrev pub is_member_listed : Member → List Member → Bool
is_member_listed m members = list_any (is_same_member m) members

-- A word of `%` alone, behind its signs, is put in quotes: it says the same, and no number behind it can become part of it.
abbrev pub text_with_percents_quoted : List ℕ → List ℕ
text_with_percents_quoted [] = []
text_with_percents_quoted (b ∷ text) =
    if b == 33 then b ∷ text_with_percents_quoted text
    else (if list_all (λ c. c == 37) (b ∷ text) then 34 ∷ (b ∷ text) ++ 34 ∷ [] else b ∷ text)

-- LINES

-- the text, with LF behind it, is one logical line
abbrev pub is_text_of_one_line : List ℕ → Bool
is_text_of_one_line text = is_logical_line (text ++ 10 ∷ [])

-- the line is the text, but for its line end
abbrev pub is_line_of_text : List ℕ → List ℕ → Bool
is_line_of_text text line = bytes_eq line text || bytes_eq line (text ++ 10 ∷ []) || bytes_eq line (text ++ 13 ∷ 10 ∷ [])

abbrev pub is_include_node : Option Node → Bool
is_include_node (Some (node.Include dir path)) = true
is_include_node says = false

-- the text is that of an include line
unfoldable pub is_text_of_include_line : List ℕ → Bool
is_text_of_include_line text = is_include_node (reading_of_single_line (text ++ 10 ∷ []))
