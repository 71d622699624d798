-- Where a user stands by name in a policy, and what goes when he goes.
use Rattle.std.specs.Prelude.{ℕ, zero, suc, ◌+◌, ◌&&◌, ◌||◌, not, Bool, true, false, List, [], ◌∷◌, ◌++◌, take, drop, map, reverse, Option, Some, None, is_some, Result, Ok, Err, if◌then◌else◌}
use Rattle.std.specs.List.{filter, list_any, list_all}
use Rattle.std.specs.Str.{bytes_eq}
use Rattle.sudoers_grammar.specs.declared.node.Atom.{Atom}
use Rattle.sudoers_grammar.specs.declared.node.Atom.TheVariants as atom
use Rattle.sudoers_grammar.specs.declared.node.Kind.TheVariants.{User}
use Rattle.sudoers_grammar.specs.Node.{Def, Member, Node}
use Rattle.sudoers_grammar.specs.Node as node
use Rattle.sudoers_line_rows.specs.Alike.{are_lists_alike, is_same_member}
use Rattle.sudoers_match_member.specs.Hits.{is_name_equal_ignoring_case}
use Rattle.sudoers_tree.specs.declared.place.WalkLineSpot.{WalkLineSpot}
use Rattle.sudoers_tree.specs.Definition.{definition_place_of_name, is_equal_kind}
use Rattle.sudoers_tree.specs.Line.{Line}
use Rattle.sudoers_tree.specs.Load.{LoadedPolicy}
use Rattle.sudoers_tree.specs.Policy.{alias_limit_of_each_kind}
use Rattle.sudoers_tree.specs.Single.{reading_of_single_line}
use Rattle.sudoers_tree.specs.Walk.{WalkState, spot_of_walk_line}
use Rattle.sudoers_edit_script.specs.declared.edit.Edit.{Edit}
use Rattle.sudoers_edit_script.specs.declared.edit.Edit.TheVariants.{Delete, DropDef, DropMember, Insert}
use Rattle.sudoers_edit.specs.Splice.{bytes_between}
use Rattle.sudoers_plan.specs.declared.fault.PlanFault.{PlanFault}
use Rattle.sudoers_plan.specs.declared.fault.PlanFault.TheVariants.{Denial, EmptiedScope, Misread}
use Rattle.sudoers_plan.specs.declared.user_members.ListPart.{ListPart}
use Rattle.sudoers_plan.specs.declared.user_members.ListPart.TheVariants.{Any, All}
use Rattle.sudoers_plan.specs.declared.user_misread.UserLineKind.{UserLineKind}
use Rattle.sudoers_plan.specs.declared.user_misread.UserLineKind.TheVariants.{Rule, Scope}
use Rattle.sudoers_plan.specs.Numbers.{numbers_of_passing}

-- WHICH MEMBERS ARE HIS

-- the name is the user's, if a user is given; letter case is ignored
abbrev pub is_name_of_user : Option (List ℕ) → List ℕ → Bool
is_name_of_user None name = false
is_name_of_user (Some user) name = is_name_equal_ignoring_case name user

abbrev pub is_user_alias_defined : List Line → List ℕ → Bool
is_user_alias_defined lines name = is_some (definition_place_of_name User name lines)

-- The member is the user's name, or one of these aliases. The name of an alias that is not defined is the name of a user.
abbrev pub is_atom_of_user : Option (List ℕ) → List Line → List (List ℕ) → Atom → Bool
is_atom_of_user user lines aliases (atom.Name name) = is_name_of_user user name
is_atom_of_user user lines aliases (atom.Alias name) = list_any (bytes_eq name) aliases || (is_name_of_user user name && not (is_user_alias_defined lines name))
is_atom_of_user user lines aliases a = false

abbrev pub is_member_of_user : Option (List ℕ) → List Line → List (List ℕ) → Member → Bool
is_member_of_user user lines aliases m = is_atom_of_user user lines aliases m.atom

-- the lists of users in which rules and aliases are said: of a rule its users, of a line of definitions the members of each
abbrev pub user_lists_of_node : Node → List (List Member)
user_lists_of_node (node.Alias k defs) = if is_equal_kind k User then map (λ (d : Def). d.members) defs else []
user_lists_of_node (node.Spec users groups) = users ∷ []
user_lists_of_node node.Blank = []
user_lists_of_node node.Comment = []
user_lists_of_node (node.Include dir path) = []
user_lists_of_node (node.Defaults scope params) = []

-- the users for whom a Defaults line is
abbrev pub users_of_scope : Option node.Scope → List Member
users_of_scope None = []
users_of_scope (Some scope) = if is_equal_kind scope.kind User then scope.members else []

abbrev pub scope_users_of_node : Node → List Member
scope_users_of_node (node.Defaults scope params) = users_of_scope scope
scope_users_of_node node.Blank = []
scope_users_of_node node.Comment = []
scope_users_of_node (node.Include dir path) = []
scope_users_of_node (node.Alias k defs) = []
scope_users_of_node (node.Spec users groups) = []

-- the line has the user's name as a member, with or without `!`
abbrev pub is_user_named_in_line : List ℕ → List Line → Line → Bool
is_user_named_in_line user lines line = list_any (list_any (is_member_of_user (Some user) lines [])) (user_lists_of_node line.node)

-- one of the lines has
abbrev pub is_user_named_in_lines : List ℕ → List Line → List Line → Bool
is_user_named_in_lines user all lines = list_any (is_user_named_in_line user all) lines

-- WHICH ALIASES ARE HIS

-- Of the list any member is the user's, or there is one and all are.
abbrev pub is_list_of_user : ListPart → List ℕ → List Line → List (List ℕ) → List Member → Bool
is_list_of_user Any user lines aliases ms = list_any (is_member_of_user (Some user) lines aliases) ms
is_list_of_user All user lines aliases ms = list_any (is_member_of_user (Some user) lines aliases) ms && list_all (is_member_of_user (Some user) lines aliases) ms

-- the names, and those of the definitions whose lists are the user's, each asked with the names before it
abbrev pub names_with_definitions_of_user : ListPart → List ℕ → List Line → List (List ℕ) → List Def → List (List ℕ)
names_with_definitions_of_user part user lines names [] = names
names_with_definitions_of_user part user lines names (d ∷ ds) =
    names_with_definitions_of_user part user lines
    (if list_any (bytes_eq d.name) names then names else (if is_list_of_user part user lines names d.members then names ++ d.name ∷ [] else names)) ds

-- the definitions of user aliases in a line, and in lines
abbrev pub user_definitions_of_node : Node → List Def
user_definitions_of_node (node.Alias k defs) = if is_equal_kind k User then defs else []
user_definitions_of_node node.Blank = []
user_definitions_of_node node.Comment = []
user_definitions_of_node (node.Include dir path) = []
user_definitions_of_node (node.Defaults scope params) = []
user_definitions_of_node (node.Spec users groups) = []

abbrev pub user_definitions_of_lines : List Line → List Def
user_definitions_of_lines [] = []
user_definitions_of_lines (line ∷ lines) = user_definitions_of_node line.node ++ user_definitions_of_lines lines

-- the names after so many rounds over the definitions
abbrev pub names_after_rounds : ℕ → ListPart → List ℕ → List Line → List Def → List (List ℕ) → List (List ℕ)
names_after_rounds zero part user lines defs names = names
names_after_rounds (suc n) part user lines defs names = names_after_rounds n part user lines defs (names_with_definitions_of_user part user lines names defs)

-- The user aliases in which the user stands, by name or by such an alias: in any member, or in all. There are at most as many user aliases
-- as rounds, so no round more finds another.
unfoldable pub aliases_of_user : ListPart → List ℕ → List Line → List (List ℕ)
aliases_of_user part user lines = names_after_rounds alias_limit_of_each_kind part user lines (user_definitions_of_lines lines) []

-- WHERE HE CANNOT GO

-- a member of the list is negated, and is the user or one of these aliases
abbrev pub is_user_denied_in_list : Option (List ℕ) → List Line → List (List ℕ) → List Member → Bool
is_user_denied_in_list user lines aliases ms = list_any (λ (m : Member). m.negated && is_member_of_user user lines aliases m) ms

-- The line denies something to the user, or to an alias in which he stands. In the scope of a Defaults line aliases alone count, since
-- the user's own name stays there.
abbrev pub is_user_denied_in_line : List ℕ → List Line → List (List ℕ) → Node → Bool
is_user_denied_in_line user lines aliases (node.Alias k defs) =
    if is_equal_kind k User then list_any (λ (d : Def). is_user_denied_in_list (Some user) lines aliases d.members) defs else false
is_user_denied_in_line user lines aliases (node.Spec users groups) = is_user_denied_in_list (Some user) lines aliases users
is_user_denied_in_line user lines aliases (node.Defaults scope params) = is_user_denied_in_list None lines aliases (users_of_scope scope)
is_user_denied_in_line user lines aliases node.Blank = false
is_user_denied_in_line user lines aliases node.Comment = false
is_user_denied_in_line user lines aliases (node.Include dir path) = false

-- there is a member, and all are aliases that go
abbrev pub is_scope_emptied : List Line → List (List ℕ) → List Member → Bool
is_scope_emptied lines emptied ms = list_any (is_member_of_user None lines emptied) ms && list_all (is_member_of_user None lines emptied) ms

-- A LINE WITHOUT HIM

abbrev pub start_of_first_member : List Member → ℕ
start_of_first_member [] = 0
start_of_first_member (m ∷ ms) = m.start

-- The bytes of the line from the place `from`, without the members that go. A member that stays has the bytes from the end of the member
-- before it; the first that stays, its own alone.
abbrev pub bytes_without_members : (Member → Bool) → List ℕ → Bool → ℕ → List Member → List ℕ
bytes_without_members goes line has_stayed from [] = drop from line
bytes_without_members goes line has_stayed from (m ∷ ms) =
    if goes m then bytes_without_members goes line has_stayed m.stop ms
    else bytes_between (if has_stayed then from else m.start) m.stop line ++ bytes_without_members goes line true m.stop ms

abbrev pub line_without_members : (Member → Bool) → List ℕ → List Member → List ℕ
line_without_members goes line ms = take (start_of_first_member ms) line ++ bytes_without_members goes line false (start_of_first_member ms) ms

-- the line is of this kind, and its users say what these say
abbrev pub has_users : UserLineKind → List Member → Option Node → Bool
has_users Rule ms (Some (node.Spec users groups)) = are_lists_alike is_same_member ms users
has_users Scope ms (Some (node.Defaults scope params)) = are_lists_alike is_same_member ms (users_of_scope scope)
has_users kind ms reading = false

-- Some of the users of the line go, and what is left of it does not read as a line of this kind with the others.
abbrev pub is_list_misread : UserLineKind → (Member → Bool) → List ℕ → List Member → Bool
is_list_misread kind goes line ms =
    list_any goes ms && not (list_all goes ms) && not (has_users kind (filter (λ m. not (goes m)) ms) (reading_of_single_line (line_without_members goes line ms)))

abbrev pub is_line_misread : List ℕ → List Line → List (List ℕ) → List ℕ → Node → Bool
is_line_misread user lines emptied text (node.Spec users groups) = is_list_misread Rule (is_member_of_user (Some user) lines emptied) text users
is_line_misread user lines emptied text (node.Defaults scope params) = is_list_misread Scope (is_member_of_user None lines emptied) text (users_of_scope scope)
is_line_misread user lines emptied text (node.Alias k defs) = false
is_line_misread user lines emptied text node.Blank = false
is_line_misread user lines emptied text node.Comment = false
is_line_misread user lines emptied text (node.Include dir path) = false

-- why the user cannot go from a line
abbrev pub removal_fault_of_line : Bool → List ℕ → List Line → List (List ℕ) → List (List ℕ) → WalkLineSpot → Line → Option PlanFault
removal_fault_of_line even_denials user lines his emptied at line =
    if not even_denials && is_user_denied_in_line user lines his line.node then Some (Denial at)
    else (if is_scope_emptied lines emptied (scope_users_of_node line.node) then Some (EmptiedScope at)
    else (if is_line_misread user lines emptied line.text line.node then Some (Misread at) else None))

abbrev pub fault_or_other : Option PlanFault → Option PlanFault → Option PlanFault
fault_or_other (Some fault) other = Some fault
fault_or_other None other = other

-- the fault of the first of these lines that has one; they are numbered from n on
abbrev pub first_removal_fault : Bool → List ℕ → WalkState → List (List ℕ) → List (List ℕ) → ℕ → List Line → Option PlanFault
first_removal_fault even_denials user w his emptied n [] = None
first_removal_fault even_denials user w his emptied n (line ∷ lines) =
    fault_or_other (removal_fault_of_line even_denials user w.lines his emptied (spot_of_walk_line w n) line) (first_removal_fault even_denials user w his emptied (n + 1) lines)

-- WHAT GOES

-- A line that has a list of users loses the members that go, and goes itself where all do.
abbrev pub edits_of_user_list : (Member → Bool) → WalkLineSpot → List ℕ → List Member → List Edit
edits_of_user_list goes at line ms =
    if not (list_any goes ms) then []
    else Delete at.file at.line ∷ (if list_all goes ms then [] else Insert at.file at.line (line_without_members goes line ms) ∷ [])

-- A definition goes, if it is emptied, and else its members that do, the last first.
abbrev pub edits_of_user_definition : List ℕ → List Line → List (List ℕ) → WalkLineSpot → ℕ → Def → List Edit
edits_of_user_definition user lines emptied at n d =
    if list_any (bytes_eq d.name) emptied then DropDef at.file at.line n ∷ []
    else map (λ m. DropMember User d.name m) (reverse (numbers_of_passing (is_member_of_user (Some user) lines emptied) 0 d.members))

-- those of definitions, numbered from n on, the last first
abbrev pub edits_of_user_definitions : List ℕ → List Line → List (List ℕ) → WalkLineSpot → ℕ → List Def → List Edit
edits_of_user_definitions user lines emptied at n [] = []
edits_of_user_definitions user lines emptied at n (d ∷ ds) =
    edits_of_user_definitions user lines emptied at (n + 1) ds ++ edits_of_user_definition user lines emptied at n d

-- there is a definition, and all are of aliases that go
abbrev pub are_definitions_emptied : List (List ℕ) → List Def → Bool
are_definitions_emptied emptied [] = false
are_definitions_emptied emptied (d ∷ ds) = list_any (bytes_eq d.name) emptied && list_all (λ (e : Def). list_any (bytes_eq e.name) emptied) ds

-- those of a line with this text that says this
abbrev pub edits_of_user_node : List ℕ → List Line → List (List ℕ) → WalkLineSpot → List ℕ → Node → List Edit
edits_of_user_node user lines emptied at text (node.Alias k defs) =
    if is_equal_kind k User
    then (if are_definitions_emptied emptied defs then Delete at.file at.line ∷ [] else edits_of_user_definitions user lines emptied at 0 defs)
    else []
edits_of_user_node user lines emptied at text (node.Spec users groups) = edits_of_user_list (is_member_of_user (Some user) lines emptied) at text users
edits_of_user_node user lines emptied at text (node.Defaults scope params) = edits_of_user_list (is_member_of_user None lines emptied) at text (users_of_scope scope)
edits_of_user_node user lines emptied at text node.Blank = []
edits_of_user_node user lines emptied at text node.Comment = []
edits_of_user_node user lines emptied at text (node.Include dir path) = []

-- those of lines of the walk, numbered from n on, the last first
abbrev pub edits_of_user_lines : List ℕ → WalkState → List (List ℕ) → ℕ → List Line → List Edit
edits_of_user_lines user w emptied n [] = []
edits_of_user_lines user w emptied n (line ∷ lines) =
    edits_of_user_lines user w emptied (n + 1) lines ++ edits_of_user_node user w.lines emptied (spot_of_walk_line w n) line.text line.node

abbrev pub edits_unless_fault : List Edit → Option PlanFault → Result (List Edit) PlanFault
edits_unless_fault edits None = Ok edits
edits_unless_fault edits (Some fault) = Err fault

-- The user goes from each rule and each alias. An alias that he leaves without a member goes with him, and is mentioned nowhere.
unfoldable pub edits_to_lose_user : List ℕ → Bool → LoadedPolicy → Result (List Edit) PlanFault
edits_to_lose_user user even_denials policy =
    edits_unless_fault (edits_of_user_lines user policy.walk (aliases_of_user All user policy.walk.lines) 0 policy.walk.lines)
    (first_removal_fault even_denials user policy.walk (aliases_of_user Any user policy.walk.lines) (aliases_of_user All user policy.walk.lines) 0 policy.walk.lines)
