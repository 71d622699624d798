-- A user of whom nothing has to go is named nowhere.
use Rattle.std.proofs.Common.{◌≡◌, ◌∙◌, ◌↔◌, ℕ, ◌+◌, ◌&&◌, ◌||◌, Bool, true, false, not, List, [], ◌∷◌, ◌++◌, map, reverse, Option, Some, None, Result, Ok, refl, ap, if◌then◌else◌}
use Rattle.std.proofs.lemmas.List.{map-append}
use Rattle.std.proofs.lemmas.List.Folds.{list_any-append}
use Rattle.std.specs.List.{filter, list_any, list_all}
use Rattle.std.specs.Str.{bytes_eq}
use Rattle.sudoers_grammar.specs.declared.node.Atom.{Atom}
use Rattle.sudoers_grammar.specs.declared.node.Atom.TheVariants as atom
use Rattle.sudoers_grammar.specs.declared.node.Kind.TheVariants.{User}
use Rattle.sudoers_grammar.specs.Node.{Def, Member, Node}
use Rattle.sudoers_grammar.specs.Node as node
use Rattle.sudoers_tree.specs.declared.place.WalkLineSpot.{WalkLineSpot}
use Rattle.sudoers_tree.specs.Definition.{is_equal_kind}
use Rattle.sudoers_tree.specs.Line.{Line}
use Rattle.sudoers_tree.specs.Load.{LoadedPolicy}
use Rattle.sudoers_tree.specs.Policy.{alias_limit_of_each_kind}
use Rattle.sudoers_tree.specs.Single.{reading_of_single_line}
use Rattle.sudoers_tree.specs.Walk.{WalkState, spot_of_walk_line}
use Rattle.sudoers_edit_script.specs.declared.edit.Edit.{Edit}
use Rattle.sudoers_edit_script.specs.declared.edit.Edit.TheVariants.{Delete, DropDef, DropMember, Insert}
use Rattle.sudoers_plan.specs.declared.fault.PlanFault.{PlanFault}
use Rattle.sudoers_plan.specs.declared.fault.PlanFault.TheVariants.{Denial, EmptiedScope, Misread}
use Rattle.sudoers_plan.specs.declared.user_members.ListPart.{ListPart}
use Rattle.sudoers_plan.specs.declared.user_members.ListPart.TheVariants.{Any, All}
use Rattle.sudoers_plan.specs.declared.user_misread.UserLineKind.{UserLineKind}
use Rattle.sudoers_plan.specs.declared.user_misread.UserLineKind.TheVariants.{Rule, Scope}
use Rattle.sudoers_plan.specs.Numbers.{numbers_of_passing}
use Rattle.sudoers_plan.specs.User.{aliases_of_user, are_definitions_emptied, edits_of_user_definition, edits_of_user_definitions, edits_of_user_lines, edits_of_user_list, edits_of_user_node, edits_to_lose_user, edits_unless_fault, fault_or_other, first_removal_fault, has_users, is_atom_of_user, is_line_misread, is_list_misread, is_list_of_user, is_member_of_user, is_name_of_user, is_scope_emptied, is_user_alias_defined, is_user_denied_in_line, is_user_denied_in_list, is_user_named_in_line, is_user_named_in_lines, line_without_members, names_with_definitions_of_user, removal_fault_of_line, scope_users_of_node, user_definitions_of_lines, user_definitions_of_node, user_lists_of_node, users_of_scope}
use Rattle.sudoers_names.proofs.Keys.{any_by_key_is_any_of_keys}
use Rattle.sudoers_plan.proofs.Numbers.{no_edit_of_numbers, none_passes}
use Rattle.sudoers_plan.proofs.UserAliases.{rounds_stay}

-- BOOLEANS AND LISTS

either_false : (a b : Bool) → (a || b) ≡ false → (a ≡ false) × (b ≡ false)
either_false true b h = absurd (cc)
either_false false b h = (refl, h)

and_false : (a : Bool) → (a && false) ≡ false
and_false true = refl
and_false false = refl

-- where none passes a test, none passes one that is narrower
narrower : {X : Type 0} (wide narrow : X → Bool) → ((x : X) → wide x ≡ false → narrow x ≡ false) → (xs : List X) → list_any wide xs ≡ false → list_any narrow xs ≡ false
narrower wide narrow less [] h = refl
narrower wide narrow less (x ∷ xs) h =
    let both = either_false (wide x) (list_any wide xs) h in
    ap (λ b. b || list_any narrow xs) (less x both.0) ∙ narrower wide narrow less xs both.1

none_of_all : {X : Type 0} (test : X → Bool) → ((x : X) → test x ≡ false) → (xs : List X) → list_any test xs ≡ false
none_of_all test none [] = refl
none_of_all test none (x ∷ xs) = ap (λ b. b || list_any test xs) (none x) ∙ none_of_all test none xs

no_edits : (a b : List Edit) → a ++ b ≡ [] → (a ≡ []) × (b ≡ [])
no_edits [] b h = (refl, h)
no_edits (e ∷ a) b h = absurd (cc)

-- MEMBERS

-- the scope of a Defaults line without aliases names nobody
no_scope_atom : (lines : List Line) (a : Atom) → is_atom_of_user None lines [] a ≡ false
no_scope_atom lines (atom.Name name) = refl
no_scope_atom lines (atom.Alias name) = refl
no_scope_atom lines atom.All = refl
no_scope_atom lines (atom.Id n) = refl
no_scope_atom lines (atom.Group name) = refl
no_scope_atom lines (atom.GroupId n) = refl
no_scope_atom lines (atom.NonUnix name) = refl
no_scope_atom lines (atom.Netgroup name) = refl
no_scope_atom lines (atom.Host name) = refl
no_scope_atom lines (atom.Address a) = refl
no_scope_atom lines (atom.Network a m) = refl
no_scope_atom lines atom.Listing = refl
no_scope_atom lines (atom.Path path args) = refl
no_scope_atom lines (atom.Sudoedit args) = refl

no_scope_member : (lines : List Line) (m : Member) → is_member_of_user None lines [] m ≡ false
no_scope_member lines m = no_scope_atom lines m.atom

-- what is not the user's with aliases is not without
fewer_atoms : (user : List ℕ) (lines : List Line) (aliases : List (List ℕ)) (a : Atom) → is_atom_of_user (Some user) lines aliases a ≡ false → is_atom_of_user (Some user) lines [] a ≡ false
fewer_atoms user lines aliases (atom.Name name) h = h
fewer_atoms user lines aliases (atom.Alias name) h = (either_false (list_any (bytes_eq name) aliases) (is_name_of_user (Some user) name && not (is_user_alias_defined lines name)) h).1
fewer_atoms user lines aliases atom.All h = refl
fewer_atoms user lines aliases (atom.Id n) h = refl
fewer_atoms user lines aliases (atom.Group name) h = refl
fewer_atoms user lines aliases (atom.GroupId n) h = refl
fewer_atoms user lines aliases (atom.NonUnix name) h = refl
fewer_atoms user lines aliases (atom.Netgroup name) h = refl
fewer_atoms user lines aliases (atom.Host name) h = refl
fewer_atoms user lines aliases (atom.Address a) h = refl
fewer_atoms user lines aliases (atom.Network a m) h = refl
fewer_atoms user lines aliases atom.Listing h = refl
fewer_atoms user lines aliases (atom.Path path args) h = refl
fewer_atoms user lines aliases (atom.Sudoedit args) h = refl

not_named : (user : List ℕ) (lines : List Line) (aliases : List (List ℕ)) (ms : List Member)
    → list_any (is_member_of_user (Some user) lines aliases) ms ≡ false → list_any (is_member_of_user (Some user) lines []) ms ≡ false
not_named user lines aliases = narrower (is_member_of_user (Some user) lines aliases) (is_member_of_user (Some user) lines []) (λ m. fewer_atoms user lines aliases m.atom)

-- A USER WHO IS NOT NAMED HAS NO ALIAS

no_list : (part : ListPart) (user : List ℕ) (lines : List Line) (ms : List Member) → list_any (is_member_of_user (Some user) lines []) ms ≡ false → is_list_of_user part user lines [] ms ≡ false
no_list Any user lines ms h = h
no_list All user lines ms h = ap (λ b. b && list_all (is_member_of_user (Some user) lines []) ms) h

no_definition : (part : ListPart) (user : List ℕ) (lines : List Line) (ds : List Def)
    → list_any (list_any (is_member_of_user (Some user) lines [])) (map (λ (d : Def). d.members) ds) ≡ false → names_with_definitions_of_user part user lines [] ds ≡ []
no_definition part user lines [] h = refl
no_definition part user lines (d ∷ ds) h =
    let both = either_false (list_any (is_member_of_user (Some user) lines []) d.members) (list_any (list_any (is_member_of_user (Some user) lines [])) (map (λ (e : Def). e.members) ds)) h in
    ap (λ b. names_with_definitions_of_user part user lines (if b then d.name ∷ [] else []) ds) (no_list part user lines d.members both.0)
    ∙ no_definition part user lines ds both.1

definitions_of_node_not_named : (user : List ℕ) (lines : List Line) (n : Node)
    → list_any (list_any (is_member_of_user (Some user) lines [])) (user_lists_of_node n) ≡ false
    → list_any (list_any (is_member_of_user (Some user) lines [])) (map (λ (d : Def). d.members) (user_definitions_of_node n)) ≡ false
definitions_of_node_not_named user lines node.Blank h = refl
definitions_of_node_not_named user lines node.Comment h = refl
definitions_of_node_not_named user lines (node.Include dir path) h = refl
definitions_of_node_not_named user lines (node.Defaults scope params) h = refl
definitions_of_node_not_named user lines (node.Spec users groups) h = refl
definitions_of_node_not_named user lines (node.Alias k defs) h = by (is_equal_kind k User) h
  where
    by : (b : Bool) → list_any (list_any (is_member_of_user (Some user) lines [])) (if b then map (λ (d : Def). d.members) defs else []) ≡ false
        → list_any (list_any (is_member_of_user (Some user) lines [])) (map (λ (d : Def). d.members) (if b then defs else [])) ≡ false
    by true e = e
    by false e = refl

definitions_of_lines_not_named : (user : List ℕ) (all lines : List Line) → is_user_named_in_lines user all lines ≡ false
    → list_any (list_any (is_member_of_user (Some user) all [])) (map (λ (d : Def). d.members) (user_definitions_of_lines lines)) ≡ false
definitions_of_lines_not_named user all [] h = refl
definitions_of_lines_not_named user all (line ∷ lines) h =
    let both = either_false (is_user_named_in_line user all line) (is_user_named_in_lines user all lines) h in
    ap (list_any (list_any (is_member_of_user (Some user) all []))) (map-append (λ (d : Def). d.members) (user_definitions_of_node line.node) (user_definitions_of_lines lines))
    ∙ list_any-append (list_any (is_member_of_user (Some user) all [])) (map (λ (d : Def). d.members) (user_definitions_of_node line.node)) (map (λ (d : Def). d.members) (user_definitions_of_lines lines))
    ∙ ap (λ b. b || list_any (list_any (is_member_of_user (Some user) all [])) (map (λ (d : Def). d.members) (user_definitions_of_lines lines))) (definitions_of_node_not_named user all line.node both.0)
    ∙ definitions_of_lines_not_named user all lines both.1

no_aliases : (part : ListPart) (user : List ℕ) (lines : List Line) → is_user_named_in_lines user lines lines ≡ false → aliases_of_user part user lines ≡ []
unfolding aliases_of_user
no_aliases part user lines h =
    rounds_stay alias_limit_of_each_kind part user lines (user_definitions_of_lines lines) []
    (no_definition part user lines (user_definitions_of_lines lines) (definitions_of_lines_not_named user lines lines h))

-- NOTHING STANDS IN HIS WAY

no_denial_in_list : (user : List ℕ) (lines : List Line) (ms : List Member)
    → list_any (is_member_of_user (Some user) lines []) ms ≡ false → is_user_denied_in_list (Some user) lines [] ms ≡ false
no_denial_in_list user lines =
    narrower (is_member_of_user (Some user) lines []) (λ (m : Member). m.negated && is_member_of_user (Some user) lines [] m)
    (λ m h. ap (λ b. m.negated && b) h ∙ and_false m.negated)

no_denial_in_scope : (lines : List Line) (ms : List Member) → is_user_denied_in_list None lines [] ms ≡ false
no_denial_in_scope lines =
    none_of_all (λ (m : Member). m.negated && is_member_of_user None lines [] m) (λ m. ap (λ b. m.negated && b) (no_scope_member lines m) ∙ and_false m.negated)

no_denial_in_definitions : (user : List ℕ) (lines : List Line) (ds : List Def)
    → list_any (list_any (is_member_of_user (Some user) lines [])) (map (λ (d : Def). d.members) ds) ≡ false
    → list_any (λ (d : Def). is_user_denied_in_list (Some user) lines [] d.members) ds ≡ false
no_denial_in_definitions user lines ds h =
    any_by_key_is_any_of_keys (λ (d : Def). d.members) (is_user_denied_in_list (Some user) lines []) ds
    ∙ narrower (list_any (is_member_of_user (Some user) lines [])) (is_user_denied_in_list (Some user) lines []) (no_denial_in_list user lines) (map (λ (d : Def). d.members) ds) h

no_denial_in_definitions_if : (b : Bool) (user : List ℕ) (lines : List Line) (ds : List Def)
    → list_any (list_any (is_member_of_user (Some user) lines [])) (if b then map (λ (d : Def). d.members) ds else []) ≡ false
    → (if b then list_any (λ (d : Def). is_user_denied_in_list (Some user) lines [] d.members) ds else false) ≡ false
no_denial_in_definitions_if true user lines ds h = no_denial_in_definitions user lines ds h
no_denial_in_definitions_if false user lines ds h = refl

no_denial : (user : List ℕ) (lines : List Line) (n : Node)
    → list_any (list_any (is_member_of_user (Some user) lines [])) (user_lists_of_node n) ≡ false → is_user_denied_in_line user lines [] n ≡ false
no_denial user lines node.Blank h = refl
no_denial user lines node.Comment h = refl
no_denial user lines (node.Include dir path) h = refl
no_denial user lines (node.Defaults scope params) h = no_denial_in_scope lines (users_of_scope scope)
no_denial user lines (node.Alias k defs) h = no_denial_in_definitions_if (is_equal_kind k User) user lines defs h
no_denial user lines (node.Spec users groups) h = no_denial_in_list user lines users (either_false (list_any (is_member_of_user (Some user) lines []) users) false h).0

no_scope_emptied : (lines : List Line) (ms : List Member) → is_scope_emptied lines [] ms ≡ false
no_scope_emptied lines ms = ap (λ b. b && list_all (is_member_of_user None lines []) ms) (none_of_all (is_member_of_user None lines []) (no_scope_member lines) ms)

no_misread_list : (kind : UserLineKind) (goes : Member → Bool) (text : List ℕ) (ms : List Member) → list_any goes ms ≡ false → is_list_misread kind goes text ms ≡ false
no_misread_list kind goes text ms h =
    ap (λ b. b && not (list_all goes ms) && not (has_users kind (filter (λ m. not (goes m)) ms) (reading_of_single_line (line_without_members goes text ms)))) h

no_misread : (user : List ℕ) (lines : List Line) (text : List ℕ) (n : Node)
    → list_any (list_any (is_member_of_user (Some user) lines [])) (user_lists_of_node n) ≡ false → is_line_misread user lines [] text n ≡ false
no_misread user lines text node.Blank h = refl
no_misread user lines text node.Comment h = refl
no_misread user lines text (node.Include dir path) h = refl
no_misread user lines text (node.Alias k defs) h = refl
no_misread user lines text (node.Defaults scope params) h =
    no_misread_list Scope (is_member_of_user None lines []) text (users_of_scope scope) (none_of_all (is_member_of_user None lines []) (no_scope_member lines) (users_of_scope scope))
no_misread user lines text (node.Spec users groups) h =
    no_misread_list Rule (is_member_of_user (Some user) lines []) text users (either_false (list_any (is_member_of_user (Some user) lines []) users) false h).0

no_line_fault : (even : Bool) (user : List ℕ) (lines : List Line) (at : WalkLineSpot) (line : Line)
    → is_user_named_in_line user lines line ≡ false → removal_fault_of_line even user lines [] [] at line ≡ None
no_line_fault even user lines at line h =
    ap (λ b. if not even && b then Some (Denial at) else (if is_scope_emptied lines [] (scope_users_of_node line.node) then Some (EmptiedScope at)
    else (if is_line_misread user lines [] line.text line.node then Some (Misread at) else None))) (no_denial user lines line.node h)
    ∙ ap (λ b. if b then Some (Denial at) else (if is_scope_emptied lines [] (scope_users_of_node line.node) then Some (EmptiedScope at)
    else (if is_line_misread user lines [] line.text line.node then Some (Misread at) else None))) (and_false (not even))
    ∙ ap (λ b. if b then Some (EmptiedScope at) else (if is_line_misread user lines [] line.text line.node then Some (Misread at) else None))
    (no_scope_emptied lines (scope_users_of_node line.node))
    ∙ ap (λ b. if b then Some (Misread at) else None) (no_misread user lines line.text line.node h)

no_fault : (even : Bool) (user : List ℕ) (w : WalkState) (n : ℕ) (lines : List Line) → is_user_named_in_lines user w.lines lines ≡ false → first_removal_fault even user w [] [] n lines ≡ None
no_fault even user w n [] h = refl
no_fault even user w n (line ∷ lines) h =
    let both = either_false (is_user_named_in_line user w.lines line) (is_user_named_in_lines user w.lines lines) h in
    ap (λ o. fault_or_other o (first_removal_fault even user w [] [] (n + 1) lines)) (no_line_fault even user w.lines (spot_of_walk_line w n) line both.0)
    ∙ no_fault even user w (n + 1) lines both.1

-- NOTHING GOES EXACTLY WHERE HE IS NOT NAMED

list_loses_nothing : (goes : Member → Bool) (at : WalkLineSpot) (text : List ℕ) (ms : List Member) → (edits_of_user_list goes at text ms ≡ []) ↔ (list_any goes ms ≡ false)
list_loses_nothing goes at text ms = by (list_any goes ms)
  where
    by : (b : Bool) → ((if not b then [] else Delete at.file at.line ∷ (if list_all goes ms then [] else Insert at.file at.line (line_without_members goes text ms) ∷ [])) ≡ []) ↔ (b ≡ false)
    by true = ((λ h. absurd (cc)), (λ h. absurd (cc)))
    by false = ((λ h. refl), (λ h. refl))

definition_loses_nothing : (user : List ℕ) (lines : List Line) (emptied : List (List ℕ)) (at : WalkLineSpot) (n : ℕ) (d : Def)
    → edits_of_user_definition user lines emptied at n d ≡ [] → list_any (is_member_of_user (Some user) lines emptied) d.members ≡ false
definition_loses_nothing user lines emptied at n d h = by (list_any (bytes_eq d.name) emptied) h
  where
    by : (b : Bool) → (if b then DropDef at.file at.line n ∷ [] else map (λ m. DropMember User d.name m) (reverse (numbers_of_passing (is_member_of_user (Some user) lines emptied) 0 d.members))) ≡ []
        → list_any (is_member_of_user (Some user) lines emptied) d.members ≡ false
    by true e = absurd (cc)
    by false e = (none_passes (is_member_of_user (Some user) lines emptied) 0 d.members).0 ((no_edit_of_numbers (λ m. DropMember User d.name m) _).0 e)

definitions_lose_nothing : (user : List ℕ) (lines : List Line) (emptied : List (List ℕ)) (at : WalkLineSpot) (n : ℕ) (ds : List Def)
    → edits_of_user_definitions user lines emptied at n ds ≡ [] → list_any (list_any (is_member_of_user (Some user) lines [])) (map (λ (d : Def). d.members) ds) ≡ false
definitions_lose_nothing user lines emptied at n [] h = refl
definitions_lose_nothing user lines emptied at n (d ∷ ds) h =
    let both = no_edits (edits_of_user_definitions user lines emptied at (n + 1) ds) (edits_of_user_definition user lines emptied at n d) h in
    ap (λ b. b || list_any (list_any (is_member_of_user (Some user) lines [])) (map (λ (e : Def). e.members) ds)) (not_named user lines emptied d.members (definition_loses_nothing user lines emptied at n d both.1))
    ∙ definitions_lose_nothing user lines emptied at (n + 1) ds both.0

alias_line_loses_nothing : (user_kind emptied_all : Bool) (user : List ℕ) (lines : List Line) (emptied : List (List ℕ)) (at : WalkLineSpot) (ds : List Def)
    → (if user_kind then (if emptied_all then Delete at.file at.line ∷ [] else edits_of_user_definitions user lines emptied at 0 ds) else []) ≡ []
    → list_any (list_any (is_member_of_user (Some user) lines [])) (if user_kind then map (λ (d : Def). d.members) ds else []) ≡ false
alias_line_loses_nothing true true user lines emptied at ds h = absurd (cc)
alias_line_loses_nothing true false user lines emptied at ds h = definitions_lose_nothing user lines emptied at 0 ds h
alias_line_loses_nothing false b user lines emptied at ds h = refl

or_nothing : (b : Bool) → b ≡ false → (b || false) ≡ false
or_nothing true h = absurd (cc)
or_nothing false h = refl

line_loses_nothing : (user : List ℕ) (lines : List Line) (emptied : List (List ℕ)) (at : WalkLineSpot) (text : List ℕ) (n : Node)
    → edits_of_user_node user lines emptied at text n ≡ [] → list_any (list_any (is_member_of_user (Some user) lines [])) (user_lists_of_node n) ≡ false
line_loses_nothing user lines emptied at text node.Blank h = refl
line_loses_nothing user lines emptied at text node.Comment h = refl
line_loses_nothing user lines emptied at text (node.Include dir path) h = refl
line_loses_nothing user lines emptied at text (node.Defaults scope params) h = refl
line_loses_nothing user lines emptied at text (node.Alias k defs) h = alias_line_loses_nothing (is_equal_kind k User) (are_definitions_emptied emptied defs) user lines emptied at defs h
line_loses_nothing user lines emptied at text (node.Spec users groups) h =
    or_nothing _ (not_named user lines emptied users ((list_loses_nothing (is_member_of_user (Some user) lines emptied) at text users).0 h))

lines_lose_nothing : (user : List ℕ) (w : WalkState) (emptied : List (List ℕ)) (n : ℕ) (lines : List Line)
    → edits_of_user_lines user w emptied n lines ≡ [] → is_user_named_in_lines user w.lines lines ≡ false
lines_lose_nothing user w emptied n [] h = refl
lines_lose_nothing user w emptied n (line ∷ lines) h =
    let both = no_edits (edits_of_user_lines user w emptied (n + 1) lines) (edits_of_user_node user w.lines emptied (spot_of_walk_line w n) line.text line.node) h in
    ap (λ b. b || is_user_named_in_lines user w.lines lines) (line_loses_nothing user w.lines emptied (spot_of_walk_line w n) line.text line.node both.1)
    ∙ lines_lose_nothing user w emptied (n + 1) lines both.0

-- without aliases that go, a line that does not name him stays as it is
definitions_stay : (user : List ℕ) (lines : List Line) (at : WalkLineSpot) (n : ℕ) (ds : List Def)
    → list_any (list_any (is_member_of_user (Some user) lines [])) (map (λ (d : Def). d.members) ds) ≡ false → edits_of_user_definitions user lines [] at n ds ≡ []
definitions_stay user lines at n [] h = refl
definitions_stay user lines at n (d ∷ ds) h =
    let both = either_false (list_any (is_member_of_user (Some user) lines []) d.members) (list_any (list_any (is_member_of_user (Some user) lines [])) (map (λ (e : Def). e.members) ds)) h in
    ap (λ edits. edits ++ edits_of_user_definition user lines [] at n d) (definitions_stay user lines at (n + 1) ds both.1)
    ∙ (no_edit_of_numbers (λ m. DropMember User d.name m) _).1 ((none_passes (is_member_of_user (Some user) lines []) 0 d.members).1 both.0)

none_emptied : (ds : List Def) → are_definitions_emptied [] ds ≡ false
none_emptied [] = refl
none_emptied (d ∷ ds) = refl

alias_line_stays : (user_kind emptied_all : Bool) (user : List ℕ) (lines : List Line) (at : WalkLineSpot) (ds : List Def) → emptied_all ≡ false
    → list_any (list_any (is_member_of_user (Some user) lines [])) (if user_kind then map (λ (d : Def). d.members) ds else []) ≡ false
    → (if user_kind then (if emptied_all then Delete at.file at.line ∷ [] else edits_of_user_definitions user lines [] at 0 ds) else []) ≡ []
alias_line_stays true true user lines at ds e h = absurd (cc)
alias_line_stays true false user lines at ds e h = definitions_stay user lines at 0 ds h
alias_line_stays false b user lines at ds e h = refl

line_stays : (user : List ℕ) (lines : List Line) (at : WalkLineSpot) (text : List ℕ) (n : Node)
    → list_any (list_any (is_member_of_user (Some user) lines [])) (user_lists_of_node n) ≡ false → edits_of_user_node user lines [] at text n ≡ []
line_stays user lines at text node.Blank h = refl
line_stays user lines at text node.Comment h = refl
line_stays user lines at text (node.Include dir path) h = refl
line_stays user lines at text (node.Defaults scope params) h =
    (list_loses_nothing (is_member_of_user None lines []) at text (users_of_scope scope)).1 (none_of_all (is_member_of_user None lines []) (no_scope_member lines) (users_of_scope scope))
line_stays user lines at text (node.Alias k defs) h = alias_line_stays (is_equal_kind k User) (are_definitions_emptied [] defs) user lines at defs (none_emptied defs) h
line_stays user lines at text (node.Spec users groups) h =
    (list_loses_nothing (is_member_of_user (Some user) lines []) at text users).1 (either_false (list_any (is_member_of_user (Some user) lines []) users) false h).0

lines_stay : (user : List ℕ) (w : WalkState) (n : ℕ) (lines : List Line) → is_user_named_in_lines user w.lines lines ≡ false → edits_of_user_lines user w [] n lines ≡ []
lines_stay user w n [] h = refl
lines_stay user w n (line ∷ lines) h =
    let both = either_false (is_user_named_in_line user w.lines line) (is_user_named_in_lines user w.lines lines) h in
    ap (λ edits. edits ++ edits_of_user_node user w.lines [] (spot_of_walk_line w n) line.text line.node) (lines_stay user w (n + 1) lines both.1)
    ∙ line_stays user w.lines (spot_of_walk_line w n) line.text line.node both.0

-- THE WISH

ok_of : (edits : List Edit) (o : Option PlanFault) → edits_unless_fault edits o ≡ Ok [] → edits ≡ []
ok_of edits None h = cc
ok_of edits (Some fault) h = absurd (cc)

edits_with : List ℕ → Bool → LoadedPolicy → List (List ℕ) → List (List ℕ) → Result (List Edit) PlanFault
edits_with user even policy his emptied =
    edits_unless_fault (edits_of_user_lines user policy.walk emptied 0 policy.walk.lines) (first_removal_fault even user policy.walk his emptied 0 policy.walk.lines)

-- nothing goes exactly where the user is not named
pub nothing_wanted_of_user_if_not_named : (user : List ℕ) (even : Bool) (policy : LoadedPolicy)
    → (edits_to_lose_user user even policy ≡ Ok []) ↔ (is_user_named_in_lines user policy.walk.lines policy.walk.lines ≡ false)
unfolding edits_to_lose_user edits_with
nothing_wanted_of_user_if_not_named user even policy = (
  (λ h. lines_lose_nothing user policy.walk (aliases_of_user All user policy.walk.lines) 0 policy.walk.lines (ok_of _ _ h)),
  (λ h.
      ap (λ his. edits_with user even policy his (aliases_of_user All user policy.walk.lines)) (no_aliases Any user policy.walk.lines h)
      ∙ ap (edits_with user even policy []) (no_aliases All user policy.walk.lines h)
      ∙ ap (edits_unless_fault (edits_of_user_lines user policy.walk [] 0 policy.walk.lines)) (no_fault even user policy.walk 0 policy.walk.lines h)
      ∙ ap Ok (lines_stay user policy.walk 0 policy.walk.lines h)),
)
