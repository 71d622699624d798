-- Each alias of a policy has a member.
use Rattle.sudoers_cvt_rewrite.proofs.Common.{AllByRecursion, All_at, Cmnd, Def, Host, Kind, Line, List, Member, None, Option, PlacedDefinition, Runas, Some, User, [], ap, arith, definitions_of_lines}
use Rattle.sudoers_cvt_rewrite.proofs.Common.{first_definition_of, length, members_of_alias_definition, option_map, refl, subst, sym, ℕ, ◌∙◌, ◌∷◌, ◌≡◌, ◌≤◌}
use Rattle.sudoers_grammar.specs.declared.node.Atom.TheVariants as atom
use Rattle.sudoers_grammar.specs.Node as node
use Rattle.sudoers_grammar.specs.Piece.{TokenWithBytes}
use Rattle.sudoers_grammar.specs.Line.{LineReadsAsNode}
use Rattle.sudoers_grammar.specs.Grammar.{Separated, Many, MarkThenRule, IsMember, IsCommand, IsDef, IsAliasMemberList}
use Rattle.sudoers_tree.specs.Policy.{AreValidWalkLines, IsCorrectlyParsed}
use Rattle.sudoers_tree.proofs.AtPlaces.{place_of_alias_holds_its_definition}
use Rattle.sudoers_cvt_rewrite.proofs.Lists.{AllAliasesHaveMembers}

-- a list by a rule of the grammar
separated_list_is_not_empty : {X : Type 0} (b : ℕ) (P : List TokenWithBytes → X → List TokenWithBytes → Type 0) (ts : List TokenWithBytes) (xs : List X) (rest : List TokenWithBytes) → Separated b P ts xs rest → 1 ≤ length xs
separated_list_is_not_empty b P ts [] rest s = absurd s
separated_list_is_not_empty b P ts (x ∷ xs) rest s = omega arith

member_list_is_not_empty : (k : Kind) (ts : List TokenWithBytes) (ms : List Member) (rest : List TokenWithBytes) → IsAliasMemberList k ts ms rest → 1 ≤ length ms
member_list_is_not_empty User ts ms rest s = separated_list_is_not_empty 44 (IsMember User) ts ms rest s
member_list_is_not_empty Runas ts ms rest s = separated_list_is_not_empty 44 (IsMember Runas) ts ms rest s
member_list_is_not_empty Host ts ms rest s = separated_list_is_not_empty 44 (IsMember Host) ts ms rest s
member_list_is_not_empty Cmnd ts ms rest s = separated_list_is_not_empty 44 IsCommand ts ms rest s

abbrev DefinitionHasMember : Def → Type 0
DefinitionHasMember d = 1 ≤ length d.members

further_definitions_have_members : (k : Kind) (ts : List TokenWithBytes) (ds : List Def) (rest : List TokenWithBytes) → Many (MarkThenRule 58 (IsDef k)) ts ds rest → AllByRecursion DefinitionHasMember ds
further_definitions_have_members k ts [] rest m = tt
further_definitions_have_members k ts (d ∷ ds) rest (behind, one, more) = (member_list_is_not_empty k _ _ _ one.is.members, further_definitions_have_members k behind ds rest more)

alias_definitions_have_members : (k : Kind) (ts : List TokenWithBytes) (ds : List Def) (rest : List TokenWithBytes) → Separated 58 (IsDef k) ts ds rest → AllByRecursion DefinitionHasMember ds
alias_definitions_have_members k ts [] rest s = absurd s
alias_definitions_have_members k ts (d ∷ ds) rest (behind, one, more) = (member_list_is_not_empty k _ _ _ one.members, further_definitions_have_members k behind ds rest more)

defined_alias_has_member : (k : Kind) (name : List ℕ) (lines : List Line) → AreValidWalkLines lines → (ms : List Member) → members_of_alias_definition k name lines ≡ Some ms → 1 ≤ length ms
defined_alias_has_member k name lines policy ms e = by (first_definition_of k name (definitions_of_lines lines)) refl
  where
    by : (o : Option PlacedDefinition) → first_definition_of k name (definitions_of_lines lines) ≡ o → 1 ≤ length ms
    by None is = let no : None ≡ Some ms = sym (ap (option_map (λ (d : PlacedDefinition). d.def.members)) is) ∙ e in absurd cc
    by (Some d) is =
        let at = place_of_alias_holds_its_definition lines k name d.place (sym (ap (option_map (λ (d : PlacedDefinition). d.place)) is)) in
        let reads : LineReadsAsNode at.line.text (node.Alias at.kind at.defs) = subst (LineReadsAsNode at.line.text) at.says (All_at IsCorrectlyParsed lines d.place.line at.line policy.says at.line_is) in
        let some : DefinitionHasMember at.def = All_at DefinitionHasMember at.defs d.place.def at.def (alias_definitions_have_members at.kind _ at.defs _ reads.reads.1.defs) at.def_is in
        let two : Some at.def.members ≡ Some ms = sym at.members_are ∙ e in
        let same : at.def.members ≡ ms = cc in
        subst (λ ns. 1 ≤ length ns) same some

pub aliases_of_valid_lines_have_members : (k : Kind) (lines : List Line) → AreValidWalkLines lines → AllAliasesHaveMembers k lines
aliases_of_valid_lines_have_members k lines policy (atom.Alias name) ms e = defined_alias_has_member k name lines policy ms e
aliases_of_valid_lines_have_members k lines policy atom.All ms e = absurd cc
aliases_of_valid_lines_have_members k lines policy (atom.Name n) ms e = absurd cc
aliases_of_valid_lines_have_members k lines policy (atom.Id n) ms e = absurd cc
aliases_of_valid_lines_have_members k lines policy (atom.Group n) ms e = absurd cc
aliases_of_valid_lines_have_members k lines policy (atom.GroupId n) ms e = absurd cc
aliases_of_valid_lines_have_members k lines policy (atom.NonUnix n) ms e = absurd cc
aliases_of_valid_lines_have_members k lines policy (atom.Netgroup n) ms e = absurd cc
aliases_of_valid_lines_have_members k lines policy (atom.Host p) ms e = absurd cc
aliases_of_valid_lines_have_members k lines policy (atom.Address a) ms e = absurd cc
aliases_of_valid_lines_have_members k lines policy (atom.Network a m) ms e = absurd cc
aliases_of_valid_lines_have_members k lines policy atom.Listing ms e = absurd cc
aliases_of_valid_lines_have_members k lines policy (atom.Path p a) ms e = absurd cc
aliases_of_valid_lines_have_members k lines policy (atom.Sudoedit a) ms e = absurd cc
