-- What an edit of a member does to its alias, to the other aliases, and to the files.
use Rattle.std.specs.Prelude.{◌≡◌, ◌<◌, ℕ, true, List, length, remove, Some}
use Rattle.sudoers_text.specs.Line.{join}
use Rattle.sudoers_grammar.specs.Node.{Member}
use Rattle.sudoers_grammar.specs.declared.node.Kind.{Kind}
use Rattle.sudoers_line_rows.specs.Alike.{are_lists_alike, is_same_member}
use Rattle.sudoers_tree.specs.Changed.{lines_with_one_replaced}
use Rattle.sudoers_tree.specs.Definition.{members_of_alias_definition}
use Rattle.sudoers_tree.specs.FilePlaces.{file_place_of_definition}
use Rattle.sudoers_tree.specs.Files.{lines_of_numbered_file}
use Rattle.sudoers_tree.specs.Load.{LoadedPolicy, named_files_of_policy}
use Rattle.sudoers_tree.specs.Policy.{texts_of_lines}
use Rattle.sudoers_tree.specs.declared.place.DefinitionFilePlace.{DefinitionFilePlace}
use Rattle.sudoers_match_list.specs.Alike.{AreBothUndefinedOrHaveSameMembers}
use Rattle.sudoers_edit.specs.Landing.{files_with_bytes_replaced}

-- Both walks define the alias. Its members on the first walk are those on the second, in their order, and one more, which has this number.
pub record ListsOneMemberMore (kind : Kind) (name : List ℕ) (at : ℕ) (more less : LoadedPolicy) : Type 0 where
  pub members : List Member
  pub rest : List Member
  pub has : members_of_alias_definition kind name more.walk.lines ≡ Some members
  pub lacks : members_of_alias_definition kind name less.walk.lines ≡ Some rest
  pub within : at < length members
  pub alike : are_lists_alike is_same_member (remove members at) rest ≡ true

-- The line in which the walk defines the alias is another. The files keep their names, and all their other bytes.
pub record ChangesLineOfAlias (kind : Kind) (name : List ℕ) (policy new : LoadedPolicy) : Type 0 where
  pub place : DefinitionFilePlace
  pub named : file_place_of_definition kind name policy.walk ≡ Some place
  pub text : List ℕ
  pub files : named_files_of_policy new
      ≡ files_with_bytes_replaced place.file
      (join (lines_with_one_replaced place.line text (texts_of_lines (lines_of_numbered_file policy.files place.file))))
      (named_files_of_policy policy)

-- Each alias of another name or another kind is defined if it was, and only then. It has the members that it had, in their order.
abbrev pub KeepsOtherAliases : Kind → List ℕ → LoadedPolicy → LoadedPolicy → Type 0
KeepsOtherAliases kind name policy new =
    (other : Kind) (word : List ℕ) → ((other ≡ kind) → (word ≡ name) → ⊥)
    → AreBothUndefinedOrHaveSameMembers (members_of_alias_definition other word policy.walk.lines)
    (members_of_alias_definition other word new.walk.lines)
