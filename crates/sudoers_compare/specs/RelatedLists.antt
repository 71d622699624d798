-- What is known of lists that were compared before. A device of the code, which no public contract cites.
use Rattle.std.specs.Prelude.{◌≡◌, ◌&&◌, Bool, List, Option, Some, None}
use Rattle.sudoers_match_list.specs.Flat.{SignedAtom}
use Rattle.laws_compare.specs.Decided.{is_list_wider, is_same_flat_list}
use Rattle.sudoers_compare.specs.declared.related_lists.KnownRelations.{KnownRelations}
use Rattle.sudoers_compare.specs.declared.related_lists.ListRelation.{ListRelation}
use Rattle.sudoers_compare.specs.declared.related_lists.ListRelation.TheVariants.{Same, Wider}
use Rattle.sudoers_compare.specs.declared.related_lists.RelatedListsAnswer.{RelatedListsAnswer}
use Rattle.sudoers_compare.specs.RowLists.{NumberedLists}

-- the old list is the same as the new one, or wider
abbrev pub is_list_related : ListRelation → List SignedAtom → List SignedAtom → Bool
is_list_related Same old new = is_same_flat_list old new
is_list_related Wider old new = is_list_wider old new

-- If something is known, it is right.
abbrev pub IsRightRelatedListsAnswer : ListRelation → NumberedLists → NumberedLists → Option RelatedListsAnswer → Type 0
IsRightRelatedListsAnswer relation olds news None = Unit {0}
IsRightRelatedListsAnswer relation olds news (Some answer) =
    answer.are_related
    ≡ (is_list_related relation (olds.users answer.old_spec) (news.users answer.new_spec) && is_list_related relation (olds.hosts answer.old_spec answer.old_group) (news.hosts answer.new_spec answer.new_group))

-- what is known of each relation is right
abbrev pub AreRightKnownRelations : NumberedLists → NumberedLists → KnownRelations → Type 0
AreRightKnownRelations olds news known = IsRightRelatedListsAnswer Same olds news known.same × IsRightRelatedListsAnswer Wider olds news known.wider
