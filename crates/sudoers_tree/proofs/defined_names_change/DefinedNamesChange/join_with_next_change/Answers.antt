use Rattle.sudoers_tree.proofs.Common.{ChangesDefinedNames, subst}
use Rattle.sudoers_tree.proofs.NameChanges.{names_change_stands_after_same_keys, names_change_stands_before_same_keys}
use Rattle.sudoers_tree.proofs.defined_names_change.DefinedNamesChange.join_with_next_change.Goals as goal

pub returns-in-Nothing : goal.returns-in-Nothing
returns-in-Nothing c = λ t ds es more others first next.
    names_change_stands_after_same_keys t c.args.next ds es more others (subst (λ change. ChangesDefinedNames t change ds es) c.in-Nothing.is first) next

pub returns-in-Nothing-next : goal.returns-in-Nothing-next
returns-in-Nothing-next c = λ t ds es more others first next.
    names_change_stands_before_same_keys t c.args.self ds es more others first (subst (λ change. ChangesDefinedNames t change more others) c.in-Nothing-next.is next)
