use Rattle.sudoers_tree.proofs.Common.{AreFilesMapped, List, NamedFile, files_after_changes, named_files_of_policy}
use Rattle.sudoers_tree.proofs.ChangedWalk.{changed_files_are_mapped_files}
use Rattle.sudoers_tree.proofs.laws.changed_walk_is_mapped.Goals as goal

pub returns : goal.returns
returns c = λ g changes old new loaded can is made.
    let files : List NamedFile = files_after_changes changes old.files in
    let are : AreFilesMapped g old.files new.files old.walk =
    changed_files_are_mapped_files c.texts_tell_lines.ensures g changes old.files new.files old.walk
    (c.changed_files_have_lines.ensures.names changes old new is) (c.changed_files_have_lines.ensures.lines changes old new loaded can is)
    (c.loaded_lines_are_said.ensures files new is) (c.loaded_files_are.ensures.parse files new is) made in
    c.walk_is_mapped.ensures.agrees g old.files new.files old.walk new.walk (c.loaded_walk_is.ensures (named_files_of_policy old) old loaded) are
    (c.loaded_walk_is.ensures files new is)
