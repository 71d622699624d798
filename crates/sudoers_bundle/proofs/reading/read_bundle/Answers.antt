use Rattle.std.proofs.Common.{rules, ◌≡◌, ◌<◌, length, Some, List, sym, subst}
use Rattle.sudoers_tree.specs.declared.named_files.NamedFile.{NamedFile}
use Rattle.sudoers_bundle.specs.Bundle.{first_file_of_bundle}
use Rattle.sudoers_bundle.specs.internal.{IsUnreadBundleRest}
use Rattle.sudoers_bundle.proofs.FileLemmas.{reading_next_file_keeps_unread_rest, rest_after_first_file_is_shorter}
use Rattle.sudoers_bundle.proofs.reading.read_bundle.Goals as goal

-- src/reading.rt:24:5
pub loop-rest-smaller : goal.loop-rest-smaller
loop-rest-smaller c =
    let found : first_file_of_bundle c.loop-rest.rest.now ≡ Some (c.in-Some.file, c.in-Some.behind.now) = rw c.in-Some.is at c.in_ok-file.ensures in
    rest_after_first_file_is_shorter c.loop-rest.rest.now (c.in-Some.file, c.in-Some.behind.now) found

-- src/reading.rt:24:5
pub loop-rest-preserved : goal.loop-rest-preserved
loop-rest-preserved c =
    let found : first_file_of_bundle c.loop-rest.rest.now ≡ Some (c.in-Some.file, c.in-Some.behind.now) = rw c.in-Some.is at c.in_ok-file.ensures in
    let some : 0 < length c.loop-rest.rest.now = search rules in
    subst (λ (fs : List NamedFile). IsUnreadBundleRest c.args.text.now fs c.in-Some.behind.now) (sym c.in_ok-push.ensures.items)
    (reading_next_file_keeps_unread_rest c.args.text.now c.loop-rest.files.items c.loop-rest.rest.now (c.in-Some.file, c.in-Some.behind.now) c.loop-rest.invariant some found)
