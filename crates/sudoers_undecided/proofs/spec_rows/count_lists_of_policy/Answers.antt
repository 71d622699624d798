use Rattle.std.proofs.Common.{◌≡◌, ◌∙◌, ◌+◌, ◌≤◌, ℕ, List, Some, map, drop, length, slice_get, sym, ap, subst, arith}
use Rattle.std.proofs.lemmas.List.{drop_all, length-map}
use Rattle.std.proofs.lemmas.Option.{slice_get-get_or}
use Rattle.sudoers_match.specs.declared.specs_for_users.SpecOnLine.{SpecOnLine}
use Rattle.sudoers_match.specs.Rows.{AreRowsPerFlatAtomOfPolicy, AreRowsPerFlatAtomOfSpec, PrivilegeRow}
use Rattle.sudoers_match.specs.Specs.{IsConcatenationOfParts, user_specs_of_lines}
use Rattle.sudoers_match.proofs.Gathered.{list_from_index_is_element_and_rest, mapped_list_has_mapped_element_at_index}
use Rattle.sudoers_tree.specs.Line.{Line}
use Rattle.sudoers_match_member.specs.declared.request.Request.{Request}
use Rattle.sudoers_undecided.specs.declared.counted_lists.CountedLists.{CountedLists}
use Rattle.sudoers_undecided.specs.declared.user_and_host_lists.UserAndHostLists.{UserAndHostLists}
use Rattle.sudoers_undecided.specs.internal.Counted.{CountsPartsSoFar, CountsRows}
use Rattle.sudoers_undecided.proofs.Loops.{parts_all, parts_more}
use Rattle.sudoers_undecided.proofs.SpecLines.{are_specs, spec_of}
use Rattle.sudoers_undecided.proofs.RowNames.{first_lists_name_none, no_lists_are_flat}
use Rattle.sudoers_undecided.proofs.spec_rows.count_lists_of_policy.Goals as goal

pub loop-spec-preserved : goal.loop-spec-preserved
loop-spec-preserved c =
    let asked = c.args.asked.now in
    let items = c.as_slice-spec-items.result.now in
    let all = map spec_of items in
    let item : SpecOnLine = c.spec-item.result in
    let k = c.loop-spec.spec-index in
    let at : slice_get items k ≡ Some item = slice_get-get_or items k item c.loop-spec-test.true ∙ ap Some (sym c.spec-item.is) in
    parts_more asked.policy.now asked.request.now asked.scopes.now (AreRowsPerFlatAtomOfSpec asked.policy.now) all c.new-counted.result c.loop-spec.counted c.count_lists_of_spec.new.counted k (spec_of item)
    (drop k all) (drop (k + 1) all) (list_from_index_is_element_and_rest all k (spec_of item) (mapped_list_has_mapped_element_at_index spec_of items k item at)) c.loop-spec.invariant
    (λ rows p. c.in_ok-count_lists_of_spec.ensures k rows p)

policy_counts : (lines : List Line) (r : Request) (scopes : UserAndHostLists) (c e : CountedLists) (items : List SpecOnLine) (k : ℕ) → map spec_of items ≡ user_specs_of_lines lines → length items ≤ k
    → CountsPartsSoFar (AreRowsPerFlatAtomOfSpec lines) lines r scopes c e (map spec_of items) k (drop k (map spec_of items)) → (rows : List PrivilegeRow) → AreRowsPerFlatAtomOfPolicy lines rows → CountsRows lines r scopes c e rows
policy_counts lines r scopes c e items k same end so_far rows are =
    parts_all lines r scopes (AreRowsPerFlatAtomOfSpec lines) (map spec_of items) c e k (drop k (map spec_of items)) (drop_all k (map spec_of items) (omega (arith, end, length-map items spec_of))) so_far rows
    (subst (λ xs. IsConcatenationOfParts (AreRowsPerFlatAtomOfSpec lines) 0 xs rows) (sym same) are)

pub returns-clause-covers : goal.returns-clause-covers
returns-clause-covers c rows are =
    let asked = c.args.asked.now in
    let items = c.as_slice-spec-items.result.now in
    (policy_counts asked.policy.now asked.request.now asked.scopes.now c.new-counted.result c.loop-spec.counted items c.loop-spec.spec-index
    (are_specs asked.policy.now items _ c.as_slice-spec-items.ensures.value c.in_ok-specs.ensures.all) (omega (arith, c.loop-spec-test.false)) c.loop-spec.invariant rows are).covers

pub returns-clause-flats : goal.returns-clause-flats
returns-clause-flats c rows are =
    let asked = c.args.asked.now in
    let items = c.as_slice-spec-items.result.now in
    (policy_counts asked.policy.now asked.request.now asked.scopes.now c.new-counted.result c.loop-spec.counted items c.loop-spec.spec-index
    (are_specs asked.policy.now items _ c.as_slice-spec-items.ensures.value c.in_ok-specs.ensures.all) (omega (arith, c.loop-spec-test.false)) c.loop-spec.invariant rows are).flats
    (no_lists_are_flat asked.policy.now asked.request.now c.new-counted.result c.new-counted.ensures)

pub returns-clause-only : goal.returns-clause-only
returns-clause-only c rows are p s w =
    let asked = c.args.asked.now in
    let items = c.as_slice-spec-items.result.now in
    first_lists_name_none asked.policy.now asked.request.now asked.scopes.now c.new-counted.result c.new-counted.ensures rows p s
    ((policy_counts asked.policy.now asked.request.now asked.scopes.now c.new-counted.result c.loop-spec.counted items c.loop-spec.spec-index
    (are_specs asked.policy.now items _ c.as_slice-spec-items.ensures.value c.in_ok-specs.ensures.all) (omega (arith, c.loop-spec-test.false)) c.loop-spec.invariant rows are).only p s w)
