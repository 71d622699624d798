use Rattle.sudoers_match.proofs.Common.{Answer, AreRowsPerFlatAtomOfSpec, DecidesWhetherListAllows, HasMemberAndSettingsFromLines, HasNoFittingRowBehind, IsAnswerByCommandTest, IsAnswerOfRowsByTest, IsConcatenationOfParts, IsValidCacheForContext, Line, List, None, Option, ℕ}
use Rattle.sudoers_match.proofs.Common.{Some, User, UserSpec, answer_without_member_and_settings, ap, arith, command_test_of_context, get_or, is_some, is_user_atom_match, length, length-map, map, members_of_view, option_map, refl, slice_get, specs_with_line_numbers, subst, sym, true, user_specs_of_lines, ◌+◌, ◌<◌, ◌≤◌, ◌∙◌, ◌≡◌}
use Rattle.std.specs.Prelude.{◌-◌}
use Rattle.std.proofs.lemmas.Option.{slice_get-get_or}
use Rattle.sudoers_match_list.proofs.Exists.{list_is_flat_or_leads_to_cycle}
use Rattle.sudoers_match.specs.declared.specs_for_users.SpecOnLine.{SpecOnLine}
use Rattle.sudoers_match.specs.ForRequest.{MattersIfRowFits, numbered_spec_of_view}
use Rattle.sudoers_match.proofs.Existing.{some_rows}
use Rattle.sudoers_match.proofs.ForUsers.{all_at, groups_of_numbered_spec_straight, is_numbered, map_of_map, none_if_not_some, numbered_at, numbered_specs_are_specs, second, users_of_numbered_spec_straight}
use Rattle.sudoers_match.proofs.Founds.{answer_in_spec_is_found_in_lines, some_then}
use Rattle.sudoers_match.proofs.Gathered.{mapped_list_has_mapped_element_at_index}
use Rattle.sudoers_match.proofs.Rowed.{answers_none, decided_here, no_user, none_at_all, none_behind_end, none_behind_more}
use Rattle.sudoers_match.proofs.last_row.find_last_fitting_row.Goals as goal
use Rattle.sudoers_match.proofs.last_row.find_last_fitting_row.Goals.{else-spec-via-then-spec+in_ok-allows_user+else-branch, else-spec-via-else-spec}

abbrev spec_of : SpecOnLine → UserSpec
spec_of s = (numbered_spec_of_view s).1

-- the user specification at the place before this one
record IsBefore (specs : List SpecOnLine) (n : ℕ) (item : SpecOnLine) : Type 0 where
  at : slice_get specs (n - 1) ≡ Some item
  next : n - 1 + 1 ≡ n

before_it : (specs : List SpecOnLine) (n : ℕ) (item : SpecOnLine) → 0 < n → n ≤ length specs → item ≡ get_or specs (n - 1) item → IsBefore specs n item
before_it specs n item some within is = record {
  at = slice_get-get_or specs (n - 1) item (omega (arith, some, within)) ∙ ap Some (sym is);
  next = omega (arith, some);
}

pub loop-number-init : goal.loop-number-init
loop-number-init c =
    let lines = c.args.asked.now.policy.now in
    let specs = c.args.specs.now in
    record {
      question = c.requires.question;
      behind = none_behind_end lines (command_test_of_context c.args.asked.now) c.args.asked.now.request.now (AreRowsPerFlatAtomOfSpec lines) (map spec_of specs) (length specs) (omega (arith, length-map specs spec_of));
    }

pub allows_user-requires-clause-straight : goal.allows_user-requires-clause-straight
allows_user-requires-clause-straight c =
    let specs = c.args.specs.now in
    let item : SpecOnLine = c.index-specs-number.result in
    let b = before_it specs c.loop-number.number item c.loop-number-test.true c.loop-number.auto.number c.index-specs-number.is in
    users_of_numbered_spec_straight c.args.asked.now.policy.now c.is_acyclic.ensures.straight (numbered_spec_of_view item)
    (is_numbered c.args.asked.now.policy.now specs c.requires.specs.all (c.loop-number.number - 1) item b.at)

pub find_last_fit_in_host_groups-requires-clause-groups : goal.find_last_fit_in_host_groups-requires-clause-groups
find_last_fit_in_host_groups-requires-clause-groups c =
    let specs = c.args.specs.now in
    let item : SpecOnLine = c.index-specs-number.result in
    let b = before_it specs c.loop-number.number item c.loop-number-test.true c.loop-number.auto.number c.index-specs-number.is in
    groups_of_numbered_spec_straight c.args.asked.now.policy.now c.is_acyclic.ensures.straight (numbered_spec_of_view item)
    (is_numbered c.args.asked.now.policy.now specs c.requires.specs.all (c.loop-number.number - 1) item b.at)

pub returns-then-is_some-clause-found : goal.returns-then-is_some-clause-found
returns-then-is_some-clause-found c =
    let lines = c.args.asked.now.policy.now in
    let specs = c.args.specs.now in
    let item : SpecOnLine = c.index-specs-number.result in
    let i = c.loop-number.number - 1 in
    let b = before_it specs c.loop-number.number item c.loop-number-test.true c.loop-number.auto.number c.index-specs-number.is in
    some_then _ (HasMemberAndSettingsFromLines lines)
    (answer_in_spec_is_found_in_lines lines item.line i (spec_of item) (numbered_at lines specs c.requires.specs.all i item b.at))
    c.in_ok-found.found c.in_ok-found.ensures.found

some_of : {X : Type 0} (o : Option X) → is_some o ≡ true → (x : X) × (o ≡ Some x)
some_of None e = absurd cc
some_of (Some x) e = (x, refl)

specs_are : (lines : List Line) (specs : List SpecOnLine) → map numbered_spec_of_view specs ≡ specs_with_line_numbers 0 lines → map spec_of specs ≡ user_specs_of_lines lines
specs_are lines specs all = map_of_map numbered_spec_of_view second specs ∙ ap (map second) all ∙ numbered_specs_are_specs 0 lines

pub returns-then-is_some-clause-answer : goal.returns-then-is_some-clause-answer
returns-then-is_some-clause-answer c =
    let lines = c.args.asked.now.policy.now in
    let r = c.args.asked.now.request.now in
    let test = command_test_of_context c.args.asked.now in
    let specs = c.args.specs.now in
    let all = map spec_of specs in
    let item : SpecOnLine = c.index-specs-number.result in
    let i = c.loop-number.number - 1 in
    let b = before_it specs c.loop-number.number item c.loop-number-test.true c.loop-number.auto.number c.index-specs-number.is in
    let some = some_of c.in_ok-found.found (sym c.is_some.ensures ∙ c.if-is_some.true) in
    let a : Answer = answer_without_member_and_settings some.0 in
    let users = members_of_view item.users in
    let user : DecidesWhetherListAllows User lines (is_user_atom_match r.who.user) users true =
    subst (DecidesWhetherListAllows User lines (is_user_atom_match r.who.user) users) c.if-branch.true c.in_ok-allows_user.ensures.allowed in
    let w = some_rows list_is_flat_or_leads_to_cycle lines c.is_acyclic.ensures.straight in
    subst (IsAnswerByCommandTest lines test r) (sym (ap (option_map answer_without_member_and_settings) some.1))
    (record {
      rows = w.0;
      are_rows = w.1;
      answers = decided_here lines test r (AreRowsPerFlatAtomOfSpec lines) all i (spec_of item) a (mapped_list_has_mapped_element_at_index spec_of specs i item b.at)
          (subst (λ n. HasNoFittingRowBehind (AreRowsPerFlatAtomOfSpec lines) lines test r all n) (sym b.next) c.loop-number.invariant.behind)
          (λ rows p. subst (IsAnswerOfRowsByTest lines test r rows) (ap (option_map answer_without_member_and_settings) some.1) (c.in_ok-found.ensures.answer users user rows p))
          w.0 (subst (λ xs. IsConcatenationOfParts (AreRowsPerFlatAtomOfSpec lines) 0 xs w.0) (sym (specs_are lines specs c.requires.specs.all)) w.1);
    })

pub loop-number-preserved-then-branch : goal.loop-number-preserved-then-branch
loop-number-preserved-then-branch c =
    let lines = c.args.asked.now.policy.now in
    let r = c.args.asked.now.request.now in
    let test = command_test_of_context c.args.asked.now in
    let specs = c.args.specs.now in
    let all = map spec_of specs in
    let item : SpecOnLine = c.index-specs-number.result in
    let i = c.loop-number.number - 1 in
    let b = before_it specs c.loop-number.number item c.loop-number-test.true c.loop-number.auto.number c.index-specs-number.is in
    let users = members_of_view item.users in
    let user : DecidesWhetherListAllows User lines (is_user_atom_match r.who.user) users true =
    subst (DecidesWhetherListAllows User lines (is_user_atom_match r.who.user) users) c.if-branch.true c.in_ok-allows_user.ensures.allowed in
    let none : option_map answer_without_member_and_settings c.in_ok-found.found ≡ None = ap (option_map answer_without_member_and_settings) (none_if_not_some c.in_ok-found.found (sym c.is_some.ensures ∙ c.if-is_some.false)) in
    record {
      question = c.in_ok-found.ensures.kept;
      behind = none_behind_more lines test r (AreRowsPerFlatAtomOfSpec lines) all i (spec_of item) (mapped_list_has_mapped_element_at_index spec_of specs i item b.at)
          (subst (λ n. HasNoFittingRowBehind (AreRowsPerFlatAtomOfSpec lines) lines test r all n) (sym b.next) c.loop-number.invariant.behind)
          (λ rows p. subst (IsAnswerOfRowsByTest lines test r rows) none (c.in_ok-found.ensures.answer users user rows p));
    }

pub loop-number-preserved : goal.loop-number-preserved
loop-number-preserved c =
    let lines = c.args.asked.now.policy.now in
    let r = c.args.asked.now.request.now in
    let test = command_test_of_context c.args.asked.now in
    let specs = c.args.specs.now in
    let all = map spec_of specs in
    let item : SpecOnLine = c.index-specs-number.result in
    let i = c.loop-number.number - 1 in
    let b = before_it specs c.loop-number.number item c.loop-number-test.true c.loop-number.auto.number c.index-specs-number.is in
    let at = mapped_list_has_mapped_element_at_index spec_of specs i item b.at in
    let behind = subst (λ n. HasNoFittingRowBehind (AreRowsPerFlatAtomOfSpec lines) lines test r all n) (sym b.next) c.loop-number.invariant.behind in
    elim c.else-spec.branch [
      | else-spec-via-then-spec+in_ok-allows_user+else-branch w ↦ record {
        question = subst (IsValidCacheForContext c.args.asked.now) (sym w.question-is) w.in_ok-allows_user.ensures.kept;
        behind = none_behind_more lines test r (AreRowsPerFlatAtomOfSpec lines) all i (spec_of item) at behind
            (λ rows p. no_user lines test r i (spec_of item) rows
            (subst (DecidesWhetherListAllows User lines (is_user_atom_match r.who.user) (members_of_view item.users)) w.if-branch.false w.in_ok-allows_user.ensures.allowed) p);
      }
      | else-spec-via-else-spec w ↦ record {
        question = subst (IsValidCacheForContext c.args.asked.now) (sym w.question-is) c.loop-number.invariant.question;
        behind = none_behind_more lines test r (AreRowsPerFlatAtomOfSpec lines) all i (spec_of item) at behind
            (λ rows p. answers_none lines test r rows (all_at (MattersIfRowFits lines test r) specs i item c.requires.specs.matter b.at w.if-spec.false i rows p));
      }
    ]

pub returns-clause-answer : goal.returns-clause-answer
returns-clause-answer c =
    let lines = c.args.asked.now.policy.now in
    let r = c.args.asked.now.request.now in
    let test = command_test_of_context c.args.asked.now in
    let specs = c.args.specs.now in
    let w = some_rows list_is_flat_or_leads_to_cycle lines c.is_acyclic.ensures.straight in
    let zero_left : c.loop-number.number ≡ 0 = omega (arith, c.loop-number-test.false) in
    record {
      rows = w.0;
      are_rows = w.1;
      answers = none_at_all lines test r (AreRowsPerFlatAtomOfSpec lines) (map spec_of specs)
          (subst (λ n. HasNoFittingRowBehind (AreRowsPerFlatAtomOfSpec lines) lines test r (map spec_of specs) n) zero_left c.loop-number.invariant.behind)
          w.0 (subst (λ xs. IsConcatenationOfParts (AreRowsPerFlatAtomOfSpec lines) 0 xs w.0) (sym (specs_are lines specs c.requires.specs.all)) w.1);
    }
