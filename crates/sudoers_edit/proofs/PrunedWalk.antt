-- What a prune leaves of each line of the walk, and why it is refused.
use Rattle.sudoers_edit.proofs.Common.{AllByRecursion, AreFilesMapped, AreLinesAtSpots, BadSplice, Bool, Def, EditFault, Err, IsMappedWalk, Kind, Line, LineToLinesMapping, List, LoadedPolicy, Node, Ok, ParsedFile}
use Rattle.sudoers_edit.proofs.Common.{PlacedDefinition, Prune, LawsBehindPrunes, PruneRemoval, Some, WalkLineSpot, WalkState, [], ap, append_assoc, ap₂, arith, definitions_from_place, definitions_in_line}
use Rattle.sudoers_edit.proofs.Common.{edit_result_and_then, eqb-false, eqb-true, false, filter, if◌then◌else◌, is_file_on_walk, is_unused, length, length-append, length-map, lines_of_numbered_file, map}
use Rattle.sudoers_edit.proofs.Common.{mapped_lines_at_spots, named_files_of_policy, not, policy_after_removals, policy_or_load_fault, prune_removals_of_walk, refl, removals_from_line_number, removals_of_line}
use Rattle.sudoers_edit.proofs.Common.{reverse, slice_get, slice_index_or, spot_of_walk_line, step, subst, sym, true, walk_or_fault_of_files, ℕ, ◌++◌, ◌+◌, ◌<◌, ◌==◌, ◌∙◌, ◌∷◌, ◌≡◌, ◌≤◌}
use Rattle.sudoers_grammar.specs.Node as node
use Rattle.sudoers_edit.specs.declared.prune_removals.PruneRemoval.TheVariants as removal
use Rattle.sudoers_edit.specs.Pruned.{ArePrunedLines, AreLinesLeftOfPrunedLine, gone, kept, less, unused_definitions_of_line, used_definitions_of_line}
use Rattle.sudoers_edit.proofs.PruneFalls.{property_of_joined_list_holds_of_both, spot_behind_earlier_spots_is_numbered}
use Rattle.sudoers_edit.proofs.PruneGoes.{alias_line_has_no_include_lead}
use Rattle.sudoers_edit.proofs.PruneLists.{faultless_files_have_no_numbered_fault}
use Rattle.sudoers_edit.proofs.PruneWalk.{AreAscendingSpots, IsEarlierInSameFile, IsOrderedWalk, walk_of_files_is_ordered}
use Rattle.sudoers_edit.proofs.PrunedAlike.{definitions_are_alike_themselves}
use Rattle.sudoers_edit.proofs.PrunedStage.{KeepsLinesBefore, IsPolicyOfMappedLines, ParsedLinesAreToldByTexts, policy_is_mapped_from_itself, identity_line_mapping}
use Rattle.sudoers_edit.proofs.PrunedSteps.{IsMappedOutcomeOrBadSplice, LeavesAlikeDefinitionsInLine, AgreeOnOtherLines, IsLeadlessLineOnWalk, removals_of_joined_lists_are_sequenced, mapped_outcomes_are_sequenced, mapped_outcome_implies_weaker_outcome, definition_removals_have_mapped_outcome, line_removal_has_mapped_outcome}

-- ---- one line

list_of_length_zero_is_empty : {X : Type 0} (xs : List X) → (length xs == 0) ≡ true → xs ≡ []
list_of_length_zero_is_empty [] is = refl
list_of_length_zero_is_empty (x ∷ xs) is = absurd (omega (arith, eqb-true (length (x ∷ xs)) 0 is))

list_of_other_length_is_nonempty : {X : Type 0} (xs : List X) → (length xs == 0) ≡ false → 0 < length xs
list_of_other_length_is_nonempty [] is = absurd (eqb-false 0 0 is refl)
list_of_other_length_is_nonempty (x ∷ xs) is = omega arith

-- an item passes a test or fails it
counts_passing_and_failing_make_length : {X : Type 0} (test : X → Bool) (xs : List X) → length (filter test xs) + length (filter (λ x. not (test x)) xs) ≡ length xs
counts_passing_and_failing_make_length test [] = omega arith
counts_passing_and_failing_make_length test (x ∷ xs) = by (test x) (counts_passing_and_failing_make_length test xs)
  where
    by : (b : Bool) → length (filter test xs) + length (filter (λ x. not (test x)) xs) ≡ length xs
        → length (if b then x ∷ filter test xs else filter test xs) + length (if not b then x ∷ filter (λ x. not (test x)) xs else filter (λ x. not (test x)) xs)
        ≡ length (x ∷ xs)
    by true is = omega (arith, is)
    by false is = omega (arith, is)

-- This is left of the line, and each other line is as before.
abbrev IsLeftOfPrunedLine : List Line → ℕ → Line → ℕ → ℕ → LineToLinesMapping → LineToLinesMapping → Type 0
IsLeftOfPrunedLine lines number line f n g h = AreLinesLeftOfPrunedLine lines number line (h f n line) × AgreeOnOtherLines g h f n

line_without_unused_is_left_unchanged : (policy now : LoadedPolicy) (g : LineToLinesMapping) (lines : List Line) (number : ℕ) (line : Line) (f n : ℕ) → IsPolicyOfMappedLines policy now g → g f n line ≡ line ∷ []
    → unused_definitions_of_line lines number line ≡ [] → IsMappedOutcomeOrBadSplice policy (IsLeftOfPrunedLine lines number line f n g) (Ok now)
line_without_unused_is_left_unchanged policy now g lines number line f n stage is none =
    (g, stage, (subst (AreLinesLeftOfPrunedLine lines number line) (sym is) (kept none), λ e m x other. refl))

prune_of_alias_line_leaves_pruned_line : LawsBehindPrunes → ParsedLinesAreToldByTexts → (policy now : LoadedPolicy) (g : LineToLinesMapping) (lines : List Line) (number : ℕ) (line : Line) (at : WalkLineSpot) (k : Kind) (defs : List Def)
    → IsLeadlessLineOnWalk policy at.file at.line line → IsPolicyOfMappedLines policy now g → KeepsLinesBefore g at.file (at.line + 1) → line.node ≡ node.Alias k defs
    → IsMappedOutcomeOrBadSplice policy (IsLeftOfPrunedLine lines number line at.file at.line g)
    (policy_after_removals (removals_of_line at (length (definitions_from_place k number 0 defs)) (filter (is_unused lines) (definitions_from_place k number 0 defs))) now)
prune_of_alias_line_leaves_pruned_line l tell policy now g lines number line at k defs s stage before makes = by_none (length unused == 0) refl (length unused == length ds) refl
  where
    f : ℕ
    f = at.file

    n : ℕ
    n = at.line

    ds : List PlacedDefinition
    ds = definitions_from_place k number 0 defs

    unused : List PlacedDefinition
    unused = filter (is_unused lines) ds

    P : LineToLinesMapping → Type 0
    P = IsLeftOfPrunedLine lines number line f n g

    in_line : definitions_in_line number line.node ≡ ds
    in_line = ap (definitions_in_line number) makes

    unused_are : unused_definitions_of_line lines number line ≡ unused
    unused_are = ap (filter (is_unused lines)) in_line

    some_unused : (length unused == 0) ≡ false → 0 < length (unused_definitions_of_line lines number line)
    some_unused some = subst (λ (xs : List PlacedDefinition). 0 < length xs) (sym unused_are) (list_of_other_length_is_nonempty unused some)

    here : g f n line ≡ line ∷ []
    here = before n line (omega arith)

    before_too : KeepsLinesBefore g f n
    before_too m x under = before m x (omega (arith, under))

    by_none : (none : Bool) → (length unused == 0) ≡ none → (all : Bool) → (length unused == length ds) ≡ all
        → IsMappedOutcomeOrBadSplice policy P (policy_after_removals (if none then [] else (if all then removal.Line at.file at.line ∷ []
        else map (λ (d : PlacedDefinition). removal.Def at.file at.line d.place.def) (reverse unused))) now)
    by_none true none all e = line_without_unused_is_left_unchanged policy now g lines number line f n stage here (unused_are ∙ list_of_length_zero_is_empty unused none)
    by_none false none true e =
        mapped_outcome_implies_weaker_outcome policy (λ h. (h f n line ≡ []) × AgreeOnOtherLines g h f n) P (policy_after_removals (removal.Line f n ∷ []) now)
        (line_removal_has_mapped_outcome l tell policy now g f n line s stage before_too here)
        (λ h p. (
          subst (AreLinesLeftOfPrunedLine lines number line) (sym p.0)
              (gone (some_unused none)
              (ap length unused_are ∙ eqb-true (length unused) (length ds) e ∙ ap length (sym in_line))),
          p.1,
        ))
    by_none false none false e =
        let some : 1 ≤ length (used_definitions_of_line lines k number defs) =
        omega (
          arith,
          counts_passing_and_failing_make_length (is_unused lines) ds,
          eqb-false (length unused) (length ds) e,
          length-map (filter (λ d. not (is_unused lines d)) ds) (λ (d : PlacedDefinition). d.def),
        ) in
        mapped_outcome_implies_weaker_outcome policy (LeavesAlikeDefinitionsInLine g f n line k (used_definitions_of_line lines k number defs)) P
        (policy_after_removals (map (λ (d : PlacedDefinition). removal.Def at.file at.line d.place.def) (reverse unused)) now)
        (definition_removals_have_mapped_outcome l tell policy now g f n line (is_unused lines) k number 0 [] defs s stage before_too refl
        (record { cur = line; left = defs; is = here; makes = makes; alike = definitions_are_alike_themselves defs }) (omega (arith, some)))
        (λ h p. (subst (AreLinesLeftOfPrunedLine lines number line) (sym p.0.is) (less k defs p.0.left p.0.cur (some_unused none) makes p.0.makes p.0.alike), p.1))

prune_of_walk_line_leaves_pruned_line : LawsBehindPrunes → ParsedLinesAreToldByTexts → (policy now : LoadedPolicy) (g : LineToLinesMapping) (lines : List Line) (number : ℕ) (line : Line) (at : WalkLineSpot)
    → policy_or_load_fault (named_files_of_policy policy) ≡ Ok policy → is_file_on_walk policy.walk at.file ≡ true → slice_get (lines_of_numbered_file policy.files at.file) at.line ≡ Some line
    → IsPolicyOfMappedLines policy now g → KeepsLinesBefore g at.file (at.line + 1) → (says : Node) → line.node ≡ says
    → IsMappedOutcomeOrBadSplice policy (IsLeftOfPrunedLine lines number line at.file at.line g)
    (policy_after_removals (removals_of_line at (length (definitions_in_line number says)) (filter (is_unused lines) (definitions_in_line number says))) now)
prune_of_walk_line_leaves_pruned_line l tell policy now g lines number line at loaded on here stage before says makes = by says makes
  where
    nothing : definitions_in_line number line.node ≡ [] → IsMappedOutcomeOrBadSplice policy (IsLeftOfPrunedLine lines number line at.file at.line g) (Ok now)
    nothing none =
        line_without_unused_is_left_unchanged policy now g lines number line at.file at.line stage (before at.line line (omega arith)) (ap (filter (is_unused lines)) none)

    by : (says : Node) → line.node ≡ says → IsMappedOutcomeOrBadSplice policy (IsLeftOfPrunedLine lines number line at.file at.line g)
        (policy_after_removals (removals_of_line at (length (definitions_in_line number says)) (filter (is_unused lines) (definitions_in_line number says))) now)
    by (node.Alias k defs) makes =
        prune_of_alias_line_leaves_pruned_line l tell policy now g lines number line at k defs
        (record { loaded = loaded; on = on; here = here; nowhere = λ name. alias_line_has_no_include_lead name k defs line.node makes }) stage before makes
    by node.Blank makes = nothing (ap (definitions_in_line number) makes)
    by node.Comment makes = nothing (ap (definitions_in_line number) makes)
    by (node.Include dir path) makes = nothing (ap (definitions_in_line number) makes)
    by (node.Defaults scope params) makes = nothing (ap (definitions_in_line number) makes)
    by (node.Spec users groups) makes = nothing (ap (definitions_in_line number) makes)

-- ---- all lines

-- The lines of these spots are as they were, and those before them in their files.
abbrev KeepsLinesUpToSpots : LineToLinesMapping → List WalkLineSpot → Type 0
KeepsLinesUpToSpots g spots = AllByRecursion (λ (s : WalkLineSpot). KeepsLinesBefore g s.file (s.line + 1)) spots

identity_mapping_keeps_lines_up_to_spots : (spots : List WalkLineSpot) → KeepsLinesUpToSpots identity_line_mapping spots
identity_mapping_keeps_lines_up_to_spots [] = tt
identity_mapping_keeps_lines_up_to_spots (s ∷ spots) = (λ m line under. refl, identity_mapping_keeps_lines_up_to_spots spots)

change_of_later_line_keeps_earlier_lines : (g h : LineToLinesMapping) (at : WalkLineSpot) (earlier : List WalkLineSpot) → AgreeOnOtherLines g h at.file at.line → AllByRecursion (IsEarlierInSameFile at) earlier → KeepsLinesUpToSpots g earlier
    → KeepsLinesUpToSpots h earlier
change_of_later_line_keeps_earlier_lines g h at [] same before kept_g = tt
change_of_later_line_keeps_earlier_lines g h at (s ∷ earlier) same before kept_g = (
  λ m line under. same s.file m line (λ a b. omega (arith, under, b, before.0 a)) ∙ kept_g.0 m line under,
  change_of_later_line_keeps_earlier_lines g h at earlier same before.1 kept_g.1,
)

-- each of these spots is another than this one
abbrev AreOtherSpots : WalkLineSpot → List WalkLineSpot → Type 0
AreOtherSpots at spots = AllByRecursion (λ (s : WalkLineSpot). (s.file ≡ at.file) → (s.line ≡ at.line) → ⊥) spots

spots_behind_spot_are_other : (at : WalkLineSpot) (earlier spots : List WalkLineSpot) → ((P : WalkLineSpot → Type 0) → AllByRecursion P earlier → P at) → AreAscendingSpots earlier spots → AreOtherSpots at spots
spots_behind_spot_are_other at earlier [] among ascend = tt
spots_behind_spot_are_other at earlier (s ∷ spots) among ascend = (
  λ a b. omega (arith, b, among (IsEarlierInSameFile s) ascend.0 (sym a)),
  spots_behind_spot_are_other at (earlier ++ s ∷ []) spots (λ P all. among P (property_of_joined_list_holds_of_both P earlier (s ∷ []) all).0) ascend.1,
)

line_change_keeps_mapping_at_other_spots : (g h : LineToLinesMapping) (at : WalkLineSpot) (spots : List WalkLineSpot) (lines : List Line) → AgreeOnOtherLines g h at.file at.line → AreOtherSpots at spots
    → mapped_lines_at_spots h spots lines ≡ mapped_lines_at_spots g spots lines
line_change_keeps_mapping_at_other_spots g h at [] lines same others = refl
line_change_keeps_mapping_at_other_spots g h at (s ∷ spots) [] same others = refl
line_change_keeps_mapping_at_other_spots g h at (s ∷ spots) (line ∷ lines) same others =
    ap₂ (λ (xs ys : List Line). xs ++ ys) (same s.file s.line line others.0) (line_change_keeps_mapping_at_other_spots g h at spots lines same others.1)

-- the lines before are untouched, and this is left of these
abbrev LeavesPrunedLinesFromNumber : LoadedPolicy → List WalkLineSpot → ℕ → List WalkLineSpot → List Line → LineToLinesMapping → Type 0
LeavesPrunedLinesFromNumber policy earlier n spots lines g = KeepsLinesUpToSpots g earlier × ArePrunedLines policy.walk.lines n lines (mapped_lines_at_spots g spots lines)

removals_from_number_leave_pruned_lines : LawsBehindPrunes → ParsedLinesAreToldByTexts → (policy : LoadedPolicy) → policy_or_load_fault (named_files_of_policy policy) ≡ Ok policy → (n : ℕ) (earlier spots : List WalkLineSpot) (lines : List Line)
    → policy.walk.spots ≡ earlier ++ spots → length earlier ≡ n → AreLinesAtSpots policy.files spots lines
    → AllByRecursion (λ (at : WalkLineSpot). is_file_on_walk policy.walk at.file ≡ true) spots → AreAscendingSpots earlier spots
    → IsMappedOutcomeOrBadSplice policy (LeavesPrunedLinesFromNumber policy earlier n spots lines) (policy_after_removals (removals_from_line_number policy.walk n lines) policy)
removals_from_number_leave_pruned_lines l tell policy loaded n earlier [] [] are count stand on ascend = (identity_line_mapping, policy_is_mapped_from_itself policy loaded, (identity_mapping_keeps_lines_up_to_spots earlier, refl))
removals_from_number_leave_pruned_lines l tell policy loaded n earlier [] (line ∷ lines) are count stand on ascend = absurd stand
removals_from_number_leave_pruned_lines l tell policy loaded n earlier (at ∷ spots) [] are count stand on ascend = absurd stand
removals_from_number_leave_pruned_lines l tell policy loaded n earlier (at ∷ spots) (line ∷ lines) are count stand on ascend =
    let w : WalkState = policy.walk in
    let here : WalkLineSpot → List PruneRemoval = λ s. removals_of_line s (length (definitions_in_line n line.node)) (filter (is_unused w.lines) (definitions_in_line n line.node)) in
    let spot : spot_of_walk_line w n ≡ at =
    ap (λ ss. slice_index_or ss n (record { file = 0; line = 0; row = 1 })) are ∙ spot_behind_earlier_spots_is_numbered earlier at spots n (record { file = 0; line = 0; row = 1 }) count in
    let P : LineToLinesMapping → Type 0 = LeavesPrunedLinesFromNumber policy (earlier ++ at ∷ []) (n + 1) spots lines in
    let Q : LineToLinesMapping → Type 0 = LeavesPrunedLinesFromNumber policy earlier n (at ∷ spots) (line ∷ lines) in
    let others : AreOtherSpots at spots = spots_behind_spot_are_other at (earlier ++ at ∷ []) spots (λ S all. (property_of_joined_list_holds_of_both S earlier (at ∷ []) all).1.0) ascend.1 in
    subst (IsMappedOutcomeOrBadSplice policy Q) (sym (removals_of_joined_lists_are_sequenced (removals_from_line_number w (n + 1) lines) (here (spot_of_walk_line w n)) policy))
    (subst (λ s. IsMappedOutcomeOrBadSplice policy Q (edit_result_and_then (policy_after_removals (removals_from_line_number w (n + 1) lines) policy) (policy_after_removals (here s)))) (sym spot)
    (mapped_outcomes_are_sequenced policy P Q (policy_after_removals (removals_from_line_number w (n + 1) lines) policy) (policy_after_removals (here at))
    (removals_from_number_leave_pruned_lines l tell policy loaded (n + 1) (earlier ++ at ∷ []) spots lines (are ∙ sym (append_assoc earlier (at ∷ []) spots))
    (omega (arith, length-append earlier (at ∷ []), count)) stand.1 on.1 ascend.1)
    (λ now g stage p.
    let parts = property_of_joined_list_holds_of_both (λ (s : WalkLineSpot). KeepsLinesBefore g s.file (s.line + 1)) earlier (at ∷ []) p.0 in
    mapped_outcome_implies_weaker_outcome policy (IsLeftOfPrunedLine w.lines n line at.file at.line g) Q (policy_after_removals (here at) now)
    (prune_of_walk_line_leaves_pruned_line l tell policy now g w.lines n line at loaded on.0 stand.0.is_line stage parts.1.0 line.node refl)
    (λ h q. (
      change_of_later_line_keeps_earlier_lines g h at earlier q.1 ascend.0 parts.0,
      (
        h at.file at.line line,
        mapped_lines_at_spots h spots lines,
        refl,
        q.0,
        subst (ArePrunedLines w.lines (n + 1) lines) (sym (line_change_keeps_mapping_at_other_spots g h at spots lines q.1 others)) p.1,
      ),
    )))))

-- ---- a prune

pub step_of_prune_has_pruned_outcome : LawsBehindPrunes → ParsedLinesAreToldByTexts → (policy : LoadedPolicy) → policy_or_load_fault (named_files_of_policy policy) ≡ Ok policy → walk_or_fault_of_files policy.files ≡ Ok policy.walk
    → IsMappedOutcomeOrBadSplice policy (LeavesPrunedLinesFromNumber policy [] 0 policy.walk.spots policy.walk.lines) (step Prune policy)
unfolding prune_removals_of_walk
step_of_prune_has_pruned_outcome l tell policy loaded walk =
    let ordered : IsOrderedWalk policy.walk = walk_of_files_is_ordered policy.files policy.walk walk in
    removals_from_number_leave_pruned_lines l tell policy loaded 0 [] policy.walk.spots policy.walk.lines refl refl (l.stand (named_files_of_policy policy) policy loaded) ordered.on ordered.ascend

pub refused_prune_is_bad_splice : LawsBehindPrunes → ParsedLinesAreToldByTexts → (policy : LoadedPolicy) (fault : EditFault) → policy_or_load_fault (named_files_of_policy policy) ≡ Ok policy → walk_or_fault_of_files policy.files ≡ Ok policy.walk
    → step Prune policy ≡ Err fault → fault ≡ BadSplice
refused_prune_is_bad_splice l tell policy fault loaded walk is =
    subst (IsMappedOutcomeOrBadSplice policy (LeavesPrunedLinesFromNumber policy [] 0 policy.walk.spots policy.walk.lines)) is (step_of_prune_has_pruned_outcome l tell policy loaded walk)

abbrev pub WalkOfMappedFilesIsMapped : Type 0
WalkOfMappedFilesIsMapped = (g : LineToLinesMapping) (files others : List ParsedFile) (w other : WalkState) → walk_or_fault_of_files files ≡ Ok w → AreFilesMapped g files others w
    → walk_or_fault_of_files others ≡ Ok other → IsMappedWalk g w other

pub accepted_prune_leaves_pruned_lines : LawsBehindPrunes → ParsedLinesAreToldByTexts → WalkOfMappedFilesIsMapped → (policy new : LoadedPolicy) → policy_or_load_fault (named_files_of_policy policy) ≡ Ok policy
    → ((now : LoadedPolicy) → policy_or_load_fault (named_files_of_policy now) ≡ Ok now → walk_or_fault_of_files now.files ≡ Ok now.walk) → step Prune policy ≡ Ok new
    → ArePrunedLines policy.walk.lines 0 policy.walk.lines new.walk.lines
accepted_prune_leaves_pruned_lines l tell agree policy new loaded walk is =
    let w : WalkState = policy.walk in
    let c : IsMappedOutcomeOrBadSplice policy (LeavesPrunedLinesFromNumber policy [] 0 w.spots w.lines) (Ok new) =
    subst (IsMappedOutcomeOrBadSplice policy (LeavesPrunedLinesFromNumber policy [] 0 w.spots w.lines)) is (step_of_prune_has_pruned_outcome l tell policy loaded (walk policy loaded)) in
    let stage : IsPolicyOfMappedLines policy new c.0 = c.1 in
    let mapped : AreFilesMapped c.0 policy.files new.files w =
    record {
      names = stage.names;
      lines = λ f on. stage.lines f;
      parse = λ f on. faultless_files_have_no_numbered_fault new.files f (l.parse (named_files_of_policy new) new stage.loaded);
      leads = stage.leads;
    } in
    subst (ArePrunedLines w.lines 0 w.lines) (sym (agree c.0 policy.files new.files w new.walk (walk policy loaded) mapped (walk new stage.loaded)).lines) c.2.1
