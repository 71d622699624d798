-- What a prune takes out of each file goes from its last line to its first.
use Rattle.sudoers_edit.proofs.Common.{AllByRecursion, AreRemovalsBelowLimitsInTurn, AreLinesAtSpots, Bool, IsAliasLineOnWalk, Line, List, LoadedPolicy, Node, Ok, ParsedFile, PlacedDefinition, PruneRemoval, Some, WalkLineSpot}
use Rattle.sudoers_edit.proofs.Common.{WalkState, [], ap, append-nil, append_assoc, arith, definitions_in_line, eq-eqb, eqb-true, false, filter, if◌then◌else◌, inl, inr, is_file_on_walk, is_line_cut_by_removal}
use Rattle.sudoers_edit.proofs.Common.{is_unused, length, length-append, limits_with_limit_of_file_set, lines_of_numbered_file, map, prune_removals_of_walk, refl, removals_from_line_number, removals_of_line, reverse}
use Rattle.sudoers_edit.proofs.Common.{slice_get, slice_index_or, spot_of_walk_line, subst, sym, true, walk_or_fault_of_files, ℕ, ◌++◌, ◌+◌, ◌<◌, ◌==◌, ◌∙◌, ◌∷◌, ◌≡◌, ◌⊎◌}
use Rattle.sudoers_grammar.specs.Node as node
use Rattle.sudoers_edit.specs.declared.prune_removals.PruneRemoval.TheVariants as removal
use Rattle.sudoers_edit.proofs.PrunePlaces.{number_of_found_item_is_below_length}
use Rattle.sudoers_edit.proofs.PruneWalk.{AreAscendingSpots, IsEarlierInSameFile, IsOrderedWalk, walk_of_files_is_ordered}

-- Each of these spots is of a line below the number of its file.
abbrev AreSpotsBelowFileLimits : (ℕ → ℕ) → List WalkLineSpot → Type 0
AreSpotsBelowFileLimits below spots = AllByRecursion (λ (at : WalkLineSpot). at.line < below at.file) spots

-- The removals may go where nothing of these spots is changed.
abbrev AreAllowedBehindSpots : LoadedPolicy → List WalkLineSpot → List PruneRemoval → Type 0
AreAllowedBehindSpots policy earlier rest = (below : ℕ → ℕ) (cut : ℕ → ℕ → Bool) → AreSpotsBelowFileLimits below earlier → AreRemovalsBelowLimitsInTurn policy below cut rest

pub property_of_joined_list_holds_of_both : {X : Type 0} (P : X → Type 0) (xs ys : List X) → AllByRecursion P (xs ++ ys) → AllByRecursion P xs × AllByRecursion P ys
property_of_joined_list_holds_of_both P [] ys a = (tt, a)
property_of_joined_list_holds_of_both P (x ∷ xs) ys a = let rest = property_of_joined_list_holds_of_both P xs ys a.1 in ((a.0, rest.0), rest.1)

-- spots before a line that goes
lowered_limit_keeps_earlier_spots_below : (at : WalkLineSpot) (below : ℕ → ℕ) (earlier : List WalkLineSpot) → AllByRecursion (IsEarlierInSameFile at) earlier → AreSpotsBelowFileLimits below earlier
    → AreSpotsBelowFileLimits (limits_with_limit_of_file_set at.file at.line below) earlier
lowered_limit_keeps_earlier_spots_below at below [] before under = tt
lowered_limit_keeps_earlier_spots_below at below (s ∷ earlier) before under = (by (s.file == at.file) refl, lowered_limit_keeps_earlier_spots_below at below earlier before.1 under.1)
  where
    by : (b : Bool) → (s.file == at.file) ≡ b → s.line < (if s.file == at.file then at.line else below s.file)
    by true is = rw is (before.0 (eqb-true s.file at.file is))
    by false is = rw is under.0

-- ---- one line

removals_of_definitions_are_allowed : (policy : LoadedPolicy) (earlier : List WalkLineSpot) (at : WalkLineSpot) (rest : List PruneRemoval) → IsAliasLineOnWalk policy at.file at.line → AllByRecursion (IsEarlierInSameFile at) earlier
    → AreAllowedBehindSpots policy earlier rest → (ds : List PlacedDefinition) (below : ℕ → ℕ) (cut : ℕ → ℕ → Bool) → AreSpotsBelowFileLimits below earlier
    → (at.line < below at.file) ⊎ (cut at.file at.line ≡ true)
    → AreRemovalsBelowLimitsInTurn policy below cut (map (λ (d : PlacedDefinition). removal.Def at.file at.line d.place.def) ds ++ rest)
removals_of_definitions_are_allowed policy earlier at rest alias before next [] below cut under may = next below cut under
removals_of_definitions_are_allowed policy earlier at rest alias before next (d ∷ ds) below cut under may =
    let same : is_line_cut_by_removal (removal.Def at.file at.line d.place.def) at.file at.line ≡ true =
    rw (eq-eqb at.file at.file refl, eq-eqb at.line at.line refl) refl in (
      (may, alias),
      removals_of_definitions_are_allowed policy earlier at rest alias before next ds (limits_with_limit_of_file_set at.file at.line below) (is_line_cut_by_removal (removal.Def at.file at.line d.place.def))
          (lowered_limit_keeps_earlier_spots_below at below earlier before under) (inr same),
    )

removals_of_line_are_allowed_behind_spots : (policy : LoadedPolicy) (earlier : List WalkLineSpot) (at : WalkLineSpot) (count : ℕ) (unused : List PlacedDefinition) (rest : List PruneRemoval) → IsAliasLineOnWalk policy at.file at.line
    → AllByRecursion (IsEarlierInSameFile at) earlier → AreAllowedBehindSpots policy earlier rest → AreAllowedBehindSpots policy (earlier ++ at ∷ []) (removals_of_line at count unused ++ rest)
removals_of_line_are_allowed_behind_spots policy earlier at count unused rest alias before next below cut under = by (length unused == 0) (length unused == count)
  where
    parts : AreSpotsBelowFileLimits below earlier × AreSpotsBelowFileLimits below (at ∷ [])
    parts = property_of_joined_list_holds_of_both (λ (s : WalkLineSpot). s.line < below s.file) earlier (at ∷ []) under

    by : (none all : Bool) → AreRemovalsBelowLimitsInTurn policy below cut ((if none then [] else (if all then removal.Line at.file at.line ∷ []
        else map (λ (d : PlacedDefinition). removal.Def at.file at.line d.place.def) (reverse unused))) ++ rest)
    by true all = next below cut parts.0
    by false true =
        ((parts.1.0, alias), next (limits_with_limit_of_file_set at.file at.line below) (is_line_cut_by_removal (removal.Line at.file at.line)) (lowered_limit_keeps_earlier_spots_below at below earlier before parts.0))
    by false false = removals_of_definitions_are_allowed policy earlier at rest alias before next (reverse unused) below cut parts.0 (inl parts.1.0)

-- a line that defines nothing
spot_without_removal_keeps_allowed_removals : (policy : LoadedPolicy) (earlier : List WalkLineSpot) (at : WalkLineSpot) (rest : List PruneRemoval) → AreAllowedBehindSpots policy earlier rest → AreAllowedBehindSpots policy (earlier ++ at ∷ []) rest
spot_without_removal_keeps_allowed_removals policy earlier at rest next below cut under = next below cut (property_of_joined_list_holds_of_both (λ (s : WalkLineSpot). s.line < below s.file) earlier (at ∷ []) under).0

removals_of_definition_line_are_allowed : (policy : LoadedPolicy) (earlier : List WalkLineSpot) (at : WalkLineSpot) (n : ℕ) (test : PlacedDefinition → Bool) (line : Line) (rest : List PruneRemoval) → is_file_on_walk policy.walk at.file ≡ true
    → slice_get (lines_of_numbered_file policy.files at.file) at.line ≡ Some line → AllByRecursion (IsEarlierInSameFile at) earlier → AreAllowedBehindSpots policy earlier rest
    → (says : Node) → line.node ≡ says
    → AreAllowedBehindSpots policy (earlier ++ at ∷ []) (removals_of_line at (length (definitions_in_line n says)) (filter test (definitions_in_line n says)) ++ rest)
removals_of_definition_line_are_allowed policy earlier at n test line rest on here before next (node.Alias k defs) makes =
    removals_of_line_are_allowed_behind_spots policy earlier at (length (definitions_in_line n (node.Alias k defs))) (filter test (definitions_in_line n (node.Alias k defs))) rest
    (record { on = on; line = line; here = here; kind = k; defs = defs; makes = makes }) before next
removals_of_definition_line_are_allowed policy earlier at n test line rest on here before next node.Blank makes = spot_without_removal_keeps_allowed_removals policy earlier at rest next
removals_of_definition_line_are_allowed policy earlier at n test line rest on here before next node.Comment makes = spot_without_removal_keeps_allowed_removals policy earlier at rest next
removals_of_definition_line_are_allowed policy earlier at n test line rest on here before next (node.Include dir path) makes = spot_without_removal_keeps_allowed_removals policy earlier at rest next
removals_of_definition_line_are_allowed policy earlier at n test line rest on here before next (node.Defaults scope params) makes = spot_without_removal_keeps_allowed_removals policy earlier at rest next
removals_of_definition_line_are_allowed policy earlier at n test line rest on here before next (node.Spec users groups) makes = spot_without_removal_keeps_allowed_removals policy earlier at rest next

-- ---- all lines

pub spot_behind_earlier_spots_is_numbered : (earlier : List WalkLineSpot) (at : WalkLineSpot) (spots : List WalkLineSpot) (n : ℕ) (other : WalkLineSpot) → length earlier ≡ n → slice_index_or (earlier ++ at ∷ spots) n other ≡ at
spot_behind_earlier_spots_is_numbered [] at spots n other is = ap (λ m. slice_index_or (at ∷ spots) m other) (sym is)
spot_behind_earlier_spots_is_numbered (s ∷ earlier) at spots n other is =
    ap (λ m. slice_index_or (s ∷ (earlier ++ at ∷ spots)) m other) (sym is) ∙ spot_behind_earlier_spots_is_numbered earlier at spots (length earlier) other refl

removals_from_line_number_are_allowed : (policy : LoadedPolicy) (n : ℕ) (earlier spots : List WalkLineSpot) (lines : List Line) (rest : List PruneRemoval) → policy.walk.spots ≡ earlier ++ spots → length earlier ≡ n
    → AreLinesAtSpots policy.files spots lines → AllByRecursion (λ (at : WalkLineSpot). is_file_on_walk policy.walk at.file ≡ true) spots → AreAscendingSpots earlier spots → AreAllowedBehindSpots policy earlier rest
    → AreAllowedBehindSpots policy (earlier ++ spots) (removals_from_line_number policy.walk n lines ++ rest)
removals_from_line_number_are_allowed policy n earlier [] [] rest are count stand on ascend next = subst (λ ss. AreAllowedBehindSpots policy ss rest) (sym (append-nil earlier)) next
removals_from_line_number_are_allowed policy n earlier [] (line ∷ lines) rest are count stand on ascend next = absurd stand
removals_from_line_number_are_allowed policy n earlier (at ∷ spots) [] rest are count stand on ascend next = absurd stand
removals_from_line_number_are_allowed policy n earlier (at ∷ spots) (line ∷ lines) rest are count stand on ascend next =
    let w : WalkState = policy.walk in
    let test : PlacedDefinition → Bool = is_unused w.lines in
    let here : List PruneRemoval = removals_of_line at (length (definitions_in_line n line.node)) (filter test (definitions_in_line n line.node)) in
    let spot : spot_of_walk_line w n ≡ at =
    ap (λ ss. slice_index_or ss n (record { file = 0; line = 0; row = 1 })) are ∙ spot_behind_earlier_spots_is_numbered earlier at spots n (record { file = 0; line = 0; row = 1 }) count in
    let both : AreAllowedBehindSpots policy ((earlier ++ at ∷ []) ++ spots) (removals_from_line_number w (n + 1) lines ++ (here ++ rest)) =
    removals_from_line_number_are_allowed policy (n + 1) (earlier ++ at ∷ []) spots lines (here ++ rest) (are ∙ sym (append_assoc earlier (at ∷ []) spots))
    (omega (arith, length-append earlier (at ∷ []), count)) stand.1 on.1 ascend.1
    (removals_of_definition_line_are_allowed policy earlier at n test line rest on.0 stand.0.is_line ascend.0 next line.node refl) in
    subst (λ (s : WalkLineSpot). AreAllowedBehindSpots policy (earlier ++ at ∷ spots)
    ((removals_from_line_number w (n + 1) lines ++ removals_of_line s (length (definitions_in_line n line.node)) (filter test (definitions_in_line n line.node))) ++ rest)) (sym spot)
    (subst (λ ss. AreAllowedBehindSpots policy ss ((removals_from_line_number w (n + 1) lines ++ here) ++ rest)) (append_assoc earlier (at ∷ []) spots)
    (subst (AreAllowedBehindSpots policy ((earlier ++ at ∷ []) ++ spots)) (sym (append_assoc (removals_from_line_number w (n + 1) lines) here rest)) both))

spots_of_files_are_below_line_counts : (files : List ParsedFile) (spots : List WalkLineSpot) (lines : List Line) → AreLinesAtSpots files spots lines → AreSpotsBelowFileLimits (λ f. length (lines_of_numbered_file files f)) spots
spots_of_files_are_below_line_counts files [] [] stand = tt
spots_of_files_are_below_line_counts files [] (line ∷ lines) stand = absurd stand
spots_of_files_are_below_line_counts files (at ∷ spots) [] stand = absurd stand
spots_of_files_are_below_line_counts files (at ∷ spots) (line ∷ lines) stand =
    (number_of_found_item_is_below_length (lines_of_numbered_file files at.file) at.line line stand.0.is_line, spots_of_files_are_below_line_counts files spots lines stand.1)

pub prune_removals_of_walk_are_allowed : (policy : LoadedPolicy) → AreLinesAtSpots policy.files policy.walk.spots policy.walk.lines → walk_or_fault_of_files policy.files ≡ Ok policy.walk
    → AreRemovalsBelowLimitsInTurn policy (λ f. length (lines_of_numbered_file policy.files f)) (λ f n. false) (prune_removals_of_walk policy.walk)
unfolding prune_removals_of_walk
prune_removals_of_walk_are_allowed policy stand walk =
    let ordered : IsOrderedWalk policy.walk = walk_of_files_is_ordered policy.files policy.walk walk in
    subst (AreRemovalsBelowLimitsInTurn policy (λ f. length (lines_of_numbered_file policy.files f)) (λ f n. false)) (append-nil (removals_from_line_number policy.walk 0 policy.walk.lines))
    (removals_from_line_number_are_allowed policy 0 [] policy.walk.spots policy.walk.lines [] refl refl stand ordered.on ordered.ascend (λ below cut under. tt)
    (λ f. length (lines_of_numbered_file policy.files f)) (λ f n. false) (spots_of_files_are_below_line_counts policy.files policy.walk.spots policy.walk.lines stand))
