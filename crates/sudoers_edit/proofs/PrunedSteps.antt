-- What comes of one removal, and of those of one line.
use Rattle.sudoers_edit.proofs.Common.{BadSplice, Bool, CanRemoveDefinition, CanRemoveLine, Def, EditFault, Err, IsDefinitionCut, Kind, Line, LineToLinesMapping, List, LoadedPolicy, Node, None, Ok, PlacedDefinition}
use Rattle.sudoers_edit.proofs.Common.{LawsBehindPrunes, PruneRemoval, Result, Some, [], ap, append_assoc, ap₂, are_lists_alike, arith, definitions_from_place, edit_result_and_then, false, filter, has_one_item_more}
use Rattle.sudoers_edit.proofs.Common.{if◌then◌else◌, is_file_on_walk, is_same_def, lead_of_parsed_line, length, length-append, lines_of_numbered_file, lines_with_one_replaced, map, map-append}
use Rattle.sudoers_edit.proofs.Common.{mapped_lines_from_number, named_files_of_policy, not, policy_after_removal, policy_after_removals, policy_or_load_fault, refl, remove, reverse, reverse-append, slice_get, subst}
use Rattle.sudoers_edit.proofs.Common.{sym, texts_of_lines, true, ℕ, ◌++◌, ◌+◌, ◌∙◌, ◌∷◌, ◌≡◌, ◌≤◌}
use Rattle.sudoers_grammar.specs.Node as node
use Rattle.sudoers_edit.specs.declared.extra_item.ItemListKind.TheVariants as among
use Rattle.sudoers_edit.specs.declared.prune_removals.PruneRemoval.TheVariants as removal
use Rattle.sudoers_edit.proofs.DropDef.{ReadsWithoutOneDefinition, line_with_one_less_reads_without_definition}
use Rattle.sudoers_edit.proofs.Whole.{item_behind_front_is_at_front_length}
use Rattle.sudoers_edit.proofs.PruneGoes.{IsSplitAtLine, leadless_line_can_be_removed, replacement_behind_front_sets_line_text, single_reading_is_reading_of_text, lines_are_split_at_numbered_line, removal_behind_front_leaves_other_texts}
use Rattle.sudoers_edit.proofs.PruneOut.{file_on_walk_is_on_equal_walk}
use Rattle.sudoers_edit.proofs.PruneRefused.{IsDropOutcome, drop_among_several_has_outcome, gone, refused}
use Rattle.sudoers_edit.proofs.PrunedAlike.{alike_lists_have_equal_length, definitions_alikeness_is_transitive, removal_keeps_alike_lists, removal_behind_front_leaves_front_and_rest}
use Rattle.sudoers_edit.proofs.PrunedStage.{KeepsLinesBefore, IsPolicyOfMappedLines, ParsedLinesAreToldByTexts, mapped_file_lines_are_split_at_line, mapping_with_line_renewed, renewed_line_is_mapped_to_new_lines, other_line_is_mapped_as_before, renewed_line_makes_policy_of_mapped_lines}

-- the policy is at a stage of which this holds, or the refusal is for a splice
abbrev pub IsMappedOutcomeOrBadSplice : LoadedPolicy → (LineToLinesMapping → Type 0) → Result LoadedPolicy EditFault → Type 0
IsMappedOutcomeOrBadSplice policy P (Ok now) = (g : LineToLinesMapping) × IsPolicyOfMappedLines policy now g × P g
IsMappedOutcomeOrBadSplice policy P (Err fault) = fault ≡ BadSplice

pub mapped_outcomes_are_sequenced : (policy : LoadedPolicy) (P Q : LineToLinesMapping → Type 0) (r : Result LoadedPolicy EditFault) (next : LoadedPolicy → Result LoadedPolicy EditFault) → IsMappedOutcomeOrBadSplice policy P r
    → ((now : LoadedPolicy) (g : LineToLinesMapping) → IsPolicyOfMappedLines policy now g → P g → IsMappedOutcomeOrBadSplice policy Q (next now)) → IsMappedOutcomeOrBadSplice policy Q (edit_result_and_then r next)
mapped_outcomes_are_sequenced policy P Q (Ok now) next a more = more now a.0 a.1 a.2
mapped_outcomes_are_sequenced policy P Q (Err fault) next a more = a

pub mapped_outcome_implies_weaker_outcome : (policy : LoadedPolicy) (P Q : LineToLinesMapping → Type 0) (r : Result LoadedPolicy EditFault) → IsMappedOutcomeOrBadSplice policy P r → ((g : LineToLinesMapping) → P g → Q g) → IsMappedOutcomeOrBadSplice policy Q r
mapped_outcome_implies_weaker_outcome policy P Q (Ok now) a more = (a.0, a.1, more a.0 a.2)
mapped_outcome_implies_weaker_outcome policy P Q (Err fault) a more = a

pub removals_of_joined_lists_are_sequenced : (xs ys : List PruneRemoval) (now : LoadedPolicy) → policy_after_removals (xs ++ ys) now ≡ edit_result_and_then (policy_after_removals xs now) (policy_after_removals ys)
removals_of_joined_lists_are_sequenced [] ys now = refl
removals_of_joined_lists_are_sequenced (x ∷ xs) ys now = by (policy_after_removal x now) (removals_of_joined_lists_are_sequenced xs ys)
  where
    by : (r : Result LoadedPolicy EditFault) → ((next : LoadedPolicy) → policy_after_removals (xs ++ ys) next ≡ edit_result_and_then (policy_after_removals xs next) (policy_after_removals ys))
        → edit_result_and_then r (policy_after_removals (xs ++ ys)) ≡ edit_result_and_then (edit_result_and_then r (policy_after_removals xs)) (policy_after_removals ys)
    by (Ok next) later = later next
    by (Err fault) later = refl

removals_of_one_are_that_removal : (one : PruneRemoval) (now : LoadedPolicy) → policy_after_removals (one ∷ []) now ≡ policy_after_removal one now
removals_of_one_are_that_removal one now = by (policy_after_removal one now)
  where
    by : (r : Result LoadedPolicy EditFault) → edit_result_and_then r (policy_after_removals []) ≡ r
    by (Ok next) = refl
    by (Err fault) = refl

-- ---- one removal

-- A line of definitions of a file on the walk of a policy.
pub record IsLeadlessLineOnWalk (policy : LoadedPolicy) (f n : ℕ) (line : Line) : Type 0 where
  pub loaded : policy_or_load_fault (named_files_of_policy policy) ≡ Ok policy
  pub on : is_file_on_walk policy.walk f ≡ true
  pub here : slice_get (lines_of_numbered_file policy.files f) n ≡ Some line
  pub nowhere : (name : List ℕ) → lead_of_parsed_line name line.node ≡ None

-- two mappings agree on each other line
abbrev pub AgreeOnOtherLines : LineToLinesMapping → LineToLinesMapping → ℕ → ℕ → Type 0
AgreeOnOtherLines g h f n = (e m : ℕ) (line : Line) → ((e ≡ f) → (m ≡ n) → ⊥) → h e m line ≡ g e m line

-- the line that has come of this one stands in its place
line_mapped_to_one_stays_in_place : (policy now : LoadedPolicy) (g : LineToLinesMapping) (f n : ℕ) (line cur : Line) → IsLeadlessLineOnWalk policy f n line → IsPolicyOfMappedLines policy now g → KeepsLinesBefore g f n → g f n line ≡ cur ∷ []
    → slice_get (lines_of_numbered_file now.files f) n ≡ Some cur
line_mapped_to_one_stays_in_place policy now g f n line cur s stage kept is =
    let c : IsSplitAtLine (lines_of_numbered_file policy.files f) n line = lines_are_split_at_numbered_line (lines_of_numbered_file policy.files f) n line s.here in
    let rest : List Line = mapped_lines_from_number g f (n + 1) c.after in
    ap (λ ls. slice_get ls n) (mapped_file_lines_are_split_at_line policy now g f n line c stage kept ∙ ap (λ (xs : List Line). c.front ++ (xs ++ rest)) is)
    ∙ ap (slice_get (c.front ++ cur ∷ rest)) (sym c.place) ∙ item_behind_front_is_at_front_length c.front cur rest

pub line_removal_has_mapped_outcome : LawsBehindPrunes → ParsedLinesAreToldByTexts → (policy now : LoadedPolicy) (g : LineToLinesMapping) (f n : ℕ) (line : Line) → IsLeadlessLineOnWalk policy f n line → IsPolicyOfMappedLines policy now g → KeepsLinesBefore g f n
    → g f n line ≡ line ∷ [] → IsMappedOutcomeOrBadSplice policy (λ h. (h f n line ≡ []) × AgreeOnOtherLines g h f n) (policy_after_removals (removal.Line f n ∷ []) now)
line_removal_has_mapped_outcome l tell policy now g f n line s stage kept is =
    subst (IsMappedOutcomeOrBadSplice policy (λ h. (h f n line ≡ []) × AgreeOnOtherLines g h f n)) (sym (removals_of_one_are_that_removal (removal.Line f n) now ∙ goes.made.forth))
    (mapping_with_line_renewed g f n [], next, (renewed_line_is_mapped_to_new_lines g f n [] line, λ e m x other. other_line_is_mapped_as_before g f n [] e m x other))
  where
    goes : CanRemoveLine f n now
    goes = leadless_line_can_be_removed l now f n line stage.loaded (file_on_walk_is_on_equal_walk policy now f stage.on s.on) (line_mapped_to_one_stays_in_place policy now g f n line line s stage kept is) s.nowhere

    next : IsPolicyOfMappedLines policy goes.next (mapping_with_line_renewed g f n [])
    next =
        renewed_line_makes_policy_of_mapped_lines tell l.said policy now goes.next g f n line [] (remove (texts_of_lines (lines_of_numbered_file now.files f)) n) s.here stage kept goes.left tt s.nowhere (λ name. tt)
        (λ front after was place.
        ap₂ (λ ls m. remove (texts_of_lines ls) m) (was ∙ ap (λ (xs : List Line). front ++ (xs ++ after)) is) (sym place) ∙ removal_behind_front_leaves_other_texts front line after)

-- Of the line a line with these definitions has come, or with such as are alike.
pub record HasAlikeDefinitionsLeft (g : LineToLinesMapping) (f n : ℕ) (line : Line) (k : Kind) (defs : List Def) : Type 0 where
  pub cur : Line
  pub left : List Def
  pub is : g f n line ≡ cur ∷ []
  pub makes : cur.node ≡ node.Alias k left
  pub alike : are_lists_alike is_same_def defs left ≡ true

abbrev pub LeavesAlikeDefinitionsInLine : LineToLinesMapping → ℕ → ℕ → Line → Kind → List Def → LineToLinesMapping → Type 0
LeavesAlikeDefinitionsInLine g f n line k defs h = HasAlikeDefinitionsLeft h f n line k defs × AgreeOnOtherLines g h f n

pub definition_removal_has_mapped_outcome : LawsBehindPrunes → ParsedLinesAreToldByTexts → (policy now : LoadedPolicy) (g : LineToLinesMapping) (f n : ℕ) (line : Line) (k : Kind) (front : List Def) (d : Def) (rest : List Def)
    → IsLeadlessLineOnWalk policy f n line → IsPolicyOfMappedLines policy now g → KeepsLinesBefore g f n → HasAlikeDefinitionsLeft g f n line k (front ++ d ∷ rest) → 1 ≤ length front + length rest
    → IsMappedOutcomeOrBadSplice policy (LeavesAlikeDefinitionsInLine g f n line k (front ++ rest)) (policy_after_removals (removal.Def f n (length front) ∷ []) now)
definition_removal_has_mapped_outcome l tell policy now g f n line k front d rest s stage kept has many =
    by (drop_among_several_has_outcome l now f n at has.cur k has.left stage.loaded (file_on_walk_is_on_equal_walk policy now f stage.on s.on) here has.makes (omega (arith, count)) (omega (arith, count, many)))
  where
    at : ℕ
    at = length front

    P : LineToLinesMapping → Type 0
    P = LeavesAlikeDefinitionsInLine g f n line k (front ++ rest)

    here : slice_get (lines_of_numbered_file now.files f) n ≡ Some has.cur
    here = line_mapped_to_one_stays_in_place policy now g f n line has.cur s stage kept has.is

    count : length has.left ≡ length front + 1 + length rest
    count = omega (arith, alike_lists_have_equal_length is_same_def (front ++ d ∷ rest) has.left has.alike, length-append front (d ∷ rest))

    by_cut : (text splice : List ℕ) → (d : IsDefinitionCut n at (lines_of_numbered_file now.files f) has.cur text splice) → CanRemoveDefinition f n at now text splice
        → IsMappedOutcomeOrBadSplice policy P (policy_after_removals (removal.Def f n at ∷ []) now)
    by_cut text splice d goes =
        let new : Line = record { text = text; node = d.cut.new } in
        let less : ReadsWithoutOneDefinition k has.left at d.cut.new =
        line_with_one_less_reads_without_definition k has.left at d.from d.to d.cut.new
        (subst (λ (m : Node). has_one_item_more among.Definitions at d.from d.to (Some m) (Some d.cut.new) ≡ true) has.makes d.cut.more) in
        let alike : are_lists_alike is_same_def (front ++ rest) less.less ≡ true =
        definitions_alikeness_is_transitive (front ++ rest) (remove has.left at) less.less
        (subst (λ (ds : List Def). are_lists_alike is_same_def ds (remove has.left at) ≡ true) (removal_behind_front_leaves_front_and_rest front _ rest)
        (removal_keeps_alike_lists is_same_def _ has.left at has.alike)) less.alike in
        let next : IsPolicyOfMappedLines policy goes.next (mapping_with_line_renewed g f n (new ∷ [])) =
        renewed_line_makes_policy_of_mapped_lines tell l.said policy now goes.next g f n line (new ∷ []) (lines_with_one_replaced n text (texts_of_lines (lines_of_numbered_file now.files f))) s.here stage kept goes.left
        (single_reading_is_reading_of_text text d.cut.new (l.outcome text) d.cut.says, tt) s.nowhere (λ name. (ap (lead_of_parsed_line name) less.is, tt))
        (λ front after was place.
        ap₂ (λ ls m. lines_with_one_replaced m text (texts_of_lines ls)) (was ∙ ap (λ (xs : List Line). front ++ (xs ++ after)) has.is) (sym place)
        ∙ replacement_behind_front_sets_line_text front has.cur new after) in
        subst (IsMappedOutcomeOrBadSplice policy P) (sym (removals_of_one_are_that_removal (removal.Def f n at) now ∙ goes.made.forth)) (
          mapping_with_line_renewed g f n (new ∷ []),
          next,
          (
            record { cur = new; left = less.less; is = renewed_line_is_mapped_to_new_lines g f n (new ∷ []) line; makes = less.is; alike = alike },
            λ e m x other. other_line_is_mapped_as_before g f n (new ∷ []) e m x other,
          ),
        )

    by : IsDropOutcome now f n at has.cur → IsMappedOutcomeOrBadSplice policy P (policy_after_removals (removal.Def f n at ∷ []) now)
    by (refused is) = subst (IsMappedOutcomeOrBadSplice policy P) (sym (removals_of_one_are_that_removal (removal.Def f n at) now ∙ is)) refl
    by (gone text splice d goes) = by_cut text splice d goes

-- ---- the definitions of a line

abbrev pub definitions_failing_test : (PlacedDefinition → Bool) → Kind → ℕ → ℕ → List Def → List Def
definitions_failing_test test k number i defs = map (λ (d : PlacedDefinition). d.def) (filter (λ d. not (test d)) (definitions_from_place k number i defs))

abbrev pub removals_of_definitions_passing_test : (PlacedDefinition → Bool) → ℕ → ℕ → Kind → ℕ → ℕ → List Def → List PruneRemoval
removals_of_definitions_passing_test test f n k number i defs = map (λ (d : PlacedDefinition). removal.Def f n d.place.def) (reverse (filter test (definitions_from_place k number i defs)))

pub definition_removals_have_mapped_outcome : LawsBehindPrunes → ParsedLinesAreToldByTexts → (policy now : LoadedPolicy) (g : LineToLinesMapping) (f n : ℕ) (line : Line) (test : PlacedDefinition → Bool) (k : Kind) (number i : ℕ)
    (front defs : List Def) → IsLeadlessLineOnWalk policy f n line → IsPolicyOfMappedLines policy now g → KeepsLinesBefore g f n → length front ≡ i → HasAlikeDefinitionsLeft g f n line k (front ++ defs)
    → 1 ≤ length front + length (definitions_failing_test test k number i defs)
    → IsMappedOutcomeOrBadSplice policy (LeavesAlikeDefinitionsInLine g f n line k (front ++ definitions_failing_test test k number i defs)) (policy_after_removals (removals_of_definitions_passing_test test f n k number i defs) now)
definition_removals_have_mapped_outcome l tell policy now g f n line test k number i front [] s stage kept place has many = (g, stage, (has, λ e m x other. refl))
definition_removals_have_mapped_outcome l tell policy now g f n line test k number i front (d ∷ defs) s stage kept place has many =
    by (test one) many
    (definition_removals_have_mapped_outcome l tell policy now g f n line test k number (i + 1) (front ++ d ∷ []) defs s stage kept (omega (arith, place, length-append front (d ∷ [])))
    (subst (HasAlikeDefinitionsLeft g f n line k) (sym (append_assoc front (d ∷ []) defs)) has) (omega (arith, length-append front (d ∷ []))))
  where
    one : PlacedDefinition
    one = record { kind = k; place = record { line = number; def = i }; def = d }

    ds : List PlacedDefinition
    ds = definitions_from_place k number (i + 1) defs

    drop : PlacedDefinition → PruneRemoval
    drop d = removal.Def f n d.place.def

    used : List Def
    used = definitions_failing_test test k number (i + 1) defs

    kept_too : (h : LineToLinesMapping) → AgreeOnOtherLines g h f n → KeepsLinesBefore h f n
    kept_too h same m x less = same f m x (λ a b. omega (arith, less, b)) ∙ kept m x less

    by : (b : Bool) → 1 ≤ length front + length (map (λ (d : PlacedDefinition). d.def) (if not b then one ∷ filter (λ d. not (test d)) ds else filter (λ d. not (test d)) ds))
        → IsMappedOutcomeOrBadSplice policy (LeavesAlikeDefinitionsInLine g f n line k ((front ++ d ∷ []) ++ used)) (policy_after_removals (map drop (reverse (filter test ds))) now)
        → IsMappedOutcomeOrBadSplice policy
        (LeavesAlikeDefinitionsInLine g f n line k (front ++ map (λ (d : PlacedDefinition). d.def) (if not b then one ∷ filter (λ d. not (test d)) ds else filter (λ d. not (test d)) ds)))
        (policy_after_removals (map drop (reverse (if b then one ∷ filter test ds else filter test ds))) now)
    by false some later =
        subst (λ (xs : List Def). IsMappedOutcomeOrBadSplice policy (LeavesAlikeDefinitionsInLine g f n line k xs) (policy_after_removals (map drop (reverse (filter test ds))) now)) (append_assoc front (d ∷ []) used) later
    by true some later =
        let split : map drop (reverse (one ∷ filter test ds)) ≡ map drop (reverse (filter test ds)) ++ removal.Def f n i ∷ [] =
        ap (map drop) (reverse-append (one ∷ []) (filter test ds)) ∙ map-append drop (reverse (filter test ds)) (one ∷ []) in
        subst (IsMappedOutcomeOrBadSplice policy (LeavesAlikeDefinitionsInLine g f n line k (front ++ used)))
        (sym (ap (λ rs. policy_after_removals rs now) split ∙ removals_of_joined_lists_are_sequenced (map drop (reverse (filter test ds))) (removal.Def f n i ∷ []) now))
        (mapped_outcomes_are_sequenced policy (LeavesAlikeDefinitionsInLine g f n line k ((front ++ d ∷ []) ++ used)) (LeavesAlikeDefinitionsInLine g f n line k (front ++ used)) (policy_after_removals (map drop (reverse (filter test ds))) now)
        (policy_after_removals (removal.Def f n i ∷ [])) later (λ next h after p.
        mapped_outcome_implies_weaker_outcome policy (LeavesAlikeDefinitionsInLine h f n line k (front ++ used)) (LeavesAlikeDefinitionsInLine g f n line k (front ++ used)) (policy_after_removals (removal.Def f n i ∷ []) next)
        (subst (λ m. IsMappedOutcomeOrBadSplice policy (LeavesAlikeDefinitionsInLine h f n line k (front ++ used)) (policy_after_removals (removal.Def f n m ∷ []) next)) place
        (definition_removal_has_mapped_outcome l tell policy next h f n line k front d used s after (kept_too h p.1) (subst (HasAlikeDefinitionsLeft h f n line k) (append_assoc front (d ∷ []) used) p.0) some))
        (λ j q. (q.0, λ e m x other. q.1 e m x other ∙ p.1 e m x other))))
