-- Lines of files are others, each with the lead of the old one: the lines of the walk stand where they stood.
use Rattle.sudoers_edit.proofs.Common.{Bool, Err, FileVisit, IncludeSite, Line, List, LoadFault, None, Ok, Option, ParsedFile, ReadFault, Result, Some, WalkLineSpot, WalkState, [], ap, definitions_in_line}
use Rattle.sudoers_edit.proofs.Common.{definitions_of_lines, empty_walk, false, fault_of_numbered_file, file_names, files_opened_by_lead, files_unless_missing_or_on_walk, files_unless_on_walk, first_definition_fault}
use Rattle.sudoers_edit.proofs.Common.{first_file_on_walk, if◌then◌else◌, include_depth_limit, include_site_of_line, is_file_on_walk, lead_of_file_line, lead_of_parsed_line, length, lines_of_numbered_file}
use Rattle.sudoers_edit.proofs.Common.{load_result_and_then, map, map-append, name_of_numbered_file, option_map, refl, repeated_include_fault, spot_of_file_line, subst, suc, sym, syntax_fault_as_read_fault, true}
use Rattle.sudoers_edit.proofs.Common.{value_unless_file_fault, walk_after_file_lines, walk_after_file_visit, walk_after_file_visits, walk_or_fault_of_files, walk_with_file_entered, walk_with_line_appended, zero, ℕ}
use Rattle.sudoers_edit.proofs.Common.{◌++◌, ◌+◌, ◌∙◌, ◌∷◌, ◌≡◌}
use Rattle.sudoers_tree.specs.declared.include_leads.Lead.{Lead}
use Rattle.sudoers_tree.specs.Targets.{targets_of_lead}
use Rattle.sudoers_tree.proofs.SameNames.{same_file_names_name_numbered_file_alike, same_targets}

abbrev WalkOutcome : Type 0
WalkOutcome = Result WalkState LoadFault

accepted_walk_is_given_walk : (w now : WalkState) → (let r : WalkOutcome = Ok w in r) ≡ Ok now → w ≡ now
accepted_walk_is_given_walk w now is = cc

-- STEPS OF A WALK

walk_with_line_at_spot : WalkLineSpot → Line → WalkState → WalkState
walk_with_line_at_spot at line w = record { lines = w.lines ++ line ∷ []; spots = w.spots ++ at ∷ []; on = w.on }

accepted_append_is_walk_with_line : (name : List ℕ) (at : WalkLineSpot) (line : Line) (w now : WalkState) → walk_with_line_appended name at line w ≡ Ok now → walk_with_line_at_spot at line w ≡ now
unfolding walk_with_line_at_spot
accepted_append_is_walk_with_line name at line w now is = by (first_definition_fault (definitions_of_lines w.lines) (definitions_in_line (length w.lines) line.node)) is
  where
    by : (o : Option ReadFault) → value_unless_file_fault name (walk_with_line_at_spot at line w) o ≡ Ok now → walk_with_line_at_spot at line w ≡ now
    by None e = accepted_walk_is_given_walk (walk_with_line_at_spot at line w) now e
    by (Some fault) e = absurd cc

-- one line of a walk without a fault
record IsLineStepOfWalk (walk : FileVisit) (files : List ParsedFile) (f n : ℕ) (line : Line) (lines : List Line) (w now : WalkState) : Type 0 where
  inner : List ℕ
  within : WalkState
  opens : files_opened_by_lead files (include_site_of_line files f n) (walk_with_line_at_spot (spot_of_file_line files f n) line w) (lead_of_file_line files f line) ≡ Ok inner
  enters : walk_after_file_visits walk files (include_site_of_line files f n) inner (walk_with_line_at_spot (spot_of_file_line files f n) line w) ≡ Ok within
  rest : walk_after_file_lines walk files f (n + 1) lines within ≡ Ok now

accepted_walk_has_step_of_line : (walk : FileVisit) (files : List ParsedFile) (f n : ℕ) (line : Line) (lines : List Line) (w now : WalkState)
    → walk_after_file_lines walk files f n (line ∷ lines) w ≡ Ok now → IsLineStepOfWalk walk files f n line lines w now
accepted_walk_has_step_of_line walk files f n line lines w now is = by_taken (walk_with_line_appended (name_of_numbered_file files f) (spot_of_file_line files f n) line w) refl is
  where
    by_each : (inner : List ℕ) → files_opened_by_lead files (include_site_of_line files f n) (walk_with_line_at_spot (spot_of_file_line files f n) line w) (lead_of_file_line files f line) ≡ Ok inner
        → (r : WalkOutcome) → walk_after_file_visits walk files (include_site_of_line files f n) inner (walk_with_line_at_spot (spot_of_file_line files f n) line w) ≡ r
        → load_result_and_then r (walk_after_file_lines walk files f (n + 1) lines) ≡ Ok now → IsLineStepOfWalk walk files f n line lines w now
    by_each inner opens (Ok within) enters e = record { inner = inner; within = within; opens = opens; enters = enters; rest = e }
    by_each inner opens (Err fault) enters e = absurd cc

    by_opened : (r : Result (List ℕ) LoadFault) → files_opened_by_lead files (include_site_of_line files f n) (walk_with_line_at_spot (spot_of_file_line files f n) line w) (lead_of_file_line files f line) ≡ r
        → load_result_and_then r (λ inner. load_result_and_then (walk_after_file_visits walk files (include_site_of_line files f n) inner (walk_with_line_at_spot (spot_of_file_line files f n) line w)) (walk_after_file_lines walk files f (n + 1) lines)) ≡ Ok now
        → IsLineStepOfWalk walk files f n line lines w now
    by_opened (Ok inner) opens e = by_each inner opens (walk_after_file_visits walk files (include_site_of_line files f n) inner (walk_with_line_at_spot (spot_of_file_line files f n) line w)) refl e
    by_opened (Err fault) opens e = absurd cc

    by_taken : (r : WalkOutcome) → walk_with_line_appended (name_of_numbered_file files f) (spot_of_file_line files f n) line w ≡ r → load_result_and_then r (λ passed. load_result_and_then (files_opened_by_lead files (include_site_of_line files f n) passed (lead_of_file_line files f line)) (λ inner.
        load_result_and_then (walk_after_file_visits walk files (include_site_of_line files f n) inner passed) (walk_after_file_lines walk files f (n + 1) lines))) ≡ Ok now → IsLineStepOfWalk walk files f n line lines w now
    by_taken (Ok passed) took e =
        let same : walk_with_line_at_spot (spot_of_file_line files f n) line w ≡ passed = accepted_append_is_walk_with_line (name_of_numbered_file files f) (spot_of_file_line files f n) line w passed took in
        by_opened (files_opened_by_lead files (include_site_of_line files f n) (walk_with_line_at_spot (spot_of_file_line files f n) line w) (lead_of_file_line files f line)) refl
        (ap (λ passed. load_result_and_then (files_opened_by_lead files (include_site_of_line files f n) passed (lead_of_file_line files f line)) (λ inner.
        load_result_and_then (walk_after_file_visits walk files (include_site_of_line files f n) inner passed) (walk_after_file_lines walk files f (n + 1) lines))) same ∙ e)
    by_taken (Err fault) took e = absurd cc

-- a file more, and then others
record IsFileVisitOfWalk (walk : FileVisit) (files : List ParsedFile) (at : IncludeSite) (f : ℕ) (more : List ℕ) (w now : WalkState) : Type 0 where
  within : WalkState
  visits : walk at f w ≡ Ok within
  rest : walk_after_file_visits walk files at more within ≡ Ok now

accepted_visits_have_first_visit : (walk : FileVisit) (files : List ParsedFile) (at : IncludeSite) (f : ℕ) (more : List ℕ) (w now : WalkState) → walk_after_file_visits walk files at (f ∷ more) w ≡ Ok now
    → IsFileVisitOfWalk walk files at f more w now
accepted_visits_have_first_visit walk files at f more w now is = by_test (is_file_on_walk w f) is
  where
    by_visit : (r : WalkOutcome) → walk at f w ≡ r → load_result_and_then r (walk_after_file_visits walk files at more) ≡ Ok now → IsFileVisitOfWalk walk files at f more w now
    by_visit (Ok within) visits e = record { within = within; visits = visits; rest = e }
    by_visit (Err fault) visits e = absurd cc

    by_test : (b : Bool) → (if b then Err (repeated_include_fault files at f) else load_result_and_then (walk at f w) (walk_after_file_visits walk files at more)) ≡ Ok now → IsFileVisitOfWalk walk files at f more w now
    by_test true e = absurd cc
    by_test false e = by_visit (walk at f w) refl e

-- the files that a lead opens
opened_files_are_targets_of_lead : (files : List ParsedFile) (at : IncludeSite) (w : WalkState) (lead : Lead) (inner : List ℕ) → files_opened_by_lead files at w (Some lead) ≡ Ok inner → targets_of_lead files lead ≡ Some inner
opened_files_are_targets_of_lead files at w lead inner is = by_targets (targets_of_lead files lead) refl is
  where
    by_on : (o : Option ℕ) (found : List ℕ) → files_unless_on_walk files at found o ≡ Ok inner → found ≡ inner
    by_on None found e = cc
    by_on (Some f) found e = absurd cc

    by_targets : (t : Option (List ℕ)) → targets_of_lead files lead ≡ t → files_unless_missing_or_on_walk files at lead w t ≡ Ok inner → targets_of_lead files lead ≡ Some inner
    by_targets None e f = absurd cc
    by_targets (Some found) e f = e ∙ ap (λ fs. Some fs) (by_on (first_file_on_walk w found) found f)

-- TWO WALKS

abbrev pub file_and_line_of_spot : WalkLineSpot → ℕ × ℕ
file_and_line_of_spot at = (at.file, at.line)

-- where lines stand, but for their rows
abbrev pub files_and_lines_of_walk : WalkState → List (ℕ × ℕ)
files_and_lines_of_walk w = map file_and_line_of_spot w.spots

-- The same files are on both walks, and the same places.
pub record AreWalksAtSamePlaces (v w : WalkState) : Type 0 where
  pub on : v.on ≡ w.on
  pub places : files_and_lines_of_walk v ≡ files_and_lines_of_walk w

-- Each line leads where the one of the other list leads.
abbrev pub LeadWhereOthersLead : List ℕ → List Line → List Line → Type 0
LeadWhereOthersLead name [] [] = Unit {0}
LeadWhereOthersLead name [] (m ∷ ms) = ⊥
LeadWhereOthersLead name (l ∷ ls) [] = ⊥
LeadWhereOthersLead name (l ∷ ls) (m ∷ ms) = (lead_of_parsed_line name m.node ≡ lead_of_parsed_line name l.node) × LeadWhereOthersLead name ls ms

equal_walks_are_at_same_places : (v w u t : WalkState) → v ≡ u → w ≡ t → AreWalksAtSamePlaces v w → AreWalksAtSamePlaces u t
equal_walks_are_at_same_places v w u t p q alike = subst (λ x. AreWalksAtSamePlaces x t) p (subst (λ x. AreWalksAtSamePlaces v x) q alike)

present_equal_options_are_equal : (a b : List ℕ) → Some a ≡ Some b → a ≡ b
present_equal_options_are_equal a b is = cc

module _ (files others : List ParsedFile) (names : file_names files ≡ file_names others)
    (leads : (f : ℕ) → LeadWhereOthersLead (name_of_numbered_file files f) (lines_of_numbered_file files f) (lines_of_numbered_file others f)) where
  abbrev VisitsAlike : FileVisit → FileVisit → Type 0
  VisitsAlike walk beside = (at other_at : IncludeSite) (f : ℕ) (w now v end : WalkState) → AreWalksAtSamePlaces v w → walk at f w ≡ Ok now → beside other_at f v ≡ Ok end → AreWalksAtSamePlaces end now

  each_alike : (walk beside : FileVisit) → VisitsAlike walk beside → (at other_at : IncludeSite) (inner : List ℕ) (w now v end : WalkState) → AreWalksAtSamePlaces v w
      → walk_after_file_visits walk files at inner w ≡ Ok now → walk_after_file_visits beside others other_at inner v ≡ Ok end → AreWalksAtSamePlaces end now
  each_alike walk beside along at other_at [] w now v end alike is too = equal_walks_are_at_same_places v w end now (accepted_walk_is_given_walk v end too) (accepted_walk_is_given_walk w now is) alike
  each_alike walk beside along at other_at (f ∷ inner) w now v end alike is too =
      let a = accepted_visits_have_first_visit walk files at f inner w now is in
      let b = accepted_visits_have_first_visit beside others other_at f inner v end too in
      each_alike walk beside along at other_at inner a.within now b.within end (along at other_at f w a.within v b.within alike a.visits b.visits) a.rest b.rest

  line_alike : (f n : ℕ) (l m : Line) (w v : WalkState) → AreWalksAtSamePlaces v w → AreWalksAtSamePlaces (walk_with_line_at_spot (spot_of_file_line others f n) m v) (walk_with_line_at_spot (spot_of_file_line files f n) l w)
  unfolding walk_with_line_at_spot
  line_alike f n l m w v alike = record {
    on = alike.on;
    places =
        map-append file_and_line_of_spot v.spots (spot_of_file_line others f n ∷ [])
        ∙ ap (λ (ps : List (ℕ × ℕ)). ps ++ (f, n) ∷ []) alike.places
        ∙ sym (map-append file_and_line_of_spot w.spots (spot_of_file_line files f n ∷ []));
  }

  inner_alike : (f n : ℕ) (l m : Line) (w v : WalkState) (a b : List ℕ) → lead_of_parsed_line (name_of_numbered_file files f) m.node ≡ lead_of_parsed_line (name_of_numbered_file files f) l.node
      → files_opened_by_lead files (include_site_of_line files f n) w (lead_of_file_line files f l) ≡ Ok a → files_opened_by_lead others (include_site_of_line others f n) v (lead_of_file_line others f m) ≡ Ok b → b ≡ a
  inner_alike f n l m w v a b lead is too =
      by (lead_of_parsed_line (name_of_numbered_file files f) l.node) refl is (ap (files_opened_by_lead others (include_site_of_line others f n) v) (sym lead ∙ ap (λ name. lead_of_parsed_line name m.node) (same_file_names_name_numbered_file_alike files others names f)) ∙ too)
    where
      by : (o : Option Lead) → lead_of_parsed_line (name_of_numbered_file files f) l.node ≡ o → files_opened_by_lead files (include_site_of_line files f n) w o ≡ Ok a → files_opened_by_lead others (include_site_of_line others f n) v o ≡ Ok b → b ≡ a
      by None none e g = let x : [] ≡ a = cc in let y : [] ≡ b = cc in sym y ∙ x
      by (Some lead) some e g =
          present_equal_options_are_equal b a (sym (opened_files_are_targets_of_lead others (include_site_of_line others f n) v lead b g) ∙ sym (same_targets files others names lead) ∙ opened_files_are_targets_of_lead files (include_site_of_line files f n) w lead a e)

  lines_alike : (walk beside : FileVisit) → VisitsAlike walk beside → (f n : ℕ) (ls ms : List Line) (w now v end : WalkState) → LeadWhereOthersLead (name_of_numbered_file files f) ls ms → AreWalksAtSamePlaces v w
      → walk_after_file_lines walk files f n ls w ≡ Ok now → walk_after_file_lines beside others f n ms v ≡ Ok end → AreWalksAtSamePlaces end now
  lines_alike walk beside along f n [] [] w now v end pairs alike is too =
      equal_walks_are_at_same_places v w end now (ended others v end too) (ended files w now is) alike
    where
      ended : (fs : List ParsedFile) (x y : WalkState) → value_unless_file_fault (name_of_numbered_file fs f) x (option_map syntax_fault_as_read_fault (fault_of_numbered_file fs f)) ≡ Ok y → x ≡ y
      ended fs x y e = by (option_map syntax_fault_as_read_fault (fault_of_numbered_file fs f)) e
        where
          by : (o : Option ReadFault) → value_unless_file_fault (name_of_numbered_file fs f) x o ≡ Ok y → x ≡ y
          by None e = accepted_walk_is_given_walk x y e
          by (Some fault) e = absurd cc
  lines_alike walk beside along f n [] (m ∷ ms) w now v end pairs alike is too = absurd pairs
  lines_alike walk beside along f n (l ∷ ls) [] w now v end pairs alike is too = absurd pairs
  lines_alike walk beside along f n (l ∷ ls) (m ∷ ms) w now v end pairs alike is too =
      let a = accepted_walk_has_step_of_line walk files f n l ls w now is in
      let b = accepted_walk_has_step_of_line beside others f n m ms v end too in
      let inner : b.inner ≡ a.inner =
      inner_alike f n l m (walk_with_line_at_spot (spot_of_file_line files f n) l w) (walk_with_line_at_spot (spot_of_file_line others f n) m v) a.inner b.inner pairs.0 a.opens b.opens in
      let here = line_alike f n l m w v alike in
      let within : AreWalksAtSamePlaces b.within a.within =
      each_alike walk beside along (include_site_of_line files f n) (include_site_of_line others f n) a.inner (walk_with_line_at_spot (spot_of_file_line files f n) l w) a.within (walk_with_line_at_spot (spot_of_file_line others f n) m v) b.within here
      a.enters (ap (λ fs. walk_after_file_visits beside others (include_site_of_line others f n) fs (walk_with_line_at_spot (spot_of_file_line others f n) m v)) (sym inner) ∙ b.enters) in
      lines_alike walk beside along f (n + 1) ls ms a.within now b.within end pairs.1 within a.rest b.rest

  enter_alike : (f : ℕ) (v w : WalkState) → AreWalksAtSamePlaces v w → AreWalksAtSamePlaces (walk_with_file_entered f v) (walk_with_file_entered f w)
  enter_alike f v w alike = record { on = ap (λ (fs : List ℕ). fs ++ f ∷ []) alike.on; places = alike.places }

  visits_alike : (left : ℕ) → VisitsAlike (walk_after_file_visit left files) (walk_after_file_visit left others)
  visits_alike zero at other_at f w now v end alike is too = absurd cc
  visits_alike (suc left) at other_at f w now v end alike is too =
      lines_alike (walk_after_file_visit left files) (walk_after_file_visit left others) (visits_alike left) f 0 (lines_of_numbered_file files f) (lines_of_numbered_file others f) (walk_with_file_entered f w) now (walk_with_file_entered f v) end (leads f) (enter_alike f v w alike) is too

  pub walks_alike : (w v : WalkState) → walk_or_fault_of_files files ≡ Ok w → walk_or_fault_of_files others ≡ Ok v → AreWalksAtSamePlaces v w
  unfolding walk_or_fault_of_files
  walks_alike w v is too =
      lines_alike (walk_after_file_visit include_depth_limit files) (walk_after_file_visit include_depth_limit others) (visits_alike include_depth_limit) 0 0 (lines_of_numbered_file files 0) (lines_of_numbered_file others 0) (walk_with_file_entered 0 empty_walk) w (walk_with_file_entered 0 empty_walk) v
      (leads 0) (record { on = refl; places = refl }) is too
