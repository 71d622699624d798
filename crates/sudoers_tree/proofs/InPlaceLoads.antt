-- Files of which the lines in one place are others: they load as they are kept.
use Rattle.sudoers_tree.proofs.Common.{AllByRecursion, AreFilesMapped, AreLinesAtSpots, Bool, IsCorrectlyParsed, KeepsIncludeLead, Line, LineToLinesMapping, List, LoadedPolicy, None, Ok, Option, ParsedFile, Some}
use Rattle.sudoers_tree.proofs.Common.{WalkState, [], ap, ap₂, definitions_of_lines, eqb-true, fault_of_numbered_file, fault_of_optional_file, false, file_limit, file_names, first_definition_fault}
use Rattle.sudoers_tree.proofs.Common.{if◌then◌else◌, is_file_on_walk, lead_of_parsed_line, lines_of_numbered_file, lines_of_optional_file, load_result_and_then, map, mapped_lines_at_spots, mapped_lines_from_number}
use Rattle.sudoers_tree.proofs.Common.{name_of_numbered_file, named_file_of_parsed, named_files_of_policy, nat_lt, nowhere, one, policy_of_parsed_files, policy_or_load_fault, refl, slice_get, slice_get_within, subst, suc}
use Rattle.sudoers_tree.proofs.Common.{sym, texts_of_lines, true, true≢false, walk_or_fault_of_files, walk_or_first_fault, walk_or_unreached_file_fault, zero, ℕ, ◌&&◌, ◌==◌, ◌∙◌, ◌∷◌, ◌≡◌}
use Rattle.sudoers_tree.proofs.ChangedLoads.{AreFewFilesWithDistinctNames, loaded_files_are_few_with_distinct_names}
use Rattle.sudoers_tree.proofs.CutFiles.{AreLinesCutFromTheirJoin, SeparateLinesAreCutFromTheirJoin}
use Rattle.sudoers_tree.proofs.KeptFiles.{LinesAreParsedUntilFault}
use Rattle.sudoers_tree.proofs.Loads.{outcome_of_unreached_files_is_outcome, parsed_files_give_the_load_outcome}
use Rattle.sudoers_tree.proofs.MappedLoad.{IsFileReadAgainAsItIs, LinesAreParsedInOneWay, files_read_again_are_parsed_as_they_are, loaded_file_is_read_again_as_it_is, property_of_each_numbered_item_is_of_all, unreached_files_are_checked_alike_on_walks}
use Rattle.sudoers_tree.proofs.MappedWalk.{IsWalkOfMappedFiles, walk_of_mapped_files_has_mapped_spots}
use Rattle.sudoers_tree.proofs.Outcomes.{ComputedCutsAreCutOutcomes, ComputedLineOutcomesAreLineOutcomes}
use Rattle.sudoers_tree.proofs.ParsedFiles.{IsParsedWithoutFault, loaded_files_are_parsed_without_fault}
use Rattle.sudoers_tree.proofs.Placed.{lines_at_spots_have_count_of_spots}
use Rattle.sudoers_tree.proofs.SameNames.{same_file_names_have_same_count, same_file_names_have_same_repeated_name}
use Rattle.sudoers_tree.proofs.SplicedWalk.{MovesLinesBehind, lines_change_in_place_on_walk, lines_of_file_come_in_place, lines_of_other_file_come_of_themselves, place_is_at_its_spot, spots_move_around_place}
use Rattle.sudoers_tree.proofs.WalkSound.{loaded_policy_is_load_of_files, loaded_walk_is_valid}
use Rattle.sudoers_tree.specs.declared.moved_lines.LineMove.{LineMove}
use Rattle.sudoers_tree.specs.internal.InPlace.{IsOnlySpotOfLine, lines_in_place_of_line, moved_spot, with_items_in_place}
use Rattle.sudoers_tree.specs.internal.MovedSpots.{mapped_spots, spots_from_line_number}

-- the line leads nowhere, whatever the name of its file is
abbrev pub LeadsNowhere : Line → Type 0
LeadsNowhere line = (name : List ℕ) → lead_of_parsed_line name line.node ≡ None

-- The policy `new` is `old`, but that the lines `news` stand in the place of the line with the number n of the file f, which has the number p on
-- the walk. The lines behind it moved.
pub record HasOtherLinesInPlace (old new : LoadedPolicy) (f n p : ℕ) (line : Line) (news : List Line) (from : ℕ) (move : LineMove) : Type 0 where
  pub at_place : slice_get (lines_of_numbered_file old.files f) n ≡ Some line
  pub changed : lines_of_numbered_file new.files f ≡ with_items_in_place n news (lines_of_numbered_file old.files f)
  pub same : (g : ℕ) → (g == f) ≡ false → slice_get new.files g ≡ slice_get old.files g
  pub names : file_names new.files ≡ file_names old.files
  pub parses : fault_of_numbered_file new.files f ≡ None
  pub on_walk : is_file_on_walk old.walk f ≡ true
  pub only : IsOnlySpotOfLine old.walk.spots f n p
  pub nowhere_before : LeadsNowhere line
  pub nowhere_then : AllByRecursion LeadsNowhere news
  pub moves : MovesLinesBehind news line n from move
  pub lines : new.walk.lines ≡ with_items_in_place p news old.walk.lines
  pub spots : new.walk.spots ≡ with_items_in_place p (spots_from_line_number new.files f n news) (map (moved_spot f from move) old.walk.spots)
  pub on : new.walk.on ≡ old.walk.on
  pub sound : first_definition_fault [] (definitions_of_lines new.walk.lines) ≡ None
  pub cut : AreLinesCutFromTheirJoin (texts_of_lines (lines_of_numbered_file new.files f))
  pub says : AllByRecursion IsCorrectlyParsed (lines_of_numbered_file new.files f)

lines_without_leads_have_none_in_file : (name : List ℕ) (lines : List Line) → AllByRecursion LeadsNowhere lines → AllByRecursion (λ (line : Line). lead_of_parsed_line name line.node ≡ None) lines
lines_without_leads_have_none_in_file name [] all = tt
lines_without_leads_have_none_in_file name (line ∷ lines) all = (all.0 name, lines_without_leads_have_none_in_file name lines all.1)

both_tests_are_equalities : (g f k n : ℕ) → ((g == f) && (k == n)) ≡ true → (g ≡ f) × (k ≡ n)
both_tests_are_equalities g f k n is = by (g == f) refl is
  where
    by : (a : Bool) → (g == f) ≡ a → (a && (k == n)) ≡ true → (g ≡ f) × (k ≡ n)
    by true e both = (eqb-true g f e, eqb-true k n both)
    by false e both = absurd cc

pub parsed_files_have_no_fault_at_number : (files : List ParsedFile) → AllByRecursion IsParsedWithoutFault files → (f : ℕ) → fault_of_numbered_file files f ≡ None
parsed_files_have_no_fault_at_number [] parse f = refl
parsed_files_have_no_fault_at_number (file ∷ files) parse zero = parse.0
parsed_files_have_no_fault_at_number (file ∷ files) parse (suc f) = parsed_files_have_no_fault_at_number files parse.1 f

equal_walk_states : (v w : WalkState) → v.lines ≡ w.lines → v.spots ≡ w.spots → v.on ≡ w.on → v ≡ w
equal_walk_states v w lines spots on =
    ap₂ (λ ls ss. let x : WalkState = record { lines = ls; spots = ss; on = v.on } in x) lines spots
    ∙ ap (λ os. let x : WalkState = record { lines = w.lines; spots = w.spots; on = os } in x) on

module _ (cuts : ComputedCutsAreCutOutcomes) (reads : LinesAreParsedUntilFault) (one_way : LinesAreParsedInOneWay) (joins : SeparateLinesAreCutFromTheirJoin) (outcomes : ComputedLineOutcomesAreLineOutcomes)
    (old new : LoadedPolicy) (f n p : ℕ) (line : Line) (news : List Line) (from : ℕ) (move : LineMove)
    (loaded : policy_or_load_fault (named_files_of_policy old) ≡ Ok old) (is : HasOtherLinesInPlace old new f n p line news from move) where
  abbrev g : LineToLinesMapping
  g = lines_in_place_of_line f n news

  same_lines : (h : ℕ) → (h == f) ≡ false → lines_of_numbered_file new.files h ≡ lines_of_numbered_file old.files h
  same_lines h other = ap lines_of_optional_file (is.same h other)

  mapped_lines : (h : ℕ) → lines_of_numbered_file new.files h ≡ mapped_lines_from_number g h 0 (lines_of_numbered_file old.files h)
  mapped_lines h = by (h == f) refl
    where
      by : (b : Bool) → (h == f) ≡ b → lines_of_numbered_file new.files h ≡ mapped_lines_from_number g h 0 (lines_of_numbered_file old.files h)
      by false other = same_lines h other ∙ sym (lines_of_other_file_come_of_themselves f n news h 0 (lines_of_numbered_file old.files h) other)
      by true here =
          subst (λ k. lines_of_numbered_file new.files k ≡ mapped_lines_from_number g k 0 (lines_of_numbered_file old.files k)) (sym (eqb-true h f here))
          (is.changed ∙ sym (lines_of_file_come_in_place f n news (lines_of_numbered_file old.files f) (slice_get_within (lines_of_numbered_file old.files f) n line is.at_place)))

  old_parse : AllByRecursion IsParsedWithoutFault old.files
  old_parse = loaded_files_are_parsed_without_fault (named_files_of_policy old) old loaded

  no_fault : (h : ℕ) → fault_of_numbered_file new.files h ≡ None
  no_fault h = by (h == f) refl
    where
      by : (b : Bool) → (h == f) ≡ b → fault_of_numbered_file new.files h ≡ None
      by false other = ap fault_of_optional_file (is.same h other) ∙ parsed_files_have_no_fault_at_number old.files old_parse h
      by true here = subst (λ k. fault_of_numbered_file new.files k ≡ None) (sym (eqb-true h f here)) is.parses

  keeps_lead : (h k : ℕ) (here : Line) → slice_get (lines_of_numbered_file old.files h) k ≡ Some here → KeepsIncludeLead (name_of_numbered_file old.files h) here (g h k here)
  keeps_lead h k here at = by ((h == f) && (k == n)) refl
    where
      name : List ℕ
      name = name_of_numbered_file old.files h

      by : (b : Bool) → ((h == f) && (k == n)) ≡ b → KeepsIncludeLead name here (if b then news else here ∷ [])
      by false other = one here refl
      by true both =
          let places = both_tests_are_equalities h f k n both in
          let found : (let o : Option Line = Some here in o) ≡ Some line =
          sym at ∙ ap₂ (λ i j. slice_get (lines_of_numbered_file old.files i) j) places.0 places.1 ∙ is.at_place in
          let same_line : here ≡ line = cc in
          nowhere news (ap (λ (l : Line). lead_of_parsed_line name l.node) same_line ∙ is.nowhere_before name) (lines_without_leads_have_none_in_file name news is.nowhere_then)

  are : AreFilesMapped g old.files new.files old.walk
  are = record {
    names = is.names;
    lines = λ h on. mapped_lines h;
    parse = λ h on. no_fault h;
    leads = λ h k here on at. keeps_lead h k here at;
  }

  stand : AreLinesAtSpots old.files old.walk.spots old.walk.lines
  stand = (loaded_walk_is_valid outcomes (named_files_of_policy old) old loaded).stand

  walk_lines : mapped_lines_at_spots g old.walk.spots old.walk.lines ≡ new.walk.lines
  walk_lines =
      lines_change_in_place_on_walk f n news p old.walk.spots old.walk.lines is.only.at (lines_at_spots_have_count_of_spots old.files old.walk.spots old.walk.lines stand) is.only.before is.only.there
      is.only.is is.only.after
      ∙ sym is.lines

  walk_spots : mapped_spots g old.files new.files old.walk.spots old.walk.lines ≡ new.walk.spots
  walk_spots =
      spots_move_around_place old.files new.files f n news line from move is.moves is.at_place is.changed same_lines p old.walk.spots old.walk.lines is.only.at stand is.only.before is.only.there
      is.only.is is.only.after
      ∙ ap (λ ss. with_items_in_place p ss (map (moved_spot f from move) old.walk.spots)) (place_is_at_its_spot old.files new.files f n news line is.at_place is.only.at is.only.is)
      ∙ sym is.spots

  walked : IsWalkOfMappedFiles g old.files new.files old.walk
  walked =
      walk_of_mapped_files_has_mapped_spots g old.files new.files old.walk (loaded_policy_is_load_of_files (named_files_of_policy old) old loaded).walks are
      (ap (λ ls. first_definition_fault [] (definitions_of_lines ls)) walk_lines ∙ is.sound)

  walk : walk_or_fault_of_files new.files ≡ Ok new.walk
  walk =
      walked.walk
      ∙ ap (λ w. Ok w) (equal_walk_states walked.other new.walk (walked.lines ∙ walk_lines) (walked.spots ∙ walk_spots) (walked.on ∙ sym is.on))

  again : AllByRecursion IsFileReadAgainAsItIs new.files
  again = property_of_each_numbered_item_is_of_all IsFileReadAgainAsItIs new.files (λ h file at. by h file at (h == f) refl)
    where
      by : (h : ℕ) (file : ParsedFile) → slice_get new.files h ≡ Some file → (b : Bool) → (h == f) ≡ b → IsFileReadAgainAsItIs file
      by h file at false other = loaded_file_is_read_again_as_it_is cuts reads joins outcomes (named_files_of_policy old) old loaded h file (sym (is.same h other) ∙ at)
      by h file at true here =
          let found : slice_get new.files f ≡ Some file = ap (slice_get new.files) (sym (eqb-true h f here)) ∙ at in
          record {
            cut = subst (λ ls. AreLinesCutFromTheirJoin (texts_of_lines ls)) (ap lines_of_optional_file found) is.cut;
            says = subst (AllByRecursion IsCorrectlyParsed) (ap lines_of_optional_file found) is.says;
            parses = ap fault_of_optional_file (sym found) ∙ is.parses;
          }

  stays_off : (h : ℕ) → is_file_on_walk old.walk h ≡ false → slice_get new.files h ≡ slice_get old.files h
  stays_off h off = by (h == f) refl
    where
      by : (b : Bool) → (h == f) ≡ b → slice_get new.files h ≡ slice_get old.files h
      by false other = is.same h other
      by true here = absurd (true≢false (sym is.on_walk ∙ ap (is_file_on_walk old.walk) (sym (eqb-true h f here)) ∙ off))

  pub policy_with_other_lines_in_place_loads : policy_or_load_fault (map named_file_of_parsed new.files) ≡ Ok new
  policy_with_other_lines_in_place_loads =
      let load = loaded_policy_is_load_of_files (named_files_of_policy old) old loaded in
      let few : AreFewFilesWithDistinctNames (named_files_of_policy old) = loaded_files_are_few_with_distinct_names (named_files_of_policy old) old loaded in
      let off : walk_or_unreached_file_fault new.walk 0 new.files ≡ Ok new.walk =
      unreached_files_are_checked_alike_on_walks old.walk new.walk old.files new.files is.on stays_off 0 old.files new.files refl refl (sym is.names) load.off in
      let loads : policy_or_load_fault (map named_file_of_parsed new.files) ≡ policy_of_parsed_files new.files =
      parsed_files_give_the_load_outcome (map named_file_of_parsed new.files) new.files (ap (nat_lt file_limit) (same_file_names_have_same_count old.files new.files (sym is.names)) ∙ few.few)
      (same_file_names_have_same_repeated_name [] old.files new.files (sym is.names) ∙ few.once) (files_read_again_are_parsed_as_they_are one_way [] new.files again) in
      let whole : walk_or_first_fault new.files ≡ Ok new.walk = outcome_of_unreached_files_is_outcome new.files new.files new.walk (Ok new.walk) walk refl off in
      loads ∙ ap (λ r. load_result_and_then r (λ w. Ok (record { files = new.files; walk = w }))) whole
