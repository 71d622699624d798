-- Loading files of which lines were changed, where each line keeps its lead.
use Rattle.sudoers_tree.proofs.Common.{AllByRecursion, AreDefinedNamesValid, AreFilesMapped, AreParsedUntilFault, Bool, CanReplaceFiles, IsCorrectlyParsed, IsMappedWalk, Line, LineToLinesMapping, List, LoadFault}
use Rattle.sudoers_tree.proofs.Common.{LoadedPolicy, NamedFile, None, Ok, Option, ParsedFile, ReadFault, Result, Some, SyntaxFault, WalkState, [], ap, append-nil, append_assoc, drop, false, fault_of_optional_file}
use Rattle.sudoers_tree.proofs.Common.{file_limit, file_names, first_fault_of_unreached_file, if◌then◌else◌, is_file_on_walk, lines_of_optional_file, lines_parsed_until_fault, list_any, load_result_and_then, map}
use Rattle.sudoers_tree.proofs.Common.{mapped_lines_at_spots, named_file_of_parsed, named_files_of_policy, nat_eq, nat_lt, parsed_file_from_pair, parsed_file_of_texts, parsed_file_of_cut_or_fault}
use Rattle.sudoers_tree.proofs.Common.{parsed_files_or_cut_fault, policy_of_parsed_files, policy_or_load_fault, refl, slice_get, subst, suc, sym, texts_of_lines, true, value_unless_file_fault, walk_or_fault_of_files}
use Rattle.sudoers_tree.proofs.Common.{walk_or_first_fault, walk_or_unreached_file_fault, whole, zero, ℕ, ◌++◌, ◌+◌, ◌∙◌, ◌∷◌, ◌≡◌}
use Rattle.sudoers_tree.proofs.ChangedLoads.{AreFewFilesWithDistinctNames, loaded_files_are_few_with_distinct_names}
use Rattle.sudoers_tree.proofs.CutFiles.{AreLinesCutFromTheirJoin, SeparateLinesAreCutFromTheirJoin, loaded_lines_are_cut_from_their_join}
use Rattle.sudoers_tree.proofs.KeptFiles.{LinesAreParsedUntilFault}
use Rattle.sudoers_tree.proofs.Loads.{parsed_files_give_the_load_outcome, outcome_of_unreached_files_is_outcome}
use Rattle.sudoers_tree.proofs.MappedWalk.{walk_of_mapped_files_is_mapped_walk}
use Rattle.sudoers_tree.proofs.Numbered.{rest_of_drop_is_later_drop, first_of_drop_is_numbered_item}
use Rattle.sudoers_tree.proofs.Outcomes.{ComputedCutsAreCutOutcomes, ComputedLineOutcomesAreLineOutcomes}
use Rattle.sudoers_tree.proofs.ParsedFiles.{IsParsedWithoutFault, loaded_files_are_parsed_without_fault}
use Rattle.sudoers_tree.proofs.SameNames.{same_file_names_have_same_first_and_rest, same_file_names_have_same_count, same_file_names_have_same_repeated_name}
use Rattle.sudoers_tree.proofs.WalkSound.{numbered_file_has_correct_lines, loaded_policy_is_load_of_files, loaded_files_have_correct_lines}

-- ---- the files as they are read again

-- lines are read in one way only
abbrev pub LinesAreParsedInOneWay : Type 0
LinesAreParsedInOneWay = (lines : List (List ℕ)) (read : List Line) (fault : Option SyntaxFault) → AreParsedUntilFault lines read fault → lines_parsed_until_fault [] lines ≡ (read, fault)

-- The lines of the file are those of its text, each says what is kept of it, and all parse.
pub record IsFileReadAgainAsItIs (file : ParsedFile) : Type 0 where
  pub cut : AreLinesCutFromTheirJoin (texts_of_lines file.lines)
  pub says : AllByRecursion IsCorrectlyParsed file.lines
  pub parses : IsParsedWithoutFault file

file_read_again_is_parsed_as_it_is : LinesAreParsedInOneWay → (file : ParsedFile) → IsFileReadAgainAsItIs file → parsed_file_of_texts file.name (texts_of_lines file.lines) ≡ file
unfolding parsed_file_of_texts
file_read_again_is_parsed_as_it_is one file is =
    ap (parsed_file_from_pair file.name) (one (texts_of_lines file.lines) file.lines None (whole file.lines is.says))
    ∙ ap (λ fault. let same : ParsedFile = record { name = file.name; lines = file.lines; fault = fault } in same) (sym is.parses)

pub files_read_again_are_parsed_as_they_are : LinesAreParsedInOneWay → (before files : List ParsedFile) → AllByRecursion IsFileReadAgainAsItIs files
    → parsed_files_or_cut_fault before (map named_file_of_parsed files) ≡ Ok (before ++ files)
files_read_again_are_parsed_as_they_are one before [] all = ap (λ fs. Ok fs) (sym (append-nil before))
files_read_again_are_parsed_as_they_are one before (file ∷ files) all =
    ap (λ o. load_result_and_then (parsed_file_of_cut_or_fault file.name o) (λ reading. parsed_files_or_cut_fault (before ++ reading ∷ []) (map named_file_of_parsed files))) all.0.cut
    ∙ ap (λ reading. parsed_files_or_cut_fault (before ++ reading ∷ []) (map named_file_of_parsed files)) (file_read_again_is_parsed_as_it_is one file all.0)
    ∙ files_read_again_are_parsed_as_they_are one (before ++ file ∷ []) files all.1
    ∙ ap (λ fs. Ok fs) (append_assoc before (file ∷ []) files)

pub property_of_each_numbered_item_is_of_all : {A : Type 0} (P : A → Type 0) (xs : List A) → ((n : ℕ) (x : A) → slice_get xs n ≡ Some x → P x) → AllByRecursion P xs
property_of_each_numbered_item_is_of_all P [] each = tt
property_of_each_numbered_item_is_of_all P (x ∷ xs) each = (each 0 x refl, property_of_each_numbered_item_is_of_all P xs (λ n y at. each (suc n) y at))

pub property_of_all_is_of_each_numbered_item : {A : Type 0} (P : A → Type 0) (xs : List A) → AllByRecursion P xs → (n : ℕ) (x : A) → slice_get xs n ≡ Some x → P x
property_of_all_is_of_each_numbered_item P [] all n x at = absurd cc
property_of_all_is_of_each_numbered_item P (y ∷ xs) all zero x at = subst P (let same : y ≡ x = cc in same) all.0
property_of_all_is_of_each_numbered_item P (y ∷ xs) all (suc n) x at = property_of_all_is_of_each_numbered_item P xs all.1 n x at

-- A file of a policy is read again as it is.
pub loaded_file_is_read_again_as_it_is : ComputedCutsAreCutOutcomes → LinesAreParsedUntilFault → SeparateLinesAreCutFromTheirJoin → ComputedLineOutcomesAreLineOutcomes → (files : List NamedFile) (p : LoadedPolicy) → policy_or_load_fault files ≡ Ok p → (f : ℕ)
    (file : ParsedFile) → slice_get p.files f ≡ Some file → IsFileReadAgainAsItIs file
loaded_file_is_read_again_as_it_is cuts reads joins lines files p is f file at =
    record {
      cut = subst (λ ls. AreLinesCutFromTheirJoin (texts_of_lines ls)) (ap lines_of_optional_file at) (loaded_lines_are_cut_from_their_join cuts reads joins files p is f);
      says = subst (AllByRecursion IsCorrectlyParsed) (ap lines_of_optional_file at) (numbered_file_has_correct_lines p.files f (loaded_files_have_correct_lines lines files p is));
      parses = property_of_all_is_of_each_numbered_item IsParsedWithoutFault p.files (loaded_files_are_parsed_without_fault files p is) f file at;
    }

-- So is each of the files of which lines were changed.
replacing_files_are_read_again_as_they_are : (g : LineToLinesMapping) (files others : List ParsedFile) (w : WalkState) → AreFilesMapped g files others w → CanReplaceFiles files others w
    → ((f : ℕ) (file : ParsedFile) → slice_get files f ≡ Some file → IsFileReadAgainAsItIs file) → AllByRecursion IsFileReadAgainAsItIs others
replacing_files_are_read_again_as_they_are g files others w are can again = property_of_each_numbered_item_is_of_all IsFileReadAgainAsItIs others (λ f file at. by f file at (is_file_on_walk w f) refl)
  where
    by : (f : ℕ) (file : ParsedFile) → slice_get others f ≡ Some file → (b : Bool) → is_file_on_walk w f ≡ b → IsFileReadAgainAsItIs file
    by f file at true on = record {
      cut = subst (λ ls. AreLinesCutFromTheirJoin (texts_of_lines ls)) (ap lines_of_optional_file at) (can.cut f on);
      says = subst (AllByRecursion IsCorrectlyParsed) (ap lines_of_optional_file at) (can.says f on);
      parses = ap fault_of_optional_file (sym at) ∙ are.parse f on;
    }
    by f file at false off = again f file (sym (can.stay f off) ∙ at)

-- ---- the files that are not on the walk

-- The same files are on both walks. A file that is not on them is the same, and has no fault.
pub unreached_files_are_checked_alike_on_walks : (w other : WalkState) (all behind : List ParsedFile) → other.on ≡ w.on
    → ((f : ℕ) → is_file_on_walk w f ≡ false → slice_get behind f ≡ slice_get all f) → (n : ℕ) (files others : List ParsedFile)
    → files ≡ drop n all → others ≡ drop n behind → file_names files ≡ file_names others → walk_or_unreached_file_fault w n files ≡ Ok w
    → walk_or_unreached_file_fault other n others ≡ Ok other
unreached_files_are_checked_alike_on_walks w other all behind on stay n [] [] from at same is = refl
unreached_files_are_checked_alike_on_walks w other all behind on stay n [] (new ∷ others) from at same is = absurd cc
unreached_files_are_checked_alike_on_walks w other all behind on stay n (file ∷ files) [] from at same is = absurd cc
unreached_files_are_checked_alike_on_walks w other all behind on stay n (file ∷ files) (new ∷ others) from at same is =
    by_test (is_file_on_walk w n) refl is
    (unreached_files_are_checked_alike_on_walks w other all behind on stay (n + 1) files others (rest_of_drop_is_later_drop files all n file from) (rest_of_drop_is_later_drop others behind n new at)
    (same_file_names_have_same_first_and_rest file new files others same).1)
  where
    Later : Type 0
    Later = walk_or_unreached_file_fault w (n + 1) files ≡ Ok w → walk_or_unreached_file_fault other (n + 1) others ≡ Ok other

    on_alike : is_file_on_walk other n ≡ is_file_on_walk w n
    on_alike = ap (list_any (nat_eq n)) on

    rest : WalkState → Option ReadFault → Bool → Result WalkState LoadFault
    rest v fault b = load_result_and_then (if b then Ok v else value_unless_file_fault new.name v fault) (λ same. walk_or_unreached_file_fault v (n + 1) others)

    by_fault : (o : Option ReadFault) → first_fault_of_unreached_file file ≡ o → is_file_on_walk w n ≡ false
        → load_result_and_then (value_unless_file_fault file.name w o) (λ same. walk_or_unreached_file_fault w (n + 1) files) ≡ Ok w → Later → walk_or_unreached_file_fault other n (new ∷ others) ≡ Ok other
    by_fault None none off e later =
        let got : (let o : Option ParsedFile = Some new in o) ≡ Some file =
        sym (first_of_drop_is_numbered_item others behind n new at) ∙ stay n off ∙ first_of_drop_is_numbered_item files all n file from in
        let one : new ≡ file = cc in
        ap (rest other (first_fault_of_unreached_file new)) (on_alike ∙ off) ∙ ap (λ o. rest other o false) (ap first_fault_of_unreached_file one ∙ none) ∙ later e
    by_fault (Some fault) none off e later = absurd cc

    by_test : (b : Bool) → is_file_on_walk w n ≡ b → load_result_and_then (if b then Ok w else value_unless_file_fault file.name w (first_fault_of_unreached_file file)) (λ same. walk_or_unreached_file_fault w (n + 1) files) ≡ Ok w
        → Later → walk_or_unreached_file_fault other n (new ∷ others) ≡ Ok other
    by_test true here e later = ap (rest other (first_fault_of_unreached_file new)) (on_alike ∙ here) ∙ later e
    by_test false off e later = by_fault (first_fault_of_unreached_file file) refl off e later

-- ---- all files

-- The policy of files of which lines were changed: the files, and the walk over them.
abbrev pub LoadsAsMappedPolicy : LineToLinesMapping → LoadedPolicy → List ParsedFile → Type 0
LoadsAsMappedPolicy g policy others =
    (other : WalkState) × (policy_or_load_fault (map named_file_of_parsed others) ≡ Ok (record { files = others; walk = other })) × (walk_or_fault_of_files others ≡ Ok other)
    × IsMappedWalk g policy.walk other

pub mapped_files_load_as_mapped_policy : ComputedCutsAreCutOutcomes → LinesAreParsedUntilFault → LinesAreParsedInOneWay → SeparateLinesAreCutFromTheirJoin → ComputedLineOutcomesAreLineOutcomes → (g : LineToLinesMapping) (policy : LoadedPolicy) (others : List ParsedFile)
    → policy_or_load_fault (named_files_of_policy policy) ≡ Ok policy → AreFilesMapped g policy.files others policy.walk → CanReplaceFiles policy.files others policy.walk
    → AreDefinedNamesValid (mapped_lines_at_spots g policy.walk.spots policy.walk.lines) → LoadsAsMappedPolicy g policy others
mapped_files_load_as_mapped_policy cuts reads one joins lines g policy others is are can names =
    let load = loaded_policy_is_load_of_files (named_files_of_policy policy) policy is in
    let (other, walk, mapped) = walk_of_mapped_files_is_mapped_walk g policy.files others policy.walk load.walks are names in
    let few : AreFewFilesWithDistinctNames (named_files_of_policy policy) = loaded_files_are_few_with_distinct_names (named_files_of_policy policy) policy is in
    let again : AllByRecursion IsFileReadAgainAsItIs others =
    replacing_files_are_read_again_as_they_are g policy.files others policy.walk are can (loaded_file_is_read_again_as_it_is cuts reads joins lines (named_files_of_policy policy) policy is) in
    let off : walk_or_unreached_file_fault other 0 others ≡ Ok other =
    unreached_files_are_checked_alike_on_walks policy.walk other policy.files others mapped.on can.stay 0 policy.files others refl refl (sym are.names) load.off in
    let loads : policy_or_load_fault (map named_file_of_parsed others) ≡ policy_of_parsed_files others =
    parsed_files_give_the_load_outcome (map named_file_of_parsed others) others (ap (nat_lt file_limit) (same_file_names_have_same_count policy.files others (sym are.names)) ∙ few.few)
    (same_file_names_have_same_repeated_name [] policy.files others (sym are.names) ∙ few.once) (files_read_again_are_parsed_as_they_are one [] others again) in
    let whole : walk_or_first_fault others ≡ Ok other = outcome_of_unreached_files_is_outcome others others other (Ok other) walk refl off in
    (other, loads ∙ ap (λ r. load_result_and_then r (λ w. Ok (record { files = others; walk = w }))) whole, walk, mapped)
