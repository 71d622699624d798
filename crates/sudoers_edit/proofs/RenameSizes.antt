-- The files to which a rename leads are a policy, unless one is too large.
use Rattle.sudoers_edit.proofs.Common.{named_files_after_rename}
use Rattle.sudoers_edit.proofs.Common.{AllByRecursion, AreDefinedNamesValid, AreFilesMapped, AreValidWalkLines, Bool, CanReplaceFiles, EachIsOneLineWhenCut, Err, IsCorrectlyParsed, IsDefinableName, IsLogicalLine}
use Rattle.sudoers_edit.proofs.Common.{IsPolicyAfterRename, Kind, Line, List, LoadFault, LoadedPolicy, NamedAlias, NamedFile, Ok, ParsedFile, TextSizeLawsBehindRenames, Result, TextFault, WalkState, [], ap, arith}
use Rattle.sudoers_edit.proofs.Common.{cut_outcome_of_text, false, file_limit, file_names, has_inner_line_without_lf, if◌then◌else◌, inl, inr, is_file_on_walk, is_line_too_long, join}
use Rattle.sudoers_edit.proofs.Common.{length, line_after_rename, line_limit, line_text_after_rename, lines_after_rename, lines_of_numbered_file, list_any, load_then, ltb-false, map, mapped_lines_at_spots}
use Rattle.sudoers_edit.proofs.Common.{named_alias_of_kind_and_name, named_file_of_parsed, named_files_of_policy, named_files_numbered_from_replaced_if_on_walk, or_false, parsed_file_of_texts, parsed_file_of_cut_or_fault}
use Rattle.sudoers_edit.proofs.Common.{parsed_files_after_rename, parsed_files_or_cut_fault, policy_of_parsed_files, policy_or_load_fault, refl, subst, suc, sym, text_limit, texts_of_lines, texts_with_name_replaced}
use Rattle.sudoers_edit.proofs.Common.{true, zero, ℕ, ◌++◌, ◌+◌, ◌∙◌, ◌∷◌, ◌≡◌, ◌≤◌, ◌⊎◌}
use Rattle.std.proofs.Common.{nat_lt}
use Rattle.sudoers_text.specs.declared.fault.TextFault.TheVariants as text
use Rattle.sudoers_tree.specs.declared.fault.ReadFault.TheVariants as read
use Rattle.sudoers_tree.specs.declared.load_fault.LoadFault.TheVariants.{InFile}
use Rattle.sudoers_tree.proofs.ChangedLoads.{AreFewFilesWithDistinctNames, loaded_files_are_few_with_distinct_names}
use Rattle.sudoers_tree.proofs.Loads.{accepted_files_load_by_their_parsed_files}
use Rattle.sudoers_tree.proofs.SameNames.{same_file_names_have_same_count, same_file_names_have_same_repeated_name}
use Rattle.sudoers_edit.proofs.RenamedPolicy.{renamed_lines_are_correctly_parsed}
use Rattle.sudoers_edit.proofs.RenamedTexts.{texts_with_name_replaced_are_renamed_texts}
use Rattle.sudoers_edit.proofs.RenameFiles.{rename_keeps_include_leads, rename_mapping_maps_lines_to_renamed, rename_mapping_maps_walk_to_renamed, line_mapping_of_rename}
use Rattle.sudoers_edit.proofs.SoundFiles.{AreSoundFiles, loaded_files_are_sound}
use Rattle.sudoers_edit.proofs.RenameLines.{renamed_lines_keep_inner_lf}
use Rattle.sudoers_edit.proofs.RenameReadings.{renamed_parsed_files_have_no_fault, renamed_files_are_files_with_name_replaced, parsed_file_on_walk_has_renamed_lines, rename_keeps_file_names_of_parsed_files, parsed_file_not_on_walk_is_kept}

-- ONE FILE

short_renamed_lines_are_cut_alone : TextSizeLawsBehindRenames → (alias : NamedAlias) (fresh : List ℕ) → IsDefinableName alias.name → IsDefinableName fresh → (lines : List Line)
    → EachIsOneLineWhenCut (texts_of_lines lines) → AllByRecursion IsCorrectlyParsed lines → list_any is_line_too_long (texts_of_lines (map (line_after_rename alias fresh) lines)) ≡ false
    → EachIsOneLineWhenCut (texts_of_lines (map (line_after_rename alias fresh) lines))
short_renamed_lines_are_cut_alone l alias fresh old new [] each says short = tt
short_renamed_lines_are_cut_alone l alias fresh old new (line ∷ lines) each says short =
    let text : List ℕ = line_text_after_rename alias fresh line.node line.text in
    let logical : IsLogicalLine text =
    l.base.lines.line alias fresh line.text line.node old new says.0 (l.base.lines.tells line.text (l.base.lines.logical line.text each.0)) in
    let p = or_false (is_line_too_long text) (list_any is_line_too_long (texts_of_lines (map (line_after_rename alias fresh) lines))) short in
    (l.whole text (l.told text logical) (omega (arith, ltb-false line_limit (length text) p.0)), short_renamed_lines_are_cut_alone l alias fresh old new lines each.1 says.1 p.1)

-- A file of which no line is too long then is cut into the renamed lines, if it is within the limit.
fitting_renamed_file_is_cut_in_lines : TextSizeLawsBehindRenames → (k : Kind) (name fresh : List ℕ) → IsDefinableName name → IsDefinableName fresh → (lines : List Line)
    → EachIsOneLineWhenCut (texts_of_lines lines) → AllByRecursion IsCorrectlyParsed lines → has_inner_line_without_lf (texts_of_lines lines) ≡ false
    → list_any is_line_too_long (texts_with_name_replaced k name fresh lines) ≡ false → length (join (texts_of_lines (lines_after_rename k name fresh lines))) ≤ text_limit
    → cut_outcome_of_text (join (texts_of_lines (lines_after_rename k name fresh lines))) ≡ Ok (texts_of_lines (lines_after_rename k name fresh lines))
fitting_renamed_file_is_cut_in_lines l k name fresh old new lines each says ended short fits =
    l.joined (texts_of_lines (lines_after_rename k name fresh lines))
    (short_renamed_lines_are_cut_alone l (named_alias_of_kind_and_name k name) fresh old new lines each says
    (ap (list_any is_line_too_long) (sym (texts_with_name_replaced_are_renamed_texts l.base.lines.ascend k name fresh lines says)) ∙ short))
    (renamed_lines_keep_inner_lf l.base.lines (named_alias_of_kind_and_name k name) fresh old new lines says ∙ ended) fits

bytes_past_limit_are_too_large : (bytes : List ℕ) → nat_lt text_limit (length bytes) ≡ true → cut_outcome_of_text bytes ≡ Err text.TooLarge
unfolding cut_outcome_of_text
bytes_past_limit_are_too_large bytes large = rw large refl

-- ONE FILE AFTER ANOTHER

-- reading ends at a text that is too large
abbrev pub ReadingStopsAtTooLargeText : Result (List ParsedFile) LoadFault → Type 0
ReadingStopsAtTooLargeText outcome = (name : List ℕ) × (outcome ≡ Err (InFile name (read.Text text.TooLarge)))

-- Each of these files on the walk is within the limit then.
abbrev RenamedFilesFitTextLimit : ℕ → Kind → List ℕ → List ℕ → WalkState → List ParsedFile → Type 0
RenamedFilesFitTextLimit m k name fresh w files =
    (i f : ℕ) → f ≡ m + i → is_file_on_walk w f ≡ true → length (join (texts_of_lines (lines_after_rename k name fresh (lines_of_numbered_file files i)))) ≤ text_limit

-- What the lines of files are, and that none is too long then.
record AreSoundAndShortOnWalk (m : ℕ) (k : Kind) (name fresh : List ℕ) (w : WalkState) (files : List ParsedFile) : Type 0 where
  sound : AreSoundFiles files
  cut : (i : ℕ) → cut_outcome_of_text (join (texts_of_lines (lines_of_numbered_file files i))) ≡ Ok (texts_of_lines (lines_of_numbered_file files i))
  short : (i f : ℕ) → f ≡ m + i → is_file_on_walk w f ≡ true → list_any is_line_too_long (texts_with_name_replaced k name fresh (lines_of_numbered_file files i)) ≡ false

sound_short_files_have_sound_short_rest : (m : ℕ) (k : Kind) (name fresh : List ℕ) (w : WalkState) (file : ParsedFile) (files : List ParsedFile)
    → AreSoundAndShortOnWalk m k name fresh w (file ∷ files) → AreSoundAndShortOnWalk (m + 1) k name fresh w files
sound_short_files_have_sound_short_rest m k name fresh w file files good = record {
  sound = record { says = λ i. good.sound.says (suc i); each = λ i. good.sound.each (suc i); ended = λ i. good.sound.ended (suc i) };
  cut = λ i. good.cut (suc i);
  short = λ i f is on. good.short (suc i) f (omega (arith, is)) on;
}

renamed_files_fit_or_stop_too_large : TextSizeLawsBehindRenames → (m : ℕ) (k : Kind) (name fresh : List ℕ) → IsDefinableName name → IsDefinableName fresh → (w : WalkState)
    (before files : List ParsedFile) → AreSoundAndShortOnWalk m k name fresh w files
    → ReadingStopsAtTooLargeText (parsed_files_or_cut_fault before (named_files_numbered_from_replaced_if_on_walk m k name fresh w files)) ⊎ RenamedFilesFitTextLimit m k name fresh w files
renamed_files_fit_or_stop_too_large l m k name fresh old new w before [] good = inr (λ i f is on. omega arith)
renamed_files_fit_or_stop_too_large l m k name fresh old new w before (file ∷ files) good =
    by (is_file_on_walk w m) refl (λ read. renamed_files_fit_or_stop_too_large l (m + 1) k name fresh old new w (before ++ read ∷ []) files (sound_short_files_have_sound_short_rest m k name fresh w file files good))
  where
    rest : List NamedFile
    rest = named_files_numbered_from_replaced_if_on_walk (m + 1) k name fresh w files

    bytes : List ℕ
    bytes = join (texts_of_lines (lines_after_rename k name fresh file.lines))

    -- the outcome with this cut of the file
    with_cut : Result (List (List ℕ)) TextFault → Result (List ParsedFile) LoadFault
    with_cut cut = load_then (parsed_file_of_cut_or_fault file.name cut) (λ read. parsed_files_or_cut_fault (before ++ read ∷ []) rest)

    Later : Type 0
    Later = (read : ParsedFile) → ReadingStopsAtTooLargeText (parsed_files_or_cut_fault (before ++ read ∷ []) rest) ⊎ RenamedFilesFitTextLimit (m + 1) k name fresh w files

    first_or_later : (is_file_on_walk w m ≡ true → length bytes ≤ text_limit) → RenamedFilesFitTextLimit (m + 1) k name fresh w files → RenamedFilesFitTextLimit m k name fresh w (file ∷ files)
    first_or_later here later zero f is on =
        let same : f ≡ m = omega (arith, is) in
        here (ap (λ (n : ℕ). is_file_on_walk w n) (sym same) ∙ on)
    first_or_later here later (suc i) f is on = later i f (omega (arith, is)) on

    goes_on : (written : List ℕ) (lines : List (List ℕ)) → cut_outcome_of_text written ≡ Ok lines → (is_file_on_walk w m ≡ true → length bytes ≤ text_limit) → Later
        → ReadingStopsAtTooLargeText (with_cut (cut_outcome_of_text written)) ⊎ RenamedFilesFitTextLimit m k name fresh w (file ∷ files)
    goes_on written lines cut here later = elim (later (parsed_file_of_texts file.name lines)) [
      | inl stops ↦ inl (stops.0, ap with_cut cut ∙ stops.1)
      | inr fit ↦ inr (first_or_later here fit)
    ]

    by_size : is_file_on_walk w m ≡ true → (b : Bool) → nat_lt text_limit (length bytes) ≡ b → Later
        → ReadingStopsAtTooLargeText (with_cut (cut_outcome_of_text bytes)) ⊎ RenamedFilesFitTextLimit m k name fresh w (file ∷ files)
    by_size on true large later = inl (file.name, ap with_cut (bytes_past_limit_are_too_large bytes large))
    by_size on false small later =
        let fits : length bytes ≤ text_limit = omega (arith, ltb-false text_limit (length bytes) small) in
        goes_on bytes (texts_of_lines (lines_after_rename k name fresh file.lines))
        (fitting_renamed_file_is_cut_in_lines l k name fresh old new file.lines (good.sound.each 0) (good.sound.says 0) (good.sound.ended 0) (good.short 0 m (omega arith) on) fits)
        (λ on. fits) later

    by : (b : Bool) → is_file_on_walk w m ≡ b → Later
        → ReadingStopsAtTooLargeText (parsed_files_or_cut_fault before ((if b then record { name = file.name; bytes = join (texts_with_name_replaced k name fresh file.lines) } else named_file_of_parsed file) ∷ rest))
        ⊎ RenamedFilesFitTextLimit m k name fresh w (file ∷ files)
    by true on later =
        subst (λ (lines : List (List ℕ)). ReadingStopsAtTooLargeText (with_cut (cut_outcome_of_text (join lines))) ⊎ RenamedFilesFitTextLimit m k name fresh w (file ∷ files))
        (sym (texts_with_name_replaced_are_renamed_texts l.base.lines.ascend k name fresh file.lines (good.sound.says 0))) (by_size on (nat_lt text_limit (length bytes)) refl later)
    by false off later =
        goes_on (join (texts_of_lines file.lines)) (texts_of_lines file.lines) (good.cut 0) (λ on. absurd (let both : true ≡ false = sym on ∙ off in cc)) later

-- ALL FILES

-- the alias and the names, of a policy whose walk defines it, and no line of whose files is too long then
pub record IsRenameableWithinLines (k : Kind) (name fresh : List ℕ) (policy : LoadedPolicy) : Type 0 where
  pub loaded : policy_or_load_fault (named_files_of_policy policy) ≡ Ok policy
  pub old : IsDefinableName name
  pub new : IsDefinableName fresh
  pub names : AreValidWalkLines (lines_after_rename k name fresh policy.walk.lines)
  pub short : (f : ℕ) → is_file_on_walk policy.walk f ≡ true → list_any is_line_too_long (texts_with_name_replaced k name fresh (lines_of_numbered_file policy.files f)) ≡ false

-- The renamed files are a policy, with the walk over them.
pub record LoadsRenamedFiles (k : Kind) (name fresh : List ℕ) (policy : LoadedPolicy) : Type 0 where
  pub new : LoadedPolicy
  pub is : policy_or_load_fault (named_files_after_rename k name fresh policy) ≡ Ok new
  pub renamed_is : IsPolicyAfterRename k name fresh policy new

renamed_files_are_mapped : TextSizeLawsBehindRenames → (k : Kind) (name fresh : List ℕ) (policy : LoadedPolicy) → policy_or_load_fault (named_files_of_policy policy) ≡ Ok policy
    → AreFilesMapped (line_mapping_of_rename k name fresh) policy.files (parsed_files_after_rename k name fresh policy) policy.walk
renamed_files_are_mapped l k name fresh policy loaded = record {
  names = rename_keeps_file_names_of_parsed_files 0 k name fresh policy.walk policy.files;
  lines = λ f on. parsed_file_on_walk_has_renamed_lines f f 0 k name fresh policy.walk policy.files (omega arith) on ∙ sym (rename_mapping_maps_lines_to_renamed f 0 k name fresh (lines_of_numbered_file policy.files f));
  parse = λ f on. renamed_parsed_files_have_no_fault f 0 k name fresh policy.walk policy.files (l.parse (named_files_of_policy policy) policy loaded);
  leads = rename_keeps_include_leads k name fresh policy.files policy.walk;
}

fitting_renamed_files_can_replace_files : TextSizeLawsBehindRenames → (k : Kind) (name fresh : List ℕ) (policy : LoadedPolicy) → IsRenameableWithinLines k name fresh policy
    → RenamedFilesFitTextLimit 0 k name fresh policy.walk policy.files → CanReplaceFiles policy.files (parsed_files_after_rename k name fresh policy) policy.walk
fitting_renamed_files_can_replace_files l k name fresh policy can fit =
    record {
      stay = λ f off. parsed_file_not_on_walk_is_kept f f 0 k name fresh policy.walk policy.files (omega arith) off;
      cut = λ f on.
          let lines : List Line = lines_of_numbered_file policy.files f in
          subst (λ (ls : List Line). cut_outcome_of_text (join (texts_of_lines ls)) ≡ Ok (texts_of_lines ls)) (sym (now f on))
          (fitting_renamed_file_is_cut_in_lines l k name fresh can.old can.new lines (sound.each f) (sound.says f) (sound.ended f) (can.short f on) (fit f f (omega arith) on));
      says = λ f on.
          subst (AllByRecursion IsCorrectlyParsed) (sym (now f on))
          (renamed_lines_are_correctly_parsed l.base.lines.same (named_alias_of_kind_and_name k name) fresh can.old can.new (lines_of_numbered_file policy.files f) (sound.says f));
    }
  where
    sound : AreSoundFiles policy.files
    sound = loaded_files_are_sound l.base policy can.loaded

    now : (f : ℕ) → is_file_on_walk policy.walk f ≡ true → lines_of_numbered_file (parsed_files_after_rename k name fresh policy) f ≡ lines_after_rename k name fresh (lines_of_numbered_file policy.files f)
    now f on = parsed_file_on_walk_has_renamed_lines f f 0 k name fresh policy.walk policy.files (omega arith) on

pub fitting_renamed_files_load : TextSizeLawsBehindRenames → (k : Kind) (name fresh : List ℕ) (policy : LoadedPolicy) → IsRenameableWithinLines k name fresh policy
    → RenamedFilesFitTextLimit 0 k name fresh policy.walk policy.files → LoadsRenamedFiles k name fresh policy
fitting_renamed_files_load l k name fresh policy can fit =
    let lines : List Line = lines_after_rename k name fresh policy.walk.lines in
    let mapped : mapped_lines_at_spots (line_mapping_of_rename k name fresh) policy.walk.spots policy.walk.lines ≡ lines =
    rename_mapping_maps_walk_to_renamed k name fresh policy.files policy.walk.spots policy.walk.lines (l.base.stand (named_files_of_policy policy) policy can.loaded) in
    let names : AreDefinedNamesValid lines = record { free = can.names.free; once = can.names.once; few = can.names.few } in
    let got =
    l.loads (line_mapping_of_rename k name fresh) policy (parsed_files_after_rename k name fresh policy) can.loaded (renamed_files_are_mapped l k name fresh policy can.loaded)
    (fitting_renamed_files_can_replace_files l k name fresh policy can fit) (subst AreDefinedNamesValid (sym mapped) names) in
    record {
      new = record { files = parsed_files_after_rename k name fresh policy; walk = got.0 };
      is = got.1;
      renamed_is = record { files = refl; lines = got.3.lines ∙ mapped; on = got.3.on };
    }

-- loading ends at a text that is too large
abbrev pub LoadStopsAtTooLargeText : Result LoadedPolicy LoadFault → Type 0
LoadStopsAtTooLargeText outcome = (name : List ℕ) × (outcome ≡ Err (InFile name (read.Text text.TooLarge)))

pub renamed_files_load_or_are_too_large : TextSizeLawsBehindRenames → (k : Kind) (name fresh : List ℕ) (policy : LoadedPolicy) → IsRenameableWithinLines k name fresh policy
    → LoadStopsAtTooLargeText (policy_or_load_fault (named_files_after_rename k name fresh policy)) ⊎ LoadsRenamedFiles k name fresh policy
renamed_files_load_or_are_too_large l k name fresh policy can =
    by (subst (λ (files : List NamedFile). ReadingStopsAtTooLargeText (parsed_files_or_cut_fault [] files) ⊎ RenamedFilesFitTextLimit 0 k name fresh policy.walk policy.files)
    (sym (renamed_files_are_files_with_name_replaced l.base.lines 0 k name fresh policy.walk policy.files sound.says))
    (renamed_files_fit_or_stop_too_large l 0 k name fresh can.old can.new policy.walk [] policy.files (record {
      sound = sound;
      cut = l.base.cut (named_files_of_policy policy) policy can.loaded;
      short = λ i f is on.
          let same : f ≡ i = omega (arith, is) in
          can.short i (ap (λ (n : ℕ). is_file_on_walk policy.walk n) (sym same) ∙ on);
    })))
  where
    sound : AreSoundFiles policy.files
    sound = loaded_files_are_sound l.base policy can.loaded

    few : AreFewFilesWithDistinctNames (named_files_of_policy policy)
    few = loaded_files_are_few_with_distinct_names (named_files_of_policy policy) policy can.loaded

    names : file_names policy.files ≡ file_names (parsed_files_after_rename k name fresh policy)
    names = sym (rename_keeps_file_names_of_parsed_files 0 k name fresh policy.walk policy.files)

    as_read : policy_or_load_fault (named_files_after_rename k name fresh policy) ≡ load_then (parsed_files_or_cut_fault [] (named_files_after_rename k name fresh policy)) policy_of_parsed_files
    as_read =
        accepted_files_load_by_their_parsed_files (named_files_after_rename k name fresh policy)
        (ap (nat_lt file_limit) (same_file_names_have_same_count policy.files (parsed_files_after_rename k name fresh policy) names) ∙ few.few)
        (same_file_names_have_same_repeated_name [] policy.files (parsed_files_after_rename k name fresh policy) names ∙ few.once)

    by : ReadingStopsAtTooLargeText (parsed_files_or_cut_fault [] (named_files_after_rename k name fresh policy)) ⊎ RenamedFilesFitTextLimit 0 k name fresh policy.walk policy.files
        → LoadStopsAtTooLargeText (policy_or_load_fault (named_files_after_rename k name fresh policy)) ⊎ LoadsRenamedFiles k name fresh policy
    by (inl stops) = inl (stops.0, as_read ∙ ap (λ r. load_then r policy_of_parsed_files) stops.1)
    by (inr fit) = inr (fitting_renamed_files_load l k name fresh policy can fit)
