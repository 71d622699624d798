-- The files of a policy in which an alias has another name: the walk over them, and the name given back.
use Rattle.sudoers_edit.proofs.Common.{AliasRenaming, AllByRecursion, AreApplicableChanges, AreLinesAtSpots, Bool, IsCorrectlyParsed, IsDefinableName, IsMappedWalk, KeepIncludeLeads, Kind, Line, LineChange}
use Rattle.sudoers_edit.proofs.Common.{LineToLinesMapping, List, LoadedPolicy, LoadedFileLawsBehindRenames, MakeMappedLines, NamedFile, Node, Ok, ParsedFile, WalkLineSpot, WalkState, [], ap, ap₂, arith, changed_files_from_number}
use Rattle.sudoers_edit.proofs.Common.{changes_of_file, false, file_names, files_after_changes, has_inner_line_without_lf, if◌then◌else◌, is_file_on_walk, join, lead_of_parsed_line, length, line_after_rename}
use Rattle.sudoers_edit.proofs.Common.{lines_after_changes, lines_after_rename, lines_of_numbered_file, list_any, map, mapped_lines_at_spots, mapped_lines_from_number, name_of_numbered_file, named_alias_of_kind_and_name}
use Rattle.sudoers_edit.proofs.Common.{named_file_of_parsed, named_files_with_name_replaced, named_files_of_policy, named_files_numbered_from_replaced_if_on_walk, nat_eq, node_with_alias_renamed, one, policy_or_load_fault, refl}
use Rattle.sudoers_edit.proofs.Common.{rename_changes_in_files, renaming_of_alias_in_node, subst, suc, sym, texts_of_lines, texts_with_name_replaced, true, ℕ, ◌+◌, ◌∙◌, ◌∷◌, ◌≡◌}
use Rattle.sudoers_grammar.specs.Node as node
use Rattle.sudoers_edit.proofs.NameFree.{IsLineWithoutAlias}
use Rattle.sudoers_edit.proofs.RenamedPolicy.{renamed_lines_are_correctly_parsed}
use Rattle.sudoers_edit.proofs.RenamedTexts.{texts_with_name_replaced_are_renamed_texts}
use Rattle.sudoers_edit.proofs.RenameCovers.{walk_line_property_holds_in_its_files}
use Rattle.sudoers_edit.proofs.SoundFiles.{AreSoundFiles, loaded_files_are_sound}
use Rattle.sudoers_edit.proofs.RenameLines.{rename_changes_in_files_bring_logical_lines, renamed_lines_keep_inner_lf, texts_of_reverse_renamed_lines_are_former}
use Rattle.sudoers_edit.proofs.RenameSwaps.{rename_changes_are_in_file_order, rename_changes_make_lines_of_each_file, rename_changes_of_each_file_are_in_order}

-- THE CHANGES

-- the changes that give an alias another name
abbrev pub rename_changes_of_policy : Kind → List ℕ → List ℕ → LoadedPolicy → List LineChange
rename_changes_of_policy k name fresh policy = rename_changes_in_files 0 k name fresh policy.walk policy.files

-- They can be made.
pub rename_changes_are_applicable : LoadedFileLawsBehindRenames → (k : Kind) (name fresh : List ℕ) → IsDefinableName name → IsDefinableName fresh → (policy : LoadedPolicy) → AreSoundFiles policy.files
    → AreApplicableChanges (rename_changes_of_policy k name fresh policy) policy.files
rename_changes_are_applicable l k name fresh old new policy sound = record {
  by_files = rename_changes_are_in_file_order 0 0 (length policy.files) k name fresh policy.walk policy.files (omega arith) (omega arith);
  order = λ f. rename_changes_of_each_file_are_in_order f k name fresh policy.walk policy.files;
  lines = rename_changes_in_files_bring_logical_lines l.lines 0 k name fresh old new policy.walk policy.files sound.each sound.says;
  ended = λ f. ap has_inner_line_without_lf (rename_changes_make_lines_of_each_file l.none l.first f k name fresh policy.walk policy.files) ∙ ended f (is_file_on_walk policy.walk f);
}
  where
    ended : (f : ℕ) (on : Bool) → has_inner_line_without_lf (if on then texts_with_name_replaced k name fresh (lines_of_numbered_file policy.files f) else texts_of_lines (lines_of_numbered_file policy.files f)) ≡ false
    ended f true =
        ap has_inner_line_without_lf (texts_with_name_replaced_are_renamed_texts l.lines.ascend k name fresh (lines_of_numbered_file policy.files f) (sound.says f))
        ∙ renamed_lines_keep_inner_lf l.lines (named_alias_of_kind_and_name k name) fresh old new (lines_of_numbered_file policy.files f) (sound.says f)
        ∙ sound.ended f
    ended f false = sound.ended f

-- They make these files.
files_with_name_replaced_are_made_from_number : (m : ℕ) (k : Kind) (name fresh : List ℕ) (w : WalkState) (changes : List LineChange) (files : List ParsedFile)
    → ((i f : ℕ) → f ≡ m + i → lines_after_changes (changes_of_file f changes) (texts_of_lines (lines_of_numbered_file files i))
    ≡ if is_file_on_walk w f then texts_with_name_replaced k name fresh (lines_of_numbered_file files i) else texts_of_lines (lines_of_numbered_file files i))
    → changed_files_from_number m changes files ≡ named_files_numbered_from_replaced_if_on_walk m k name fresh w files
files_with_name_replaced_are_made_from_number m k name fresh w changes [] make = refl
files_with_name_replaced_are_made_from_number m k name fresh w changes (file ∷ files) make =
    ap₂ (λ (first : NamedFile) (rest : List NamedFile). first ∷ rest) (by (is_file_on_walk w m) (make 0 m (omega arith)))
    (files_with_name_replaced_are_made_from_number (m + 1) k name fresh w changes files (λ i f is. make (suc i) f (omega (arith, is))))
  where
    now : List (List ℕ)
    now = lines_after_changes (changes_of_file m changes) (texts_of_lines file.lines)

    by : (on : Bool) → now ≡ (if on then texts_with_name_replaced k name fresh file.lines else texts_of_lines file.lines)
        → (let made : NamedFile = record { name = file.name; bytes = join now } in made)
        ≡ (if on then record { name = file.name; bytes = join (texts_with_name_replaced k name fresh file.lines) } else named_file_of_parsed file)
    by true is = ap (λ (lines : List (List ℕ)). let made : NamedFile = record { name = file.name; bytes = join lines } in made) is
    by false is = ap (λ (lines : List (List ℕ)). let made : NamedFile = record { name = file.name; bytes = join lines } in made) is

pub rename_changes_make_files_with_name_replaced : LoadedFileLawsBehindRenames → (k : Kind) (name fresh : List ℕ) (policy : LoadedPolicy)
    → files_after_changes (rename_changes_of_policy k name fresh policy) policy.files ≡ named_files_with_name_replaced k name fresh policy
rename_changes_make_files_with_name_replaced l k name fresh policy =
    files_with_name_replaced_are_made_from_number 0 k name fresh policy.walk (rename_changes_of_policy k name fresh policy) policy.files (λ i f is.
    let same : f ≡ i = omega (arith, is) in
    subst (λ (n : ℕ). lines_after_changes (changes_of_file n (rename_changes_of_policy k name fresh policy)) (texts_of_lines (lines_of_numbered_file policy.files i))
    ≡ if is_file_on_walk policy.walk n then texts_with_name_replaced k name fresh (lines_of_numbered_file policy.files i) else texts_of_lines (lines_of_numbered_file policy.files i)) (sym same)
    (rename_changes_make_lines_of_each_file l.none l.first i k name fresh policy.walk policy.files))

-- THE WALK

-- each line with another name for an alias
abbrev pub line_mapping_of_rename : Kind → List ℕ → List ℕ → LineToLinesMapping
line_mapping_of_rename k name fresh = λ f n line. line_after_rename (named_alias_of_kind_and_name k name) fresh line ∷ []

pub rename_mapping_maps_lines_to_renamed : (f n : ℕ) (k : Kind) (name fresh : List ℕ) (lines : List Line) → mapped_lines_from_number (line_mapping_of_rename k name fresh) f n lines ≡ lines_after_rename k name fresh lines
rename_mapping_maps_lines_to_renamed f n k name fresh [] = refl
rename_mapping_maps_lines_to_renamed f n k name fresh (line ∷ lines) =
    ap (λ (ls : List Line). line_after_rename (named_alias_of_kind_and_name k name) fresh line ∷ ls) (rename_mapping_maps_lines_to_renamed f (n + 1) k name fresh lines)

pub rename_mapping_maps_walk_to_renamed : (k : Kind) (name fresh : List ℕ) (files : List ParsedFile) (spots : List WalkLineSpot) (lines : List Line) → AreLinesAtSpots files spots lines
    → mapped_lines_at_spots (line_mapping_of_rename k name fresh) spots lines ≡ lines_after_rename k name fresh lines
rename_mapping_maps_walk_to_renamed k name fresh files [] [] stand = refl
rename_mapping_maps_walk_to_renamed k name fresh files [] (line ∷ lines) stand = absurd stand
rename_mapping_maps_walk_to_renamed k name fresh files (at ∷ spots) [] stand = absurd stand
rename_mapping_maps_walk_to_renamed k name fresh files (at ∷ spots) (line ∷ lines) stand =
    ap (λ (ls : List Line). line_after_rename (named_alias_of_kind_and_name k name) fresh line ∷ ls) (rename_mapping_maps_walk_to_renamed k name fresh files spots lines stand.1)

-- a line with another name leads where it led
renamed_line_keeps_include_lead : (file : List ℕ) (r : AliasRenaming) (says : Node) → lead_of_parsed_line file (node_with_alias_renamed r says) ≡ lead_of_parsed_line file says
renamed_line_keeps_include_lead file r node.Blank = refl
renamed_line_keeps_include_lead file r node.Comment = refl
renamed_line_keeps_include_lead file r (node.Include dir path) = refl
renamed_line_keeps_include_lead file r (node.Defaults scope params) = refl
renamed_line_keeps_include_lead file r (node.Alias k defs) = refl
renamed_line_keeps_include_lead file r (node.Spec users groups) = refl

pub rename_keeps_include_leads : (k : Kind) (name fresh : List ℕ) (files : List ParsedFile) (w : WalkState) → KeepIncludeLeads (line_mapping_of_rename k name fresh) files w
rename_keeps_include_leads k name fresh files w f n line on at =
    one (line_after_rename (named_alias_of_kind_and_name k name) fresh line)
    (renamed_line_keeps_include_lead (name_of_numbered_file files f) (renaming_of_alias_in_node (named_alias_of_kind_and_name k name) fresh line.node) line.node)

-- a file on the walk has the renamed lines
file_on_walk_has_renamed_lines : LoadedFileLawsBehindRenames → (k : Kind) (name fresh : List ℕ) (policy : LoadedPolicy) → AreSoundFiles policy.files → (f : ℕ) → is_file_on_walk policy.walk f ≡ true
    → lines_after_changes (changes_of_file f (rename_changes_of_policy k name fresh policy)) (texts_of_lines (lines_of_numbered_file policy.files f)) ≡ texts_of_lines (lines_after_rename k name fresh (lines_of_numbered_file policy.files f))
file_on_walk_has_renamed_lines l k name fresh policy sound f on =
    let lines : List Line = lines_of_numbered_file policy.files f in
    rename_changes_make_lines_of_each_file l.none l.first f k name fresh policy.walk policy.files
    ∙ ap (λ (b : Bool). if b then texts_with_name_replaced k name fresh lines else texts_of_lines lines) on
    ∙ texts_with_name_replaced_are_renamed_texts l.lines.ascend k name fresh lines (sound.says f)

-- and another file has its lines
file_not_on_walk_keeps_lines : LoadedFileLawsBehindRenames → (k : Kind) (name fresh : List ℕ) (policy : LoadedPolicy) → (f : ℕ) → is_file_on_walk policy.walk f ≡ false
    → lines_after_changes (changes_of_file f (rename_changes_of_policy k name fresh policy)) (texts_of_lines (lines_of_numbered_file policy.files f)) ≡ texts_of_lines (lines_of_numbered_file policy.files f)
file_not_on_walk_keeps_lines l k name fresh policy f off =
    let lines : List Line = lines_of_numbered_file policy.files f in
    rename_changes_make_lines_of_each_file l.none l.first f k name fresh policy.walk policy.files
    ∙ ap (λ (b : Bool). if b then texts_with_name_replaced k name fresh lines else texts_of_lines lines) off

rename_changes_make_mapped_lines : LoadedFileLawsBehindRenames → (k : Kind) (name fresh : List ℕ) → IsDefinableName name → IsDefinableName fresh → (policy : LoadedPolicy) → AreSoundFiles policy.files
    → MakeMappedLines (line_mapping_of_rename k name fresh) (rename_changes_of_policy k name fresh policy) policy.files policy.walk
rename_changes_make_mapped_lines l k name fresh old new policy sound = record {
  lines = λ f on. file_on_walk_has_renamed_lines l k name fresh policy sound f on ∙ ap texts_of_lines (sym (rename_mapping_maps_lines_to_renamed f 0 k name fresh (lines_of_numbered_file policy.files f)));
  says = λ f on.
      subst (AllByRecursion IsCorrectlyParsed) (sym (rename_mapping_maps_lines_to_renamed f 0 k name fresh (lines_of_numbered_file policy.files f)))
      (renamed_lines_are_correctly_parsed l.lines.same (named_alias_of_kind_and_name k name) fresh old new (lines_of_numbered_file policy.files f) (sound.says f));
  leads = rename_keeps_include_leads k name fresh policy.files policy.walk;
}

-- The files with the new name are a policy.
pub record IsLoadedAfterRename (k : Kind) (name fresh : List ℕ) (policy new : LoadedPolicy) : Type 0 where
  pub loaded : policy_or_load_fault (named_files_of_policy policy) ≡ Ok policy
  pub is : policy_or_load_fault (files_after_changes (rename_changes_of_policy k name fresh policy) policy.files) ≡ Ok new
  pub old_name : IsDefinableName name
  pub new_name : IsDefinableName fresh

pub walk_after_rename_is_renamed_walk : LoadedFileLawsBehindRenames → (k : Kind) (name fresh : List ℕ) (policy new : LoadedPolicy) → IsLoadedAfterRename k name fresh policy new
    → (new.walk.lines ≡ lines_after_rename k name fresh policy.walk.lines) × (new.walk.on ≡ policy.walk.on)
walk_after_rename_is_renamed_walk l k name fresh policy new r =
    let sound : AreSoundFiles policy.files = loaded_files_are_sound l policy r.loaded in
    let walk : IsMappedWalk (line_mapping_of_rename k name fresh) policy.walk new.walk =
    l.mapped (line_mapping_of_rename k name fresh) (rename_changes_of_policy k name fresh policy) policy new r.loaded (rename_changes_are_applicable l k name fresh r.old_name r.new_name policy sound) r.is
    (rename_changes_make_mapped_lines l k name fresh r.old_name r.new_name policy sound) in (
      walk.lines ∙ rename_mapping_maps_walk_to_renamed k name fresh policy.files policy.walk.spots policy.walk.lines (l.stand (named_files_of_policy policy) policy r.loaded),
      walk.on,
    )

-- THE NAME GIVEN BACK

files_with_name_replaced_back_are_former_from_number : (m : ℕ) (k : Kind) (name fresh : List ℕ) (w : WalkState) (olds news : List ParsedFile) → file_names news ≡ file_names olds
    → ((i f : ℕ) → f ≡ m + i → (if is_file_on_walk w f then texts_with_name_replaced k fresh name (lines_of_numbered_file news i) else texts_of_lines (lines_of_numbered_file news i)) ≡ texts_of_lines (lines_of_numbered_file olds i))
    → named_files_numbered_from_replaced_if_on_walk m k fresh name w news ≡ map named_file_of_parsed olds
files_with_name_replaced_back_are_former_from_number m k name fresh w [] [] names back = refl
files_with_name_replaced_back_are_former_from_number m k name fresh w [] (new ∷ news) names back = absurd cc
files_with_name_replaced_back_are_former_from_number m k name fresh w (old ∷ olds) [] names back = absurd cc
files_with_name_replaced_back_are_former_from_number m k name fresh w (old ∷ olds) (new ∷ news) names back =
    let same : new.name ≡ old.name = cc in
    let rest : file_names news ≡ file_names olds = cc in
    ap₂ (λ (first : NamedFile) (more : List NamedFile). first ∷ more) (by (is_file_on_walk w m) same (back 0 m (omega arith)))
    (files_with_name_replaced_back_are_former_from_number (m + 1) k name fresh w olds news rest (λ i f is. back (suc i) f (omega (arith, is))))
  where
    named : (called : List ℕ) (lines : List (List ℕ)) → called ≡ old.name → lines ≡ texts_of_lines old.lines
        → (let made : NamedFile = record { name = called; bytes = join lines } in made) ≡ named_file_of_parsed old
    named called lines is are = ap₂ (λ (n : List ℕ) (ls : List (List ℕ)). let made : NamedFile = record { name = n; bytes = join ls } in made) is are

    by : (on : Bool) → new.name ≡ old.name → (if on then texts_with_name_replaced k fresh name new.lines else texts_of_lines new.lines) ≡ texts_of_lines old.lines
        → (if on then record { name = new.name; bytes = join (texts_with_name_replaced k fresh name new.lines) } else named_file_of_parsed new) ≡ named_file_of_parsed old
    by true same is = named new.name (texts_with_name_replaced k fresh name new.lines) same is
    by false same is = named new.name (texts_of_lines new.lines) same is

-- the lines of a file, with the old name given back if the file is on the walk, are those before
reverse_rename_restores_lines_of_file : LoadedFileLawsBehindRenames → (k : Kind) (name fresh : List ℕ) (policy new : LoadedPolicy) → IsLoadedAfterRename k name fresh policy new
    → AllByRecursion (IsLineWithoutAlias k fresh) policy.walk.lines → (f : ℕ) → (on : Bool) → is_file_on_walk policy.walk f ≡ on
    → (if on then texts_with_name_replaced k fresh name (lines_of_numbered_file new.files f) else texts_of_lines (lines_of_numbered_file new.files f)) ≡ texts_of_lines (lines_of_numbered_file policy.files f)
reverse_rename_restores_lines_of_file l k name fresh policy new r without f true on =
    let sound : AreSoundFiles policy.files = loaded_files_are_sound l policy r.loaded in
    let can : AreApplicableChanges (rename_changes_of_policy k name fresh policy) policy.files = rename_changes_are_applicable l k name fresh r.old_name r.new_name policy sound in
    let lines : List Line = lines_of_numbered_file policy.files f in
    let now : lines_of_numbered_file new.files f ≡ lines_after_rename k name fresh lines =
    l.tell (lines_of_numbered_file new.files f) (lines_after_rename k name fresh lines) (l.said (files_after_changes (rename_changes_of_policy k name fresh policy) policy.files) new r.is f)
    (renamed_lines_are_correctly_parsed l.lines.same (named_alias_of_kind_and_name k name) fresh r.old_name r.new_name lines (sound.says f))
    (l.after (rename_changes_of_policy k name fresh policy) policy new r.loaded can r.is f ∙ file_on_walk_has_renamed_lines l k name fresh policy sound f on) in
    ap (texts_with_name_replaced k fresh name) now
    ∙ texts_of_reverse_renamed_lines_are_former l.lines k name fresh r.old_name r.new_name lines (sound.says f)
    (walk_line_property_holds_in_its_files (IsLineWithoutAlias k fresh) policy.files policy.walk (l.goes policy.files) (l.walked (named_files_of_policy policy) policy r.loaded) without f on)
reverse_rename_restores_lines_of_file l k name fresh policy new r without f false off =
    let can : AreApplicableChanges (rename_changes_of_policy k name fresh policy) policy.files =
    rename_changes_are_applicable l k name fresh r.old_name r.new_name policy (loaded_files_are_sound l policy r.loaded) in
    l.after (rename_changes_of_policy k name fresh policy) policy new r.loaded can r.is f ∙ file_not_on_walk_keeps_lines l k name fresh policy f off

pub reverse_rename_restores_files : LoadedFileLawsBehindRenames → (k : Kind) (name fresh : List ℕ) (policy new : LoadedPolicy) → IsLoadedAfterRename k name fresh policy new
    → AllByRecursion (IsLineWithoutAlias k fresh) policy.walk.lines → named_files_with_name_replaced k fresh name new ≡ named_files_of_policy policy
reverse_rename_restores_files l k name fresh policy new r without =
    files_with_name_replaced_back_are_former_from_number 0 k name fresh new.walk policy.files new.files (l.names (rename_changes_of_policy k name fresh policy) policy new r.is) (λ i f is.
    let at : f ≡ i = omega (arith, is) in
    let same : is_file_on_walk new.walk f ≡ is_file_on_walk policy.walk i =
    ap (list_any (nat_eq f)) (walk_after_rename_is_renamed_walk l k name fresh policy new r).1 ∙ ap (λ (n : ℕ). is_file_on_walk policy.walk n) at in
    ap (λ (on : Bool). if on then texts_with_name_replaced k fresh name (lines_of_numbered_file new.files i) else texts_of_lines (lines_of_numbered_file new.files i)) same
    ∙ reverse_rename_restores_lines_of_file l k name fresh policy new r without i (is_file_on_walk policy.walk i) refl)
