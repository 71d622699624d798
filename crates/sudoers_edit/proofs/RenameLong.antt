-- Whether a rename makes a line of the walk too long: whether one that its changes bring is.
use Rattle.sudoers_edit.proofs.Common.{texts_of_renamed_lines}
use Rattle.sudoers_edit.proofs.Common.{AllByRecursion, AreLinesAtSpots, Bool, EachIsOneLineWhenCut, IsCorrectlyParsed, IsMappedWalk, KeepsIncludeLead, Kind, Line, LineChange, LineToLinesMapping, List, LoadedPolicy}
use Rattle.sudoers_edit.proofs.Common.{LoadedFileLawsBehindRenames, MakeMappedLines, NamedFile, NoChangesLaw, Ok, ParsedFile, RenamedLineLaws, Some, WalkLineSpot, WalkState, [], ap, ap₂, arith, changed_files_from_number, false}
use Rattle.sudoers_edit.proofs.Common.{has_inner_line_without_lf, if◌then◌else◌, is_file_on_walk, is_line_too_long, join, le-ltb, length, line_limit, line_replaced_at_offsets, lines_of_numbered_file, list_any, map}
use Rattle.sudoers_edit.proofs.Common.{mapped_lines_at_spots, mapped_lines_from_number, name_of_numbered_file, name_offsets_in_line, named_file_of_parsed, named_files_of_policy, one, or_false, policy_or_load_fault}
use Rattle.sudoers_edit.proofs.Common.{refl, rename_change_in_line, rename_changes_in_file, rename_changes_in_files, slice_get, subst, suc, sym, text_with_name_replaced, texts_of_changes, texts_of_lines}
use Rattle.sudoers_edit.proofs.Common.{texts_with_name_replaced, true, zero, ℕ, ◌++◌, ◌+◌, ◌||◌, ◌∙◌, ◌∷◌, ◌≡◌, ◌≤◌}
use Rattle.sudoers_edit.proofs.RenameCovers.{walk_line_property_holds_in_its_files}
use Rattle.sudoers_edit.proofs.RenamedTexts.{texts_with_name_replaced_are_renamed_texts}
use Rattle.sudoers_edit.proofs.SoundFiles.{AreSoundFiles, loaded_files_are_sound}

-- WHAT THE CHANGES OF FILES BRING

disjunction_is_associative : (a b c : Bool) → (a || (b || c)) ≡ ((a || b) || c)
disjunction_is_associative true b c = refl
disjunction_is_associative false b c = refl

long_rename_changes_are_of_lines_or_rest : RenamedLineLaws → (f n : ℕ) (k : Kind) (name fresh : List ℕ) (lines : List Line) (rest : List LineChange) → EachIsOneLineWhenCut (texts_of_lines lines)
    → list_any is_line_too_long (texts_of_changes (rename_changes_in_file f n k name fresh lines ++ rest))
    ≡ (list_any is_line_too_long (texts_with_name_replaced k name fresh lines) || list_any is_line_too_long (texts_of_changes rest))
long_rename_changes_are_of_lines_or_rest l f n k name fresh [] rest alone = refl
long_rename_changes_are_of_lines_or_rest l f n k name fresh (line ∷ lines) rest alone = by (long_rename_changes_are_of_lines_or_rest l f (n + 1) k name fresh lines rest alone.1) (name_offsets_in_line k name line.node)
  where
    later : List LineChange
    later = rename_changes_in_file f (n + 1) k name fresh lines

    long : Bool
    long = list_any is_line_too_long (texts_with_name_replaced k name fresh lines)

    behind : Bool
    behind = list_any is_line_too_long (texts_of_changes rest)

    by : list_any is_line_too_long (texts_of_changes (later ++ rest)) ≡ (long || behind) → (starts : List ℕ)
        → list_any is_line_too_long (texts_of_changes ((rename_change_in_line f n (length name) fresh starts line.text ++ later) ++ rest))
        ≡ ((is_line_too_long (line_replaced_at_offsets 0 (length name) fresh starts line.text) || long) || behind)
    by more [] = more ∙ ap (λ (b : Bool). (b || long) || behind) (sym (le-ltb line_limit (length line.text) (l.size line.text alone.0).1))
    by more (start ∷ starts) =
        let text : List ℕ = line_replaced_at_offsets 0 (length name) fresh (start ∷ starts) line.text in
        ap (λ (b : Bool). is_line_too_long text || b) more ∙ disjunction_is_associative (is_line_too_long text) long behind

-- where none that they bring is too long, none of a file on the walk is
short_rename_changes_imply_short_file_lines : RenamedLineLaws → (m : ℕ) (k : Kind) (name fresh : List ℕ) (w : WalkState) (files : List ParsedFile) → ((i : ℕ) → EachIsOneLineWhenCut (texts_of_lines (lines_of_numbered_file files i)))
    → list_any is_line_too_long (texts_of_changes (rename_changes_in_files m k name fresh w files)) ≡ false
    → (i f : ℕ) → f ≡ m + i → is_file_on_walk w f ≡ true → list_any is_line_too_long (texts_with_name_replaced k name fresh (lines_of_numbered_file files i)) ≡ false
short_rename_changes_imply_short_file_lines l m k name fresh w [] each short i f is on = refl
short_rename_changes_imply_short_file_lines l m k name fresh w (file ∷ files) each short zero f is on =
    let same : f ≡ m = omega (arith, is) in
    let here : is_file_on_walk w m ≡ true = ap (λ (n : ℕ). is_file_on_walk w n) (sym same) ∙ on in
    let later : List LineChange = rename_changes_in_files (m + 1) k name fresh w files in
    (or_false (list_any is_line_too_long (texts_with_name_replaced k name fresh file.lines)) (list_any is_line_too_long (texts_of_changes later))
    (sym (long_rename_changes_are_of_lines_or_rest l m 0 k name fresh file.lines later (each 0))
    ∙ ap (λ (b : Bool). list_any is_line_too_long (texts_of_changes ((if b then rename_changes_in_file m 0 k name fresh file.lines else []) ++ later))) (sym here)
    ∙ short)).0
short_rename_changes_imply_short_file_lines l m k name fresh w (file ∷ files) each short (suc i) f is on =
    short_rename_changes_imply_short_file_lines l (m + 1) k name fresh w files (λ j. each (suc j)) (by (is_file_on_walk w m) short) i f (omega (arith, is)) on
  where
    later : List LineChange
    later = rename_changes_in_files (m + 1) k name fresh w files

    by : (b : Bool) → list_any is_line_too_long (texts_of_changes ((if b then rename_changes_in_file m 0 k name fresh file.lines else []) ++ later)) ≡ false
        → list_any is_line_too_long (texts_of_changes later) ≡ false
    by true short =
        (or_false (list_any is_line_too_long (texts_with_name_replaced k name fresh file.lines)) (list_any is_line_too_long (texts_of_changes later))
        (sym (long_rename_changes_are_of_lines_or_rest l m 0 k name fresh file.lines later (each 0)) ∙ short)).1
    by false short = short

-- and where none of a file on the walk is, none that they bring is
short_file_lines_imply_short_rename_changes : RenamedLineLaws → (m : ℕ) (k : Kind) (name fresh : List ℕ) (w : WalkState) (files : List ParsedFile) → ((i : ℕ) → EachIsOneLineWhenCut (texts_of_lines (lines_of_numbered_file files i)))
    → ((i f : ℕ) → f ≡ m + i → is_file_on_walk w f ≡ true → list_any is_line_too_long (texts_with_name_replaced k name fresh (lines_of_numbered_file files i)) ≡ false)
    → list_any is_line_too_long (texts_of_changes (rename_changes_in_files m k name fresh w files)) ≡ false
short_file_lines_imply_short_rename_changes l m k name fresh w [] each short = refl
short_file_lines_imply_short_rename_changes l m k name fresh w (file ∷ files) each short =
    by (is_file_on_walk w m) (λ on. short 0 m (omega arith) on)
    (short_file_lines_imply_short_rename_changes l (m + 1) k name fresh w files (λ j. each (suc j)) (λ i f is. short (suc i) f (omega (arith, is))))
  where
    later : List LineChange
    later = rename_changes_in_files (m + 1) k name fresh w files

    by : (b : Bool) → (b ≡ true → list_any is_line_too_long (texts_with_name_replaced k name fresh file.lines) ≡ false) → list_any is_line_too_long (texts_of_changes later) ≡ false
        → list_any is_line_too_long (texts_of_changes ((if b then rename_changes_in_file m 0 k name fresh file.lines else []) ++ later)) ≡ false
    by true here more =
        long_rename_changes_are_of_lines_or_rest l m 0 k name fresh file.lines later (each 0) ∙ ap₂ (λ (a b : Bool). a || b) (here refl) more
    by false here more = more

-- EACH LINE OF THE WALK STANDS IN A FILE ON IT

-- the lines of files on the walk alone
abbrev mapping_keeping_lines_on_walk : WalkState → LineToLinesMapping
mapping_keeping_lines_on_walk w = λ f n line. if is_file_on_walk w f then line ∷ [] else []

lines_of_file_on_walk_are_kept : (w : WalkState) (f n : ℕ) (lines : List Line) → is_file_on_walk w f ≡ true → mapped_lines_from_number (mapping_keeping_lines_on_walk w) f n lines ≡ lines
lines_of_file_on_walk_are_kept w f n [] on = refl
lines_of_file_on_walk_are_kept w f n (line ∷ lines) on =
    ap (λ (b : Bool). (if b then line ∷ [] else []) ++ mapped_lines_from_number (mapping_keeping_lines_on_walk w) f (n + 1) lines) on
    ∙ ap (λ (ls : List Line). line ∷ ls) (lines_of_file_on_walk_are_kept w f (n + 1) lines on)

no_changes_make_lines_kept_on_walk : LoadedFileLawsBehindRenames → (policy : LoadedPolicy) → AreSoundFiles policy.files → MakeMappedLines (mapping_keeping_lines_on_walk policy.walk) [] policy.files policy.walk
no_changes_make_lines_kept_on_walk l policy sound = record {
  lines = λ f on. l.none 0 (texts_of_lines (lines_of_numbered_file policy.files f)) ∙ ap texts_of_lines (sym (lines_of_file_on_walk_are_kept policy.walk f 0 (lines_of_numbered_file policy.files f) on));
  says = λ f on. subst (AllByRecursion IsCorrectlyParsed) (sym (lines_of_file_on_walk_are_kept policy.walk f 0 (lines_of_numbered_file policy.files f) on)) (sound.says f);
  leads = λ f n line on at.
      subst (KeepsIncludeLead (name_of_numbered_file policy.files f) line) (ap (λ (b : Bool). if b then line ∷ [] else []) (sym on)) (one line refl);
}

no_changes_keep_files : NoChangesLaw → (f : ℕ) (files : List ParsedFile) → changed_files_from_number f [] files ≡ map named_file_of_parsed files
no_changes_keep_files none f [] = refl
no_changes_keep_files none f (file ∷ files) =
    ap₂ (λ (ls : List (List ℕ)) (rest : List NamedFile). (let first : NamedFile = record { name = file.name; bytes = join ls } in first) ∷ rest)
    (none 0 (texts_of_lines file.lines)) (no_changes_keep_files none (f + 1) files)

pub walk_lines_are_lines_kept_on_walk : LoadedFileLawsBehindRenames → (policy : LoadedPolicy) → policy_or_load_fault (named_files_of_policy policy) ≡ Ok policy
    → policy.walk.lines ≡ mapped_lines_at_spots (mapping_keeping_lines_on_walk policy.walk) policy.walk.spots policy.walk.lines
walk_lines_are_lines_kept_on_walk l policy loaded =
    let sound : AreSoundFiles policy.files = loaded_files_are_sound l policy loaded in
    let walk : IsMappedWalk (mapping_keeping_lines_on_walk policy.walk) policy.walk policy.walk =
    l.mapped (mapping_keeping_lines_on_walk policy.walk) [] policy policy loaded (record {
      by_files = tt;
      order = λ f. omega arith;
      lines = tt;
      ended = λ f. ap has_inner_line_without_lf (l.none 0 (texts_of_lines (lines_of_numbered_file policy.files f))) ∙ sound.ended f;
    }) (ap policy_or_load_fault (no_changes_keep_files l.none 0 policy.files) ∙ loaded) (no_changes_make_lines_kept_on_walk l policy sound) in
    walk.lines

kept_lines_are_not_more_than_lines : (w : WalkState) (spots : List WalkLineSpot) (lines : List Line) → length (mapped_lines_at_spots (mapping_keeping_lines_on_walk w) spots lines) ≤ length lines
kept_lines_are_not_more_than_lines w [] lines = omega arith
kept_lines_are_not_more_than_lines w (at ∷ spots) [] = omega arith
kept_lines_are_not_more_than_lines w (at ∷ spots) (line ∷ lines) = by (is_file_on_walk w at.file) (kept_lines_are_not_more_than_lines w spots lines)
  where
    by : (b : Bool) → length (mapped_lines_at_spots (mapping_keeping_lines_on_walk w) spots lines) ≤ length lines
        → length ((if b then line ∷ [] else []) ++ mapped_lines_at_spots (mapping_keeping_lines_on_walk w) spots lines) ≤ suc (length lines)
    by true less = omega (arith, less)
    by false less = omega (arith, less)

property_of_lines_holds_of_numbered_line : (P : Line → Type 0) (lines : List Line) (n : ℕ) (line : Line) → AllByRecursion P lines → slice_get lines n ≡ Some line → P line
property_of_lines_holds_of_numbered_line P [] n line all at = absurd cc
property_of_lines_holds_of_numbered_line P (first ∷ lines) zero line all at =
    let same : first ≡ line = cc in
    subst P same all.0
property_of_lines_holds_of_numbered_line P (first ∷ lines) (suc n) line all at = property_of_lines_holds_of_numbered_line P lines n line all.1 at

-- what is so of all lines of the files on the walk is so of all lines of the walk
pub property_in_walked_files_holds_of_walk : (P : Line → Type 0) (files : List ParsedFile) (w : WalkState) → ((f : ℕ) → is_file_on_walk w f ≡ true → AllByRecursion P (lines_of_numbered_file files f))
    → (spots : List WalkLineSpot) (lines : List Line) → AreLinesAtSpots files spots lines → length lines ≤ length (mapped_lines_at_spots (mapping_keeping_lines_on_walk w) spots lines) → AllByRecursion P lines
property_in_walked_files_holds_of_walk P files w each [] [] stand full = tt
property_in_walked_files_holds_of_walk P files w each [] (line ∷ lines) stand full = absurd stand
property_in_walked_files_holds_of_walk P files w each (at ∷ spots) [] stand full = absurd stand
property_in_walked_files_holds_of_walk P files w each (at ∷ spots) (line ∷ lines) stand full =
    by (is_file_on_walk w at.file) refl (kept_lines_are_not_more_than_lines w spots lines) full (λ full. property_in_walked_files_holds_of_walk P files w each spots lines stand.1 full)
  where
    by : (b : Bool) → is_file_on_walk w at.file ≡ b → length (mapped_lines_at_spots (mapping_keeping_lines_on_walk w) spots lines) ≤ length lines
        → suc (length lines) ≤ length ((if b then line ∷ [] else []) ++ mapped_lines_at_spots (mapping_keeping_lines_on_walk w) spots lines)
        → (length lines ≤ length (mapped_lines_at_spots (mapping_keeping_lines_on_walk w) spots lines) → AllByRecursion P lines) → P line × AllByRecursion P lines
    by true on less full rest = (property_of_lines_holds_of_numbered_line P (lines_of_numbered_file files at.file) at.line line (each at.file on) stand.0.is_line, rest (omega (arith, full)))
    by false off less full rest = absurd (omega (arith, less, full))

-- BOTH

abbrev pub IsRenamedLineShort : Kind → List ℕ → List ℕ → Line → Type 0
IsRenamedLineShort k name fresh line = is_line_too_long (text_with_name_replaced k name fresh line) ≡ false

pub no_too_long_text_implies_all_short : (k : Kind) (name fresh : List ℕ) (lines : List Line) → list_any is_line_too_long (texts_with_name_replaced k name fresh lines) ≡ false
    → AllByRecursion (IsRenamedLineShort k name fresh) lines
no_too_long_text_implies_all_short k name fresh [] short = tt
no_too_long_text_implies_all_short k name fresh (line ∷ lines) short =
    let p = or_false (is_line_too_long (text_with_name_replaced k name fresh line)) (list_any is_line_too_long (texts_with_name_replaced k name fresh lines)) short in
    (p.0, no_too_long_text_implies_all_short k name fresh lines p.1)

pub all_short_implies_no_too_long_text : (k : Kind) (name fresh : List ℕ) (lines : List Line) → AllByRecursion (IsRenamedLineShort k name fresh) lines
    → list_any is_line_too_long (texts_with_name_replaced k name fresh lines) ≡ false
all_short_implies_no_too_long_text k name fresh [] all = refl
all_short_implies_no_too_long_text k name fresh (line ∷ lines) all = ap₂ (λ (a b : Bool). a || b) all.0 (all_short_implies_no_too_long_text k name fresh lines all.1)

rename_changes_are_long_as_walk_with_name_replaced : LoadedFileLawsBehindRenames → (policy : LoadedPolicy) → policy_or_load_fault (named_files_of_policy policy) ≡ Ok policy → (k : Kind) (name fresh : List ℕ)
    → list_any is_line_too_long (texts_of_changes (rename_changes_in_files 0 k name fresh policy.walk policy.files)) ≡ list_any is_line_too_long (texts_with_name_replaced k name fresh policy.walk.lines)
rename_changes_are_long_as_walk_with_name_replaced l policy loaded k name fresh = by (list_any is_line_too_long (texts_of_changes changes)) (list_any is_line_too_long (texts_with_name_replaced k name fresh w.lines)) refl refl
  where
    w : WalkState
    w = policy.walk

    files : List ParsedFile
    files = policy.files

    changes : List LineChange
    changes = rename_changes_in_files 0 k name fresh w files

    sound : AreSoundFiles files
    sound = loaded_files_are_sound l policy loaded

    forth : list_any is_line_too_long (texts_of_changes changes) ≡ false → list_any is_line_too_long (texts_with_name_replaced k name fresh w.lines) ≡ false
    forth short =
        all_short_implies_no_too_long_text k name fresh w.lines
        (property_in_walked_files_holds_of_walk (IsRenamedLineShort k name fresh) files w
        (λ f on. no_too_long_text_implies_all_short k name fresh (lines_of_numbered_file files f) (short_rename_changes_imply_short_file_lines l.lines 0 k name fresh w files sound.each short f f (omega arith) on))
        w.spots w.lines (l.stand (named_files_of_policy policy) policy loaded) (omega (arith, ap (λ (ls : List Line). length ls) (walk_lines_are_lines_kept_on_walk l policy loaded))))

    back : list_any is_line_too_long (texts_with_name_replaced k name fresh w.lines) ≡ false → list_any is_line_too_long (texts_of_changes changes) ≡ false
    back short =
        short_file_lines_imply_short_rename_changes l.lines 0 k name fresh w files sound.each (λ i f is on.
        let same : f ≡ i = omega (arith, is) in
        all_short_implies_no_too_long_text k name fresh (lines_of_numbered_file files i)
        (walk_line_property_holds_in_its_files (IsRenamedLineShort k name fresh) files w (l.goes files) (l.walked (named_files_of_policy policy) policy loaded) (no_too_long_text_implies_all_short k name fresh w.lines short) i
        (ap (λ (n : ℕ). is_file_on_walk w n) (sym same) ∙ on)))

    by : (a b : Bool) → list_any is_line_too_long (texts_of_changes changes) ≡ a → list_any is_line_too_long (texts_with_name_replaced k name fresh w.lines) ≡ b
        → list_any is_line_too_long (texts_of_changes changes) ≡ list_any is_line_too_long (texts_with_name_replaced k name fresh w.lines)
    by true true is so = is ∙ sym so
    by false b is so = is ∙ sym (forth is)
    by true false is so = back so ∙ sym so

pub rename_changes_are_long_as_walk_is : LoadedFileLawsBehindRenames → (policy : LoadedPolicy) → policy_or_load_fault (named_files_of_policy policy) ≡ Ok policy → (k : Kind) (name fresh : List ℕ)
    → list_any is_line_too_long (texts_of_changes (rename_changes_in_files 0 k name fresh policy.walk policy.files)) ≡ list_any is_line_too_long (texts_of_renamed_lines k name fresh policy.walk.lines)
rename_changes_are_long_as_walk_is l policy loaded k name fresh =
    rename_changes_are_long_as_walk_with_name_replaced l policy loaded k name fresh
    ∙ ap (list_any is_line_too_long) (texts_with_name_replaced_are_renamed_texts l.lines.ascend k name fresh policy.walk.lines (l.walk (named_files_of_policy policy) policy loaded).says)
