-- A line of a file on the walk, in whose place other lines stand: the changed files are a policy again.
use Rattle.sudoers_edit.proofs.Common.{AllByRecursion, AreDefinedNamesValid, AreFilesMapped, AreLinesAtSpots, AreValidWalkLines, Bool, CanReplaceFiles, EachIsOneLineWhenCut, IsCorrectlyParsed, IsMappedWalk}
use Rattle.sudoers_edit.proofs.Common.{KeepIncludeLeads, KeepsIncludeLead, Line, LineToLinesMapping, List, LoadedPolicy, NamedFile, None, Ok, ParsedFile, LawsBehindPrunes, Some, WalkLineSpot, WalkState, [], and_parts, ap, ap₂}
use Rattle.sudoers_edit.proofs.Common.{arith, cut_outcome_of_text, definitions_from_line_number, definitions_in_line, definitions_of_lines, eqb-false, eqb-true, false, files_with_bytes_replaced}
use Rattle.sudoers_edit.proofs.Common.{has_inner_line_without_lf, if◌then◌else◌, is_file_on_walk, join, lead_of_parsed_line, length, length-append, lines_of_numbered_file, lines_of_optional_file, map}
use Rattle.sudoers_edit.proofs.Common.{mapped_lines_at_spots, mapped_lines_from_number, name_of_numbered_file, named_file_of_parsed, named_files_of_policy, nowhere, one, policy_or_load_fault, policy_with_file_lines}
use Rattle.sudoers_edit.proofs.Common.{refl, slice_get, subst, sym, text_limit, texts_of_lines, true, walk_or_fault_of_files, ℕ, ◌&&◌, ◌++◌, ◌+◌, ◌==◌, ◌∙◌, ◌∷◌, ◌≡◌, ◌≤◌}
use Rattle.sudoers_tree.proofs.Joined.{definitions_of_appended_lines_are_appended}
use Rattle.sudoers_edit.proofs.NameParts.{IsPartOfDefinitions, joined_parts_are_part_of_joined, definitions_of_same_line_elsewhere_are_part, part_keeps_unreserved_names, part_keeps_distinct_names, part_has_no_more_definitions_of_kind}
use Rattle.sudoers_edit.proofs.PruneLists.{files_with_file_lines, file_given_lines_has_them, other_file_is_kept, given_lines_keep_file_names, given_lines_keep_file_faults, faultless_files_have_no_numbered_fault, replaced_bytes_are_files_with_lines, former_bytes_are_restored, mapping_of_one_line, mapping_keeps_lines_of_other_file, mapped_line_is_replaced_behind_front, joined_lines_are_cut_alone, parts_of_lines_cut_alone_are_so, joined_lines_are_correctly_parsed, parts_of_correctly_parsed_lines_are_so, size_of_joined_lines_is_sum, line_of_file_implies_present_file}
use Rattle.sudoers_edit.proofs.Whole.{rest_behind_front_is_ended, ended_replacement_behind_front_is_ended, item_behind_front_is_at_front_length, texts_of_joined_lines_are_joined}

-- What the lines of a loaded file are.
pub record AreValidFileLines (lines : List Line) : Type 0 where
  pub each : EachIsOneLineWhenCut (texts_of_lines lines)
  pub ended : has_inner_line_without_lf (texts_of_lines lines) ≡ false
  pub fits : length (join (texts_of_lines lines)) ≤ text_limit
  pub says : AllByRecursion IsCorrectlyParsed lines

pub lines_of_loaded_file_are_valid : LawsBehindPrunes → (policy : LoadedPolicy) (f : ℕ) → policy_or_load_fault (named_files_of_policy policy) ≡ Ok policy → AreValidFileLines (lines_of_numbered_file policy.files f)
lines_of_loaded_file_are_valid l policy f loaded =
    let lines : List Line = lines_of_numbered_file policy.files f in
    let a = l.alone (join (texts_of_lines lines)) (texts_of_lines lines) (l.cut (named_files_of_policy policy) policy loaded f) in
    record { each = a.0; ended = a.1; fits = a.3; says = l.said (named_files_of_policy policy) policy loaded f }

-- The lines `news` can stand in the place of a line, before the lines `after`. They define what it defines, or less.
pub record FitInPlaceOfLine (line : Line) (after news : List Line) : Type 0 where
  pub each : EachIsOneLineWhenCut (texts_of_lines news)
  pub says : AllByRecursion IsCorrectlyParsed news
  pub ended : has_inner_line_without_lf (texts_of_lines (line ∷ after)) ≡ false → has_inner_line_without_lf (texts_of_lines (news ++ after)) ≡ false
  pub shorter : length (join (texts_of_lines news)) ≤ length line.text
  pub part : (i j : ℕ) → IsPartOfDefinitions (definitions_in_line i line.node) (definitions_from_line_number j news)
  pub leads : (name : List ℕ) → lead_of_parsed_line name line.node ≡ None
  pub lead : (name : List ℕ) → AllByRecursion (λ (new : Line). lead_of_parsed_line name new.node ≡ None) news

-- The lines of the file are what they were, but for these.
pub fitting_lines_keep_valid_file_lines : (front : List Line) (line : Line) (after news : List Line) → AreValidFileLines (front ++ line ∷ after) → FitInPlaceOfLine line after news
    → AreValidFileLines (front ++ (news ++ after))
fitting_lines_keep_valid_file_lines front line after news lines fits =
    let each = parts_of_lines_cut_alone_are_so front (line ∷ after) lines.each in
    let says = parts_of_correctly_parsed_lines_are_so front (line ∷ after) lines.says in
    let was : has_inner_line_without_lf (texts_of_lines front ++ texts_of_lines (line ∷ after)) ≡ false =
    ap has_inner_line_without_lf (sym (texts_of_joined_lines_are_joined front (line ∷ after))) ∙ lines.ended in
    record {
      each = joined_lines_are_cut_alone front (news ++ after) each.0 (joined_lines_are_cut_alone news after fits.each each.1.1);
      ended =
          ap has_inner_line_without_lf (texts_of_joined_lines_are_joined front (news ++ after))
          ∙ ended_replacement_behind_front_is_ended (texts_of_lines front) (texts_of_lines (line ∷ after)) (texts_of_lines (news ++ after)) tt
          (fits.ended (rest_behind_front_is_ended (texts_of_lines front) (texts_of_lines (line ∷ after)) was)) was;
      fits = omega (
        arith,
        lines.fits,
        fits.shorter,
        size_of_joined_lines_is_sum front (line ∷ after),
        size_of_joined_lines_is_sum front (news ++ after),
        size_of_joined_lines_is_sum news after,
        length-append line.text (join (texts_of_lines after)),
      );
      says = joined_lines_are_correctly_parsed front (news ++ after) says.0 (joined_lines_are_correctly_parsed news after fits.says says.1.1);
    }

-- ---- names

-- each line of the walk that stands at this place is this line
definitions_of_mapped_walk_are_part : (files : List ParsedFile) (f n : ℕ) (line : Line) (news : List Line) → slice_get (lines_of_numbered_file files f) n ≡ Some line
    → ((i j : ℕ) → IsPartOfDefinitions (definitions_in_line i line.node) (definitions_from_line_number j news)) → (spots : List WalkLineSpot) (lines : List Line) → AreLinesAtSpots files spots lines
    → (i j : ℕ) → IsPartOfDefinitions (definitions_from_line_number i lines) (definitions_from_line_number j (mapped_lines_at_spots (mapping_of_one_line f n news) spots lines))
definitions_of_mapped_walk_are_part files f n line news here part [] [] stand i j = tt
definitions_of_mapped_walk_are_part files f n line news here part [] (l ∷ lines) stand i j = absurd stand
definitions_of_mapped_walk_are_part files f n line news here part (at ∷ spots) [] stand i j = absurd stand
definitions_of_mapped_walk_are_part files f n line news here part (at ∷ spots) (l ∷ lines) stand i j =
    by ((at.file == f) && (at.line == n)) refl (definitions_of_mapped_walk_are_part files f n line news here part spots lines stand.1)
  where
    rest : List Line
    rest = mapped_lines_at_spots (mapping_of_one_line f n news) spots lines

    by : (b : Bool) → ((at.file == f) && (at.line == n)) ≡ b → ((i j : ℕ) → IsPartOfDefinitions (definitions_from_line_number i lines) (definitions_from_line_number j rest))
        → IsPartOfDefinitions (definitions_from_line_number i (l ∷ lines)) (definitions_from_line_number j ((if (at.file == f) && (at.line == n) then news else l ∷ []) ++ rest))
    by true is later =
        let both = and_parts (at.file == f) (at.line == n) is in
        let file : at.file ≡ f = eqb-true at.file f both.0 in
        let place : at.line ≡ n = eqb-true at.line n both.1 in
        let there : slice_get (lines_of_numbered_file files f) n ≡ Some l = ap₂ (λ e m. slice_get (lines_of_numbered_file files e) m) (sym file) (sym place) ∙ stand.0.is_line in
        let same : Some line ≡ Some l = sym here ∙ there in
        let line_is : line ≡ l = cc in
        subst (λ (ls : List Line). IsPartOfDefinitions (definitions_from_line_number i (l ∷ lines)) (definitions_from_line_number j (ls ++ rest)))
        (sym (ap (λ t. if t then news else l ∷ []) is))
        (subst (IsPartOfDefinitions (definitions_from_line_number i (l ∷ lines))) (sym (definitions_of_appended_lines_are_appended j news rest))
        (joined_parts_are_part_of_joined (definitions_in_line i l.node) (definitions_from_line_number j news) (definitions_from_line_number (i + 1) lines) (definitions_from_line_number (j + length news) rest)
        (subst (λ (x : Line). IsPartOfDefinitions (definitions_in_line i x.node) (definitions_from_line_number j news)) line_is (part i j)) (later (i + 1) (j + length news))))
    by false is later =
        subst (λ (ls : List Line). IsPartOfDefinitions (definitions_from_line_number i (l ∷ lines)) (definitions_from_line_number j (ls ++ rest)))
        (sym (ap (λ t. if t then news else l ∷ []) is))
        (joined_parts_are_part_of_joined (definitions_in_line i l.node) (definitions_in_line j l.node) (definitions_from_line_number (i + 1) lines) (definitions_from_line_number (j + 1) rest)
        (definitions_of_same_line_elsewhere_are_part i j l.node) (later (i + 1) (j + 1)))

part_of_valid_definitions_has_valid_names : (old new : List Line) → AreValidWalkLines old → IsPartOfDefinitions (definitions_of_lines old) (definitions_of_lines new) → AreDefinedNamesValid new
part_of_valid_definitions_has_valid_names old new is part = record {
  free = part_keeps_unreserved_names (definitions_of_lines old) (definitions_of_lines new) part is.free;
  once = part_keeps_distinct_names (definitions_of_lines old) (definitions_of_lines new) part is.once;
  few = λ k. omega (arith, part_has_no_more_definitions_of_kind k (definitions_of_lines old) (definitions_of_lines new) part, is.few k);
}

-- ---- the changed files

-- In the policy `next` the lines `news` stand in the place of the line of the file f that is behind the lines `front`. On the walk they stand in
-- its place too. It is what the new lines lead to, and the lines before lead back.
pub record IsPolicyWithLinesPut (policy : LoadedPolicy) (f : ℕ) (front after news : List Line) : Type 0 where
  pub next : LoadedPolicy
  pub loaded : policy_or_load_fault (named_files_of_policy next) ≡ Ok next
  pub files : next.files ≡ files_with_file_lines f (front ++ (news ++ after)) policy.files
  pub lines : lines_of_numbered_file next.files f ≡ front ++ (news ++ after)
  pub walk : IsMappedWalk (mapping_of_one_line f (length front) news) policy.walk next.walk
  pub fit : AreValidFileLines (front ++ (news ++ after))
  pub forth : policy_with_file_lines policy f (texts_of_lines (front ++ (news ++ after))) ≡ Ok next
  pub back : policy_with_file_lines next f (texts_of_lines (lines_of_numbered_file policy.files f)) ≡ Ok policy

ended_lines_of_loadable_files_are_accepted : (policy next : LoadedPolicy) (f : ℕ) (lines : List (List ℕ)) (files : List NamedFile) → has_inner_line_without_lf lines ≡ false
    → files_with_bytes_replaced f (join lines) (named_files_of_policy policy) ≡ files → policy_or_load_fault files ≡ Ok next → policy_with_file_lines policy f lines ≡ Ok next
ended_lines_of_loadable_files_are_accepted policy next f lines files ended bytes loads = rw (ended, bytes, loads) refl

fitting_lines_keep_include_leads : (policy : LoadedPolicy) (f n : ℕ) (line : Line) (after news : List Line) → slice_get (lines_of_numbered_file policy.files f) n ≡ Some line → FitInPlaceOfLine line after news
    → KeepIncludeLeads (mapping_of_one_line f n news) policy.files policy.walk
fitting_lines_keep_include_leads policy f n line after news here fits e m l on there = by ((e == f) && (m == n)) refl
  where
    by : (b : Bool) → ((e == f) && (m == n)) ≡ b → KeepsIncludeLead (name_of_numbered_file policy.files e) l (if (e == f) && (m == n) then news else l ∷ [])
    by true is =
        let both = and_parts (e == f) (m == n) is in
        let file : e ≡ f = eqb-true e f both.0 in
        let place : m ≡ n = eqb-true m n both.1 in
        let same : Some line ≡ Some l = sym here ∙ ap₂ (λ e m. slice_get (lines_of_numbered_file policy.files e) m) (sym file) (sym place) ∙ there in
        let line_is : line ≡ l = cc in
        subst (KeepsIncludeLead (name_of_numbered_file policy.files e) l) (sym (ap (λ t. if t then news else l ∷ []) is))
        (nowhere news (ap (λ (x : Line). lead_of_parsed_line (name_of_numbered_file policy.files e) x.node) (sym line_is) ∙ fits.leads (name_of_numbered_file policy.files e)) (fits.lead (name_of_numbered_file policy.files e)))
    by false is =
        subst (KeepsIncludeLead (name_of_numbered_file policy.files e) l) (sym (ap (λ t. if t then news else l ∷ []) is)) (one l refl)

pub fitting_lines_are_put_in_policy : LawsBehindPrunes → (policy : LoadedPolicy) (f : ℕ) (front : List Line) (line : Line) (after news : List Line) → policy_or_load_fault (named_files_of_policy policy) ≡ Ok policy
    → is_file_on_walk policy.walk f ≡ true → lines_of_numbered_file policy.files f ≡ front ++ line ∷ after → FitInPlaceOfLine line after news → IsPolicyWithLinesPut policy f front after news
fitting_lines_are_put_in_policy l policy f front line after news loaded on was fits = record {
  next = next;
  loaded = loads.1;
  files = refl;
  lines = here;
  walk = loads.3;
  fit = fit;
  forth = ended_lines_of_loadable_files_are_accepted policy next f (texts_of_lines new) (map named_file_of_parsed others) fit.ended (replaced_bytes_are_files_with_lines f new policy.files) loads.1;
  back = ended_lines_of_loadable_files_are_accepted next policy f (texts_of_lines (lines_of_numbered_file policy.files f)) (map named_file_of_parsed policy.files) old.ended (former_bytes_are_restored f new policy.files) loaded;
}
  where
    n : ℕ
    n = length front

    g : LineToLinesMapping
    g = mapping_of_one_line f n news

    new : List Line
    new = front ++ (news ++ after)

    others : List ParsedFile
    others = files_with_file_lines f new policy.files

    at : slice_get (lines_of_numbered_file policy.files f) n ≡ Some line
    at = ap (λ ls. slice_get ls n) was ∙ item_behind_front_is_at_front_length front line after

    file : (file : ParsedFile) × (slice_get policy.files f ≡ Some file)
    file = line_of_file_implies_present_file policy.files f n line at

    here : lines_of_numbered_file others f ≡ new
    here = file_given_lines_has_them f new policy.files file.0 file.1

    there : (e : ℕ) → (e ≡ f → ⊥) → lines_of_numbered_file others e ≡ lines_of_numbered_file policy.files e
    there e other = ap lines_of_optional_file (other_file_is_kept f new policy.files e other)

    old : AreValidFileLines (lines_of_numbered_file policy.files f)
    old = lines_of_loaded_file_are_valid l policy f loaded

    fit : AreValidFileLines new
    fit = fitting_lines_keep_valid_file_lines front line after news (subst AreValidFileLines was old) fits

    lines_are : (e : ℕ) (b : Bool) → (e == f) ≡ b → lines_of_numbered_file others e ≡ mapped_lines_from_number g e 0 (lines_of_numbered_file policy.files e)
    lines_are e true is =
        let same : f ≡ e = sym (eqb-true e f is) in
        subst (λ e. lines_of_numbered_file others e ≡ mapped_lines_from_number g e 0 (lines_of_numbered_file policy.files e)) same
        (here ∙ sym (ap (mapped_lines_from_number g f 0) was ∙ mapped_line_is_replaced_behind_front f n news 0 front line after (omega arith)))
    lines_are e false is =
        let other : e ≡ f → ⊥ = eqb-false e f is in
        there e other ∙ sym (mapping_keeps_lines_of_other_file f n news e 0 (lines_of_numbered_file policy.files e) other)

    cuts : (e : ℕ) (b : Bool) → (e == f) ≡ b → cut_outcome_of_text (join (texts_of_lines (lines_of_numbered_file others e))) ≡ Ok (texts_of_lines (lines_of_numbered_file others e))
    cuts e true is =
        let same : f ≡ e = sym (eqb-true e f is) in
        subst (λ e. cut_outcome_of_text (join (texts_of_lines (lines_of_numbered_file others e))) ≡ Ok (texts_of_lines (lines_of_numbered_file others e))) same
        (subst (λ (ls : List Line). cut_outcome_of_text (join (texts_of_lines ls)) ≡ Ok (texts_of_lines ls)) (sym here) (l.joined (texts_of_lines new) fit.each fit.ended fit.fits))
    cuts e false is =
        let other : e ≡ f → ⊥ = eqb-false e f is in
        subst (λ (ls : List Line). cut_outcome_of_text (join (texts_of_lines ls)) ≡ Ok (texts_of_lines ls)) (sym (there e other)) (l.cut (named_files_of_policy policy) policy loaded e)

    says : (e : ℕ) (b : Bool) → (e == f) ≡ b → AllByRecursion IsCorrectlyParsed (lines_of_numbered_file others e)
    says e true is =
        let same : f ≡ e = sym (eqb-true e f is) in
        subst (λ e. AllByRecursion IsCorrectlyParsed (lines_of_numbered_file others e)) same (subst (AllByRecursion IsCorrectlyParsed) (sym here) fit.says)
    says e false is =
        let other : e ≡ f → ⊥ = eqb-false e f is in
        subst (AllByRecursion IsCorrectlyParsed) (sym (there e other)) (l.said (named_files_of_policy policy) policy loaded e)

    off : (e : ℕ) → is_file_on_walk policy.walk e ≡ false → e ≡ f → ⊥
    off e out same = let both : true ≡ false = sym on ∙ ap (is_file_on_walk policy.walk) (sym same) ∙ out in cc

    mapped : AreFilesMapped g policy.files others policy.walk
    mapped = record {
      names = given_lines_keep_file_names f new policy.files;
      lines = λ e is. lines_are e (e == f) refl;
      parse = λ e is. given_lines_keep_file_faults f new policy.files e ∙ faultless_files_have_no_numbered_fault policy.files e (l.parse (named_files_of_policy policy) policy loaded);
      leads = fitting_lines_keep_include_leads policy f n line after news at fits;
    }

    can : CanReplaceFiles policy.files others policy.walk
    can = record {
      stay = λ e out. other_file_is_kept f new policy.files e (off e out);
      cut = λ e is. cuts e (e == f) refl;
      says = λ e is. says e (e == f) refl;
    }

    names : AreDefinedNamesValid (mapped_lines_at_spots g policy.walk.spots policy.walk.lines)
    names =
        part_of_valid_definitions_has_valid_names policy.walk.lines (mapped_lines_at_spots g policy.walk.spots policy.walk.lines) (l.walk (named_files_of_policy policy) policy loaded)
        (definitions_of_mapped_walk_are_part policy.files f n line news at fits.part policy.walk.spots policy.walk.lines (l.stand (named_files_of_policy policy) policy loaded) 0 0)

    loads : (other : WalkState) × (policy_or_load_fault (map named_file_of_parsed others) ≡ Ok (record { files = others; walk = other })) × (walk_or_fault_of_files others ≡ Ok other)
        × IsMappedWalk g policy.walk other
    loads = l.loads g policy others loaded mapped can names

    next : LoadedPolicy
    next = record { files = others; walk = loads.0 }
