-- Lines of the files of a policy are taken out or replaced: which lines have come of which.
use Rattle.sudoers_edit.proofs.Common.{AllByRecursion, Bool, DiffersOnlyInFileLines, IsCorrectlyParsed, KeepIncludeLeads, KeepsIncludeLead, Line, LineToLinesMapping, List, LoadedPolicy, NamedFile, None, Ok, Some, []}
use Rattle.sudoers_edit.proofs.Common.{and_parts, ap, ap₂, arith, eq-eqb, eqb-false, eqb-true, false, file_names, if◌then◌else◌, is_file_on_walk, lead_of_parsed_line, length, lines_of_numbered_file}
use Rattle.sudoers_edit.proofs.Common.{mapped_lines_from_number, name_of_numbered_file, named_files_of_policy, nowhere, one, policy_or_load_fault, refl, slice_get, subst, sym, texts_of_lines, true, ℕ, ◌&&◌, ◌++◌}
use Rattle.sudoers_edit.proofs.Common.{◌+◌, ◌<◌, ◌==◌, ◌∙◌, ◌∷◌, ◌≡◌, ◌≤◌}
use Rattle.sudoers_edit.proofs.PruneGoes.{IsSplitAtLine, lines_are_split_at_numbered_line}
use Rattle.sudoers_edit.proofs.PruneLists.{joined_lines_are_correctly_parsed, parts_of_correctly_parsed_lines_are_so}

-- ---- mappings

-- these lines come of the line n of the file f, and of each other line what comes of it by g
abbrev pub mapping_with_line_renewed : LineToLinesMapping → ℕ → ℕ → List Line → LineToLinesMapping
mapping_with_line_renewed g f n news = λ e m line. if (e == f) && (m == n) then news else g e m line

pub renewed_line_is_mapped_to_new_lines : (g : LineToLinesMapping) (f n : ℕ) (news : List Line) (line : Line) → mapping_with_line_renewed g f n news f n line ≡ news
renewed_line_is_mapped_to_new_lines g f n news line = rw (eq-eqb f f refl, eq-eqb n n refl) refl

pub other_line_is_mapped_as_before : (g : LineToLinesMapping) (f n : ℕ) (news : List Line) (e m : ℕ) (line : Line) → ((e ≡ f) → (m ≡ n) → ⊥) → mapping_with_line_renewed g f n news e m line ≡ g e m line
other_line_is_mapped_as_before g f n news e m line other = by (e == f) refl (m == n) refl
  where
    by : (a : Bool) → (e == f) ≡ a → (b : Bool) → (m == n) ≡ b → (if (e == f) && (m == n) then news else g e m line) ≡ g e m line
    by true x true y = absurd (other (eqb-true e f x) (eqb-true m n y))
    by true x false y = rw (x, y) refl
    by false x b y = rw x refl

-- each line of the file f before the line n is as it was
abbrev pub KeepsLinesBefore : LineToLinesMapping → ℕ → ℕ → Type 0
KeepsLinesBefore g f n = (m : ℕ) (line : Line) → m < n → g f m line ≡ line ∷ []

-- mappings that agree on the lines of the file f from the line m on
agreeing_mappings_map_lines_equally : (g h : LineToLinesMapping) (f m : ℕ) (lines : List Line) → ((i : ℕ) (line : Line) → m ≤ i → g f i line ≡ h f i line) → mapped_lines_from_number g f m lines ≡ mapped_lines_from_number h f m lines
agreeing_mappings_map_lines_equally g h f m [] same = refl
agreeing_mappings_map_lines_equally g h f m (line ∷ lines) same =
    ap₂ (λ (xs ys : List Line). xs ++ ys) (same m line (omega arith)) (agreeing_mappings_map_lines_equally g h f (m + 1) lines (λ i l less. same i l (omega (arith, less))))

mapped_lines_keep_front_before_number : (g : LineToLinesMapping) (f n m : ℕ) (front : List Line) (line : Line) (after : List Line) → KeepsLinesBefore g f n → m + length front ≡ n
    → mapped_lines_from_number g f m (front ++ line ∷ after) ≡ front ++ (g f n line ++ mapped_lines_from_number g f (n + 1) after)
mapped_lines_keep_front_before_number g f n m [] line after kept place =
    ap (λ i. g f i line ++ mapped_lines_from_number g f (i + 1) after) (let e : m ≡ n = omega (arith, place) in e)
mapped_lines_keep_front_before_number g f n m (first ∷ front) line after kept place =
    ap₂ (λ (xs ys : List Line). xs ++ ys) (kept m first (omega (arith, place))) (mapped_lines_keep_front_before_number g f n (m + 1) front line after kept (omega (arith, place)))

-- ---- stages

-- The lines of the policy `now` are those that come of the lines of the policy, and each keeps its lead.
pub record IsPolicyOfMappedLines (policy now : LoadedPolicy) (g : LineToLinesMapping) : Type 0 where
  pub loaded : policy_or_load_fault (named_files_of_policy now) ≡ Ok now
  pub names : file_names now.files ≡ file_names policy.files
  pub on : now.walk.on ≡ policy.walk.on
  pub lines : (f : ℕ) → lines_of_numbered_file now.files f ≡ mapped_lines_from_number g f 0 (lines_of_numbered_file policy.files f)
  pub leads : KeepIncludeLeads g policy.files policy.walk

abbrev pub identity_line_mapping : LineToLinesMapping
identity_line_mapping f n line = line ∷ []

identity_mapping_keeps_lines : (f n : ℕ) (lines : List Line) → lines ≡ mapped_lines_from_number identity_line_mapping f n lines
identity_mapping_keeps_lines f n [] = refl
identity_mapping_keeps_lines f n (line ∷ lines) = ap (λ (ls : List Line). line ∷ ls) (identity_mapping_keeps_lines f (n + 1) lines)

pub policy_is_mapped_from_itself : (policy : LoadedPolicy) → policy_or_load_fault (named_files_of_policy policy) ≡ Ok policy → IsPolicyOfMappedLines policy policy identity_line_mapping
policy_is_mapped_from_itself policy loaded = record {
  loaded = loaded;
  names = refl;
  on = refl;
  lines = λ f. identity_mapping_keeps_lines f 0 (lines_of_numbered_file policy.files f);
  leads = λ f n line on here. one line refl;
}

-- the lines of the file at a stage
pub mapped_file_lines_are_split_at_line : (policy now : LoadedPolicy) (g : LineToLinesMapping) (f n : ℕ) (line : Line) (c : IsSplitAtLine (lines_of_numbered_file policy.files f) n line) → IsPolicyOfMappedLines policy now g → KeepsLinesBefore g f n
    → lines_of_numbered_file now.files f ≡ c.front ++ (g f n line ++ mapped_lines_from_number g f (n + 1) c.after)
mapped_file_lines_are_split_at_line policy now g f n line c stage kept =
    stage.lines f ∙ ap (mapped_lines_from_number g f 0) c.is ∙ mapped_lines_keep_front_before_number g f n 0 c.front line c.after kept (omega (arith, c.place))

abbrev pub ParsedLinesAreToldByTexts : Type 0
ParsedLinesAreToldByTexts = (lines others : List Line) → AllByRecursion IsCorrectlyParsed lines → AllByRecursion IsCorrectlyParsed others → texts_of_lines lines ≡ texts_of_lines others → lines ≡ others

abbrev pub LoadedLinesAreCorrectlyParsed : Type 0
LoadedLinesAreCorrectlyParsed = (files : List NamedFile) (policy : LoadedPolicy) → policy_or_load_fault files ≡ Ok policy → (f : ℕ) → AllByRecursion IsCorrectlyParsed (lines_of_numbered_file policy.files f)

-- These lines have come of a line of the file f, and nothing else has changed.
pub renewed_line_makes_policy_of_mapped_lines : ParsedLinesAreToldByTexts → LoadedLinesAreCorrectlyParsed → (policy now next : LoadedPolicy) (g : LineToLinesMapping) (f n : ℕ) (line : Line) (news : List Line) (lines : List (List ℕ))
    → slice_get (lines_of_numbered_file policy.files f) n ≡ Some line → IsPolicyOfMappedLines policy now g → KeepsLinesBefore g f n → DiffersOnlyInFileLines f lines now next → AllByRecursion IsCorrectlyParsed news
    → ((name : List ℕ) → lead_of_parsed_line name line.node ≡ None) → ((name : List ℕ) → AllByRecursion (λ (new : Line). lead_of_parsed_line name new.node ≡ None) news)
    → (((front after : List Line) → lines_of_numbered_file now.files f ≡ front ++ (g f n line ++ after) → length front ≡ n → lines ≡ texts_of_lines (front ++ (news ++ after))))
    → IsPolicyOfMappedLines policy next (mapping_with_line_renewed g f n news)
renewed_line_makes_policy_of_mapped_lines tell said policy now next g f n line news lines here stage kept other says nowhere_old nowhere_new are = record {
  loaded = other.loaded;
  names = other.names ∙ stage.names;
  on = other.on ∙ stage.on;
  lines = λ e. by_file e (e == f) refl;
  leads = λ e m l on there. by_line e m l on there ((e == f) && (m == n)) refl;
}
  where
    h : LineToLinesMapping
    h = mapping_with_line_renewed g f n news

    c : IsSplitAtLine (lines_of_numbered_file policy.files f) n line
    c = lines_are_split_at_numbered_line (lines_of_numbered_file policy.files f) n line here

    rest : List Line
    rest = mapped_lines_from_number g f (n + 1) c.after

    was : lines_of_numbered_file now.files f ≡ c.front ++ (g f n line ++ rest)
    was = mapped_file_lines_are_split_at_line policy now g f n line c stage kept

    whole : AllByRecursion IsCorrectlyParsed (c.front ++ (g f n line ++ rest))
    whole = subst (AllByRecursion IsCorrectlyParsed) was (said (named_files_of_policy now) now stage.loaded f)

    parts : AllByRecursion IsCorrectlyParsed c.front × AllByRecursion IsCorrectlyParsed rest
    parts = let p = parts_of_correctly_parsed_lines_are_so c.front (g f n line ++ rest) whole in (p.0, (parts_of_correctly_parsed_lines_are_so (g f n line) rest p.1).1)

    now_are : lines_of_numbered_file next.files f ≡ c.front ++ (news ++ rest)
    now_are =
        tell (lines_of_numbered_file next.files f) (c.front ++ (news ++ rest)) (said (named_files_of_policy next) next other.loaded f)
        (joined_lines_are_correctly_parsed c.front (news ++ rest) parts.0 (joined_lines_are_correctly_parsed news rest says parts.1)) (other.here ∙ are c.front rest was c.place)

    kept_too : KeepsLinesBefore h f n
    kept_too m l less = other_line_is_mapped_as_before g f n news f m l (λ a b. omega (arith, less, b)) ∙ kept m l less

    mapped : mapped_lines_from_number h f 0 (lines_of_numbered_file policy.files f) ≡ c.front ++ (news ++ rest)
    mapped =
        ap (mapped_lines_from_number h f 0) c.is ∙ mapped_lines_keep_front_before_number h f n 0 c.front line c.after kept_too (omega (arith, c.place))
        ∙ ap₂ (λ (xs ys : List Line). c.front ++ (xs ++ ys)) (renewed_line_is_mapped_to_new_lines g f n news line)
        (agreeing_mappings_map_lines_equally h g f (n + 1) c.after (λ i l less. other_line_is_mapped_as_before g f n news f i l (λ a b. omega (arith, less, b))))

    by_file : (e : ℕ) (b : Bool) → (e == f) ≡ b → lines_of_numbered_file next.files e ≡ mapped_lines_from_number h e 0 (lines_of_numbered_file policy.files e)
    by_file e true is =
        let same : f ≡ e = sym (eqb-true e f is) in
        subst (λ e. lines_of_numbered_file next.files e ≡ mapped_lines_from_number h e 0 (lines_of_numbered_file policy.files e)) same (now_are ∙ sym mapped)
    by_file e false is =
        let differ : e ≡ f → ⊥ = eqb-false e f is in
        other.there e differ ∙ stage.lines e ∙ sym (agreeing_mappings_map_lines_equally h g e 0 (lines_of_numbered_file policy.files e) (λ i l less. other_line_is_mapped_as_before g f n news e i l (λ a b. differ a)))

    by_line : (e m : ℕ) (l : Line) → is_file_on_walk policy.walk e ≡ true → slice_get (lines_of_numbered_file policy.files e) m ≡ Some l → (b : Bool) → ((e == f) && (m == n)) ≡ b
        → KeepsIncludeLead (name_of_numbered_file policy.files e) l (h e m l)
    by_line e m l on there true is =
        let both = and_parts (e == f) (m == n) is in
        let file : e ≡ f = eqb-true e f both.0 in
        let place : m ≡ n = eqb-true m n both.1 in
        let two : Some line ≡ Some l = sym here ∙ ap₂ (λ e m. slice_get (lines_of_numbered_file policy.files e) m) (sym file) (sym place) ∙ there in
        let line_is : line ≡ l = cc in
        let name : List ℕ = name_of_numbered_file policy.files e in
        subst (KeepsIncludeLead name l) (sym (ap (λ (t : Bool). if t then news else g e m l) is))
        (nowhere news (ap (λ (x : Line). lead_of_parsed_line name x.node) (sym line_is) ∙ nowhere_old name) (nowhere_new name))
    by_line e m l on there false is = subst (KeepsIncludeLead (name_of_numbered_file policy.files e) l) (sym (rw is refl)) (stage.leads e m l on there)
