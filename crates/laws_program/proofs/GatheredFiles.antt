-- Files that are gathered, and what is read of them.
use Rattle.std.proofs.Common.{◌≡◌, ℕ, zero, suc, ◌+◌, ◌||◌, nat_lt, Bool, true, false, if◌then◌else◌, List, [], ◌∷◌, ◌++◌, length, map, slice_get, Option, Some, None, Result, Ok, Err, refl, sym, ap, subst, ◌∙◌, append_assoc, append-nil, arith}
use Rattle.std.specs.List.{AllByRecursion}
use Rattle.std.specs.Str.{bytes_eq}
use Rattle.std.proofs.lemmas.List.{map-append}
use Rattle.std.proofs.lemmas.List.Folds.{list_any-append}
use Rattle.std.proofs.lemmas.Slice.Eq.{bytes_eq-Decides}
use Rattle.sudoers_text.specs.Cut.{cut_outcome_of_text}
use Rattle.sudoers_text.specs.declared.fault.TextFault.{TextFault}
use Rattle.sudoers_tree.specs.declared.fault.SyntaxFault.{SyntaxFault}
use Rattle.sudoers_tree.specs.declared.named_files.NamedFile.{NamedFile}
use Rattle.sudoers_tree.specs.declared.load_fault.LoadFault.TheVariants as load_fault
use Rattle.sudoers_tree.specs.Files.{ParsedFile, AreParsedUntilFault, lines_parsed_until_fault, parsed_file_of_texts}
use Rattle.sudoers_tree.specs.Files.AreParsedUntilFault.{whole, broken}
use Rattle.sudoers_tree.specs.Line.{Line}
use Rattle.sudoers_tree.specs.Load.{LoadedPolicy, parsed_file_of_cut_or_fault, file_limit, first_repeated_file_name, is_name_among, policy_or_load_fault, policy_of_parsed_files, parsed_files_or_cut_fault, result_unless_repeated_name}
use Rattle.sudoers_tree.specs.Policy.{texts_of_lines}
use Rattle.sudoers_tree.specs.Targets.{number_of_first_file_named}
use Rattle.sudoers_tree.specs.Walk.{load_result_and_then as then_load}
use Rattle.sudoers_files.specs.declared.fault.GatherFault.{GatherFault}
use Rattle.sudoers_files.specs.Gather.{gathered_from_root_bytes, gathered_files_or_fault, gathered_after_file_visit}
use Rattle.sudoers_files.specs.Included.{file_names_included_by_file}
use Rattle.sudoers_files.specs.Shelf.{named_file_bytes_truncated_past_limit}
use Rattle.sudoers_files.proofs.Keeping.{HasKnownBytesOfName, names_of_found_files, IsKeptByAppendingKnownFile, visits_keep_property_kept_by_visit, visit_keeps_property_kept_by_appending}

abbrev pub GatherResult : Type 0
GatherResult = Result (List NamedFile) GatherFault

-- ---- files that are read

pub appended_element_keeps_property_of_all : {A : Type 0} (P : A → Type 0) (xs : List A) (x : A) → AllByRecursion P xs → P x → AllByRecursion P (xs ++ x ∷ [])
appended_element_keeps_property_of_all P [] x all is = (is, tt)
appended_element_keeps_property_of_all P (y ∷ xs) x all is = (all.0, appended_element_keeps_property_of_all P xs x all.1 is)

pub gathered_files_are_from_known : (known : List NamedFile) (root : List ℕ) (final : List NamedFile) → gathered_files_or_fault known root ≡ Ok final → AllByRecursion (HasKnownBytesOfName known) final
unfolding gathered_files_or_fault
gathered_files_are_from_known known root final is = by (named_file_bytes_truncated_past_limit root known) refl is
  where
    all : IsKeptByAppendingKnownFile known (AllByRecursion (HasKnownBytesOfName known))
    all before file there some = appended_element_keeps_property_of_all (HasKnownBytesOfName known) before file some there

    by : (o : Option (List ℕ)) → named_file_bytes_truncated_past_limit root known ≡ o → gathered_from_root_bytes known root o ≡ Ok final → AllByRecursion (HasKnownBytesOfName known) final
    by None there e = absurd cc
    by (Some bytes) there e =
        let file : NamedFile = record { name = root; bytes = bytes } in
        visits_keep_property_kept_by_visit (AllByRecursion (HasKnownBytesOfName known)) (gathered_after_file_visit file_limit known) (visit_keeps_property_kept_by_appending (AllByRecursion (HasKnownBytesOfName known)) known all file_limit) (file ∷ []) final (file_names_included_by_file known file) (there, tt) e

-- what is read of a file that is known
pub record IsParsedKnownFile (known : List NamedFile) (reading : ParsedFile) : Type 0 where
  pub bytes : List ℕ
  pub lines : List (List ℕ)
  pub there : named_file_bytes_truncated_past_limit reading.name known ≡ Some bytes
  pub cuts : cut_outcome_of_text bytes ≡ Ok lines
  pub is : reading ≡ parsed_file_of_texts reading.name lines

abbrev pub names_of_parsed_files : List ParsedFile → List (List ℕ)
names_of_parsed_files files = map (λ (file : ParsedFile). file.name) files

parsed_file_of_texts_has_name : (name : List ℕ) (lines : List (List ℕ)) → (parsed_file_of_texts name lines).name ≡ name
unfolding parsed_file_of_texts
parsed_file_of_texts_has_name name lines = refl

pub parsed_files_are_known_and_named_alike : (known : List NamedFile) (before read : List ParsedFile) (files : List NamedFile) → AllByRecursion (IsParsedKnownFile known) before → AllByRecursion (HasKnownBytesOfName known) files
    → parsed_files_or_cut_fault before files ≡ Ok read → AllByRecursion (IsParsedKnownFile known) read × (names_of_parsed_files read ≡ names_of_parsed_files before ++ names_of_found_files files)
parsed_files_are_known_and_named_alike known before read [] all from is =
    let same : before ≡ read = cc in
    (subst (AllByRecursion (IsParsedKnownFile known)) same all, ap names_of_parsed_files (sym same) ∙ sym (append-nil (names_of_parsed_files before)))
parsed_files_are_known_and_named_alike known before read (file ∷ files) all from is = by (cut_outcome_of_text file.bytes) refl is
    (λ lines some. parsed_files_are_known_and_named_alike known (before ++ parsed_file_of_texts file.name lines ∷ []) read files some from.1)
  where
    Later : Type 0
    Later = (lines : List (List ℕ)) → AllByRecursion (IsParsedKnownFile known) (before ++ parsed_file_of_texts file.name lines ∷ []) → parsed_files_or_cut_fault (before ++ parsed_file_of_texts file.name lines ∷ []) files ≡ Ok read
        → AllByRecursion (IsParsedKnownFile known) read × (names_of_parsed_files read ≡ names_of_parsed_files (before ++ parsed_file_of_texts file.name lines ∷ []) ++ names_of_found_files files)

    by : (r : Result (List (List ℕ)) TextFault) → cut_outcome_of_text file.bytes ≡ r → then_load (parsed_file_of_cut_or_fault file.name r) (λ reading. parsed_files_or_cut_fault (before ++ reading ∷ []) files) ≡ Ok read → Later
        → AllByRecursion (IsParsedKnownFile known) read × (names_of_parsed_files read ≡ names_of_parsed_files before ++ names_of_found_files (file ∷ files))
    by (Ok lines) cuts e later =
        let reading = parsed_file_of_texts file.name lines in
        let named = parsed_file_of_texts_has_name file.name lines in
        let here : IsParsedKnownFile known reading = record {
          bytes = file.bytes;
          lines = lines;
          there = ap (λ n. named_file_bytes_truncated_past_limit n known) named ∙ from.0;
          cuts = cuts;
          is = ap (λ n. parsed_file_of_texts n lines) (sym named);
        } in
        let rest = later lines (appended_element_keeps_property_of_all (IsParsedKnownFile known) before reading all here) e in (
          rest.0,
          rest.1
              ∙ ap (λ ns. ns ++ names_of_found_files files) (map-append (λ (f : ParsedFile). f.name) before (reading ∷ []))
              ∙ append_assoc (names_of_parsed_files before) (reading.name ∷ []) (names_of_found_files files)
              ∙ ap (λ n. names_of_parsed_files before ++ n ∷ names_of_found_files files) named,
        )
    by (Err fault) cuts e later = absurd cc

pub record IsNumberOfNamedFile (Q : ParsedFile → Type 0) (name : List ℕ) (n k : ℕ) (files : List ParsedFile) : Type 0 where
  pub at : ℕ
  pub number : k ≡ n + at
  pub reading : ParsedFile
  pub there : slice_get files at ≡ Some reading
  pub named : reading.name ≡ name
  pub holds : Q reading

pub number_of_named_file_is_its_place : (Q : ParsedFile → Type 0) (name : List ℕ) (n k : ℕ) (files : List ParsedFile) → AllByRecursion Q files → number_of_first_file_named name n files ≡ Some k → IsNumberOfNamedFile Q name n k files
number_of_named_file_is_its_place Q name n k [] all is = absurd cc
number_of_named_file_is_its_place Q name n k (file ∷ files) all is = by (bytes_eq name file.name) refl is (number_of_named_file_is_its_place Q name (n + 1) k files all.1)
  where
    by : (t : Bool) → bytes_eq name file.name ≡ t → (if t then Some n else number_of_first_file_named name (n + 1) files) ≡ Some k → (number_of_first_file_named name (n + 1) files ≡ Some k → IsNumberOfNamedFile Q name (n + 1) k files)
        → IsNumberOfNamedFile Q name n k (file ∷ files)
    by true e found later =
        let same : n ≡ k = cc in
        record { at = 0; number = omega (arith, same); reading = file; there = refl; named = sym ((bytes_eq-Decides name file.name).0 e); holds = all.0 }
    by false e found later =
        let rest = later found in
        record { at = suc rest.at; number = omega (arith, rest.number); reading = rest.reading; there = rest.there; named = rest.named; holds = rest.holds }

-- ---- names are distinct

false_disjunction_has_false_parts : (a b : Bool) → (a || b) ≡ false → (a ≡ false) × (b ≡ false)
false_disjunction_has_false_parts true b is = absurd cc
false_disjunction_has_false_parts false b is = (refl, is)

name_before_unrepeated_files_is_absent : (before : List (List ℕ)) (files : List NamedFile) → first_repeated_file_name before files ≡ None → (i : ℕ) (file : NamedFile) → slice_get files i ≡ Some file → is_name_among file.name before ≡ false
name_before_unrepeated_files_is_absent before [] once i file is = absurd cc
name_before_unrepeated_files_is_absent before (f ∷ files) once i file is = by (is_name_among f.name before) refl once i is (name_before_unrepeated_files_is_absent (before ++ f.name ∷ []) files)
  where
    by : (t : Bool) → is_name_among f.name before ≡ t → (if t then Some f.name else first_repeated_file_name (before ++ f.name ∷ []) files) ≡ None → (i : ℕ) → slice_get (f ∷ files) i ≡ Some file
        → (first_repeated_file_name (before ++ f.name ∷ []) files ≡ None → (j : ℕ) (other : NamedFile) → slice_get files j ≡ Some other → is_name_among other.name (before ++ f.name ∷ []) ≡ false)
        → is_name_among file.name before ≡ false
    by true e o i s later = absurd cc
    by false e o zero s later = let same : f ≡ file = cc in ap (λ (x : NamedFile). is_name_among x.name before) (sym same) ∙ e
    by false e o (suc j) s later =
        (false_disjunction_has_false_parts (is_name_among file.name before) (is_name_among file.name (f.name ∷ [])) (sym (list_any-append (bytes_eq file.name) before (f.name ∷ [])) ∙ later o j file s)).0

pub unrepeated_file_name_has_its_number : (before : List (List ℕ)) (n : ℕ) (files : List NamedFile) (read : List ParsedFile) → names_of_parsed_files read ≡ names_of_found_files files → first_repeated_file_name before files ≡ None
    → (i : ℕ) (file : NamedFile) → slice_get files i ≡ Some file → number_of_first_file_named file.name n read ≡ Some (n + i)
unrepeated_file_name_has_its_number before n [] read same once i file is = absurd cc
unrepeated_file_name_has_its_number before n (f ∷ files) [] same once i file is = absurd cc
unrepeated_file_name_has_its_number before n (f ∷ files) (r ∷ read) same once zero file is =
    let here : f ≡ file = cc in
    let named : r.name ≡ f.name = cc in
    ap (λ t. if t then Some n else number_of_first_file_named file.name (n + 1) read) ((bytes_eq-Decides file.name r.name).1 (ap (λ (x : NamedFile). x.name) (sym here) ∙ sym named))
    ∙ ap (λ k. Some k) (omega arith)
unrepeated_file_name_has_its_number before n (f ∷ files) (r ∷ read) same once (suc i) file is = by (is_name_among f.name before) once (unrepeated_file_name_has_its_number (before ++ f.name ∷ []) (n + 1) files read (let rest : names_of_parsed_files read ≡ names_of_found_files files = cc in rest))
  where
    named : r.name ≡ f.name
    named = cc

    by : (t : Bool) → (if t then Some f.name else first_repeated_file_name (before ++ f.name ∷ []) files) ≡ None
        → (first_repeated_file_name (before ++ f.name ∷ []) files ≡ None → (j : ℕ) (other : NamedFile) → slice_get files j ≡ Some other → number_of_first_file_named other.name (n + 1) read ≡ Some (n + 1 + j))
        → number_of_first_file_named file.name n (r ∷ read) ≡ Some (n + suc i)
    by true o later = absurd cc
    by false o later =
        let among = name_before_unrepeated_files_is_absent (before ++ f.name ∷ []) files o i file is in
        let last = (false_disjunction_has_false_parts (is_name_among file.name before) (is_name_among file.name (f.name ∷ [])) (sym (list_any-append (bytes_eq file.name) before (f.name ∷ [])) ∙ among)).1 in
        let other : bytes_eq file.name f.name ≡ false = (false_disjunction_has_false_parts (bytes_eq file.name f.name) false last).0 in
        ap (λ t. if t then Some n else number_of_first_file_named file.name (n + 1) read) (ap (bytes_eq file.name) named ∙ other)
        ∙ later o i file is
        ∙ ap (λ k. Some k) (omega arith)

pub loaded_files_have_no_repeated_name : (files : List NamedFile) (p : LoadedPolicy) → policy_or_load_fault files ≡ Ok p → first_repeated_file_name [] files ≡ None
unfolding policy_or_load_fault
loaded_files_have_no_repeated_name files p is = by_count (nat_lt file_limit (length files)) is
  where
    by_name : (o : Option (List ℕ)) → first_repeated_file_name [] files ≡ o → result_unless_repeated_name o (then_load (parsed_files_or_cut_fault [] files) policy_of_parsed_files) ≡ Ok p → first_repeated_file_name [] files ≡ None
    by_name None e l = e
    by_name (Some name) e l = absurd cc

    by_count : (b : Bool) → (if b then Err load_fault.TooManyFiles else result_unless_repeated_name (first_repeated_file_name [] files) (then_load (parsed_files_or_cut_fault [] files) policy_of_parsed_files)) ≡ Ok p → first_repeated_file_name [] files ≡ None
    by_count true l = absurd cc
    by_count false l = by_name (first_repeated_file_name [] files) refl l

-- ---- a file on the walk

abbrev pub LinesAreParsedUntilFault : Type 0
LinesAreParsedUntilFault = (lines : List (List ℕ)) → AreParsedUntilFault lines (lines_parsed_until_fault [] lines).0 (lines_parsed_until_fault [] lines).1

pub faultless_parse_keeps_all_texts : (lines : List (List ℕ)) (read : List Line) (fault : Option SyntaxFault) → AreParsedUntilFault lines read fault → fault ≡ None → texts_of_lines read ≡ lines
faultless_parse_keeps_all_texts lines read fault (whole ls says) none = refl
faultless_parse_keeps_all_texts lines read fault (broken ls text more f says is) none = absurd cc

pub parsed_file_has_fault_of_lines : (name : List ℕ) (lines : List (List ℕ)) → (parsed_file_of_texts name lines).fault ≡ (lines_parsed_until_fault [] lines).1
unfolding parsed_file_of_texts
parsed_file_has_fault_of_lines name lines = refl

pub lines_of_parsed_file_are_those_parsed : (name : List ℕ) (lines : List (List ℕ)) → (parsed_file_of_texts name lines).lines ≡ (lines_parsed_until_fault [] lines).0
unfolding parsed_file_of_texts
lines_of_parsed_file_are_those_parsed name lines = refl

pub element_at_index_has_property_of_all : {A : Type 0} (P : A → Type 0) (xs : List A) → AllByRecursion P xs → (i : ℕ) (x : A) → slice_get xs i ≡ Some x → P x
element_at_index_has_property_of_all P [] all i x is = absurd cc
element_at_index_has_property_of_all P (y ∷ xs) all zero x is = let same : y ≡ x = cc in subst P same all.0
element_at_index_has_property_of_all P (y ∷ xs) all (suc i) x is = element_at_index_has_property_of_all P xs all.1 i x is
