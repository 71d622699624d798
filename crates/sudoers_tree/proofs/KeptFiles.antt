-- Loaded files keep their names and their bytes.
use Rattle.sudoers_tree.proofs.Common.{AllByRecursion, AreParsedUntilFault, Err, IsCutOutcome, Line, List, LoadedPolicy, NamedFile, None, Ok, Option, ParsedFile, Result, SyntaxFault, TextFault, [], ap, append-nil}
use Rattle.sudoers_tree.proofs.Common.{append_assoc, ap₂, cut_outcome_of_text, join, lines_parsed_until_fault, load_result_and_then, map, named_file_of_parsed, named_files_of_policy, parsed_file_of_texts}
use Rattle.sudoers_tree.proofs.Common.{parsed_file_of_cut_or_fault, parsed_files_or_cut_fault, policy_or_load_fault, refl, subst, sym, texts_of_lines, whole, ℕ, ◌++◌, ◌∙◌, ◌∷◌, ◌≡◌}
use Rattle.sudoers_tree.specs.Files.{broken}
use Rattle.sudoers_tree.proofs.Outcomes.{ComputedCutsAreCutOutcomes}
use Rattle.sudoers_tree.proofs.ParsedFiles.{IsParsedWithoutFault, loaded_files_are_parsed_without_fault}
use Rattle.sudoers_tree.proofs.WalkSound.{loaded_policy_is_load_of_files}

-- lines are read up to the first that does not parse
abbrev pub LinesAreParsedUntilFault : Type 0
LinesAreParsedUntilFault = (lines : List (List ℕ)) → AreParsedUntilFault lines (lines_parsed_until_fault [] lines).0 (lines_parsed_until_fault [] lines).1

-- Lines of which none has a fault are all read.
pub faultless_texts_are_all_parsed : (lines : List (List ℕ)) (read : List Line) (fault : Option SyntaxFault) → AreParsedUntilFault lines read fault → fault ≡ None → texts_of_lines read ≡ lines
faultless_texts_are_all_parsed lines read fault (whole ls says) none = refl
faultless_texts_are_all_parsed lines read fault (broken ls text more why says wrong) none = absurd cc

-- A file that is read has the name and, if its lines parse, the bytes of this one.
abbrev IsParsedFileKeptAsNamedFile : ParsedFile → NamedFile → Type 0
IsParsedFileKeptAsNamedFile reading file = IsParsedWithoutFault reading → named_file_of_parsed reading ≡ file

parsed_file_keeps_name_and_bytes : LinesAreParsedUntilFault → (file : NamedFile) (lines : List (List ℕ)) → join lines ≡ file.bytes → IsParsedFileKeptAsNamedFile (parsed_file_of_texts file.name lines) file
unfolding parsed_file_of_texts
parsed_file_keeps_name_and_bytes reads file lines joined none =
    let same : join (texts_of_lines (lines_parsed_until_fault [] lines).0) ≡ file.bytes =
    ap join (faultless_texts_are_all_parsed lines (lines_parsed_until_fault [] lines).0 (lines_parsed_until_fault [] lines).1 (reads lines) none) ∙ joined in
    ap (λ bytes. let named : NamedFile = record { name = file.name; bytes = bytes } in named) same

-- Each of the files that are read is kept, one for one.
abbrev AreParsedFilesKeptAsNamedFiles : List ParsedFile → List NamedFile → Type 0
AreParsedFilesKeptAsNamedFiles [] [] = Unit {0}
AreParsedFilesKeptAsNamedFiles [] (file ∷ files) = ⊥
AreParsedFilesKeptAsNamedFiles (reading ∷ read) [] = ⊥
AreParsedFilesKeptAsNamedFiles (reading ∷ read) (file ∷ files) = IsParsedFileKeptAsNamedFile reading file × AreParsedFilesKeptAsNamedFiles read files

-- The files that are read are those before, and then one for each file.
record AreParsedFilesBeforeThenKept (before read : List ParsedFile) (files : List NamedFile) : Type 0 where
  more : List ParsedFile
  all : before ++ more ≡ read
  kept : AreParsedFilesKeptAsNamedFiles more files

parsed_files_keep_names_and_bytes : ComputedCutsAreCutOutcomes → LinesAreParsedUntilFault → (before read : List ParsedFile) (files : List NamedFile) → parsed_files_or_cut_fault before files ≡ Ok read
    → AreParsedFilesBeforeThenKept before read files
parsed_files_keep_names_and_bytes cuts reads before read [] is =
    let same : before ≡ read = cc in
    record { more = []; all = append-nil before ∙ same; kept = tt }
parsed_files_keep_names_and_bytes cuts reads before read (file ∷ files) is =
    by (cut_outcome_of_text file.bytes) (cuts file.bytes) is (λ lines. parsed_files_keep_names_and_bytes cuts reads (before ++ parsed_file_of_texts file.name lines ∷ []) read files)
  where
    Later : Type 0
    Later = (lines : List (List ℕ)) → parsed_files_or_cut_fault (before ++ parsed_file_of_texts file.name lines ∷ []) files ≡ Ok read
        → AreParsedFilesBeforeThenKept (before ++ parsed_file_of_texts file.name lines ∷ []) read files

    by : (r : Result (List (List ℕ)) TextFault) → IsCutOutcome file.bytes r
        → load_result_and_then (parsed_file_of_cut_or_fault file.name r) (λ reading. parsed_files_or_cut_fault (before ++ reading ∷ []) files) ≡ Ok read → Later
        → AreParsedFilesBeforeThenKept before read (file ∷ files)
    by (Ok lines) cut e later =
        let behind = later lines e in
        record {
          more = parsed_file_of_texts file.name lines ∷ behind.more;
          all = sym (append_assoc before (parsed_file_of_texts file.name lines ∷ []) behind.more) ∙ behind.all;
          kept = (parsed_file_keeps_name_and_bytes reads file lines cut.cuts.joined, behind.kept);
        }
    by (Err fault) cut e later = absurd cc

kept_parsed_files_are_named_files : (read : List ParsedFile) (files : List NamedFile) → AreParsedFilesKeptAsNamedFiles read files → AllByRecursion IsParsedWithoutFault read → map named_file_of_parsed read ≡ files
kept_parsed_files_are_named_files [] [] kept all = refl
kept_parsed_files_are_named_files [] (file ∷ files) kept all = absurd kept
kept_parsed_files_are_named_files (reading ∷ read) [] kept all = absurd kept
kept_parsed_files_are_named_files (reading ∷ read) (file ∷ files) kept all =
    ap₂ (λ (x : NamedFile) xs. x ∷ xs) (kept.0 all.0) (kept_parsed_files_are_named_files read files kept.1 all.1)

pub loaded_policy_keeps_its_named_files : ComputedCutsAreCutOutcomes → LinesAreParsedUntilFault → (files : List NamedFile) (p : LoadedPolicy) → policy_or_load_fault files ≡ Ok p → named_files_of_policy p ≡ files
loaded_policy_keeps_its_named_files cuts reads files p is =
    let load = loaded_policy_is_load_of_files files p is in
    let behind = parsed_files_keep_names_and_bytes cuts reads [] p.files files load.reads in
    kept_parsed_files_are_named_files p.files files (subst (λ read. AreParsedFilesKeptAsNamedFiles read files) behind.all behind.kept) (loaded_files_are_parsed_without_fault files p is)
