-- The fronts of files, and their names, in a dialect.
use Rattle.std.proofs.Common.{◌≡◌, ℕ, ◌+◌, ◌<◌, ◌≤◌, Bool, true, false, List, [], ◌∷◌, ◌++◌, length, take, refl, sym, ap, ◌∙◌, arith, Option, Some, None, Result, Ok, Err, Vec}
use Rattle.std.specs.Prelude.{map, nat_lt, if◌then◌else◌, IfSome}
use Rattle.std.specs.declared.alloc.Global.{Global}
use Rattle.std.specs.List.{filter}
use Rattle.std.specs.Option.{option_map}
use Rattle.std.specs.Str.{bytes_eq}
use Rattle.std.proofs.lemmas.List.{length-take-le, take_all, length-take}
use Rattle.std.proofs.lemmas.Bool.Decides.{nat_tests}
use Rattle.sudoers_text.specs.Fault.{text_limit}
use Rattle.sudoers_text.specs.Cut.{cut_outcome_of_text}
use Rattle.sudoers_tree.specs.Lead.{folder_of}
use Rattle.sudoers_tree.specs.Targets.{base_name_of_file_name, is_includable_base_name}
use Rattle.sudoers_tree.specs.declared.named_files.NamedFile.{NamedFile}
use Rattle.sudoers_files.specs.declared.fault.FileFault.{FileFault}
use Rattle.sudoers_files.specs.Shelf.{FileDeviceState, IsFileReadResult, IsFolderListing, IsUnreadListing, named_file_bytes_truncated_past_limit, base_names_in_folder, included_base_names_in, unread_base_names_in}
use Rattle.sudoers_dialect.specs.declared.dialect.Dialect.{Dialect}
use Rattle.sudoers_dialect.specs.declared.dialect.Dialect.TheVariants as dialect
use Rattle.sudoers_dialect.specs.Text.{adapted_text}
use Rattle.sudoers_dialect.specs.Files.{text_in_dialect, file_in_dialect, files_in_dialect, front_in_dialect}

-- A text past the limit stays.
text_past_limit_stays : (d : Dialect) (text : List ℕ) → nat_lt text_limit (length text) ≡ true → text_in_dialect d text ≡ text
unfolding adapted_text cut_outcome_of_text
text_past_limit_stays dialect.Profile text long = refl
text_past_limit_stays dialect.Sudo text long = rw long refl

front_of_text_in_dialect : (d : Dialect) (bytes : List ℕ) (long : Bool) → nat_lt text_limit (length bytes) ≡ long → take (text_limit + 1) (text_in_dialect d bytes) ≡ front_in_dialect d (take (text_limit + 1) bytes)
front_of_text_in_dialect d bytes true e =
    let more : text_limit < length bytes = grind (arith, nat_tests) in
    let size : length (take (text_limit + 1) bytes) ≡ text_limit + 1 = length-take-le (text_limit + 1) bytes (omega (arith, more)) in
    let long : nat_lt text_limit (length (take (text_limit + 1) bytes)) ≡ true = grind (arith, nat_tests, size) in
    ap (take (text_limit + 1)) (text_past_limit_stays d bytes e)
    ∙ sym (take_all (text_limit + 1) (take (text_limit + 1) bytes) (omega (arith, size)))
    ∙ ap (take (text_limit + 1)) (sym (text_past_limit_stays d (take (text_limit + 1) bytes) long))
front_of_text_in_dialect d bytes false e =
    let less : length bytes ≤ text_limit = grind (arith, nat_tests) in
    let all : take (text_limit + 1) bytes ≡ bytes = take_all (text_limit + 1) bytes (omega (arith, less)) in
    ap (λ (t : List ℕ). front_in_dialect d t) (sym all)

front_by_name : (d : Dialect) (bytes : List ℕ) (more later : Option (List ℕ)) (b : Bool) → option_map (front_in_dialect d) more ≡ later
    → option_map (front_in_dialect d) (if b then Some (take (text_limit + 1) bytes) else more) ≡ (if b then Some (take (text_limit + 1) (text_in_dialect d bytes)) else later)
front_by_name d bytes more later true e = ap (λ (t : List ℕ). Some t) (sym (front_of_text_in_dialect d bytes (nat_lt text_limit (length bytes)) refl))
front_by_name d bytes more later false e = e

front_of_file_in_dialect : (d : Dialect) (name : List ℕ) (files : List NamedFile) → option_map (front_in_dialect d) (named_file_bytes_truncated_past_limit name files) ≡ named_file_bytes_truncated_past_limit name (map (file_in_dialect d) files)
front_of_file_in_dialect d name [] = refl
front_of_file_in_dialect d name (file ∷ files) =
    front_by_name d file.bytes (named_file_bytes_truncated_past_limit name files) (named_file_bytes_truncated_past_limit name (map (file_in_dialect d) files)) (bytes_eq name file.name) (front_of_file_in_dialect d name files)

names_stay_in_dialect : (d : Dialect) (dir : List ℕ) (files : List NamedFile) → base_names_in_folder dir files ≡ base_names_in_folder dir (map (file_in_dialect d) files)
names_stay_in_dialect d dir [] = refl
names_stay_in_dialect d dir (file ∷ files) =
    ap (λ (names : List (List ℕ)). if bytes_eq (folder_of file.name) (dir ++ 47 ∷ []) then base_name_of_file_name file.name ∷ names else names) (names_stay_in_dialect d dir files)

told_front : (d : Dialect) (name : List ℕ) (known : Option (List NamedFile)) (bytes : Option (List ℕ)) → IfSome known (λ files. bytes ≡ named_file_bytes_truncated_past_limit name files)
    → IfSome (option_map (map (file_in_dialect d)) known) (λ files. option_map (front_in_dialect d) bytes ≡ named_file_bytes_truncated_past_limit name files)
told_front d name None bytes told = tt
told_front d name (Some files) bytes told = ap (option_map (front_in_dialect d)) told ∙ front_of_file_in_dialect d name files

prefix_is_within_size : (n : ℕ) (xs : List ℕ) → length (take n xs) ≤ n
prefix_is_within_size n xs = omega (arith, length-take n xs)

front_is_within_limit : (d : Dialect) (bytes : Option (List ℕ)) → IfSome (option_map (front_in_dialect d) bytes) (λ bytes. length bytes ≤ text_limit + 1)
front_is_within_limit d None = tt
front_is_within_limit d (Some bytes) = prefix_is_within_size (text_limit + 1) (text_in_dialect d bytes)

pub file_is_read_in_dialect : (d : Dialect) (bytes : Option (List ℕ)) (name : List ℕ) (old new : FileDeviceState) → IsFileReadResult (Ok bytes) name old new
    → IsFileReadResult (Ok (option_map (front_in_dialect d) bytes)) name (files_in_dialect d old) (files_in_dialect d new)
file_is_read_in_dialect d bytes name old new reads = record {
  counts = ap (files_in_dialect d) reads.counts;
  told = told_front d name old.files bytes reads.told;
  most = front_is_within_limit d bytes;
}

-- ---- folders

told_names : (d : Dialect) (names_of : List NamedFile → List (List ℕ)) → ((files : List NamedFile) → names_of files ≡ names_of (map (file_in_dialect d) files))
    → (known : Option (List NamedFile)) (names : List (List ℕ)) → IfSome known (λ files. names ≡ names_of files) → IfSome (option_map (map (file_in_dialect d)) known) (λ files. names ≡ names_of files)
told_names d names_of same None names told = tt
told_names d names_of same (Some files) names told = told ∙ same files

listing_by_names : (d : Dialect) (names_of : List NamedFile → List (List ℕ)) → ((files : List NamedFile) → names_of files ≡ names_of (map (file_in_dialect d) files))
    → (result : Result (Vec (List ℕ) Global) FileFault) (old new : FileDeviceState) → IsFolderListing result names_of old new
    → IsFolderListing result names_of (files_in_dialect d old) (files_in_dialect d new)
listing_by_names d names_of same (Ok names) old new lists = record {
  counts = ap (files_in_dialect d) lists.counts;
  told = told_names d names_of same old.files names.items lists.told;
}
listing_by_names d names_of same (Err fault) old new lists = record {
  counts = (ap (option_map (map (file_in_dialect d))) lists.counts.0, lists.counts.1, lists.counts.2);
  told = tt;
}

pub names_are_listed_in_dialect : (d : Dialect) (result : Result (Vec (List ℕ) Global) FileFault) (dir : List ℕ) (old new : FileDeviceState) → IsFolderListing result (base_names_in_folder dir) old new
    → IsFolderListing result (base_names_in_folder dir) (files_in_dialect d old) (files_in_dialect d new)
names_are_listed_in_dialect d result dir old new lists = listing_by_names d (base_names_in_folder dir) (names_stay_in_dialect d dir) result old new lists

pub included_names_are_listed_in_dialect : (d : Dialect) (result : Result (Vec (List ℕ) Global) FileFault) (dir : List ℕ) (old new : FileDeviceState) → IsFolderListing result (included_base_names_in dir) old new
    → IsFolderListing result (included_base_names_in dir) (files_in_dialect d old) (files_in_dialect d new)
included_names_are_listed_in_dialect d result dir old new lists =
    listing_by_names d (included_base_names_in dir) (λ files. ap (filter is_includable_base_name) (names_stay_in_dialect d dir files)) result old new lists

unread_names_stay_in_dialect : (d : Dialect) (dir : List ℕ) (files : List NamedFile) → unread_base_names_in dir files ≡ unread_base_names_in dir (map (file_in_dialect d) files)
unread_names_stay_in_dialect d dir files = rw (names_stay_in_dialect d dir files) refl

told_unread_names : (d : Dialect) (dir : List ℕ) (known : Option (List NamedFile)) (names : Option (List (List ℕ))) → IfSome known (λ files. names ≡ unread_base_names_in dir files)
    → IfSome (option_map (map (file_in_dialect d)) known) (λ files. names ≡ unread_base_names_in dir files)
told_unread_names d dir None names told = tt
told_unread_names d dir (Some files) names told =
    told ∙ unread_names_stay_in_dialect d dir files

pub unread_names_are_listed_in_dialect : (d : Dialect) (result : Result (Option (Vec (List ℕ) Global)) FileFault) (dir : List ℕ) (old new : FileDeviceState) → IsUnreadListing result dir old new
    → IsUnreadListing result dir (files_in_dialect d old) (files_in_dialect d new)
unread_names_are_listed_in_dialect d (Ok names) dir old new lists = record {
  counts = ap (files_in_dialect d) lists.counts;
  told = told_unread_names d dir old.files (option_map (λ (some : Vec (List ℕ) Global). some.items) names) lists.told;
}
unread_names_are_listed_in_dialect d (Err fault) dir old new lists = record {
  counts = (ap (option_map (map (file_in_dialect d))) lists.counts.0, lists.counts.1, lists.counts.2);
  told = tt;
}

-- ---- fronts

pub profile_front_stays : (d : Dialect) (front : List ℕ) → d ≡ dialect.Profile → length front ≤ text_limit + 1 → front ≡ front_in_dialect d front
profile_front_stays d front is most =
    sym (take_all (text_limit + 1) front most) ∙ ap (λ (e : Dialect). front_in_dialect e front) (sym is)
