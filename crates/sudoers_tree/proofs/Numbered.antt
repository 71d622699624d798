-- Items of lists by their numbers, and lists in order.
use Rattle.sudoers_tree.proofs.Common.{List, ParsedFile, Some, [], ap, arith, base_name_of_file_name, bytes_eq, drop, ends_in_tilde, false, file_inserted_in_name_order, folder_of, if◌then◌else◌, included_files_of_folder}
use Rattle.sudoers_tree.proofs.Common.{insert, is_file_name_before, is_includable_from_folder, length, length-drop, length-take-le, name_of_numbered_file, number_of_first_file_named, refl, slice_get, suc, sym, take}
use Rattle.sudoers_tree.proofs.Common.{take_all, true, zero, ℕ, ◌++◌, ◌+◌, ◌-◌, ◌<◌, ◌==◌, ◌∙◌, ◌∷◌, ◌≡◌}

-- The item with a number is the first from there on.
pub drop_begins_with_numbered_item : {A : Type 0} (xs : List A) (n : ℕ) (x : A) → slice_get xs n ≡ Some x → drop n xs ≡ x ∷ drop (n + 1) xs
drop_begins_with_numbered_item [] n x is = absurd cc
drop_begins_with_numbered_item (y ∷ xs) zero x is = cc
drop_begins_with_numbered_item (y ∷ xs) (suc n) x is =
    let count : suc (n + 1) ≡ suc n + 1 = omega arith in
    drop_begins_with_numbered_item xs n x is ∙ ap (λ k. x ∷ drop k (y ∷ xs)) count

-- The rest of a list from a number on: its first item has that number, and the items after it are the rest from the next number on.
pub first_of_drop_is_numbered_item : {A : Type 0} (rest xs : List A) (n : ℕ) (x : A) → x ∷ rest ≡ drop n xs → slice_get xs n ≡ Some x
first_of_drop_is_numbered_item rest [] zero x is = absurd cc
first_of_drop_is_numbered_item rest [] (suc n) x is = absurd cc
first_of_drop_is_numbered_item rest (y ∷ xs) zero x is = cc
first_of_drop_is_numbered_item rest (y ∷ xs) (suc n) x is = first_of_drop_is_numbered_item rest xs n x is

pub rest_of_drop_is_later_drop : {A : Type 0} (rest xs : List A) (n : ℕ) (x : A) → x ∷ rest ≡ drop n xs → rest ≡ drop (n + 1) xs
rest_of_drop_is_later_drop rest xs n x is =
    let same : x ∷ rest ≡ x ∷ drop (n + 1) xs = is ∙ drop_begins_with_numbered_item xs n x (first_of_drop_is_numbered_item rest xs n x is) in
    cc

-- There is an item with each number below how many there are.
pub item_below_length_exists : {A : Type 0} (xs : List A) (n : ℕ) → n < length xs → (x : A) × (slice_get xs n ≡ Some x)
item_below_length_exists [] n less = absurd (omega (arith, less))
item_below_length_exists (x ∷ xs) zero less = (x, refl)
item_below_length_exists (x ∷ xs) (suc n) less = item_below_length_exists xs n (omega (arith, less))

pub ends_in_tilde_is_told_by_last_byte : (rest : List ℕ) (b : ℕ) → ends_in_tilde (rest ++ b ∷ []) ≡ (b == 126)
ends_in_tilde_is_told_by_last_byte [] b = refl
ends_in_tilde_is_told_by_last_byte (a ∷ []) b = refl
ends_in_tilde_is_told_by_last_byte (a ∷ c ∷ rest) b = ends_in_tilde_is_told_by_last_byte (c ∷ rest) b

-- The name without its folder, where its last `/` stands at a byte, and where there is none.
pub bytes_after_last_slash_are_base_name : (name : List ℕ) (at : ℕ) → at < length name → take (at + 1) name ≡ folder_of name
    → take (length name - (at + 1)) (drop (at + 1) name) ≡ base_name_of_file_name name
bytes_after_last_slash_are_base_name name at less front =
    let whole : take (length name - (at + 1)) (drop (at + 1) name) ≡ drop (at + 1) name = take_all (length name - (at + 1)) (drop (at + 1) name) (omega (arith, length-drop (at + 1) name)) in
    let count : length (folder_of name) ≡ at + 1 = ap length (sym front) ∙ length-take-le (at + 1) name (omega (arith, less)) in
    whole ∙ ap (λ n. drop n name) (sym count)

pub name_without_folder_is_base_name : (name : List ℕ) → folder_of name ≡ [] → name ≡ base_name_of_file_name name
name_without_folder_is_base_name name front = ap (λ ns. drop (length ns) name) (sym front)

-- ---- files by their names

-- the file that is found, or the one after it
pub matching_file_is_first_file_named : (name : List ℕ) (files : List ParsedFile) (n : ℕ) → n < length files → bytes_eq name (name_of_numbered_file files n) ≡ true
    → number_of_first_file_named name n (drop n files) ≡ Some n
matching_file_is_first_file_named name files n less is =
    let at = item_below_length_exists files n less in
    let same : bytes_eq name at.0.name ≡ true = cc in
    ap (number_of_first_file_named name n) (drop_begins_with_numbered_item files n at.0 at.1) ∙ ap (λ t. if t then Some n else number_of_first_file_named name (n + 1) (drop (n + 1) files)) same

pub other_file_is_not_first_file_named : (name : List ℕ) (files : List ParsedFile) (n : ℕ) → n < length files → bytes_eq name (name_of_numbered_file files n) ≡ false
    → number_of_first_file_named name n (drop n files) ≡ number_of_first_file_named name (n + 1) (drop (n + 1) files)
other_file_is_not_first_file_named name files n less is =
    let at = item_below_length_exists files n less in
    let same : bytes_eq name at.0.name ≡ false = cc in
    ap (number_of_first_file_named name n) (drop_begins_with_numbered_item files n at.0 at.1) ∙ ap (λ t. if t then Some n else number_of_first_file_named name (n + 1) (drop (n + 1) files)) same

-- ---- files in order

-- the file stands after one that it is not before
pub file_is_inserted_after_file_not_later : (files : List ParsedFile) (f : ℕ) (order : List ℕ) (at g : ℕ) → slice_get order at ≡ Some g → is_file_name_before files f g ≡ false
    → take at order ++ file_inserted_in_name_order files f (drop at order) ≡ take (at + 1) order ++ file_inserted_in_name_order files f (drop (at + 1) order)
file_is_inserted_after_file_not_later files f [] at g is off = absurd cc
file_is_inserted_after_file_not_later files f (x ∷ order) zero g is off =
    let same : is_file_name_before files f x ≡ false = cc in
    ap (λ t. if t then f ∷ x ∷ order else x ∷ file_inserted_in_name_order files f order) same
file_is_inserted_after_file_not_later files f (x ∷ order) (suc at) g is off =
    let count : suc (at + 1) ≡ suc at + 1 = omega arith in
    ap (λ xs. x ∷ xs) (file_is_inserted_after_file_not_later files f order at g is off)
    ∙ ap (λ k. take k (x ∷ order) ++ file_inserted_in_name_order files f (drop k (x ∷ order))) count

-- it stands before one that it is before
pub file_is_inserted_before_later_file : (files : List ParsedFile) (f : ℕ) (order : List ℕ) (at g : ℕ) → slice_get order at ≡ Some g → is_file_name_before files f g ≡ true
    → take at order ++ file_inserted_in_name_order files f (drop at order) ≡ insert order at f
file_is_inserted_before_later_file files f [] at g is on = absurd cc
file_is_inserted_before_later_file files f (x ∷ order) zero g is on =
    let same : is_file_name_before files f x ≡ true = cc in
    ap (λ t. if t then f ∷ x ∷ order else x ∷ file_inserted_in_name_order files f order) same
file_is_inserted_before_later_file files f (x ∷ order) (suc at) g is on = ap (λ xs. x ∷ xs) (file_is_inserted_before_later_file files f order at g is on)

-- it stands last
pub file_is_inserted_last_at_end : (files : List ParsedFile) (f : ℕ) (order : List ℕ)
    → take (length order) order ++ file_inserted_in_name_order files f (drop (length order) order) ≡ order ++ f ∷ []
file_is_inserted_last_at_end files f [] = refl
file_is_inserted_last_at_end files f (x ∷ order) = ap (λ xs. x ∷ xs) (file_is_inserted_last_at_end files f order)

-- ---- files of a folder

pub includable_file_is_inserted_in_folder : (files : List ParsedFile) (folder : List ℕ) (n : ℕ) → n < length files → is_includable_from_folder folder (name_of_numbered_file files n) ≡ true
    → included_files_of_folder files folder n (drop n files) ≡ file_inserted_in_name_order files n (included_files_of_folder files folder (n + 1) (drop (n + 1) files))
includable_file_is_inserted_in_folder files folder n less is =
    let at = item_below_length_exists files n less in
    let same : is_includable_from_folder folder at.0.name ≡ true = cc in
    ap (included_files_of_folder files folder n) (drop_begins_with_numbered_item files n at.0 at.1)
    ∙ ap (λ t. if t then file_inserted_in_name_order files n (included_files_of_folder files folder (n + 1) (drop (n + 1) files)) else included_files_of_folder files folder (n + 1) (drop (n + 1) files)) same

pub other_file_is_not_in_folder : (files : List ParsedFile) (folder : List ℕ) (n : ℕ) → n < length files → is_includable_from_folder folder (name_of_numbered_file files n) ≡ false
    → included_files_of_folder files folder n (drop n files) ≡ included_files_of_folder files folder (n + 1) (drop (n + 1) files)
other_file_is_not_in_folder files folder n less is =
    let at = item_below_length_exists files n less in
    let same : is_includable_from_folder folder at.0.name ≡ false = cc in
    ap (included_files_of_folder files folder n) (drop_begins_with_numbered_item files n at.0 at.1)
    ∙ ap (λ t. if t then file_inserted_in_name_order files n (included_files_of_folder files folder (n + 1) (drop (n + 1) files)) else included_files_of_folder files folder (n + 1) (drop (n + 1) files)) same
