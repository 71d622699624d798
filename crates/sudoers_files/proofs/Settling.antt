-- Names that are settled: found, or of no file. Visits of them change nothing, and after a visit its name is settled.
use Rattle.std.proofs.Common.{◌≡◌, ℕ, zero, suc, ◌||◌, nat_le, Bool, true, false, if◌then◌else◌, List, [], ◌∷◌, ◌++◌, length, Option, Some, None, Vec, Ok, Err, ◌⊎◌, inl, inr, refl, sym, ap, subst, ◌∙◌}
use Rattle.std.specs.BTreeSet.{BTreeSet, insert_key}
use Rattle.std.specs.List.{list_any}
use Rattle.std.specs.Ordering.{is_eq, match_ordering}
use Rattle.std.specs.declared.alloc.Global.{Global}
use Rattle.std.specs.declared.cmp.Ordering.{Ordering}
use Rattle.std.specs.declared.cmp.Ordering.TheVariants.{Less, Equal, Greater}
use Rattle.std.proofs.lemmas.Map.Text.{is_eq-slice_cmp}
use Rattle.std.proofs.lemmas.Slice.Eq.{bytes_eq-Decides}
use Rattle.sudoers_tree.specs.declared.named_files.NamedFile.{NamedFile}
use Rattle.sudoers_tree.specs.Load.{file_limit, has_file_with_name}
use Rattle.sudoers_files.specs.declared.fault.GatherFault.TheVariants.{TooManyFiles}
use Rattle.sudoers_files.specs.Gather.{gather_result_and_then, gathered_with_file_and_includes, gathered_unless_found, gathered_unless_missing_or_full, gathered_after_file_visit, gathered_after_file_visits}
use Rattle.sudoers_files.specs.Folder.{sorted_file_names_in_folder}
use Rattle.sudoers_files.specs.Included.{file_names_included_by_file}
use Rattle.sudoers_files.specs.Shelf.{named_file_bytes_truncated_past_limit, included_base_names_in}
use Rattle.sudoers_files.specs.internal.Gathering.{AreFoundOrMissing, AreFilesOfFoldersFoundOrMissing, IsFoundOrMissing, name_byte_order}
use Rattle.sudoers_files.proofs.Keeping.{visits_keep_property_kept_by_visit, visit_keeps_names_found, equal_results_have_equal_files, appended_file_has_its_name_found, name_after_append_is_in_old_or_new}
use Rattle.sudoers_files.proofs.Visited.{GatherResult, visit_of_missing_file_adds_nothing, visit_of_found_name_adds_nothing}

-- ---- visits of settled names

visit_of_settled_name_changes_nothing : (known found : List NamedFile) (left : ℕ) (name : List ℕ) → IsFoundOrMissing known found name → gathered_after_file_visit left known found name ≡ Ok found
visit_of_settled_name_changes_nothing known found left name (inl has) = visit_of_found_name_adds_nothing known found left name has
visit_of_settled_name_changes_nothing known found left name (inr gone) = by (has_file_with_name name found) refl
  where
    by : (t : Bool) → has_file_with_name name found ≡ t → gathered_after_file_visit left known found name ≡ Ok found
    by true has = visit_of_found_name_adds_nothing known found left name has
    by false other = visit_of_missing_file_adds_nothing known found left name other gone

pub visits_of_settled_names_change_nothing : (known found : List NamedFile) (left : ℕ) (names : List (List ℕ)) → AreFoundOrMissing known found names → gathered_after_file_visits (gathered_after_file_visit left known) found names ≡ Ok found
visits_of_settled_names_change_nothing known found left [] all = refl
visits_of_settled_names_change_nothing known found left (name ∷ names) all =
    ap (λ r. gather_result_and_then r (λ now. gathered_after_file_visits (gathered_after_file_visit left known) now names)) (visit_of_settled_name_changes_nothing known found left name all.0) ∙ visits_of_settled_names_change_nothing known found left names all.1

-- ---- what a visit settles

visits_keep_name_settled : (known before now : List NamedFile) (left : ℕ) (names : List (List ℕ)) (q : List ℕ) → gathered_after_file_visits (gathered_after_file_visit left known) before names ≡ Ok now
    → IsFoundOrMissing known before q → IsFoundOrMissing known now q
visits_keep_name_settled known before now left names q is (inl has) = inl (visits_keep_property_kept_by_visit (λ files. has_file_with_name q files ≡ true) (gathered_after_file_visit left known) (visit_keeps_names_found known left q) before now names has is)
visits_keep_name_settled known before now left names q is (inr gone) = inr gone

names_stay_settled_if_each_name_does : (known before now : List NamedFile) (names : List (List ℕ)) → ((q : List ℕ) → IsFoundOrMissing known before q → IsFoundOrMissing known now q)
    → AreFoundOrMissing known before names → AreFoundOrMissing known now names
names_stay_settled_if_each_name_does known before now [] keeps all = tt
names_stay_settled_if_each_name_does known before now (name ∷ names) keeps all = (keeps name all.0, names_stay_settled_if_each_name_does known before now names keeps all.1)

-- The name of a visit is settled after it.
visit_settles_its_name : (known before now : List NamedFile) (left : ℕ) (name : List ℕ) → gathered_after_file_visit left known before name ≡ Ok now → IsFoundOrMissing known now name
visit_settles_its_name known before now left name is = by_left left is
  where
    by_next : (next : NamedFile → GatherResult) → ((bytes : List ℕ) → next (record { name = name; bytes = bytes }) ≡ Ok now → has_file_with_name name now ≡ true)
        → gathered_unless_found next known before name ≡ Ok now → IsFoundOrMissing known now name
    by_next next taken e = by_name (has_file_with_name name before) refl e
      where
        by_limit : (t : Bool) (bytes : List ℕ) → (if t then Err TooManyFiles else next (record { name = name; bytes = bytes })) ≡ Ok now → IsFoundOrMissing known now name
        by_limit true bytes f = absurd cc
        by_limit false bytes f = inl (taken bytes f)

        by_front : (o : Option (List ℕ)) → named_file_bytes_truncated_past_limit name known ≡ o → gathered_unless_missing_or_full next before name o ≡ Ok now → IsFoundOrMissing known now name
        by_front None gone f = inr gone
        by_front (Some bytes) there f = by_limit (nat_le file_limit (length before)) bytes f

        by_name : (t : Bool) → has_file_with_name name before ≡ t → (if t then Ok before else gathered_unless_missing_or_full next before name (named_file_bytes_truncated_past_limit name known)) ≡ Ok now → IsFoundOrMissing known now name
        by_name true has f = inl (subst (λ fs. has_file_with_name name fs ≡ true) (equal_results_have_equal_files before now f) has)
        by_name false other f = by_front (named_file_bytes_truncated_past_limit name known) refl f

    by_left : (l : ℕ) → gathered_after_file_visit l known before name ≡ Ok now → IsFoundOrMissing known now name
    by_left zero e = by_next (λ file. Err TooManyFiles) (λ bytes f. absurd cc) e
    by_left (suc l) e =
        by_next (gathered_with_file_and_includes (gathered_after_file_visit l known) known before)
        (λ bytes f.
        let file : NamedFile = record { name = name; bytes = bytes } in
        visits_keep_property_kept_by_visit (λ files. has_file_with_name name files ≡ true) (gathered_after_file_visit l known) (visit_keeps_names_found known l name) (before ++ file ∷ []) now (file_names_included_by_file known file) (appended_file_has_its_name_found before file) f)
        e

pub visits_settle_their_names : (known before now : List NamedFile) (left : ℕ) (names : List (List ℕ)) → gathered_after_file_visits (gathered_after_file_visit left known) before names ≡ Ok now → AreFoundOrMissing known now names
visits_settle_their_names known before now left [] is = tt
visits_settle_their_names known before now left (name ∷ names) is = by (gathered_after_file_visit left known before name) refl is (λ mid. visits_settle_their_names known mid now left names)
  where
    by : (r : GatherResult) → gathered_after_file_visit left known before name ≡ r → gather_result_and_then r (λ mid. gathered_after_file_visits (gathered_after_file_visit left known) mid names) ≡ Ok now
        → ((mid : List NamedFile) → gathered_after_file_visits (gathered_after_file_visit left known) mid names ≡ Ok now → AreFoundOrMissing known now names) → AreFoundOrMissing known now (name ∷ names)
    by (Ok mid) here e later = (visits_keep_name_settled known mid now left names name e (visit_settles_its_name known before mid left name here), later mid e)
    by (Err fault) here e later = absurd cc

-- ---- settled folders

-- no folders
pub empty_folder_set_is_settled : (known found : List NamedFile) (folders : BTreeSet (Vec ℕ Global)) → folders.keys ≡ [] → AreFilesOfFoldersFoundOrMissing known found folders
empty_folder_set_is_settled known found folders none folder has = absurd (let no : false ≡ true = sym (ap (list_any (λ k. is_eq (name_byte_order folder k))) none) ∙ has in cc)

-- after a file is appended
pub appending_file_keeps_folders_settled : (known before : List NamedFile) (file : NamedFile) (folders : BTreeSet (Vec ℕ Global)) → AreFilesOfFoldersFoundOrMissing known before folders → AreFilesOfFoldersFoundOrMissing known (before ++ file ∷ []) folders
appending_file_keeps_folders_settled known before file folders settled folder has =
    names_stay_settled_if_each_name_does known before (before ++ file ∷ []) (sorted_file_names_in_folder folder.items (included_base_names_in folder.items known)) keeps (settled folder has)
  where
    keeps : (q : List ℕ) → IsFoundOrMissing known before q → IsFoundOrMissing known (before ++ file ∷ []) q
    keeps q (inl is) = inl (name_after_append_is_in_old_or_new q before file ∙ ap (λ t. t || has_file_with_name q (file ∷ [])) is)
    keeps q (inr gone) = inr gone

-- A key of a set with one key more is that key, or was a key before.
key_after_insert_is_inserted_or_old : (key x : Vec ℕ Global) (keys : List (Vec ℕ Global)) → list_any (λ k. is_eq (name_byte_order x k)) (insert_key name_byte_order keys key) ≡ true
    → (is_eq (name_byte_order x key) ≡ true) ⊎ (list_any (λ k. is_eq (name_byte_order x k)) keys ≡ true)
key_after_insert_is_inserted_or_old key x [] has = either (is_eq (name_byte_order x key)) false has
  where
    either : (a b : Bool) → (a || b) ≡ true → (a ≡ true) ⊎ (b ≡ true)
    either true b is = inl refl
    either false b is = inr is
key_after_insert_is_inserted_or_old key x (y ∷ keys) has = by (name_byte_order key y) has (key_after_insert_is_inserted_or_old key x keys)
  where
    Any : List (Vec ℕ Global) → Bool
    Any = list_any (λ k. is_eq (name_byte_order x k))

    first : (a b : Bool) → (a || b) ≡ true → (a ≡ true) ⊎ (b ≡ true)
    first true b is = inl refl
    first false b is = inr is

    behind : (a b c : Bool) → (a || b) ≡ true → (b ≡ true → (is_eq (name_byte_order x key) ≡ true) ⊎ (c ≡ true)) → (is_eq (name_byte_order x key) ≡ true) ⊎ ((a || c) ≡ true)
    behind true b c is later = inr refl
    behind false b c is later = later is

    by : (o : Ordering) → Any (match_ordering o (key ∷ y ∷ keys) (y ∷ keys) (y ∷ insert_key name_byte_order keys key)) ≡ true
        → (Any (insert_key name_byte_order keys key) ≡ true → (is_eq (name_byte_order x key) ≡ true) ⊎ (Any keys ≡ true))
        → (is_eq (name_byte_order x key) ≡ true) ⊎ (Any (y ∷ keys) ≡ true)
    by Less is later = first (is_eq (name_byte_order x key)) (Any (y ∷ keys)) is
    by Equal is later = inr is
    by Greater is later = behind (is_eq (name_byte_order x y)) (Any (insert_key name_byte_order keys key)) (Any keys) is later

-- after a folder is inserted of which all is settled
pub inserting_settled_folder_keeps_settled : (known found : List NamedFile) (folders more : BTreeSet (Vec ℕ Global)) (key : Vec ℕ Global) → more.keys ≡ insert_key name_byte_order folders.keys key
    → AreFilesOfFoldersFoundOrMissing known found folders → AreFoundOrMissing known found (sorted_file_names_in_folder key.items (included_base_names_in key.items known)) → AreFilesOfFoldersFoundOrMissing known found more
inserting_settled_folder_keeps_settled known found folders more key is settled all folder has =
    by (key_after_insert_is_inserted_or_old key folder folders.keys (sym (ap (list_any (λ k. is_eq (name_byte_order folder k))) is) ∙ has))
  where
    by : (is_eq (name_byte_order folder key) ≡ true) ⊎ (list_any (λ k. is_eq (name_byte_order folder k)) folders.keys ≡ true) → AreFoundOrMissing known found (sorted_file_names_in_folder folder.items (included_base_names_in folder.items known))
    by (inl same) =
        let one : folder.items ≡ key.items = (bytes_eq-Decides folder.items key.items).0 (sym (is_eq-slice_cmp folder.items key.items) ∙ same) in
        subst (λ n. AreFoundOrMissing known found (sorted_file_names_in_folder n (included_base_names_in n known))) (sym one) all
    by (inr there) = settled folder there
