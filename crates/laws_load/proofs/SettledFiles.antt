-- Files that are gathered lead to files that are gathered, or to names that no known file has.
use Rattle.std.proofs.Common.{◌≡◌, ◌||◌, Bool, true, false, List, [], ◌∷◌, ◌++◌, Ok, inl, inr, ℕ, refl, sym, ap, subst, ◌∙◌, append_assoc, append-nil}
use Rattle.std.specs.List.{AllByRecursion}
use Rattle.std.specs.Str.{bytes_eq}
use Rattle.sudoers_tree.specs.declared.named_files.NamedFile.{NamedFile}
use Rattle.sudoers_tree.specs.Load.{has_file_with_name}
use Rattle.sudoers_files.specs.Gather.{gathered_files_or_fault}
use Rattle.sudoers_files.specs.Gathers.{Visits, Follows, IsGatherOutcome, again, absent, full, new, end, stops, onward, no_root, found}
use Rattle.sudoers_files.specs.Included.{file_names_included_by_file}
use Rattle.sudoers_files.specs.internal.Gathering.{AreFoundOrMissing, IsFoundOrMissing}
use Rattle.sudoers_files.proofs.Keeping.{appended_file_has_its_name_found, equal_results_have_equal_files}
use Rattle.sudoers_files.proofs.Visited.{GatherResult}
use Rattle.laws_load.proofs.ListProperties.{implied_property_holds_of_each, property_of_two_lists_holds_of_append}

-- Each file to which this one leads is among those that are found, or no known file has its name.
abbrev pub LeadsToFoundOrMissing : (known gathered : List NamedFile) → NamedFile → Type 0
LeadsToFoundOrMissing known gathered file = AreFoundOrMissing known gathered (file_names_included_by_file known file)

-- The files now are those before and others, which lead to files that are found or missing.
record AppendsSettledFiles (known before now : List NamedFile) : Type 0 where
  others : List NamedFile
  is : now ≡ before ++ others
  settled : AllByRecursion (LeadsToFoundOrMissing known now) others

nothing_appended_is_settled : (known before now : List NamedFile) → before ≡ now → AppendsSettledFiles known before now
nothing_appended_is_settled known before now same = record { others = []; is = sym same ∙ sym (append-nil before); settled = tt }

-- ---- what stays

found_name_stays_found : (q : List ℕ) (before others : List NamedFile) → has_file_with_name q before ≡ true
    → has_file_with_name q (before ++ others) ≡ true
found_name_stays_found q [] others has = absurd cc
found_name_stays_found q (file ∷ before) others has = by (bytes_eq q file.name) has (found_name_stays_found q before others)
  where
    by : (b : Bool) → (b || has_file_with_name q before) ≡ true
        → (has_file_with_name q before ≡ true → has_file_with_name q (before ++ others) ≡ true)
        → (b || has_file_with_name q (before ++ others)) ≡ true
    by true is later = refl
    by false is later = later is

settled_name_stays_settled : (known before now : List NamedFile) → AppendsSettledFiles known before now → (q : List ℕ)
    → IsFoundOrMissing known before q → IsFoundOrMissing known now q
settled_name_stays_settled known before now appends q (inl has) =
    inl (subst (λ files. has_file_with_name q files ≡ true) (sym appends.is) (found_name_stays_found q before appends.others has))
settled_name_stays_settled known before now appends q (inr gone) = inr gone

settled_file_stays_settled : (known before now : List NamedFile) → AppendsSettledFiles known before now → (file : NamedFile)
    → LeadsToFoundOrMissing known before file → LeadsToFoundOrMissing known now file
settled_file_stays_settled known before now appends file settled =
    implied_property_holds_of_each (IsFoundOrMissing known before) (IsFoundOrMissing known now) (settled_name_stays_settled known before now appends)
    (file_names_included_by_file known file) settled

-- what one visit appends, and then what others append
both_appended_are_settled : (known before mid now : List NamedFile) → AppendsSettledFiles known before mid → AppendsSettledFiles known mid now
    → AppendsSettledFiles known before now
both_appended_are_settled known before mid now first later = record {
  others = first.others ++ later.others;
  is = later.is ∙ ap (λ files. files ++ later.others) first.is ∙ append_assoc before first.others later.others;
  settled = property_of_two_lists_holds_of_append (LeadsToFoundOrMissing known now) first.others later.others stays later.settled;
}
  where
    stays : AllByRecursion (LeadsToFoundOrMissing known now) first.others
    stays =
        implied_property_holds_of_each (LeadsToFoundOrMissing known mid) (LeadsToFoundOrMissing known now) (settled_file_stays_settled known mid now later)
        first.others first.settled

-- ---- visits

mutual
  visit_appends_settled_files : (known before : List NamedFile) (name : List ℕ) (outcome : GatherResult) (now : List NamedFile)
      → Visits known before name outcome → outcome ≡ Ok now
      → AppendsSettledFiles known before now × IsFoundOrMissing known now name
  visit_appends_settled_files known before name outcome now (again b n has) is =
      let same = equal_results_have_equal_files before now is in
      (nothing_appended_is_settled known before now same, inl (subst (λ files. has_file_with_name name files ≡ true) same has))
  visit_appends_settled_files known before name outcome now (absent b n other gone) is =
      (nothing_appended_is_settled known before now (equal_results_have_equal_files before now is), inr gone)
  visit_appends_settled_files known before name outcome now (full b n bytes other there many) is = absurd cc
  visit_appends_settled_files known before name outcome now (new b n bytes o other there few follows) is =
      let file : NamedFile = record { name = name; bytes = bytes } in
      let rest = visits_append_settled_files known (before ++ file ∷ []) (file_names_included_by_file known file) outcome now follows is in (
        record { others = file ∷ rest.0.others; is = rest.0.is ∙ append_assoc before (file ∷ []) rest.0.others; settled = (rest.1, rest.0.settled) },
        settled_name_stays_settled known (before ++ file ∷ []) now rest.0 name (inl (appended_file_has_its_name_found before file)),
      )

  visits_append_settled_files : (known before : List NamedFile) (names : List (List ℕ)) (outcome : GatherResult) (now : List NamedFile)
      → Follows known before names outcome → outcome ≡ Ok now
      → AppendsSettledFiles known before now × AreFoundOrMissing known now names
  visits_append_settled_files known before names outcome now (end b) is =
      (nothing_appended_is_settled known before now (equal_results_have_equal_files before now is), tt)
  visits_append_settled_files known before names outcome now (stops b name others fault visits) is = absurd cc
  visits_append_settled_files known before names outcome now (onward b mid name others o visits follows) is =
      let first = visit_appends_settled_files known before name (Ok mid) mid visits refl in
      let later = visits_append_settled_files known mid others outcome now follows is in
      (both_appended_are_settled known before mid now first.0 later.0, (settled_name_stays_settled known mid now later.0 name first.1, later.1))

-- ---- from the root on

abbrev pub GatheringsAreGatherOutcomes : Type 0
GatheringsAreGatherOutcomes = (known : List NamedFile) (root : List ℕ) → IsGatherOutcome known root (gathered_files_or_fault known root)

pub gathered_files_lead_to_found_or_missing : GatheringsAreGatherOutcomes → (known : List NamedFile) (root : List ℕ) (gathered : List NamedFile)
    → gathered_files_or_fault known root ≡ Ok gathered
    → AllByRecursion (LeadsToFoundOrMissing known gathered) gathered
gathered_files_lead_to_found_or_missing gather_is known root gathered is = by (gathered_files_or_fault known root) (gather_is known root) is
  where
    by : (outcome : GatherResult) → IsGatherOutcome known root outcome → outcome ≡ Ok gathered
        → AllByRecursion (LeadsToFoundOrMissing known gathered) gathered
    by outcome (no_root gone) e = absurd cc
    by outcome (found bytes o there visits) e =
        let all = (visit_appends_settled_files known [] root outcome gathered visits e).0 in
        subst (AllByRecursion (LeadsToFoundOrMissing known gathered)) (sym all.is) all.settled
