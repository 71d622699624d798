use Rattle.sudoers_tree.proofs.Common.{AreSoundWalkedFiles, Err, List, LoadFault, LoadedPolicy, MatchResult, NamedFile, NoMemory, None, Ok, ParsedFile, WalkedFiles, [], ap, arith, false, file_limit}
use Rattle.sudoers_tree.proofs.Common.{first_repeated_file_name, inr, le-ltb, length, nat_lt, parsed_files_or_cut_fault, policy_of_parsed_files, policy_of_walked_files, policy_or_load_fault, rules, subst, sym, true}
use Rattle.sudoers_tree.proofs.Common.{◌∙◌, ◌≡◌, ◌≤◌, ◌⊎◌}
use Rattle.sudoers_tree.proofs.Loads.{EndsWithFaultOrNoMemory, accepted_files_load_by_their_parsed_files, parsed_files_give_the_load_outcome, fault_of_parsing_files_ends_load, repeated_file_name_is_load_fault, too_many_files_are_load_fault}
use Rattle.sudoers_tree.proofs.Known.{loaded_policy_keeps_names_and_bytes}
use Rattle.sudoers_tree.proofs.policy.Policy.load.Goals as goal

pub returns-then-files-gt-FILE_LIMIT : goal.returns-then-files-gt-FILE_LIMIT
returns-then-files-gt-FILE_LIMIT c =
    let many : nat_lt file_limit (length c.args.files.now) ≡ true = search rules in inr (too_many_files_are_load_fault c.args.files.now many)

pub returns-in-Some : goal.returns-in-Some
returns-in-Some c =
    let few : nat_lt file_limit (length c.args.files.now) ≡ false = search rules in
    inr (repeated_file_name_is_load_fault c.args.files.now c.in-Some.file few (sym c.in_ok-file.ensures ∙ c.in-Some.is))

pub returns-in_err-files : goal.returns-in_err-files
returns-in_err-files c =
    let files : List NamedFile = c.args.files.now in
    let few : nat_lt file_limit (length files) ≡ false = search rules in
    let once : first_repeated_file_name [] files ≡ None = sym c.in_ok-file.ensures ∙ c.in_default.is in
    let fault : LoadFault = c.in_err-files.field-0.0 in
    let told : c.from_residual-in_err-files.result ≡ Err fault = search rules in
    subst (λ r. MatchResult r (λ policy. policy_or_load_fault files ≡ Ok policy) (λ e. (e ≡ NoMemory) ⊎ (policy_or_load_fault files ≡ Err e))) (sym told)
    (fault_of_parsing_files_ends_load files fault (policy_or_load_fault files) (accepted_files_load_by_their_parsed_files files few once) c.in_err-files.ensures)

-- what the files that are read lead to
over : (files : List NamedFile) (read : List ParsedFile) → length files ≤ 256 → first_repeated_file_name [] files ≡ None → parsed_files_or_cut_fault [] files ≡ Ok read → policy_or_load_fault files ≡ policy_of_parsed_files read
over files read bound once is = parsed_files_give_the_load_outcome files read (le-ltb file_limit (length files) bound) once is

pub returns-in_err-walked : goal.returns-in_err-walked
returns-in_err-walked c =
    let files : List NamedFile = c.args.files.now in
    let fault : LoadFault = c.in_err-walked.field-0.0 in
    let told : c.from_residual-in_err-walked.result ≡ Err fault = search rules in
    let leads = over files _ (omega (arith, c.if-files-gt-FILE_LIMIT.false)) (sym c.in_ok-file.ensures ∙ c.in_default.is) c.in_ok-files.ensures.0 in
    subst (λ r. MatchResult r (λ policy. policy_or_load_fault files ≡ Ok policy) (λ e. (e ≡ NoMemory) ⊎ (policy_or_load_fault files ≡ Err e))) (sym told)
    (subst (λ o. EndsWithFaultOrNoMemory fault o) (sym leads) c.in_err-walked.ensures)

is_loaded : (c : goal.In_ok-new) → policy_or_load_fault c.args.files.now ≡ Ok (policy_of_walked_files c.in_ok-new.field-0.value)
is_loaded c =
    let leads = over c.args.files.now _ (omega (arith, c.if-files-gt-FILE_LIMIT.false)) (sym c.in_ok-file.ensures ∙ c.in_default.is) c.in_ok-files.ensures.0 in
    leads ∙ c.in_ok-walked.ensures.0 ∙ ap (λ (w : WalkedFiles). Ok (policy_of_walked_files w)) (sym c.in_ok-new.ensures.ok)

pub returns : goal.returns
returns c = is_loaded c

pub invariant_of-result : goal.invariant_of-result
invariant_of-result c =
    let policy : LoadedPolicy = policy_of_walked_files c.in_ok-new.field-0.value in (
      subst AreSoundWalkedFiles (sym c.in_ok-new.ensures.ok) c.in_ok-walked.ensures.1,
      ap policy_or_load_fault (loaded_policy_keeps_names_and_bytes c.args.files.now policy (is_loaded c)) ∙ is_loaded c,
    )
