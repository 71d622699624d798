use Rattle.std.proofs.Common.{◌≡◌, ◌⊎◌, ◌++◌, ◌∷◌, [], ◌||◌, ◌+◌, ◌<◌, inl, inr, IfErr, List, Ok, Err, Some, ap, drop, get_or, length, option_map, rules, slice_get, subst, sym, take, ◌∙◌}
use Rattle.std.proofs.lemmas.List.{take_more}
use Rattle.std.proofs.lemmas.Option.{slice_get-get_or}
use Rattle.std.specs.Result.{IsErrAnd}
use Rattle.sudoers_tree.specs.Line.{Line}
use Rattle.sudoers_match_list.specs.declared.verdict.AskFault.TheVariants.{NoMemory}
use Rattle.std.specs.Prelude.{MatchBool}
use Rattle.sudoers_match.specs.declared.spellings.CommandSpellings.{CommandSpellings}
use Rattle.sudoers_match.specs.Spellings.{is_spelled_command_match}
use Rattle.sudoers_match.specs.Found.{answer_without_member_and_settings}
use Rattle.sudoers_list_people.specs.declared.account_and_group_row_types.PasswdAccount.{PasswdAccount}
use Rattle.sudoers_ask.specs.declared.question.QuestionFault.{QuestionFault}
use Rattle.sudoers_ask.specs.declared.question.QuestionFault.TheVariants.{Ask}
use Rattle.sudoers_ask.specs.Outcome.{IsMemoryFault, IsUserOutcome}
use Rattle.sudoers_ask.specs.Users.{ArePartsOfUsers, IsFaultOfFirstUser, IsPartOfUser, IsReasonOfUserByTest, UserPart, is_user_shown}
use Rattle.sudoers_ask.proofs.Outcomes.{memory_refused}
use Rattle.sudoers_ask.proofs.Parts.{answered_request_is_outcome, list_parts_at, one_more_allowed, one_more_related, one_more_text}
use Rattle.sudoers_ask.proofs.Ready.{ready_answer, ready_default, ready_found, ready_itself, ready_outcome}
use Rattle.sudoers_ask.proofs.users.list_users_of_question.Goals as goal

pub ask_user-requires : goal.ask_user-requires
ask_user-requires c = ready_itself c.args.policy.now.walk.lines c.args.asked.now.people.now c.args.asked.now.question.now c.args.asked.now c.requires.ready

pub append_user_part-requires-clause-same : goal.append_user_part-requires-clause-same
append_user_part-requires-clause-same c =
    c.requires.ready.walk

pub append_user_part-requires-clause-default : goal.append_user_part-requires-clause-default
append_user_part-requires-clause-default c =
    ready_default c.args.policy.now.walk.lines c.args.asked.now.people.now c.args.asked.now.question.now c.args.asked.now c.requires.ready c.in_ok-answer.answer.request.who c.in_ok-answer.answer.default.now c.in_ok-answer.ensures.request.is_default

pub append_user_part-requires-clause-answer : goal.append_user_part-requires-clause-answer
append_user_part-requires-clause-answer c =
    ready_answer c.args.policy.now.walk.lines c.args.asked.now.people.now c.args.asked.now.question.now c.args.asked.now c.requires.ready c.in_ok-answer.answer.request (option_map answer_without_member_and_settings c.in_ok-answer.answer.found) c.in_ok-answer.ensures.answer

pub append_user_part-requires-clause-found : goal.append_user_part-requires-clause-found
append_user_part-requires-clause-found c =
    ready_found c.args.policy.now.walk.lines c.args.asked.now.people.now c.args.asked.now.question.now c.args.asked.now c.requires.ready c.in_ok-answer.answer.found c.in_ok-answer.ensures.found

pub append_undecided_lines_of_user-requires : goal.append_undecided_lines_of_user-requires
append_undecided_lines_of_user-requires c =
    c.in_ok-answer.ensures.request.is_default

pub returns-in_err-answer-clause-fault : goal.returns-in_err-answer-clause-fault
returns-in_err-answer-clause-fault c =
    let policy = c.args.policy.now in
    let people = c.args.asked.now.people.now in
    let q = c.args.asked.now.question.now in
    let lines : List Line = policy.walk.lines in
    let fault : QuestionFault = c.in_err-answer.field-0.0 in
    let same : c.from_residual.result ≡ Err fault = search rules in
    let asked = c.args.asked.now in
    let ready = c.requires.ready in
    let items = c.accounts-account-items.result.now in
    let accounts : List PasswdAccount = people.accounts in
    let i = c.loop-account.account-index in
    let item : PasswdAccount = c.account-item.result in
    let at : slice_get accounts i ≡ Some item = ap (λ xs. slice_get xs i) (sym c.accounts-account-items.ensures) ∙ slice_get-get_or items i item c.loop-account-test.true ∙ ap Some (sym c.account-item.is) in
    let so_far = c.loop-account.invariant in
    subst (λ r. IfErr r (λ (f : QuestionFault). IsMemoryFault f ⊎ IsFaultOfFirstUser policy people q c.args.denied f)) (sym same)
    (elim c.in_err-answer.ensures.fault as (λ _. IsMemoryFault fault ⊎ IsFaultOfFirstUser policy people q c.args.denied fault) [
      | inl memory ↦ inl memory
      | inr told ↦ inr (record {
        before = take i accounts;
        account = item;
        after = drop (i + 1) accounts;
        stands = list_parts_at accounts i item at;
        parts = so_far.0;
        are_parts = so_far.1;
        asked = subst (λ name. IsUserOutcome lines people q name (Err fault)) c.as_slice-name.ensures
            (ready_outcome lines people q asked ready c.as_slice-name.result.now (Err fault) told);
      })
    ])

pub loop-account-preserved : goal.loop-account-preserved
loop-account-preserved c =
    let policy = c.args.policy.now in
    let people = c.args.asked.now.people.now in
    let q = c.args.asked.now.question.now in
    let denied = c.args.denied in
    let lines : List Line = policy.walk.lines in
    let asked = c.args.asked.now in
    let ready = c.requires.ready in
    let items = c.accounts-account-items.result.now in
    let accounts : List PasswdAccount = people.accounts in
    let i = c.loop-account.account-index in
    let item : PasswdAccount = c.account-item.result in
    let within : i < length accounts = subst (λ (xs : List PasswdAccount). i < length xs) c.accounts-account-items.ensures c.loop-account-test.true in
    let taken : take (i + 1) accounts ≡ take i accounts ++ item ∷ [] =
    take_more accounts i item within ∙ ap (λ x. take i accounts ++ x ∷ []) (ap (λ xs. get_or xs i item) (sym c.accounts-account-items.ensures) ∙ sym c.account-item.is) in
    let a = c.in_ok-answer.answer in
    let answer = option_map answer_without_member_and_settings a.found in
    let wrote = c.in_ok-append_user_part.ensures in
    let name = c.as_slice-name.result.now in
    let part : UserPart = record { text = wrote.0; allowed = c.is_allowed-is_any_allowed.result } in
    let so_far = c.loop-account.invariant in
    let is_part : IsPartOfUser policy people q denied item.name part = subst (λ n. IsPartOfUser policy people q denied n part) c.as_slice-name.ensures (record {
      told = record { request = a.request; default = a.default.now; answer = answer };
      asked = ready_outcome lines people q asked ready name (Ok (record { request = a.request; default = a.default.now; answer = answer }))
          (answered_request_is_outcome asked.walk asked.people.now asked.question.now name a.request a.default.now answer c.in_ok-answer.ensures.request c.in_ok-answer.ensures.short c.in_ok-answer.ensures.answer);
      text = subst (λ (command : CommandSpellings). MatchBool (is_user_shown denied answer) (IsReasonOfUserByTest policy (is_spelled_command_match command) name a.request answer wrote.0) (wrote.0 ≡ [])) ready.command wrote.2;
      allowed = c.is_allowed-is_any_allowed.ensures;
    }) in (
      so_far.0 ++ part ∷ [],
      subst (λ (xs : List PasswdAccount). ArePartsOfUsers policy people q denied xs (so_far.0 ++ part ∷ [])) (sym taken)
          (one_more_related (λ (account : PasswdAccount) p. IsPartOfUser policy people q denied account.name p) (take i accounts) so_far.0 item part so_far.1 is_part),
      wrote.1 ∙ ap (λ text. text ++ wrote.0) so_far.2 ∙ sym (one_more_text so_far.0 part),
      ap (λ b. b || part.allowed) so_far.3 ∙ sym (one_more_allowed so_far.0 part),
    )

pub returns-in_err-append_user_part-clause-fault : goal.returns-in_err-append_user_part-clause-fault
returns-in_err-append_user_part-clause-fault c =
    let memory : IsErrAnd c.from_residual-in_err-append_user_part.result (λ (fault : QuestionFault). fault ≡ Ask NoMemory) = c.from_residual-in_err-append_user_part.ensures.1 in
    memory_refused _ c.from_residual-in_err-append_user_part.result memory (λ fault is. inl is)

pub returns-in_err-append_undecided_lines_of_user-clause-fault : goal.returns-in_err-append_undecided_lines_of_user-clause-fault
returns-in_err-append_undecided_lines_of_user-clause-fault c =
    let memory : IsErrAnd c.from_residual-in_err-append_undecided_lines_of_user.result (λ (fault : QuestionFault). fault ≡ Ask NoMemory) = c.from_residual-in_err-append_undecided_lines_of_user.ensures.1 in
    memory_refused _ c.from_residual-in_err-append_undecided_lines_of_user.result memory (λ fault is. inl is)
