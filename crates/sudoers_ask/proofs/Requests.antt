-- Requests of users, and what they have in common.
use Rattle.std.proofs.Common.{◌≡◌, ◌++◌, ◌∷◌, [], not, ℕ, Bool, true, false, List, Option, Some, None, Result, Ok, Err, ap, codes, option_map, refl, subst, sym, ◌∙◌}
use Rattle.sudoers_tree.specs.Line.{Line}
use Rattle.sudoers_match_member.specs.declared.people_and_commands.Group.{Group}
use Rattle.sudoers_match_member.specs.declared.people_and_commands.Who.{Who}
use Rattle.sudoers_match_member.specs.declared.network.Interface.{Interface}
use Rattle.sudoers_match_member.specs.declared.request.Request.{Request}
use Rattle.sudoers_match.specs.declared.specs_for_users.SpecOnLine.{SpecOnLine}
use Rattle.sudoers_match.specs.Spellings.{is_spelled_command_match}
use Rattle.sudoers_match.specs.Default.{IsRunasDefault, IsScopeForUserOnHost, runas_defaults_of_lines, runas_name_or_root}
use Rattle.sudoers_match.specs.ForRequest.{AreRequestsOfTwoUsers, AreSpecsForRequest}
use Rattle.sudoers_match.specs.Last.{IsLastItemWith}
use Rattle.sudoers_grammar.specs.Node.{Scope}
use Rattle.sudoers_list_people.specs.declared.account_and_group_row_types.PasswdAccount.{PasswdAccount}
use Rattle.sudoers_list_people.specs.declared.fault.WhoFault.{WhoFault}
use Rattle.sudoers_list_people.specs.People.{People}
use Rattle.sudoers_list_people.specs.Person.{account_named, interfaces_of_text, person_with_groups, short_name_of_host, who_from_account_and_interfaces, who_or_who_fault}
use Rattle.sudoers_list_people.specs.Asked.{argument_words_after_first, command_of_words, group_requested_by_name, moment_of_stamp, request_from_lookup_results, request_or_who_fault}
use Rattle.sudoers_ask.specs.declared.question.CommandQuestion.{CommandQuestion}
use Rattle.sudoers_ask.specs.Same.{spelled_command_of_question}
use Rattle.sudoers_ask.specs.Outcome.{AreSpecsForQuestion, IsRequestForQuestion, IsUserRequest, is_target_common, optional_name_of_view, target_name}

-- ---- the user and the host

record IsWhoOnHost (host : List ℕ) (interfaces : Option (List Interface)) (who : Who) : Type 0 where
  long : who.long_host ≡ host
  short : who.short_host ≡ short_name_of_host host
  of_host : interfaces ≡ Some who.interfaces

abbrev IsResultOnHost : List ℕ → Option (List Interface) → Result Who WhoFault → Type 0
IsResultOnHost host interfaces (Ok who) = IsWhoOnHost host interfaces who
IsResultOnHost host interfaces (Err fault) = Unit {0}

who_is_on_host : (people : People) (host : List ℕ) (account : Option PasswdAccount) (interfaces : Option (List Interface))
    → IsResultOnHost host interfaces (who_from_account_and_interfaces people host account interfaces)
who_is_on_host people host None interfaces = tt
who_is_on_host people host (Some a) None = tt
who_is_on_host people host (Some a) (Some interfaces) = record { long = refl; short = refl; of_host = refl }

pub who_has_interfaces : (people : People) (user host interfaces : List ℕ) (who : Who) → who_or_who_fault people user host interfaces ≡ Ok who → interfaces_of_text interfaces ≡ Some who.interfaces
who_has_interfaces people user host interfaces who told =
    let on : IsWhoOnHost host (interfaces_of_text interfaces) who =
    subst (IsResultOnHost host (interfaces_of_text interfaces)) told (who_is_on_host people host (account_named people user) (interfaces_of_text interfaces)) in
    on.of_host

-- ---- the request

record IsRequestOfResults (people : People) (who : Who) (words : List (List ℕ)) (account : Option PasswdAccount) (moment : Option ℕ) (r : Request) : Type 0 where
  of_who : r.who ≡ who
  command : r.command ≡ command_of_words words
  args : r.args ≡ argument_words_after_first words
  target : option_map (person_with_groups people) account ≡ Some r.target
  at : moment ≡ Some r.moment

abbrev IsResultOfResults : People → Who → List (List ℕ) → Option PasswdAccount → Option ℕ → Result Request WhoFault → Type 0
IsResultOfResults people who words account moment (Ok r) = IsRequestOfResults people who words account moment r
IsResultOfResults people who words account moment (Err fault) = Unit {0}

request_is_of_results : (people : People) (who : Who) (words : List (List ℕ)) (account : Option PasswdAccount) (group : Option (Option Group)) (moment : Option ℕ)
    → IsResultOfResults people who words account moment (request_from_lookup_results people who words account group moment)
request_is_of_results people who words None group moment = tt
request_is_of_results people who words (Some a) None moment = tt
request_is_of_results people who words (Some a) (Some g) None = tt
request_is_of_results people who words (Some a) (Some g) (Some m) = record { of_who = refl; command = refl; args = refl; target = refl; at = refl }

module _ (people : People) (who : Who) (target : List ℕ) (group : Option (List ℕ)) (words : List (List ℕ)) (stamp : List ℕ) (r : Request)
    (told : request_or_who_fault people who target group words stamp ≡ Ok r) where
  found : IsRequestOfResults people who words (account_named people target) (moment_of_stamp stamp) r
  found = subst (IsResultOfResults people who words (account_named people target) (moment_of_stamp stamp)) told
      (request_is_of_results people who words (account_named people target) (group_requested_by_name people group) (moment_of_stamp stamp))

  pub request_keeps_who : r.who ≡ who
  request_keeps_who = found.of_who

  pub request_has_command : r.command ≡ command_of_words words
  request_has_command = found.command

  pub request_has_args : r.args ≡ argument_words_after_first words
  request_has_args = found.args

  request_has_target : option_map (person_with_groups people) (account_named people target) ≡ Some r.target
  request_has_target = found.target

  request_has_moment : moment_of_stamp stamp ≡ Some r.moment
  request_has_moment = found.at

-- ---- the requests of a question

pub user_request_is_for_question : (lines : List Line) (people : People) (q : CommandQuestion) (user : List ℕ) (r : Request) (default : List ℕ)
    → IsUserRequest lines people q user r default → IsRequestForQuestion q r
user_request_is_for_question lines people q user r default u =
    let on : IsWhoOnHost q.host.now (interfaces_of_text q.interfaces.now) r.who =
    subst (IsResultOnHost q.host.now (interfaces_of_text q.interfaces.now)) u.who
    (who_is_on_host people q.host.now (account_named people user) (interfaces_of_text q.interfaces.now)) in
    record {
      long = on.long;
      short = on.short;
      interfaces = on.of_host;
      command = request_has_command people r.who _ _ q.words.now q.moment.now r u.asks;
      args = request_has_args people r.who _ _ q.words.now q.moment.now r u.asks;
    }

pub same_result : {X : Type 0} (o : Option X) (x y : X) → o ≡ Some x → o ≡ Some y → x ≡ y
same_result o x y a b = let two : Some x ≡ Some y = sym a ∙ b in let same : x ≡ y = cc in same

no_setting_then_root : (lines : List Line) (who : Who) (name : List ℕ) → runas_defaults_of_lines lines ≡ [] → IsRunasDefault lines who name → name ≡ codes "root"
no_setting_then_root lines who name none d = d.says ∙ ap runas_name_or_root (by d.last (subst (λ xs. IsLastItemWith (λ setting. IsScopeForUserOnHost lines who setting.0) xs d.last) none d.is_last))
  where
    cons_is_not_nil : {X : Type 0} (before after : List X) (x : X) → [] ≡ before ++ x ∷ after → ⊥
    cons_is_not_nil [] after x e = cc
    cons_is_not_nil (y ∷ before) after x e = cc

    by : (last : Option (Option Scope × List ℕ)) → IsLastItemWith (λ setting. IsScopeForUserOnHost lines who setting.0) [] last → last ≡ None
    by None is = refl
    by (Some x) is = absurd (cons_is_not_nil is.0 is.1 x is.2)

module _ (lines : List Line) (people : People) (q : CommandQuestion) (has_default : Bool) (no_default : has_default ≡ false → runas_defaults_of_lines lines ≡ []) where
  -- the one target of all requests
  common_target_name : (target group : Option (List ℕ)) → is_target_common has_default target group ≡ true → (user other default name : List ℕ)
      → (has_default ≡ false → default ≡ name) → target_name target group user default ≡ target_name target group other name
  common_target_name (Some t) group e user other default name same = refl
  common_target_name None (Some g) e user other default name same = absurd cc
  common_target_name None None e user other default name same = same (is_false has_default e)
    where
      is_false : (b : Bool) → not b ≡ true → b ≡ false
      is_false true e = absurd cc
      is_false false e = refl

  requests_are_of_two_users : (user other : List ℕ) (r s : Request) (default name : List ℕ) → IsUserRequest lines people q user r default → IsUserRequest lines people q other s name
      → AreRequestsOfTwoUsers (is_target_common has_default (optional_name_of_view q.target) (optional_name_of_view q.group)) r s
  requests_are_of_two_users user other r s default name u w =
      let is = user_request_is_for_question lines people q user r default u in
      let of = user_request_is_for_question lines people q other s name w in
      let target = optional_name_of_view q.target in
      let group = optional_name_of_view q.group in
      record {
        long = of.long ∙ sym is.long;
        short = of.short ∙ sym is.short;
        interfaces = same_result (interfaces_of_text q.interfaces.now) s.who.interfaces r.who.interfaces of.interfaces is.interfaces;
        moment = same_result (moment_of_stamp q.moment.now) s.moment r.moment
            (request_has_moment people s.who _ group q.words.now q.moment.now s w.asks) (request_has_moment people r.who _ group q.words.now q.moment.now r u.asks);
        target = λ e. same_result (option_map (person_with_groups people) (account_named people (target_name target group other name))) s.target r.target
            (request_has_target people s.who _ group q.words.now q.moment.now s w.asks)
            (subst (λ t. option_map (person_with_groups people) (account_named people t) ≡ Some r.target)
            (common_target_name target group e user other default name (λ none. no_setting_then_root lines r.who default (no_default none) u.is_default ∙ sym (no_setting_then_root lines s.who name (no_default none) w.is_default)))
            (request_has_target people r.who _ group q.words.now q.moment.now r u.asks));
      }

  -- The user specifications that serve one request of a question serve all.
  pub specs_of_request_serve_question : (user : List ℕ) (r : Request) (default : List ℕ) → IsUserRequest lines people q user r default → (specs : List SpecOnLine)
      → ((other : Request) → AreRequestsOfTwoUsers (is_target_common has_default (optional_name_of_view q.target) (optional_name_of_view q.group)) r other
      → AreSpecsForRequest lines (is_spelled_command_match (spelled_command_of_question q)) other specs) → AreSpecsForQuestion lines people q specs
  specs_of_request_serve_question user r default u specs serve other s name w = serve s (requests_are_of_two_users user other r s default name u w)
