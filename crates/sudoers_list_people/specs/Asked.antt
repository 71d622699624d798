-- What is asked of whom (sudoers(5), User specification, Date_Spec).
use Rattle.std.specs.Prelude.{ℕ, List, [], ◌∷◌, Option, Some, None, option_map, Result, Ok, Err, if◌then◌else◌}
use Rattle.std.specs.List.{find}
use Rattle.std.specs.Str.{bytes_eq}
use Rattle.sudoers_grammar.specs.Number.{is_time_stamp_text}
use Rattle.sudoers_match_member.specs.declared.people_and_commands.Group.{Group}
use Rattle.sudoers_match_member.specs.declared.people_and_commands.Who.{Who}
use Rattle.sudoers_match_member.specs.declared.request.Request.{Request}
use Rattle.sudoers_match_member.specs.Moment.{zero_filled_number_of_stamp}
use Rattle.sudoers_list_people.specs.declared.account_and_group_row_types.PasswdAccount.{PasswdAccount}
use Rattle.sudoers_list_people.specs.declared.account_and_group_row_types.GroupFileRow.{GroupFileRow}
use Rattle.sudoers_list_people.specs.declared.fault.WhoFault.{WhoFault}
use Rattle.sudoers_list_people.specs.declared.fault.WhoFault.TheVariants.{NoUser, NoGroup, BadMoment}
use Rattle.sudoers_list_people.specs.People.{People}
use Rattle.sudoers_list_people.specs.Person.{account_named, group_of_row, person_with_groups}

-- the group with this name
abbrev pub group_named : People → List ℕ → Option Group
group_named people name = option_map group_of_row (find (λ (row : GroupFileRow). bytes_eq row.name name) people.groups)

-- the group that is asked for, if one is; outer None: no group has the name
abbrev pub group_requested_by_name : People → Option (List ℕ) → Option (Option Group)
group_requested_by_name people None = Some None
group_requested_by_name people (Some name) = option_map Some (group_named people name)

-- the moment of a time stamp
abbrev pub moment_of_stamp : List ℕ → Option ℕ
moment_of_stamp stamp = if is_time_stamp_text stamp then Some (zero_filled_number_of_stamp stamp) else None

-- The first word is the command, and the others are its arguments. Without words the command is empty.
abbrev pub command_of_words : List (List ℕ) → List ℕ
command_of_words [] = []
command_of_words (word ∷ words) = word

abbrev pub argument_words_after_first : List (List ℕ) → List (List ℕ)
argument_words_after_first [] = []
argument_words_after_first (word ∷ words) = words

abbrev pub request_from_lookup_results : People → Who → List (List ℕ) → Option PasswdAccount → Option (Option Group) → Option ℕ → Result Request WhoFault
request_from_lookup_results people who words None group moment = Err NoUser
request_from_lookup_results people who words (Some a) None moment = Err NoGroup
request_from_lookup_results people who words (Some a) (Some group) None = Err BadMoment
request_from_lookup_results people who words (Some a) (Some group) (Some moment) = Ok (record {
  who = who;
  target = person_with_groups people a;
  target_group = group;
  command = command_of_words words;
  args = argument_words_after_first words;
  moment = moment;
})

-- what is asked: to run the words as this user, and as this group, at this moment
abbrev pub request_or_who_fault : People → Who → List ℕ → Option (List ℕ) → List (List ℕ) → List ℕ → Result Request WhoFault
request_or_who_fault people who target group words stamp =
    request_from_lookup_results people who words (account_named people target) (group_requested_by_name people group) (moment_of_stamp stamp)
