-- What `list` writes for a policy, the people of a machine, and a question about them (sudo(8), the option `-l`).
use Rattle.std.specs.Prelude.{◌≡◌, ◌⊎◌, ◌<◌, ◌≤◌, ℕ, List, [], ◌∷◌, ◌++◌, codes, length, Option, Some, None, Result, Ok, Err, MatchBool, if◌then◌else◌}
use Rattle.std.specs.Borrow.{Bor}
use Rattle.std.specs.Option.{option_map}
use Rattle.sudoers_text.specs.Fault.{text_limit}
use Rattle.sudoers_tree.specs.declared.named_files.NamedFile.{NamedFile}
use Rattle.sudoers_tree.specs.declared.load_fault.LoadFault.{LoadFault}
use Rattle.sudoers_tree.specs.Load.{LoadedPolicy, policy_or_load_fault}
use Rattle.sudoers_files.specs.declared.fault.GatherFault.{GatherFault}
use Rattle.sudoers_files.specs.Gather.{gathered_files_or_fault}
use Rattle.sudoers_check.specs.Chains.{HasCyclicAliasReachedFromSpecOrDefaults}
use Rattle.sudoers_match_member.specs.declared.people_and_commands.Who.{Who}
use Rattle.sudoers_match_list.specs.declared.verdict.AskFault.TheVariants.{Cycle, TooLong}
use Rattle.sudoers_match_member.specs.declared.request.Request.{Request}
use Rattle.sudoers_match.specs.Answer.{Answer, IsAnswerToRequest, joined_arguments_limit, words_joined_with_spaces}
use Rattle.sudoers_match.specs.Default.{IsRunasDefault}
use Rattle.sudoers_list_people.specs.People.{People, people_read_result}
use Rattle.sudoers_list_people.specs.Person.{who_or_who_fault}
use Rattle.sudoers_list_people.specs.Asked.{request_or_who_fault}
use Rattle.sudoers_list_people.specs.declared.fault.PeopleFile.TheVariants.{Passwd}
use Rattle.sudoers_list_people.specs.declared.fault.PeopleFault.{PeopleFault}
use Rattle.sudoers_list_people.specs.declared.fault.PeopleFault.TheVariants as people
use Rattle.sudoers_list_people.specs.declared.fault.WhoFault.{WhoFault}
use Rattle.sudoers_list.specs.Listing.{IsListingOfUser}
use Rattle.sudoers_list.specs.Reason.{IsReasonText}
use Rattle.sudoers_files.specs.Device.{ReaderMeter}
use Rattle.sudoers_edit.specs.Memory.{IsMemoryFreeLoadFault}
use Rattle.sudoers_run.specs.Policy.{IsLayerFaultOfDeviceOrMemory, IsFaultBeforeLoading}
use Rattle.sudoers_files.specs.Reading.{Failed, GivenUp, IsTextOfReader, OutOfMemory, ReadingEnd, IsMeterAfterReadingUpToLimit, TooLarge, Unread, Whole}
use Rattle.sudoers_run.specs.Reading.{IsUnreadUnlessPreviousWasRead, WasReadToEndOrLimit}
use Rattle.sudoers_run.specs.Faults.{IsDeviceFaultOr, IsPeopleFaultNotMemory, IsAskFaultNotMemory, IsWhoFaultNotMemory}
use Rattle.sudoers_run.specs.declared.command_words.ListWords.{ListWords}
use Rattle.sudoers_run.specs.declared.fault.LayerFault.{LayerFault}
use Rattle.sudoers_run.specs.declared.fault.LayerFault.TheVariants as layer
use Rattle.sudoers_run.specs.declared.fault.ToolFault.{ToolFault}
use Rattle.sudoers_run.specs.declared.fault.ToolFault.TheVariants as tool

-- what is written, and the exit status; or a fault
abbrev pub ListCommandOutcome : Type 0
ListCommandOutcome = Result (List ℕ × ℕ) LayerFault

abbrev pub optional_text_of_view : Option (Bor (List ℕ)) → Option (List ℕ)
optional_text_of_view text = option_map (λ (t : Bor (List ℕ)). t.now) text

-- ---- a listing

-- The text is what this user may run on this host. If a reachable alias is cyclic, the outcome is `Cycle`.
abbrev pub IsListOutcomeOfListing : LoadedPolicy → Who → ListCommandOutcome → Type 0
IsListOutcomeOfListing policy who (Ok told) = (HasCyclicAliasReachedFromSpecOrDefaults policy.walk.lines → ⊥) × IsListingOfUser policy.walk.lines who told.0 × (told.1 ≡ 0)
IsListOutcomeOfListing policy who (Err fault) = (fault ≡ layer.Ask Cycle) × HasCyclicAliasReachedFromSpecOrDefaults policy.walk.lines

-- ---- a question

-- 0 if the command is allowed, else 1
abbrev pub status_of_answer : Option Answer → ℕ
status_of_answer None = 1
status_of_answer (Some a) = if a.allow then 0 else 1

-- the command with its arguments if it is allowed, else nothing
abbrev pub text_of_allowed_command : List (List ℕ) → Option Answer → List ℕ
text_of_allowed_command words None = []
text_of_allowed_command words (Some a) = if a.allow then words_joined_with_spaces words ++ codes "\n" else []

-- With `--why` the rule that decides is written.
abbrev pub IsListAnswerText : ListWords → LoadedPolicy → Request → Option Answer → List ℕ → Type 0
IsListAnswerText w policy r answer text = MatchBool w.why (IsReasonText policy r answer text) (text ≡ text_of_allowed_command w.words.now answer)

-- The last row that fits decides what is written and the status. No reachable alias is cyclic, and the arguments are not too long.
pub record IsListAnswerOutput (w : ListWords) (policy : LoadedPolicy) (r : Request) (told : List ℕ × ℕ) : Type 0 where
  pub straight : HasCyclicAliasReachedFromSpecOrDefaults policy.walk.lines → ⊥
  pub short : length (words_joined_with_spaces r.args) ≤ joined_arguments_limit
  pub answer : Option Answer
  pub is_answer : IsAnswerToRequest policy.walk.lines r answer
  pub text : IsListAnswerText w policy r answer told.0
  pub status : told.1 ≡ status_of_answer answer

abbrev pub IsListAnswerOutcome : ListWords → LoadedPolicy → Request → ListCommandOutcome → Type 0
IsListAnswerOutcome w policy r (Ok told) = IsListAnswerOutput w policy r told
IsListAnswerOutcome w policy r (Err fault) =
    ((fault ≡ layer.Ask Cycle) × HasCyclicAliasReachedFromSpecOrDefaults policy.walk.lines)
    ⊎ ((fault ≡ layer.Ask TooLong) × (HasCyclicAliasReachedFromSpecOrDefaults policy.walk.lines → ⊥) × (joined_arguments_limit < length (words_joined_with_spaces r.args)))

abbrev pub IsListOutcomeForRequest : ListWords → LoadedPolicy → Result Request WhoFault → ListCommandOutcome → Type 0
IsListOutcomeForRequest w policy (Ok r) outcome = IsListAnswerOutcome w policy r outcome
IsListOutcomeForRequest w policy (Err fault) outcome = outcome ≡ Err (layer.Who fault)

-- the fault is the one of the words
abbrev pub IsWhoFaultOfResult : {X : Type 0} → Result X WhoFault → LayerFault → Type 0
IsWhoFaultOfResult (Ok x) fault = ⊥
IsWhoFaultOfResult (Err said) fault = fault ≡ layer.Who said

-- the outcome for a command that is to run as the user with this name
abbrev pub IsListOutcomeAsUser : ListWords → LoadedPolicy → People → Who → List ℕ → ListCommandOutcome → Type 0
IsListOutcomeAsUser w policy people who user outcome =
    IsListOutcomeForRequest w policy (request_or_who_fault people who user (optional_text_of_view w.group) w.words.now w.moment.now) outcome

-- The command is to run as the user whom `runas_default` names. No reachable alias is cyclic.
pub record IsListOutcomeAsRunasDefault (w : ListWords) (policy : LoadedPolicy) (people : People) (who : Who) (outcome : ListCommandOutcome) : Type 0 where
  pub straight : HasCyclicAliasReachedFromSpecOrDefaults policy.walk.lines → ⊥
  pub user : List ℕ
  pub is_default : IsRunasDefault policy.walk.lines who user
  pub asked : IsListOutcomeAsUser w policy people who user outcome

-- The outcome is `Cycle` if a reachable alias is cyclic, and else that for the user whom `runas_default` names.
abbrev pub IsListOutcomeAsDefaultOrCycle : ListWords → LoadedPolicy → People → Who → ListCommandOutcome → Type 0
IsListOutcomeAsDefaultOrCycle w policy people who outcome =
    (HasCyclicAliasReachedFromSpecOrDefaults policy.walk.lines × (outcome ≡ Err (layer.Ask Cycle))) ⊎ IsListOutcomeAsRunasDefault w policy people who outcome

-- Without `-u` and `-g` the command is to run as the user whom `runas_default` names. Faults of the request for the invoking user come
-- first.
abbrev pub IsListOutcomeAsDefaultUnlessRequestFails : ListWords → LoadedPolicy → People → Result Request WhoFault → ListCommandOutcome → Type 0
IsListOutcomeAsDefaultUnlessRequestFails w policy people (Ok r) outcome = IsListOutcomeAsDefaultOrCycle w policy people r.who outcome
IsListOutcomeAsDefaultUnlessRequestFails w policy people (Err fault) outcome = outcome ≡ Err (layer.Who fault)

abbrev pub IsListOutcomeForQuestion : ListWords → LoadedPolicy → People → Who → Option (List ℕ) → Option (List ℕ) → ListCommandOutcome → Type 0
IsListOutcomeForQuestion w policy people who (Some target) group outcome = IsListOutcomeAsUser w policy people who target outcome
IsListOutcomeForQuestion w policy people who None (Some group) outcome = IsListOutcomeAsUser w policy people who w.user.now outcome
IsListOutcomeForQuestion w policy people who None None outcome =
    IsListOutcomeAsDefaultUnlessRequestFails w policy people (request_or_who_fault people who w.user.now None w.words.now w.moment.now) outcome

-- ---- all of it

-- Without the words of a command, the outcome is a listing of all that the user may run.
abbrev pub IsListOutcomeForWords : ListWords → LoadedPolicy → People → Who → List (List ℕ) → ListCommandOutcome → Type 0
IsListOutcomeForWords w policy people who [] outcome = IsListOutcomeOfListing policy who outcome
IsListOutcomeForWords w policy people who (word ∷ words) outcome = IsListOutcomeForQuestion w policy people who (optional_text_of_view w.target) (optional_text_of_view w.group) outcome

abbrev pub IsListOutcomeForWho : ListWords → LoadedPolicy → People → Result Who WhoFault → ListCommandOutcome → Type 0
IsListOutcomeForWho w policy people (Ok who) outcome = IsListOutcomeForWords w policy people who w.words.now outcome
IsListOutcomeForWho w policy people (Err fault) outcome = outcome ≡ Err (layer.Who fault)

abbrev pub IsListOutcomeForPeople : ListWords → LoadedPolicy → Result People PeopleFault → ListCommandOutcome → Type 0
IsListOutcomeForPeople w policy (Ok people) outcome = IsListOutcomeForWho w policy people (who_or_who_fault people w.user.now w.host.now w.interfaces.now) outcome
IsListOutcomeForPeople w policy (Err fault) outcome = outcome ≡ Err (layer.People fault)

abbrev pub IsListOutcomeForPolicy : ListWords → Result People PeopleFault → Result LoadedPolicy LoadFault → ListCommandOutcome → Type 0
IsListOutcomeForPolicy w people (Ok policy) outcome = IsListOutcomeForPeople w policy people outcome
IsListOutcomeForPolicy w people (Err fault) outcome = outcome ≡ Err (layer.Load fault)

-- The outcome for files that are gathered, for passwd and for group. The faults of the files come before those of people, and these before
-- those of the words.
abbrev pub IsListOutcomeForGathered : ListWords → Result People PeopleFault → Result (List NamedFile) GatherFault → ListCommandOutcome → Type 0
IsListOutcomeForGathered w people (Ok files) outcome = IsListOutcomeForPolicy w people (policy_or_load_fault files) outcome
IsListOutcomeForGathered w people (Err fault) outcome = outcome ≡ Err (layer.Gather fault)

-- The outcome for the policy that these files are from `root` on, for passwd and for group.
abbrev pub IsListOutcome : ListWords → List ℕ → List NamedFile → List ℕ → List ℕ → ListCommandOutcome → Type 0
IsListOutcome w root known passwd group outcome = IsListOutcomeForGathered w (people_read_result passwd group) (gathered_files_or_fault known root) outcome

-- ---- faults

-- `P` holds of the texts of passwd and of group, which two readers give.
pub record HoldsOfPeopleTexts (passwd group : ReaderMeter) (P : List ℕ → List ℕ → Type 0) : Type 0 where
  pub passwd_text : List ℕ
  pub group_text : List ℕ
  pub is_passwd : IsTextOfReader passwd passwd_text
  pub is_group : IsTextOfReader group group_text
  pub holds : P passwd_text group_text

-- The fault is the one that the files or the words have. Faults of devices and of memory may come whatever these are.
abbrev pub IsStatedOrOutsideListFault : ListWords → List ℕ → List NamedFile → ToolFault → List ℕ → List ℕ → Type 0
IsStatedOrOutsideListFault w root known fault passwd group =
    IsDeviceFaultOr (λ (said : LayerFault). IsLayerFaultOfDeviceOrMemory said ⊎ IsListOutcome w root known passwd group (Err said)) fault

-- the faults of files and words
abbrev pub IsListWordsOrFilesFault : LayerFault → Type 0
IsListWordsOrFilesFault (layer.Load fault) = IsMemoryFreeLoadFault fault
IsListWordsOrFilesFault (layer.People fault) = IsPeopleFaultNotMemory fault
IsListWordsOrFilesFault (layer.Who fault) = IsWhoFaultNotMemory fault
IsListWordsOrFilesFault (layer.Ask fault) = IsAskFaultNotMemory fault
IsListWordsOrFilesFault layer.NoMemory = Unit {0}
IsListWordsOrFilesFault (layer.Gather fault) = ⊥
IsListWordsOrFilesFault (layer.Script fault) = ⊥
IsListWordsOrFilesFault (layer.Edit place fault) = ⊥
IsListWordsOrFilesFault (layer.Convert fault) = ⊥
IsListWordsOrFilesFault (layer.Filter fault) = ⊥

-- the faults of `list`
abbrev pub IsListFault : ToolFault → Type 0
IsListFault fault = IsDeviceFaultOr (λ (said : LayerFault). IsFaultBeforeLoading said ⊎ IsListWordsOrFilesFault said) fault

-- ---- how the files were read

-- The reading ended with passwd or with group, in this way.
abbrev pub IsReadingEndOfPasswdOrGroup : ReadingEnd → ReadingEnd → ReadingEnd → Type 0
IsReadingEndOfPasswdOrGroup how passwd group = (passwd ≡ how) ⊎ (group ≡ how)

-- Neither passwd nor group was read.
abbrev pub AreBothPeopleUnread : ReadingEnd → ReadingEnd → Type 0
AreBothPeopleUnread passwd group = (passwd ≡ Unread) × (group ≡ Unread)

-- How passwd and group were read, by their error. One is too large; or a row of passwd is bad, and group was read to its end or past the
-- limit; or both were read to their ends.
abbrev pub AreReadingEndsOfPeopleFault : PeopleFault → ReadingEnd → ReadingEnd → Type 0
AreReadingEndsOfPeopleFault people.TooLarge passwd group = ((passwd ≡ TooLarge) × WasReadToEndOrLimit group) ⊎ (WasReadToEndOrLimit passwd × (group ≡ TooLarge))
AreReadingEndsOfPeopleFault (people.BadRow Passwd line) passwd group = (passwd ≡ Whole) × WasReadToEndOrLimit group
AreReadingEndsOfPeopleFault fault passwd group = (passwd ≡ Whole) × (group ≡ Whole)

-- How passwd and group were read, by the result of a run. They are read after the files of the policy are gathered. So an error of
-- gathering comes before they are read.
abbrev pub AreReadingEndsOfListResult : Result ℕ ToolFault → ReadingEnd → ReadingEnd → Type 0
AreReadingEndsOfListResult (Err tool.Read) passwd group = IsReadingEndOfPasswdOrGroup Failed passwd group
AreReadingEndsOfListResult (Err tool.NoEnd) passwd group = IsReadingEndOfPasswdOrGroup GivenUp passwd group
AreReadingEndsOfListResult (Err (tool.Layer layer.NoMemory)) passwd group =
    AreBothPeopleUnread passwd group ⊎ (IsReadingEndOfPasswdOrGroup OutOfMemory passwd group ⊎ (WasReadToEndOrLimit passwd × WasReadToEndOrLimit group))
AreReadingEndsOfListResult (Err (tool.Layer (layer.Gather fault))) passwd group = AreBothPeopleUnread passwd group
AreReadingEndsOfListResult (Err (tool.Layer (layer.Load fault))) passwd group = WasReadToEndOrLimit passwd × WasReadToEndOrLimit group
AreReadingEndsOfListResult (Err (tool.Layer (layer.People fault))) passwd group = AreReadingEndsOfPeopleFault fault passwd group
AreReadingEndsOfListResult result passwd group = (passwd ≡ Whole) × (group ≡ Whole)

-- What reading passwd and then group does to their readers, by the result of a run.
pub record AreMetersAfterReadingPeopleFiles (result : Result ℕ ToolFault) (passwd passwd-new group group-new : ReaderMeter) : Type 0 where
  pub passwd_how : ReadingEnd
  pub group_how : ReadingEnd
  pub ends : AreReadingEndsOfListResult result passwd_how group_how
  pub group_after : IsUnreadUnlessPreviousWasRead passwd_how group_how
  pub reads_passwd : IsMeterAfterReadingUpToLimit text_limit passwd_how passwd passwd-new
  pub reads_group : IsMeterAfterReadingUpToLimit text_limit group_how group group-new
