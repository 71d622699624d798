-- How the files of `list` were read, by the outcome.
use Rattle.std.proofs.Common.{◌≡◌, ◌⊎◌, inl, inr, ℕ, nat_lt, Bool, true, false, if◌then◌else◌, List, [], ◌∷◌, length, Option, Some, None, Result, Ok, Err, Vec, Global, refl, sym, subst, arith}
use Rattle.std.specs.List.{position_from}
use Rattle.std.specs.Option.{option_map, option_or}
use Rattle.sudoers_text.specs.Fault.{text_limit}
use Rattle.sudoers_tree.specs.declared.load_fault.LoadFault.{LoadFault}
use Rattle.sudoers_tree.specs.Load.{LoadedPolicy}
use Rattle.sudoers_match_member.specs.declared.people_and_commands.Who.{Who}
use Rattle.sudoers_match_list.specs.declared.verdict.AskFault.TheVariants.{Cycle}
use Rattle.sudoers_match_member.specs.declared.request.Request.{Request}
use Rattle.sudoers_list_people.specs.declared.fault.PeopleFile.TheVariants.{Passwd, Group}
use Rattle.sudoers_list_people.specs.declared.fault.PeopleFault.{PeopleFault}
use Rattle.sudoers_list_people.specs.declared.fault.PeopleFault.TheVariants as people
use Rattle.sudoers_list_people.specs.declared.fault.WhoFault.{WhoFault}
use Rattle.sudoers_list_people.specs.Rows.{account_of_passwd_row, group_file_row_of_text, is_malformed_row}
use Rattle.sudoers_list_people.specs.Person.{who_or_who_fault}
use Rattle.sudoers_list_people.specs.Asked.{request_or_who_fault}
use Rattle.sudoers_list_people.specs.People.{People, bad_row_fault, people_of_texts, people_read_result, rows_of_file_text, ok_unless_fault}
use Rattle.sudoers_run.specs.declared.fault.LayerFault.{LayerFault}
use Rattle.sudoers_run.specs.declared.fault.LayerFault.TheVariants as layer
use Rattle.sudoers_run.specs.declared.fault.ToolFault.{ToolFault}
use Rattle.sudoers_run.specs.declared.fault.ToolFault.TheVariants as tool
use Rattle.sudoers_run.specs.declared.command_words.ListWords.{ListWords}
use Rattle.sudoers_files.specs.Device.{ReaderMeter}
use Rattle.sudoers_run.specs.Policy.{IsFaultBeforeLoading}
use Rattle.sudoers_files.specs.Reading.{ReadingEnd, IsMeterAfterReadingUpToLimit, TooLarge, Unread, Whole}
use Rattle.sudoers_run.specs.Reading.{IsUnreadUnlessPreviousWasRead, IsFaultOfReadingUpToLimit, WasReadToEndOrLimit, reading_end_of_fault, reading_end_of_read_bytes}
use Rattle.sudoers_run.specs.List.{AreReadingEndsOfListResult, AreReadingEndsOfPeopleFault, IsListOutcomeAsDefaultOrCycle, IsListAnswerOutcome, IsListOutcomeForQuestion, IsListOutcomeAsDefaultUnlessRequestFails, IsListOutcomeForPolicy, IsListOutcomeForRequest, IsListOutcomeForWho, IsListOutcomeForWords, ListCommandOutcome, AreMetersAfterReadingPeopleFiles, optional_text_of_view}
use Rattle.sudoers_run.proofs.PolicyLemmas.{front_was_read_to_end_or_limit}

-- ---- the faults of passwd and group

-- how the reading of a file ended, by whether it is past the limit
abbrev reading_end_by_limit_test : Bool → ReadingEnd
reading_end_by_limit_test large = if large then TooLarge else Whole

limited_reading_was_to_end_or_limit : (large : Bool) → WasReadToEndOrLimit (reading_end_by_limit_test large)
limited_reading_was_to_end_or_limit true = tt
limited_reading_was_to_end_or_limit false = tt

abbrev people_result_by_limit_tests : Bool → Bool → Option ℕ → Option ℕ → People → Result People PeopleFault
people_result_by_limit_tests b c o n x =
    ok_unless_fault (option_or (if b then Some people.TooLarge else option_map (bad_row_fault Passwd) o) (if c then Some people.TooLarge else option_map (bad_row_fault Group) n)) x

people_fault_has_its_reading_ends : (b c : Bool) (o n : Option ℕ) (x : People) (f : PeopleFault) → people_result_by_limit_tests b c o n x ≡ Err f → AreReadingEndsOfPeopleFault f (reading_end_by_limit_test b) (reading_end_by_limit_test c)
people_fault_has_its_reading_ends true c o n x f e = let same : people.TooLarge ≡ f = cc in subst (λ y. AreReadingEndsOfPeopleFault y TooLarge (reading_end_by_limit_test c)) same (inl (refl, limited_reading_was_to_end_or_limit c))
people_fault_has_its_reading_ends false c (Some line) n x f e =
    let same : people.BadRow Passwd line ≡ f = cc in subst (λ y. AreReadingEndsOfPeopleFault y Whole (reading_end_by_limit_test c)) same (refl, limited_reading_was_to_end_or_limit c)
people_fault_has_its_reading_ends false true None n x f e = let same : people.TooLarge ≡ f = cc in subst (λ y. AreReadingEndsOfPeopleFault y Whole TooLarge) same (inr (tt, refl))
people_fault_has_its_reading_ends false false None (Some line) x f e = let same : people.BadRow Group line ≡ f = cc in subst (λ y. AreReadingEndsOfPeopleFault y Whole Whole) same (refl, refl)
people_fault_has_its_reading_ends false false None None x f e = absurd cc

people_read_imply_whole_readings : (b c : Bool) (o n : Option ℕ) (x y : People) → people_result_by_limit_tests b c o n x ≡ Ok y → (reading_end_by_limit_test b ≡ Whole) × (reading_end_by_limit_test c ≡ Whole)
people_read_imply_whole_readings true c o n x y e = absurd cc
people_read_imply_whole_readings false c (Some line) n x y e = absurd cc
people_read_imply_whole_readings false true None n x y e = absurd cc
people_read_imply_whole_readings false false None n x y e = (refl, refl)

-- ---- the faults of words

-- a fault of the words, or of the answer
abbrev pub IsQuestionFault : LayerFault → Type 0
IsQuestionFault (layer.Who fault) = Unit {0}
IsQuestionFault (layer.Ask fault) = Unit {0}
IsQuestionFault (layer.Gather fault) = ⊥
IsQuestionFault (layer.Load fault) = ⊥
IsQuestionFault (layer.People fault) = ⊥
IsQuestionFault (layer.Script fault) = ⊥
IsQuestionFault (layer.Edit place fault) = ⊥
IsQuestionFault (layer.Convert fault) = ⊥
IsQuestionFault (layer.Filter fault) = ⊥
IsQuestionFault layer.NoMemory = ⊥

equal_error_outcomes_have_equal_faults : (fault other : LayerFault) (o : ListCommandOutcome) → o ≡ Err fault → o ≡ Err other → other ≡ fault
equal_error_outcomes_have_equal_faults fault other o is e = cc

answer_outcome_has_question_fault : (w : ListWords) (p : LoadedPolicy) (r : Request) (fault : LayerFault) → IsListAnswerOutcome w p r (Err fault) → IsQuestionFault fault
answer_outcome_has_question_fault w p r fault (inl a) = subst IsQuestionFault (sym a.0) tt
answer_outcome_has_question_fault w p r fault (inr a) = subst IsQuestionFault (sym a.0) tt

request_outcome_has_question_fault : (w : ListWords) (p : LoadedPolicy) (told : Result Request WhoFault) (fault : LayerFault) → IsListOutcomeForRequest w p told (Err fault) → IsQuestionFault fault
request_outcome_has_question_fault w p (Ok r) fault is = answer_outcome_has_question_fault w p r fault is
request_outcome_has_question_fault w p (Err f) fault e = subst IsQuestionFault (equal_error_outcomes_have_equal_faults fault (layer.Who f) (Err fault) refl e) tt

default_outcome_has_question_fault : (w : ListWords) (p : LoadedPolicy) (people : People) (who : Who) (fault : LayerFault) → IsListOutcomeAsDefaultOrCycle w p people who (Err fault) → IsQuestionFault fault
default_outcome_has_question_fault w p people who fault (inl a) = subst IsQuestionFault (equal_error_outcomes_have_equal_faults fault (layer.Ask Cycle) (Err fault) refl a.1) tt
default_outcome_has_question_fault w p people who fault (inr d) = request_outcome_has_question_fault w p (request_or_who_fault people who d.user (optional_text_of_view w.group) w.words.now w.moment.now) fault d.asked

first_request_outcome_has_question_fault : (w : ListWords) (p : LoadedPolicy) (people : People) (told : Result Request WhoFault) (fault : LayerFault) → IsListOutcomeAsDefaultUnlessRequestFails w p people told (Err fault) → IsQuestionFault fault
first_request_outcome_has_question_fault w p people (Ok r) fault is = default_outcome_has_question_fault w p people r.who fault is
first_request_outcome_has_question_fault w p people (Err f) fault e = subst IsQuestionFault (equal_error_outcomes_have_equal_faults fault (layer.Who f) (Err fault) refl e) tt

question_outcome_has_question_fault : (w : ListWords) (p : LoadedPolicy) (people : People) (who : Who) (target group : Option (List ℕ)) (fault : LayerFault) → IsListOutcomeForQuestion w p people who target group (Err fault) → IsQuestionFault fault
question_outcome_has_question_fault w p people who (Some target) group fault is = request_outcome_has_question_fault w p (request_or_who_fault people who target (optional_text_of_view w.group) w.words.now w.moment.now) fault is
question_outcome_has_question_fault w p people who None (Some group) fault is = request_outcome_has_question_fault w p (request_or_who_fault people who w.user.now (optional_text_of_view w.group) w.words.now w.moment.now) fault is
question_outcome_has_question_fault w p people who None None fault is = first_request_outcome_has_question_fault w p people (request_or_who_fault people who w.user.now None w.words.now w.moment.now) fault is

words_outcome_has_question_fault : (w : ListWords) (p : LoadedPolicy) (people : People) (who : Who) (words : List (List ℕ)) (fault : LayerFault) → IsListOutcomeForWords w p people who words (Err fault) → IsQuestionFault fault
words_outcome_has_question_fault w p people who [] fault is = subst IsQuestionFault (sym is.0) tt
words_outcome_has_question_fault w p people who (word ∷ words) fault is = question_outcome_has_question_fault w p people who (optional_text_of_view w.target) (optional_text_of_view w.group) fault is

who_outcome_has_question_fault : (w : ListWords) (p : LoadedPolicy) (people : People) (told : Result Who WhoFault) (fault : LayerFault) → IsListOutcomeForWho w p people told (Err fault) → IsQuestionFault fault
who_outcome_has_question_fault w p people (Ok who) fault is = words_outcome_has_question_fault w p people who w.words.now fault is
who_outcome_has_question_fault w p people (Err f) fault e = subst IsQuestionFault (equal_error_outcomes_have_equal_faults fault (layer.Who f) (Err fault) refl e) tt

-- ---- the outcome

-- what comes of an outcome that is written
abbrev pub result_of_list_outcome : ListCommandOutcome → Result ℕ ToolFault
result_of_list_outcome (Ok told) = Ok told.1
result_of_list_outcome (Err fault) = Err (tool.Layer fault)

question_fault_has_whole_readings : (fault : LayerFault) (passwd group : ReadingEnd) → IsQuestionFault fault → (passwd ≡ Whole) × (group ≡ Whole) → AreReadingEndsOfListResult (Err (tool.Layer fault)) passwd group
question_fault_has_whole_readings (layer.Who fault) passwd group is whole = whole
question_fault_has_whole_readings (layer.Ask fault) passwd group is whole = whole
question_fault_has_whole_readings fault passwd group is whole = absurd is

outcome_for_who_has_whole_readings : (w : ListWords) (p : LoadedPolicy) (people : People) (told : Result Who WhoFault) (passwd group : ReadingEnd) (o : ListCommandOutcome) → IsListOutcomeForWho w p people told o
    → (passwd ≡ Whole) × (group ≡ Whole) → AreReadingEndsOfListResult (result_of_list_outcome o) passwd group
outcome_for_who_has_whole_readings w p people told passwd group (Ok done) is whole = whole
outcome_for_who_has_whole_readings w p people told passwd group (Err fault) is whole = question_fault_has_whole_readings fault passwd group (who_outcome_has_question_fault w p people told fault is) whole

outcome_for_policy_has_people_reading_ends : (w : ListWords) (policy : Result LoadedPolicy LoadFault) (told : Result People PeopleFault) (passwd group : ReadingEnd) (o : ListCommandOutcome) → IsListOutcomeForPolicy w told policy o
    → WasReadToEndOrLimit passwd → WasReadToEndOrLimit group → ((f : PeopleFault) → told ≡ Err f → AreReadingEndsOfPeopleFault f passwd group) → ((x : People) → told ≡ Ok x → (passwd ≡ Whole) × (group ≡ Whole))
    → AreReadingEndsOfListResult (result_of_list_outcome o) passwd group
outcome_for_policy_has_people_reading_ends w (Err f) told passwd group o is u g fault whole = subst (λ x. AreReadingEndsOfListResult (result_of_list_outcome x) passwd group) (sym is) (u, g)
outcome_for_policy_has_people_reading_ends w (Ok p) (Err f) passwd group o is u g fault whole = subst (λ x. AreReadingEndsOfListResult (result_of_list_outcome x) passwd group) (sym is) (fault f refl)
outcome_for_policy_has_people_reading_ends w (Ok p) (Ok people) passwd group o is u g fault whole =
    outcome_for_who_has_whole_readings w p people (who_or_who_fault people w.user.now w.host.now w.interfaces.now) passwd group o is (whole people refl)

-- How the files were read of which this is the outcome.
pub outcome_for_policy_has_its_reading_ends : (w : ListWords) (policy : Result LoadedPolicy LoadFault) (passwd group : Vec ℕ Global) (o : ListCommandOutcome)
    → IsListOutcomeForPolicy w (people_read_result passwd.items group.items) policy o
    → AreReadingEndsOfListResult (result_of_list_outcome o) (reading_end_of_read_bytes text_limit (Ok passwd)) (reading_end_of_read_bytes text_limit (Ok group))
outcome_for_policy_has_its_reading_ends w policy passwd group o is =
    let u : List ℕ = passwd.items in
    let g : List ℕ = group.items in
    let b : Bool = nat_lt text_limit (length u) in
    let c : Bool = nat_lt text_limit (length g) in
    let first : Option ℕ = position_from (is_malformed_row account_of_passwd_row) 1 (rows_of_file_text u) in
    let later : Option ℕ = position_from (is_malformed_row group_file_row_of_text) 1 (rows_of_file_text g) in
    outcome_for_policy_has_people_reading_ends w policy (people_read_result u g) (reading_end_of_read_bytes text_limit (Ok passwd)) (reading_end_of_read_bytes text_limit (Ok group)) o is (front_was_read_to_end_or_limit text_limit passwd) (front_was_read_to_end_or_limit text_limit group)
    (λ f e. people_fault_has_its_reading_ends b c first later (people_of_texts u g) f e) (λ x e. people_read_imply_whole_readings b c first later (people_of_texts u g) x e)

-- ---- what the readers show

abbrev pub AreReadingEndsOfListFiles : Result ℕ ToolFault → Vec ℕ Global → Vec ℕ Global → Type 0
AreReadingEndsOfListFiles result passwd group = AreReadingEndsOfListResult result (reading_end_of_read_bytes text_limit (Ok passwd)) (reading_end_of_read_bytes text_limit (Ok group))

unread_file_has_no_reading_effect : (limit : ℕ) (m : ReaderMeter) → IsMeterAfterReadingUpToLimit limit Unread m m
unread_file_has_no_reading_effect limit m = record { asked = omega arith; well = λ h. refl; shows = refl }

file_read_to_end_allows_next_reading : (how next : ReadingEnd) → WasReadToEndOrLimit how → IsUnreadUnlessPreviousWasRead how next
file_read_to_end_allows_next_reading Whole next was = tt
file_read_to_end_allows_next_reading TooLarge next was = tt
file_read_to_end_allows_next_reading how next was = absurd was

-- The files could not be gathered.
fault_before_loading_has_unread_files : (fault : LayerFault) → IsFaultBeforeLoading fault → AreReadingEndsOfListResult (Err (tool.Layer fault)) Unread Unread
fault_before_loading_has_unread_files layer.NoMemory is = inl (refl, refl)
fault_before_loading_has_unread_files (layer.Gather why) is = (refl, refl)
fault_before_loading_has_unread_files (layer.Load f) is = absurd is
fault_before_loading_has_unread_files (layer.Script f) is = absurd is
fault_before_loading_has_unread_files (layer.Edit place f) is = absurd is
fault_before_loading_has_unread_files (layer.Convert f) is = absurd is
fault_before_loading_has_unread_files (layer.Filter f) is = absurd is
fault_before_loading_has_unread_files (layer.People f) is = absurd is
fault_before_loading_has_unread_files (layer.Who f) is = absurd is
fault_before_loading_has_unread_files (layer.Ask f) is = absurd is

limited_reading_fault_has_its_reading_end : (fault : ToolFault) → IsFaultOfReadingUpToLimit fault → (u g : ReadingEnd) → (u ≡ reading_end_of_fault fault) ⊎ (g ≡ reading_end_of_fault fault) → AreReadingEndsOfListResult (Err fault) u g
limited_reading_fault_has_its_reading_end tool.Read is u g at = at
limited_reading_fault_has_its_reading_end tool.NoEnd is u g at = at
limited_reading_fault_has_its_reading_end (tool.Layer layer.NoMemory) is u g at = inr (inl at)
limited_reading_fault_has_its_reading_end (tool.Layer (layer.Gather f)) is u g at = absurd cc
limited_reading_fault_has_its_reading_end (tool.Layer (layer.Load f)) is u g at = absurd cc
limited_reading_fault_has_its_reading_end (tool.Layer (layer.Script f)) is u g at = absurd cc
limited_reading_fault_has_its_reading_end (tool.Layer (layer.Edit place f)) is u g at = absurd cc
limited_reading_fault_has_its_reading_end (tool.Layer (layer.Convert f)) is u g at = absurd cc
limited_reading_fault_has_its_reading_end (tool.Layer (layer.Filter f)) is u g at = absurd cc
limited_reading_fault_has_its_reading_end (tool.Layer (layer.People f)) is u g at = absurd cc
limited_reading_fault_has_its_reading_end (tool.Layer (layer.Who f)) is u g at = absurd cc
limited_reading_fault_has_its_reading_end (tool.Layer (layer.Ask f)) is u g at = absurd cc
limited_reading_fault_has_its_reading_end tool.Write is u g at = absurd is
limited_reading_fault_has_its_reading_end tool.NoMark is u g at = absurd is
limited_reading_fault_has_its_reading_end (tool.BadBundle file) is u g at = absurd is
limited_reading_fault_has_its_reading_end tool.InputTooLarge is u g at = absurd is

failed_reading_has_unread_next_file : (fault : ToolFault) → IsFaultOfReadingUpToLimit fault → IsUnreadUnlessPreviousWasRead (reading_end_of_fault fault) Unread
failed_reading_has_unread_next_file tool.Read is = refl
failed_reading_has_unread_next_file tool.NoEnd is = refl
failed_reading_has_unread_next_file (tool.Layer layer.NoMemory) is = refl
failed_reading_has_unread_next_file fault is = tt

-- The files of the policy could not be gathered.
pub fault_before_loading_reads_no_people_files : (result : Result ℕ ToolFault) (fault : LayerFault) (u g : ReaderMeter) → result ≡ Err (tool.Layer fault) → IsFaultBeforeLoading fault → AreMetersAfterReadingPeopleFiles result u u g g
fault_before_loading_reads_no_people_files result fault u g same is =
    subst (λ r. AreMetersAfterReadingPeopleFiles r u u g g) (sym same) (record {
      passwd_how = Unread;
      group_how = Unread;
      ends = fault_before_loading_has_unread_files fault is;
      group_after = refl;
      reads_passwd = unread_file_has_no_reading_effect text_limit u;
      reads_group = unread_file_has_no_reading_effect text_limit g;
    })

-- The reading ended with passwd.
pub fault_in_passwd_reads_no_group_file : (result : Result ℕ ToolFault) (fault : ToolFault) (u u' g : ReaderMeter) → result ≡ Err fault → IsFaultOfReadingUpToLimit fault
    → IsMeterAfterReadingUpToLimit text_limit (reading_end_of_fault fault) u u' → AreMetersAfterReadingPeopleFiles result u u' g g
fault_in_passwd_reads_no_group_file result fault u u' g same is reads =
    subst (λ r. AreMetersAfterReadingPeopleFiles r u u' g g) (sym same) (record {
      passwd_how = reading_end_of_fault fault;
      group_how = Unread;
      ends = limited_reading_fault_has_its_reading_end fault is (reading_end_of_fault fault) Unread (inl refl);
      group_after = failed_reading_has_unread_next_file fault is;
      reads_passwd = reads;
      reads_group = unread_file_has_no_reading_effect text_limit g;
    })

-- The reading ended with group.
pub fault_in_group_reads_both_people_files : (result : Result ℕ ToolFault) (fault : ToolFault) (passwd : Vec ℕ Global) (u u' g g' : ReaderMeter) → result ≡ Err fault → IsFaultOfReadingUpToLimit fault
    → IsMeterAfterReadingUpToLimit text_limit (reading_end_of_read_bytes text_limit (Ok passwd)) u u' → IsMeterAfterReadingUpToLimit text_limit (reading_end_of_fault fault) g g' → AreMetersAfterReadingPeopleFiles result u u' g g'
fault_in_group_reads_both_people_files result fault passwd u u' g g' same is reads last =
    subst (λ r. AreMetersAfterReadingPeopleFiles r u u' g g') (sym same) (record {
      passwd_how = reading_end_of_read_bytes text_limit (Ok passwd);
      group_how = reading_end_of_fault fault;
      ends = limited_reading_fault_has_its_reading_end fault is (reading_end_of_read_bytes text_limit (Ok passwd)) (reading_end_of_fault fault) (inr refl);
      group_after = file_read_to_end_allows_next_reading (reading_end_of_read_bytes text_limit (Ok passwd)) (reading_end_of_fault fault) (front_was_read_to_end_or_limit text_limit passwd);
      reads_passwd = reads;
      reads_group = last;
    })

-- Both were read.
pub result_of_both_files_reads_people_files : (result : Result ℕ ToolFault) (passwd group : Vec ℕ Global) (u u' g g' : ReaderMeter) → AreReadingEndsOfListFiles result passwd group
    → IsMeterAfterReadingUpToLimit text_limit (reading_end_of_read_bytes text_limit (Ok passwd)) u u' → IsMeterAfterReadingUpToLimit text_limit (reading_end_of_read_bytes text_limit (Ok group)) g g' → AreMetersAfterReadingPeopleFiles result u u' g g'
result_of_both_files_reads_people_files result passwd group u u' g g' ends reads last = record {
  passwd_how = reading_end_of_read_bytes text_limit (Ok passwd);
  group_how = reading_end_of_read_bytes text_limit (Ok group);
  ends = ends;
  group_after = file_read_to_end_allows_next_reading (reading_end_of_read_bytes text_limit (Ok passwd)) (reading_end_of_read_bytes text_limit (Ok group)) (front_was_read_to_end_or_limit text_limit passwd);
  reads_passwd = reads;
  reads_group = last;
}

-- The ends by a fault of the files or of the words, or by want of memory.
pub layer_fault_has_its_reading_ends : (w : ListWords) (policy : Result LoadedPolicy LoadFault) (passwd group : Vec ℕ Global) (result : Result ℕ ToolFault) (fault : LayerFault) → result ≡ Err (tool.Layer fault)
    → (fault ≡ layer.NoMemory) ⊎ IsListOutcomeForPolicy w (people_read_result passwd.items group.items) policy (Err fault) → AreReadingEndsOfListFiles result passwd group
layer_fault_has_its_reading_ends w policy passwd group result fault same (inl e) =
    subst (λ r. AreReadingEndsOfListFiles r passwd group) (sym same) (subst (λ f. AreReadingEndsOfListFiles (Err (tool.Layer f)) passwd group) (sym e)
    (inr (inr (front_was_read_to_end_or_limit text_limit passwd, front_was_read_to_end_or_limit text_limit group))))
layer_fault_has_its_reading_ends w policy passwd group result fault same (inr is) =
    subst (λ r. AreReadingEndsOfListFiles r passwd group) (sym same) (outcome_for_policy_has_its_reading_ends w policy passwd group (Err fault) is)
