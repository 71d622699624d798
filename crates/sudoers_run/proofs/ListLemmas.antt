-- What `list` says of a policy, of passwd and group of which a front was read, and of words.
use Rattle.std.proofs.Common.{◌≡◌, ◌⊎◌, inl, inr, ◌∙◌, ◌<◌, true, false, ℕ, List, [], ◌∷◌, length, Option, Some, None, IfSome, Result, Ok, Err, MatchResult, refl, sym, ap, subst}
use Rattle.std.proofs.lemmas.Bool.{lt-ltb, false≢true}
use Rattle.std.specs.Borrow.{Bor}
use Rattle.std.specs.Option.{is_some, option_or, unwrap_or}
use Rattle.std.specs.Result.{IsErrAnd}
use Rattle.sudoers_text.specs.Fault.{text_limit}
use Rattle.sudoers_tree.specs.declared.named_files.NamedFile.{NamedFile}
use Rattle.sudoers_tree.specs.declared.load_fault.LoadFault.{LoadFault}
use Rattle.sudoers_tree.specs.Load.{LoadedPolicy}
use Rattle.sudoers_check.specs.Chains.{HasCyclicAliasReachedFromSpecOrDefaults}
use Rattle.sudoers_match_member.specs.declared.people_and_commands.Who.{Who}
use Rattle.sudoers_match_member.specs.declared.request.Request.{Request}
use Rattle.sudoers_match_list.specs.declared.verdict.AskFault.{AskFault}
use Rattle.sudoers_match_list.specs.declared.verdict.AskFault.TheVariants as ask
use Rattle.sudoers_match.specs.Answer.{joined_arguments_limit, words_joined_with_spaces}
use Rattle.sudoers_match.specs.Default.{IsRunasDefault}
use Rattle.sudoers_list_people.specs.declared.fault.PeopleFile.{PeopleFile}
use Rattle.sudoers_list_people.specs.declared.fault.PeopleFile.TheVariants.{Passwd, Group}
use Rattle.sudoers_list_people.specs.declared.fault.PeopleFault.{PeopleFault}
use Rattle.sudoers_list_people.specs.declared.fault.PeopleFault.TheVariants as people
use Rattle.sudoers_list_people.specs.declared.fault.WhoFault.{WhoFault}
use Rattle.sudoers_list_people.specs.Rows.{account_of_passwd_row, group_file_row_of_text}
use Rattle.sudoers_list_people.specs.Person.{account_named, who_or_who_fault}
use Rattle.sudoers_match_member.specs.declared.people_and_commands.Group.{Group as GroupOf}
use Rattle.sudoers_list_people.specs.declared.account_and_group_row_types.PasswdAccount.{PasswdAccount}
use Rattle.sudoers_list_people.specs.Asked.{group_requested_by_name, moment_of_stamp, request_from_lookup_results, request_or_who_fault}
use Rattle.sudoers_list_people.specs.People.{People, first_fault_in_people_file, people_of_texts, people_read_result, ok_unless_fault}
use Rattle.sudoers_run.specs.declared.fault.LayerFault.{LayerFault}
use Rattle.sudoers_run.specs.declared.fault.LayerFault.TheVariants as layer
use Rattle.sudoers_run.specs.declared.fault.ToolFault.{ToolFault}
use Rattle.sudoers_run.specs.declared.fault.ToolFault.TheVariants as tool
use Rattle.sudoers_run.specs.declared.output.OutputTextAndStatus.{OutputTextAndStatus}
use Rattle.sudoers_run.specs.declared.command_words.ListWords.{ListWords}
use Rattle.sudoers_run.specs.internal.LayerOf.{layer_fault_of_ask}
use Rattle.sudoers_files.specs.Device.{ReaderMeter}
use Rattle.sudoers_run.specs.Policy.{IsLayerFaultOfDeviceOrMemory, IsPolicyFromRoot, IsStatedOrOutsideGatherFault}
use Rattle.sudoers_run.specs.Reading.{IsFaultOfReadingUpToLimit}
use Rattle.sudoers_run.specs.List.{IsListOutcomeAsUser, IsListAnswerOutcome, IsListOutcomeForQuestion, IsListOutcome, IsListOutcomeAsDefaultUnlessRequestFails, IsListOutcomeForGathered, IsListOutcomeForPeople, IsListOutcomeForPolicy, IsListOutcomeForRequest, HoldsOfPeopleTexts, IsListOutcomeForWho, IsListOutcomeForWords, ListCommandOutcome, IsStatedOrOutsideListFault, IsWhoFaultOfResult, optional_text_of_view}
use Rattle.sudoers_run.proofs.PolicyLemmas.{IsTextAlikeUpToLimit, reader_text_or_front_is_reader_text, text_of_reader_or_front}

people_file_past_limit_is_too_large : {X : Type 0} (file : PeopleFile) (said : List ℕ → Option X) (text : List ℕ) → text_limit < length text → first_fault_in_people_file file said text ≡ Some people.TooLarge
people_file_past_limit_is_too_large file said text h = rw (lt-ltb text_limit (length text) h) refl

-- A fault that comes later does not look at the people.
later_fault_hides_people_read : {X : Type 0} (first later : Option PeopleFault) (fault : PeopleFault) (x y : X) → later ≡ Some fault
    → ok_unless_fault (option_or first later) x ≡ ok_unless_fault (option_or first (Some fault)) y
later_fault_hides_people_read None later fault x y e = ap (λ o. ok_unless_fault o x) e
later_fault_hides_people_read (Some f) later fault x y e = refl

first_fault_is_people_result : {X : Type 0} (first later : Option PeopleFault) (fault : PeopleFault) (x : X) → first ≡ Some fault → ok_unless_fault (option_or first later) x ≡ Err fault
first_fault_is_people_result first later fault x e = ap (λ o. ok_unless_fault (option_or o later) x) e

large_passwd_gives_too_large : (passwd group : List ℕ) → text_limit < length passwd → people_read_result passwd group ≡ Err people.TooLarge
large_passwd_gives_too_large passwd group h =
    first_fault_is_people_result (first_fault_in_people_file Passwd account_of_passwd_row passwd) (first_fault_in_people_file Group group_file_row_of_text group) people.TooLarge (people_of_texts passwd group) (people_file_past_limit_is_too_large Passwd account_of_passwd_row passwd h)

large_group_text_is_interchangeable : (passwd group other : List ℕ) → text_limit < length group → text_limit < length other → people_read_result passwd group ≡ people_read_result passwd other
large_group_text_is_interchangeable passwd group other h g =
    later_fault_hides_people_read (first_fault_in_people_file Passwd account_of_passwd_row passwd) (first_fault_in_people_file Group group_file_row_of_text group) people.TooLarge (people_of_texts passwd group) (people_of_texts passwd other) (people_file_past_limit_is_too_large Group group_file_row_of_text group h)
    ∙ sym (later_fault_hides_people_read (first_fault_in_people_file Passwd account_of_passwd_row passwd) (first_fault_in_people_file Group group_file_row_of_text other) people.TooLarge (people_of_texts passwd other) (people_of_texts passwd other) (people_file_past_limit_is_too_large Group group_file_row_of_text other g))

texts_alike_to_limit_give_same_people : (p u g h : List ℕ) → IsTextAlikeUpToLimit p u → IsTextAlikeUpToLimit g h → people_read_result p g ≡ people_read_result u h
texts_alike_to_limit_give_same_people p u g h (inr l) s = large_passwd_gives_too_large p g l.0 ∙ sym (large_passwd_gives_too_large u h l.1)
texts_alike_to_limit_give_same_people p u g h (inl e) (inl f) = ap (λ t. people_read_result t g) e ∙ ap (people_read_result u) f
texts_alike_to_limit_give_same_people p u g h (inl e) (inr l) = ap (λ t. people_read_result t g) e ∙ large_group_text_is_interchangeable u g h l.0 l.1

-- What comes of slices comes of what they hold.
pub people_of_equal_texts_share_properties : (u u' g g' : List ℕ) → u ≡ u' → g ≡ g' → (P : Result People PeopleFault → Type 0) → P (people_read_result u g) → P (people_read_result u' g')
people_of_equal_texts_share_properties u u' g g' a b P is = subst (λ (x : List ℕ). P (people_read_result u' x)) b (subst (λ (x : List ℕ). P (people_read_result x g)) a is)

-- What comes of a policy and of fronts comes of the files and of the texts of the two readers.
pub outcome_of_fronts_is_outcome_of_texts : (w : ListWords) (root : List ℕ) (known : List NamedFile) (u g u' g' : List ℕ) (policy : Result LoadedPolicy LoadFault) (o : ListCommandOutcome) → IsPolicyFromRoot root policy known
    → IsTextAlikeUpToLimit u u' → IsTextAlikeUpToLimit g g' → IsListOutcomeForPolicy w (people_read_result u g) policy o → IsListOutcome w root known u' g' o
outcome_of_fronts_is_outcome_of_texts w root known u g u' g' policy o of su sg is =
    subst (λ r. IsListOutcomeForGathered w (people_read_result u' g') r o) (sym of.gathers)
    (subst (λ r. IsListOutcomeForPolicy w (people_read_result u' g') r o) (sym of.loads) (subst (λ r. IsListOutcomeForPolicy w r policy o) (texts_alike_to_limit_give_same_people u u' g g' su sg) is))

-- What holds of all that stands for fronts holds of the texts.
pub property_of_fronts_holds_of_people_texts : (uo go : ReaderMeter) (u g : List ℕ) (Q : List ℕ → List ℕ → Type 0) → IsTextAlikeUpToLimit u (text_of_reader_or_front uo.remaining u) → IsTextAlikeUpToLimit g (text_of_reader_or_front go.remaining g)
    → ((u' g' : List ℕ) → IsTextAlikeUpToLimit u u' → IsTextAlikeUpToLimit g g' → Q u' g') → HoldsOfPeopleTexts uo go Q
property_of_fronts_holds_of_people_texts uo go u g Q su sg all = record {
  passwd_text = text_of_reader_or_front uo.remaining u;
  group_text = text_of_reader_or_front go.remaining g;
  is_passwd = reader_text_or_front_is_reader_text uo u;
  is_group = reader_text_or_front_is_reader_text go g;
  holds = all (text_of_reader_or_front uo.remaining u) (text_of_reader_or_front go.remaining g) su sg;
}

-- What holds of all texts holds of those of the readers.
pub property_of_all_texts_is_of_people : (uo go : ReaderMeter) (Q : List ℕ → List ℕ → Type 0) → ((u g : List ℕ) → Q u g) → HoldsOfPeopleTexts uo go Q
property_of_all_texts_is_of_people uo go Q all = record {
  passwd_text = text_of_reader_or_front uo.remaining [];
  group_text = text_of_reader_or_front go.remaining [];
  is_passwd = reader_text_or_front_is_reader_text uo [];
  is_group = reader_text_or_front_is_reader_text go [];
  holds = all (text_of_reader_or_front uo.remaining []) (text_of_reader_or_front go.remaining []);
}

-- A fault of reading says nothing of the texts.
pub reading_fault_is_list_fault_of_files : (w : ListWords) (root : List ℕ) (known : List NamedFile) (fault : ToolFault) → IsFaultOfReadingUpToLimit fault → (u g : List ℕ) → IsStatedOrOutsideListFault w root known fault u g
reading_fault_is_list_fault_of_files w root known tool.Read is u g = tt
reading_fault_is_list_fault_of_files w root known tool.NoEnd is u g = tt
reading_fault_is_list_fault_of_files w root known (tool.Layer fault) is u g = inl (subst IsLayerFaultOfDeviceOrMemory (sym is) tt)
reading_fault_is_list_fault_of_files w root known tool.Write is u g = tt
reading_fault_is_list_fault_of_files w root known tool.NoMark is u g = absurd is
reading_fault_is_list_fault_of_files w root known (tool.BadBundle file) is u g = absurd is
reading_fault_is_list_fault_of_files w root known tool.InputTooLarge is u g = absurd is

-- If nothing is known of the files, a fault of reading says nothing.
pub property_of_all_files_is_of_known : (o : Option (List NamedFile)) (P : List NamedFile → Type 0) → ((known : List NamedFile) → P known) → IfSome o P
property_of_all_files_is_of_known None P all = tt
property_of_all_files_is_of_known (Some known) P all = all known

-- The fault with which no policy is loaded is the outcome.
pub gather_fault_is_list_fault_of_files : (w : ListWords) (root : List ℕ) (known : List NamedFile) (fault : LayerFault) → IsStatedOrOutsideGatherFault root fault known → (u g : List ℕ)
    → IsStatedOrOutsideListFault w root known (tool.Layer fault) u g
gather_fault_is_list_fault_of_files w root known fault (inl outside) u g = inl outside
gather_fault_is_list_fault_of_files w root known fault (inr why) u g = inr (subst (λ r. IsListOutcomeForGathered w (people_read_result u g) r (Err fault)) (sym why.2) (ap (λ f. Err f) why.1))

-- An error that can only be this fault is this fault.
pub error_is_fault : {X : Type 0} (result : Result X LayerFault) (fault : LayerFault) → IsErrAnd result (λ (e : LayerFault). e ≡ fault) → result ≡ Err fault
error_is_fault (Ok x) fault is = absurd is
error_is_fault (Err e) fault is = ap (λ (f : LayerFault). Err f) is

-- ---- words

who_fault_is_outcome_for_request : (w : ListWords) (p : LoadedPolicy) (told : Result Request WhoFault) (fault : LayerFault) → IsWhoFaultOfResult told fault → IsListOutcomeForRequest w p told (Err fault)
who_fault_is_outcome_for_request w p (Ok r) fault is = absurd is
who_fault_is_outcome_for_request w p (Err said) fault is = ap Err is

-- What is asked without a user and a group is asked as runas_default.
question_without_target_is_asked_as_default : (w : ListWords) (p : LoadedPolicy) (people : People) (who : Who) (first : Request) (user : List ℕ) → optional_text_of_view w.target ≡ None → optional_text_of_view w.group ≡ None
    → request_or_who_fault people who w.user.now (optional_text_of_view w.group) w.words.now w.moment.now ≡ Ok first
    → (HasCyclicAliasReachedFromSpecOrDefaults p.walk.lines → ⊥) → IsRunasDefault p.walk.lines first.who user
    → (o : ListCommandOutcome) → IsListOutcomeAsUser w p people first.who user o → IsListOutcomeForQuestion w p people who (optional_text_of_view w.target) (optional_text_of_view w.group) o
question_without_target_is_asked_as_default w p people who first user none nobody told straight is o asked =
    subst (λ t. IsListOutcomeForQuestion w p people who t (optional_text_of_view w.group) o) (sym none)
    (subst (λ g. IsListOutcomeForQuestion w p people who None g o) (sym nobody)
    (subst (λ r. IsListOutcomeAsDefaultUnlessRequestFails w p people r o) (sym (ap (λ g. request_or_who_fault people who w.user.now g w.words.now w.moment.now) (sym nobody) ∙ told))
    (inr (record { straight = straight; user = user; is_default = is; asked = asked }))))

-- It is an answer to the request, or memory ran out.
abbrev pub IsAnswerOutcomeOrNoMemory : ListWords → LoadedPolicy → Request → Result OutputTextAndStatus LayerFault → Type 0
IsAnswerOutcomeOrNoMemory w p r result =
    MatchResult result (λ output. IsListAnswerOutcome w p r (Ok (output.text.items, output.status))) (λ fault. (fault ≡ layer.NoMemory) ⊎ IsListAnswerOutcome w p r (Err fault))

pub refused_answer_is_answer_outcome : (w : ListWords) (p : LoadedPolicy) (r : Request) → (HasCyclicAliasReachedFromSpecOrDefaults p.walk.lines → ⊥) → (fault : AskFault)
    → (fault ≡ ask.NoMemory) ⊎ ((fault ≡ ask.TooLong) × (joined_arguments_limit < length (words_joined_with_spaces r.args))) → IsAnswerOutcomeOrNoMemory w p r (Err (layer_fault_of_ask fault))
refused_answer_is_answer_outcome w p r straight fault (inl e) = inl (ap layer_fault_of_ask e)
refused_answer_is_answer_outcome w p r straight fault (inr is) = inr (inr (ap layer_fault_of_ask is.0, straight, is.1))

-- A request is that of the user who asks.
abbrev IsRequestOfWho : Who → Result Request WhoFault → Type 0
IsRequestOfWho who (Ok r) = r.who ≡ who
IsRequestOfWho who (Err fault) = Unit {0}

request_from_lookups_is_of_who : (people : People) (who : Who) (words : List (List ℕ)) (a : Option PasswdAccount) (g : Option (Option GroupOf)) (m : Option ℕ) → IsRequestOfWho who (request_from_lookup_results people who words a g m)
request_from_lookups_is_of_who people who words None g m = tt
request_from_lookups_is_of_who people who words (Some a) None m = tt
request_from_lookups_is_of_who people who words (Some a) (Some g) None = tt
request_from_lookups_is_of_who people who words (Some a) (Some g) (Some m) = refl

pub request_of_who_keeps_who : (people : People) (who : Who) (target : List ℕ) (group : Option (List ℕ)) (words : List (List ℕ)) (stamp : List ℕ) (r : Request)
    → request_or_who_fault people who target group words stamp ≡ Ok r → r.who ≡ who
request_of_who_keeps_who people who target group words stamp r told =
    subst (IsRequestOfWho who) told (request_from_lookups_is_of_who people who words (account_named people target) (group_requested_by_name people group) (moment_of_stamp stamp))

-- The first request is that of the user who is named, or of the user himself.
abbrev pub first_request_of_words : ListWords → People → Who → Option (Bor (List ℕ)) → Result Request WhoFault
first_request_of_words w people who target = request_or_who_fault people who (unwrap_or target w.user).now (optional_text_of_view w.group) w.words.now w.moment.now

who_fault_is_outcome_for_first_request : (w : ListWords) (p : LoadedPolicy) (people : People) (told : Result Request WhoFault) (fault : LayerFault) → IsWhoFaultOfResult told fault → IsListOutcomeAsDefaultUnlessRequestFails w p people told (Err fault)
who_fault_is_outcome_for_first_request w p people (Ok r) fault is = absurd is
who_fault_is_outcome_for_first_request w p people (Err said) fault is = ap Err is

module _ (w : ListWords) (p : LoadedPolicy) (people : People) (who : Who) where
  -- Without a user and a group the first request is made for the user himself.
  himself : (group : Option (List ℕ)) → optional_text_of_view w.group ≡ group → first_request_of_words w people who None ≡ request_or_who_fault people who w.user.now group w.words.now w.moment.now
  himself group same = ap (λ g. request_or_who_fault people who w.user.now g w.words.now w.moment.now) same

  first_refused : (target : Option (Bor (List ℕ))) (group : Option (List ℕ)) → optional_text_of_view w.group ≡ group → (fault : LayerFault) → IsWhoFaultOfResult (first_request_of_words w people who target) fault
      → IsListOutcomeForQuestion w p people who (optional_text_of_view target) group (Err fault)
  first_refused (Some t) group same fault is = who_fault_is_outcome_for_request w p (first_request_of_words w people who (Some t)) fault is
  first_refused None (Some g) same fault is = who_fault_is_outcome_for_request w p (first_request_of_words w people who None) fault is
  first_refused None None same fault is =
      subst (λ told. IsListOutcomeAsDefaultUnlessRequestFails w p people told (Err fault)) (himself None same) (who_fault_is_outcome_for_first_request w p people (first_request_of_words w people who None) fault is)

  first_cyclic : (target : Option (Bor (List ℕ))) (group : Option (List ℕ)) → optional_text_of_view w.group ≡ group → (first : Request) → first_request_of_words w people who target ≡ Ok first → HasCyclicAliasReachedFromSpecOrDefaults p.walk.lines
      → IsListOutcomeForQuestion w p people who (optional_text_of_view target) group (Err (layer.Ask ask.Cycle))
  first_cyclic (Some t) group same first told cycle = subst (λ r. IsListOutcomeForRequest w p r (Err (layer.Ask ask.Cycle))) (sym told) (inl (refl, cycle))
  first_cyclic None (Some g) same first told cycle = subst (λ r. IsListOutcomeForRequest w p r (Err (layer.Ask ask.Cycle))) (sym told) (inl (refl, cycle))
  first_cyclic None None same first told cycle =
      subst (λ r. IsListOutcomeAsDefaultUnlessRequestFails w p people r (Err (layer.Ask ask.Cycle))) (sym told ∙ himself None same) (inl (cycle, refl))

  first_asked : (target : Option (Bor (List ℕ))) (group : Option (List ℕ)) → optional_text_of_view w.group ≡ group → (is_some target ≡ true) ⊎ (is_some group ≡ true)
      → (first : Request) → first_request_of_words w people who target ≡ Ok first → (o : ListCommandOutcome) → IsListAnswerOutcome w p first o
      → IsListOutcomeForQuestion w p people who (optional_text_of_view target) group o
  first_asked (Some t) group same one first told o answered = subst (λ r. IsListOutcomeForRequest w p r o) (sym told) answered
  first_asked None (Some g) same one first told o answered = subst (λ r. IsListOutcomeForRequest w p r o) (sym told) answered
  first_asked None None same (inl e) first told o answered = absurd (false≢true e)
  first_asked None None same (inr e) first told o answered = absurd (false≢true e)

  -- What is asked, in the words of the call.
  abbrev pub Asked : ListCommandOutcome → Type 0
  Asked = IsListOutcomeForQuestion w p people who (optional_text_of_view w.target) (optional_text_of_view w.group)

  -- It is what is asked, or memory ran out.
  abbrev pub Told : Result OutputTextAndStatus LayerFault → Type 0
  Told result = MatchResult result (λ output. Asked (Ok (output.text.items, output.status))) (λ fault. (fault ≡ layer.NoMemory) ⊎ Asked (Err fault))

  pub refused : (fault : LayerFault) → (fault ≡ layer.NoMemory) ⊎ IsWhoFaultOfResult (first_request_of_words w people who w.target) fault → Told (Err fault)
  refused fault (inl e) = inl e
  refused fault (inr is) = inr (first_refused w.target (optional_text_of_view w.group) refl fault is)

  pub cyclic : (first : Request) → first_request_of_words w people who w.target ≡ Ok first → (fault : AskFault) → (fault ≡ ask.NoMemory) ⊎ ((fault ≡ ask.Cycle) × HasCyclicAliasReachedFromSpecOrDefaults p.walk.lines)
      → Told (Err (layer_fault_of_ask fault))
  cyclic first told fault (inl e) = inl (ap layer_fault_of_ask e)
  cyclic first told fault (inr is) =
      inr (subst (λ f. Asked (Err (layer_fault_of_ask f))) (sym is.0) (first_cyclic w.target (optional_text_of_view w.group) refl first told is.1))

  -- The answer is asked for, whatever it comes to.
  answer_asked : (r : Request) → ((o : ListCommandOutcome) → IsListAnswerOutcome w p r o → Asked o) → (result : Result OutputTextAndStatus LayerFault) → IsAnswerOutcomeOrNoMemory w p r result → Told result
  answer_asked r asked (Ok output) is = asked (Ok (output.text.items, output.status)) is
  answer_asked r asked (Err fault) (inl e) = inl e
  answer_asked r asked (Err fault) (inr is) = inr (asked (Err fault) is)

  pub named_answered : (is_some w.target ≡ true) ⊎ (is_some (optional_text_of_view w.group) ≡ true) → (first : Request) → first_request_of_words w people who w.target ≡ Ok first → (result : Result OutputTextAndStatus LayerFault)
      → IsAnswerOutcomeOrNoMemory w p first result → Told result
  named_answered one first told result is = answer_asked first (first_asked w.target (optional_text_of_view w.group) refl one first told) result is

  -- Without a user and a group the command is to run as runas_default.
  module _ (none : w.target ≡ None) (nobody : w.group ≡ None) (first : Request) (told : first_request_of_words w people who w.target ≡ Ok first)
      (straight : HasCyclicAliasReachedFromSpecOrDefaults p.walk.lines → ⊥) (user : List ℕ) (is : IsRunasDefault p.walk.lines first.who user) where
    abbrev second_told : Result Request WhoFault
    second_told = request_or_who_fault people first.who user (optional_text_of_view w.group) w.words.now w.moment.now

    as_default : (o : ListCommandOutcome) → IsListOutcomeForRequest w p second_told o → Asked o
    as_default = question_without_target_is_asked_as_default w p people who first user (ap optional_text_of_view none) (ap optional_text_of_view nobody)
        (ap (λ t. request_or_who_fault people who (unwrap_or t w.user).now (optional_text_of_view w.group) w.words.now w.moment.now) (sym none) ∙ told) straight is

    pub default_refused : (fault : LayerFault) → (fault ≡ layer.NoMemory) ⊎ IsWhoFaultOfResult second_told fault → Told (Err fault)
    default_refused fault (inl e) = inl e
    default_refused fault (inr t) = inr (as_default (Err fault) (who_fault_is_outcome_for_request w p second_told fault t))

    pub default_answered : (r : Request) → second_told ≡ Ok r → (result : Result OutputTextAndStatus LayerFault) → IsAnswerOutcomeOrNoMemory w p r result → Told result
    default_answered r e result answered = answer_asked r (λ o a. as_default o (subst (λ x. IsListOutcomeForRequest w p x o) (sym e) a)) result answered

-- What comes of words, where there are some.
outcome_for_question_is_outcome_for_words : (w : ListWords) (p : LoadedPolicy) (people : People) (who : Who) (words : List (List ℕ)) (o : ListCommandOutcome) → (words ≡ [] → ⊥)
    → IsListOutcomeForQuestion w p people who (optional_text_of_view w.target) (optional_text_of_view w.group) o → IsListOutcomeForWords w p people who words o
outcome_for_question_is_outcome_for_words w p people who [] o some asked = absurd (some refl)
outcome_for_question_is_outcome_for_words w p people who (word ∷ words) o some asked = asked

outcome_for_question_is_outcome_for_policy : (w : ListWords) (policy : Result LoadedPolicy LoadFault) (passwd group : List ℕ) (p : LoadedPolicy) (people : People) (who : Who) → policy ≡ Ok p
    → people_read_result passwd group ≡ Ok people → who_or_who_fault people w.user.now w.host.now w.interfaces.now ≡ Ok who → (w.words.now ≡ [] → ⊥)
    → (o : ListCommandOutcome) → IsListOutcomeForQuestion w p people who (optional_text_of_view w.target) (optional_text_of_view w.group) o → IsListOutcomeForPolicy w (people_read_result passwd group) policy o
outcome_for_question_is_outcome_for_policy w policy passwd group p people who read told is some o asked =
    subst (λ r. IsListOutcomeForPolicy w (people_read_result passwd group) r o) (sym read)
    (subst (λ r. IsListOutcomeForPeople w p r o) (sym told)
    (subst (λ r. IsListOutcomeForWho w p people r o) (sym is) (outcome_for_question_is_outcome_for_words w p people who w.words.now o some asked)))

pub answer_result_is_outcome_for_policy : (w : ListWords) (policy : Result LoadedPolicy LoadFault) (passwd group : List ℕ) (p : LoadedPolicy) (people : People) (who : Who) (result : Result OutputTextAndStatus LayerFault)
    → policy ≡ Ok p → people_read_result passwd group ≡ Ok people → who_or_who_fault people w.user.now w.host.now w.interfaces.now ≡ Ok who → (w.words.now ≡ [] → ⊥)
    → Told w p people who result
    → MatchResult result (λ output. IsListOutcomeForPolicy w (people_read_result passwd group) policy (Ok (output.text.items, output.status)))
    (λ fault. (fault ≡ layer.NoMemory) ⊎ IsListOutcomeForPolicy w (people_read_result passwd group) policy (Err fault))
answer_result_is_outcome_for_policy w policy passwd group p people who (Ok output) read told is some asked =
    outcome_for_question_is_outcome_for_policy w policy passwd group p people who read told is some (Ok (output.text.items, output.status)) asked
answer_result_is_outcome_for_policy w policy passwd group p people who (Err fault) read told is some (inl e) = inl e
answer_result_is_outcome_for_policy w policy passwd group p people who (Err fault) read told is some (inr asked) =
    inr (outcome_for_question_is_outcome_for_policy w policy passwd group p people who read told is some (Err fault) asked)

-- What comes of a listing that is not made: a cycle, or want of memory.
pub listing_fault_is_outcome_for_policy : (w : ListWords) (policy : Result LoadedPolicy LoadFault) (passwd group : List ℕ) (p : LoadedPolicy) (people : People) (who : Who) (fault : AskFault)
    → policy ≡ Ok p → people_read_result passwd group ≡ Ok people → who_or_who_fault people w.user.now w.host.now w.interfaces.now ≡ Ok who → w.words.now ≡ []
    → (fault ≡ ask.NoMemory) ⊎ ((fault ≡ ask.Cycle) × HasCyclicAliasReachedFromSpecOrDefaults p.walk.lines)
    → (layer_fault_of_ask fault ≡ layer.NoMemory) ⊎ IsListOutcomeForPolicy w (people_read_result passwd group) policy (Err (layer_fault_of_ask fault))
listing_fault_is_outcome_for_policy w policy passwd group p people who fault read told is none (inl memory) = inl (ap layer_fault_of_ask memory)
listing_fault_is_outcome_for_policy w policy passwd group p people who fault read told is none (inr (cycle, has)) =
    let o : ListCommandOutcome = Err (layer_fault_of_ask fault) in
    inr (subst (λ r. IsListOutcomeForPolicy w (people_read_result passwd group) r o) (sym read)
    (subst (λ r. IsListOutcomeForPeople w p r o) (sym told)
    (subst (λ r. IsListOutcomeForWho w p people r o) (sym is)
    (subst (λ ws. IsListOutcomeForWords w p people who ws o) (sym none) (ap layer_fault_of_ask cycle, has)))))

-- ---- faults

pub outcome_fault_is_list_fault_of_files : (w : ListWords) (root : List ℕ) (known : List NamedFile) (policy : Result LoadedPolicy LoadFault) (passwd group : List ℕ) (fault : LayerFault)
    → (fault ≡ layer.NoMemory) ⊎ IsListOutcomeForPolicy w (people_read_result passwd group) policy (Err fault) → IsPolicyFromRoot root policy known
    → (u' g' : List ℕ) → IsTextAlikeUpToLimit passwd u' → IsTextAlikeUpToLimit group g' → IsStatedOrOutsideListFault w root known (tool.Layer fault) u' g'
outcome_fault_is_list_fault_of_files w root known policy passwd group fault (inl e) of u' g' su sg = inl (subst IsLayerFaultOfDeviceOrMemory (sym e) tt)
outcome_fault_is_list_fault_of_files w root known policy passwd group fault (inr o) of u' g' su sg = inr (outcome_of_fronts_is_outcome_of_texts w root known passwd group u' g' policy (Err fault) of su sg o)

pub given_view_has_optional_text : (o : Option (Bor (List ℕ))) → is_some o ≡ true → is_some (optional_text_of_view o) ≡ true
given_view_has_optional_text None e = e
given_view_has_optional_text (Some t) e = refl

pub option_that_is_not_some_is_none : {X : Type 0} (o : Option X) → is_some o ≡ false → o ≡ None
option_that_is_not_some_is_none None e = refl
option_that_is_not_some_is_none (Some x) e = absurd cc
