-- A run of `list` has one outcome.
use Rattle.laws_program.proofs.Common.{◌≡◌, inl, inr, ◌∙◌, Bool, true, false, ℕ, List, [], ◌∷◌, Option, Some, None, Result, Ok, Err, sym, ap, ap₂, subst, arith}
use Rattle.laws_program.proofs.Common.{Line, Who, Request, Answer, IsAnswerToRequest, IsRunasDefault}
use Rattle.std.proofs.Common.{MatchBool}
use Rattle.sudoers_tree.specs.declared.named_files.NamedFile.{NamedFile}
use Rattle.sudoers_tree.specs.declared.load_fault.LoadFault.{LoadFault}
use Rattle.sudoers_tree.specs.Load.{LoadedPolicy, policy_or_load_fault}
use Rattle.sudoers_files.specs.declared.fault.GatherFault.{GatherFault}
use Rattle.sudoers_files.specs.Gather.{gathered_files_or_fault}
use Rattle.sudoers_list_people.specs.People.{People, people_read_result}
use Rattle.sudoers_list_people.specs.Person.{who_or_who_fault}
use Rattle.sudoers_list_people.specs.Asked.{request_or_who_fault}
use Rattle.sudoers_list_people.specs.declared.fault.PeopleFault.{PeopleFault}
use Rattle.sudoers_list_people.specs.declared.fault.WhoFault.{WhoFault}
use Rattle.sudoers_list.specs.Listing.{IsListingOfUser}
use Rattle.sudoers_list.specs.Reason.{IsReasonText}
use Rattle.sudoers_run.specs.declared.command_words.ListWords.{ListWords}
use Rattle.sudoers_run.specs.List.{IsListOutcomeAsDefaultOrCycle, IsListOutcomeAsUser, IsListAnswerOutcome, IsListAnswerText, IsListAnswerOutput, IsListOutcomeForQuestion, IsListOutcomeOfListing, IsListOutcome, IsListOutcomeAsDefaultUnlessRequestFails, IsListOutcomeForGathered, IsListOutcomeForPeople, IsListOutcomeForPolicy}
use Rattle.sudoers_run.specs.List.{IsListOutcomeForRequest, IsListOutcomeForWho, IsListOutcomeForWords, ListCommandOutcome, status_of_answer, text_of_allowed_command, optional_text_of_view}

-- The laws of listings, of reasons, of answers and of runas_default.
pub record ListUniquenessLaws : Type 0 where
  pub reason : (policy : LoadedPolicy) (r : Request) (answer : Option Answer) (text other : List ℕ) → IsReasonText policy r answer text
      → IsReasonText policy r answer other → text ≡ other
  pub listing : (lines : List Line) (who : Who) (text other : List ℕ) → IsListingOfUser lines who text → IsListingOfUser lines who other → text ≡ other
  pub answer : (lines : List Line) (r : Request) (answer other : Option Answer) → IsAnswerToRequest lines r answer → IsAnswerToRequest lines r other → answer ≡ other
  pub default : (lines : List Line) (who : Who) (name other : List ℕ) → IsRunasDefault lines who name → IsRunasDefault lines who other → name ≡ other

pairs_of_equal_parts_are_equal : (a b : List ℕ × ℕ) → a.0 ≡ b.0 → a.1 ≡ b.1 → a ≡ b
pairs_of_equal_parts_are_equal (t, n) (u, m) e f = ap₂ (λ (x : List ℕ) (y : ℕ). (x, y)) e f

outcome_of_listing_is_unique : ListUniquenessLaws → (policy : LoadedPolicy) (who : Who) (o p : ListCommandOutcome) → IsListOutcomeOfListing policy who o → IsListOutcomeOfListing policy who p → o ≡ p
outcome_of_listing_is_unique l policy who (Ok t) (Ok u) a b = ap Ok (pairs_of_equal_parts_are_equal t u (l.listing policy.walk.lines who t.0 u.0 a.1 b.1) (a.2 ∙ sym b.2))
outcome_of_listing_is_unique l policy who (Ok t) (Err f) a b = absurd (a.0 b.1)
outcome_of_listing_is_unique l policy who (Err f) (Ok u) a b = absurd (b.0 a.1)
outcome_of_listing_is_unique l policy who (Err f) (Err g) a b = ap Err (a.0 ∙ sym b.0)

answer_text_by_reason_word_is_unique : ListUniquenessLaws → (why : Bool) (policy : LoadedPolicy) (r : Request) (answer : Option Answer) (wanted t u : List ℕ)
    → MatchBool why (IsReasonText policy r answer t) (t ≡ wanted) → MatchBool why (IsReasonText policy r answer u) (u ≡ wanted) → t ≡ u
answer_text_by_reason_word_is_unique l true policy r answer wanted t u a b = l.reason policy r answer t u a b
answer_text_by_reason_word_is_unique l false policy r answer wanted t u a b = a ∙ sym b

answer_output_is_unique : ListUniquenessLaws → (w : ListWords) (policy : LoadedPolicy) (r : Request) (t u : List ℕ × ℕ) → IsListAnswerOutput w policy r t → IsListAnswerOutput w policy r u → t ≡ u
answer_output_is_unique l w policy r t u a b =
    let e : a.answer ≡ b.answer = l.answer policy.walk.lines r a.answer b.answer a.is_answer b.is_answer in
    pairs_of_equal_parts_are_equal t u
    (answer_text_by_reason_word_is_unique l w.why policy r b.answer (text_of_allowed_command w.words.now b.answer) t.0 u.0 (subst (λ x. IsListAnswerText w policy r x t.0) e a.text) b.text)
    (a.status ∙ ap status_of_answer e ∙ sym b.status)

answer_outcome_is_unique : ListUniquenessLaws → (w : ListWords) (policy : LoadedPolicy) (r : Request) (o p : ListCommandOutcome) → IsListAnswerOutcome w policy r o → IsListAnswerOutcome w policy r p → o ≡ p
answer_outcome_is_unique l w policy r (Ok t) (Ok u) a b = ap Ok (answer_output_is_unique l w policy r t u a b)
answer_outcome_is_unique l w policy r (Ok t) (Err f) a (inl b) = absurd (a.straight b.1)
answer_outcome_is_unique l w policy r (Ok t) (Err f) a (inr b) = let s = a.short in let g = b.2 in absurd (omega (arith, s, g))
answer_outcome_is_unique l w policy r (Err f) (Ok u) (inl a) b = absurd (b.straight a.1)
answer_outcome_is_unique l w policy r (Err f) (Ok u) (inr a) b = let s = b.short in let g = a.2 in absurd (omega (arith, s, g))
answer_outcome_is_unique l w policy r (Err f) (Err g) (inl a) (inl b) = ap Err (a.0 ∙ sym b.0)
answer_outcome_is_unique l w policy r (Err f) (Err g) (inl a) (inr b) = absurd (b.1 a.1)
answer_outcome_is_unique l w policy r (Err f) (Err g) (inr a) (inl b) = absurd (a.1 b.1)
answer_outcome_is_unique l w policy r (Err f) (Err g) (inr a) (inr b) = ap Err (a.0 ∙ sym b.0)

outcome_for_request_is_unique : ListUniquenessLaws → (w : ListWords) (policy : LoadedPolicy) (told : Result Request WhoFault) (o p : ListCommandOutcome) → IsListOutcomeForRequest w policy told o → IsListOutcomeForRequest w policy told p → o ≡ p
outcome_for_request_is_unique l w policy (Ok r) o p a b = answer_outcome_is_unique l w policy r o p a b
outcome_for_request_is_unique l w policy (Err f) o p a b = a ∙ sym b

outcome_as_user_is_unique : ListUniquenessLaws → (w : ListWords) (policy : LoadedPolicy) (people : People) (who : Who) (user : List ℕ) (o p : ListCommandOutcome) → IsListOutcomeAsUser w policy people who user o → IsListOutcomeAsUser w policy people who user p → o ≡ p
outcome_as_user_is_unique l w policy people who user o p a b = outcome_for_request_is_unique l w policy (request_or_who_fault people who user (optional_text_of_view w.group) w.words.now w.moment.now) o p a b

outcome_as_default_or_cycle_is_unique : ListUniquenessLaws → (w : ListWords) (policy : LoadedPolicy) (people : People) (who : Who) (o p : ListCommandOutcome) → IsListOutcomeAsDefaultOrCycle w policy people who o → IsListOutcomeAsDefaultOrCycle w policy people who p → o ≡ p
outcome_as_default_or_cycle_is_unique l w policy people who o p (inl a) (inl b) = a.1 ∙ sym b.1
outcome_as_default_or_cycle_is_unique l w policy people who o p (inl a) (inr b) = absurd (b.straight a.0)
outcome_as_default_or_cycle_is_unique l w policy people who o p (inr a) (inl b) = absurd (a.straight b.0)
outcome_as_default_or_cycle_is_unique l w policy people who o p (inr a) (inr b) =
    outcome_as_user_is_unique l w policy people who b.user o p
    (subst (λ user. IsListOutcomeAsUser w policy people who user o) (l.default policy.walk.lines who a.user b.user a.is_default b.is_default) a.asked) b.asked

outcome_for_first_request_is_unique : ListUniquenessLaws → (w : ListWords) (policy : LoadedPolicy) (people : People) (told : Result Request WhoFault) (o p : ListCommandOutcome) → IsListOutcomeAsDefaultUnlessRequestFails w policy people told o → IsListOutcomeAsDefaultUnlessRequestFails w policy people told p → o ≡ p
outcome_for_first_request_is_unique l w policy people (Ok r) o p a b = outcome_as_default_or_cycle_is_unique l w policy people r.who o p a b
outcome_for_first_request_is_unique l w policy people (Err f) o p a b = a ∙ sym b

outcome_for_question_is_unique : ListUniquenessLaws → (w : ListWords) (policy : LoadedPolicy) (people : People) (who : Who) (target group : Option (List ℕ)) (o p : ListCommandOutcome)
    → IsListOutcomeForQuestion w policy people who target group o → IsListOutcomeForQuestion w policy people who target group p → o ≡ p
outcome_for_question_is_unique l w policy people who (Some target) group o p a b = outcome_as_user_is_unique l w policy people who target o p a b
outcome_for_question_is_unique l w policy people who None (Some group) o p a b = outcome_as_user_is_unique l w policy people who w.user.now o p a b
outcome_for_question_is_unique l w policy people who None None o p a b = outcome_for_first_request_is_unique l w policy people (request_or_who_fault people who w.user.now None w.words.now w.moment.now) o p a b

outcome_for_words_is_unique : ListUniquenessLaws → (w : ListWords) (policy : LoadedPolicy) (people : People) (who : Who) (words : List (List ℕ)) (o p : ListCommandOutcome)
    → IsListOutcomeForWords w policy people who words o → IsListOutcomeForWords w policy people who words p → o ≡ p
outcome_for_words_is_unique l w policy people who [] o p a b = outcome_of_listing_is_unique l policy who o p a b
outcome_for_words_is_unique l w policy people who (word ∷ words) o p a b = outcome_for_question_is_unique l w policy people who (optional_text_of_view w.target) (optional_text_of_view w.group) o p a b

outcome_for_who_is_unique : ListUniquenessLaws → (w : ListWords) (policy : LoadedPolicy) (people : People) (told : Result Who WhoFault) (o p : ListCommandOutcome) → IsListOutcomeForWho w policy people told o → IsListOutcomeForWho w policy people told p → o ≡ p
outcome_for_who_is_unique l w policy people (Ok who) o p a b = outcome_for_words_is_unique l w policy people who w.words.now o p a b
outcome_for_who_is_unique l w policy people (Err f) o p a b = a ∙ sym b

outcome_for_people_is_unique : ListUniquenessLaws → (w : ListWords) (policy : LoadedPolicy) (told : Result People PeopleFault) (o p : ListCommandOutcome) → IsListOutcomeForPeople w policy told o → IsListOutcomeForPeople w policy told p → o ≡ p
outcome_for_people_is_unique l w policy (Ok people) o p a b = outcome_for_who_is_unique l w policy people (who_or_who_fault people w.user.now w.host.now w.interfaces.now) o p a b
outcome_for_people_is_unique l w policy (Err f) o p a b = a ∙ sym b

outcome_for_policy_is_unique : ListUniquenessLaws → (w : ListWords) (told : Result People PeopleFault) (read : Result LoadedPolicy LoadFault) (o p : ListCommandOutcome) → IsListOutcomeForPolicy w told read o → IsListOutcomeForPolicy w told read p → o ≡ p
outcome_for_policy_is_unique l w told (Ok policy) o p a b = outcome_for_people_is_unique l w policy told o p a b
outcome_for_policy_is_unique l w told (Err f) o p a b = a ∙ sym b

outcome_for_gathered_is_unique : ListUniquenessLaws → (w : ListWords) (told : Result People PeopleFault) (r : Result (List NamedFile) GatherFault) (o p : ListCommandOutcome) → IsListOutcomeForGathered w told r o → IsListOutcomeForGathered w told r p → o ≡ p
outcome_for_gathered_is_unique l w told (Ok files) o p a b = outcome_for_policy_is_unique l w told (policy_or_load_fault files) o p a b
outcome_for_gathered_is_unique l w told (Err f) o p a b = a ∙ sym b

pub list_outcome_is_unique : ListUniquenessLaws → (w : ListWords) (root : List ℕ) (known : List NamedFile) (passwd group : List ℕ) (o p : ListCommandOutcome) → IsListOutcome w root known passwd group o
    → IsListOutcome w root known passwd group p → o ≡ p
list_outcome_is_unique l w root known passwd group o p a b = outcome_for_gathered_is_unique l w (people_read_result passwd group) (gathered_files_or_fault known root) o p a b
