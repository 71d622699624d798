-- Questions that have no answer.
use Rattle.std.proofs.Common.{◌≡◌, ◌⊎◌, ◌<◌, inl, inr, IfErr, List, ℕ, length, Ok, Err, Result, ap, refl, subst, sym, ◌∙◌}
use Rattle.std.specs.Result.{IsErrAnd}
use Rattle.sudoers_tree.specs.Line.{Line}
use Rattle.sudoers_check.specs.Chains.{HasCyclicAliasReachedFromSpecOrDefaults}
use Rattle.sudoers_match_member.specs.declared.people_and_commands.Who.{Who as WhoOf}
use Rattle.sudoers_match_member.specs.declared.request.Request.{Request}
use Rattle.sudoers_match_list.specs.declared.verdict.AskFault.{AskFault}
use Rattle.sudoers_match_list.specs.declared.verdict.AskFault.TheVariants.{Cycle, NoMemory, TooLong}
use Rattle.sudoers_match.specs.Answer.{joined_arguments_limit, words_joined_with_spaces}
use Rattle.sudoers_match.specs.Default.{IsRunasDefault}
use Rattle.sudoers_list_people.specs.declared.fault.WhoFault.{WhoFault}
use Rattle.sudoers_list_people.specs.declared.fault.WhoFault.TheVariants as who
use Rattle.sudoers_list_people.specs.People.{People}
use Rattle.sudoers_list_people.specs.Person.{who_or_who_fault}
use Rattle.sudoers_list_people.specs.Asked.{request_or_who_fault}
use Rattle.sudoers_ask.specs.declared.question.CommandQuestion.{CommandQuestion}
use Rattle.sudoers_ask.specs.declared.question.QuestionFault.{QuestionFault}
use Rattle.sudoers_ask.specs.declared.question.QuestionFault.TheVariants.{Ask, Who}
use Rattle.sudoers_ask.specs.Outcome.{IsMemoryFault, IsOutcomeOfRequest, IsOutcomeOfWhoOrFault, IsUserOutcome, IsUserRequest, optional_name_of_view, target_name}

module _ (lines : List Line) (people : People) (q : CommandQuestion) (user : List ℕ) where
  pub who_refused : (fault : WhoFault) → (fault ≡ who.NoMemory) ⊎ (who_or_who_fault people user q.host.now q.interfaces.now ≡ Err fault)
      → IsMemoryFault (Who fault) ⊎ IsUserOutcome lines people q user (Err (Who fault))
  who_refused fault (inl e) = inl (inr (ap Who e))
  who_refused fault (inr told) = inr (subst (λ (w : Result WhoOf WhoFault). IsOutcomeOfWhoOrFault lines people q user w (Err (Who fault))) (sym told) refl)

  pub request_refused : (asks : WhoOf) → who_or_who_fault people user q.host.now q.interfaces.now ≡ Ok asks → (default : List ℕ) → IsRunasDefault lines asks default
      → (target : List ℕ) → target ≡ target_name (optional_name_of_view q.target) (optional_name_of_view q.group) user default → (fault : WhoFault)
      → (fault ≡ who.NoMemory) ⊎ (request_or_who_fault people asks target (optional_name_of_view q.group) q.words.now q.moment.now ≡ Err fault)
      → IsMemoryFault (Who fault) ⊎ IsUserOutcome lines people q user (Err (Who fault))
  request_refused asks is default is_default target named fault (inl e) = inl (inr (ap Who e))
  request_refused asks is default is_default target named fault (inr told) = inr
      (subst (λ (w : Result WhoOf WhoFault). IsOutcomeOfWhoOrFault lines people q user w (Err (Who fault))) (sym is)
      (record {
        default = default;
        is_default = is_default;
        asked = subst (λ (asked : Result Request WhoFault). IsOutcomeOfRequest lines q default asked (Err (Who fault)))
            (sym told ∙ ap (λ t. request_or_who_fault people asks t (optional_name_of_view q.group) q.words.now q.moment.now) named) refl;
      }))

  pub answer_refused : (r : Request) (default : List ℕ) → IsUserRequest lines people q user r default → (fault : AskFault)
      → (fault ≡ NoMemory) ⊎ ((fault ≡ TooLong) × (joined_arguments_limit < length (words_joined_with_spaces r.args)))
      → IsMemoryFault (Ask fault) ⊎ IsUserOutcome lines people q user (Err (Ask fault))
  answer_refused r default u fault (inl e) = inl (inl (ap Ask e))
  answer_refused r default u fault (inr is) = inr
      (subst (λ (w : Result WhoOf WhoFault). IsOutcomeOfWhoOrFault lines people q user w (Err (Ask fault))) (sym u.who)
      (record {
        default = default;
        is_default = u.is_default;
        asked = subst (λ (asked : Result Request WhoFault). IsOutcomeOfRequest lines q default asked (Err (Ask fault))) (sym u.asks) (ap Ask is.0, is.1);
      }))

-- a policy of which a reachable alias is cyclic
pub cycle_refused : (P : Type 0) (lines walk : List Line) → walk ≡ lines → (fault : AskFault)
    → (fault ≡ NoMemory) ⊎ ((fault ≡ Cycle) × HasCyclicAliasReachedFromSpecOrDefaults walk)
    → IsMemoryFault (Ask fault) ⊎ (((Ask fault ≡ Ask Cycle) × HasCyclicAliasReachedFromSpecOrDefaults lines) ⊎ P)
cycle_refused P lines walk same fault (inl e) = inl (inl (ap Ask e))
cycle_refused P lines walk same fault (inr is) = inr (inl (ap Ask is.0, subst HasCyclicAliasReachedFromSpecOrDefaults same is.1))

-- want of memory
pub memory_refused : {X : Type 0} (P : QuestionFault → Type 0) (result : Result X QuestionFault) → IsErrAnd result (λ (fault : QuestionFault). fault ≡ Ask NoMemory)
    → ((fault : QuestionFault) → IsMemoryFault fault → P fault) → IfErr result P
memory_refused P (Ok x) is next = tt
memory_refused P (Err fault) is next = next fault (inl is)
