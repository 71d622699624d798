-- A wish wants no edit exactly where it is met.
use Rattle.std.proofs.Common.{◌≡◌, ◌∙◌, ◌↔◌, ℕ, ◌+◌, Bool, true, false, not, List, [], ◌∷◌, ◌++◌, map, reverse, Option, Some, None, Result, Ok, Err, IsSomeAnd, refl, ap, if◌then◌else◌, ◌&&◌}
use Rattle.std.proofs.lemmas.List.{append-nil}
use Rattle.std.specs.List.{list_any}
use Rattle.sudoers_grammar.specs.Node.{Member}
use Rattle.sudoers_tree.specs.Load.{LoadedPolicy}
use Rattle.sudoers_edit_script.specs.declared.edit.Edit.{Edit}
use Rattle.sudoers_edit_script.specs.declared.edit.Edit.TheVariants.{DropMember, Delete}
use Rattle.sudoers_line_rows.specs.Alike.{is_same_member}
use Rattle.sudoers_tree.specs.Definition.{members_of_alias_definition}
use Rattle.sudoers_plan.specs.declared.fault.PlanFault.{PlanFault}
use Rattle.sudoers_plan.specs.declared.fault.PlanFault.TheVariants.{BadMember, NoAlias, NoFile, BadLine, IncludeLine}
use Rattle.sudoers_plan.specs.declared.wish.Wish.{Wish}
use Rattle.sudoers_plan.specs.declared.wish.Wish.TheVariants.{HasMember, LacksMember, HasLine, LacksLine, NoUser}
use Rattle.sudoers_plan.specs.GivenText.{is_line_of_text, is_member_listed, is_text_of_include_line, is_text_of_one_line, member_of_text}
use Rattle.sudoers_plan.specs.Numbers.{numbers_of_passing}
use Rattle.sudoers_plan.proofs.Numbers.{no_edit_of_numbers, none_passes}
use Rattle.sudoers_plan.proofs.UserMet.{nothing_wanted_of_user_if_not_named}
use Rattle.sudoers_plan.specs.Plan.{MeetsAllWishes, MeetsWish, edits_putting_line, edits_wanted_by, first_unmet_wish, is_nothing_wanted, line_texts_of_file, number_of_file_on_walk, number_of_new_line, plan_result_and_then, planned_for_wish, planned_for_wishes, policy_after_wanted_edits, numbered_result_and_then, result_or_fault_if_none}

abbrev ok : List Edit → Result (List Edit) PlanFault
ok edits = Ok edits

ok_is : (edits others : List Edit) → (ok edits ≡ ok others) ↔ (edits ≡ others)
ok_is edits others = ((λ h. cc), (λ h. ap ok h))

-- WISHES OF MEMBERS

members_wanted : (o : Option Member) (l : Option (List Member)) (told : Bool) (edits : Member → List Member → List Edit)
    → ((m : Member) (ms : List Member) → (edits m ms ≡ []) ↔ (is_member_listed m ms ≡ told))
    → (result_or_fault_if_none o BadMember (λ m. result_or_fault_if_none l NoAlias (λ ms. Ok (edits m ms))) ≡ Ok []) ↔ IsSomeAnd o (λ m. IsSomeAnd l (λ ms. is_member_listed m ms ≡ told))
members_wanted None l told edits one = ((λ h. absurd (cc)), (λ h. absurd h))
members_wanted (Some m) None told edits one = ((λ h. absurd (cc)), (λ h. absurd h))
members_wanted (Some m) (Some ms) told edits one = ((λ h. (one m ms).0 ((ok_is (edits m ms) []).0 h)), (λ h. ap ok ((one m ms).1 h)))

add_if_not : (b : Bool) (edit : Edit) → ((if b then [] else edit ∷ []) ≡ []) ↔ (b ≡ true)
add_if_not true edit = ((λ _. refl), (λ _. refl))
add_if_not false edit = ((λ h. absurd (cc)), (λ h. absurd (cc)))

-- WISHES OF LINES

lines_wanted : (o : Option ℕ) (whole told : Bool) (lines : ℕ → List (List ℕ)) (test : List ℕ → Bool) (next : ℕ → List (List ℕ) → Result (List Edit) PlanFault)
    → ((f : ℕ) → (next f (lines f) ≡ Ok []) ↔ (list_any test (lines f) ≡ told))
    → (result_or_fault_if_none o NoFile (λ f. if whole then next f (lines f) else Err BadLine) ≡ Ok []) ↔ ((whole ≡ true) × IsSomeAnd o (λ f. list_any test (lines f) ≡ told))
lines_wanted None whole told lines test next one = ((λ h. absurd (cc)), (λ h. absurd h.1))
lines_wanted (Some f) false told lines test next one = ((λ h. absurd (cc)), (λ h. absurd (cc)))
lines_wanted (Some f) true told lines test next one = ((λ h. (refl, (one f).0 h)), (λ h. (one f).1 h.1))

no_end : (edits : List Edit) (last : Edit) → edits ++ last ∷ [] ≡ [] → ⊥
no_end [] last h = cc
no_end (edit ∷ edits) last h = cc

puts_a_line : (f at : ℕ) (text : List ℕ) (lines : List (List ℕ)) → edits_putting_line f at text lines ≡ [] → ⊥
puts_a_line f at text lines h = no_end _ _ h

put_if_not : (b : Bool) (place : Result ℕ PlanFault) (edits : ℕ → List Edit) → ((at : ℕ) → edits at ≡ [] → ⊥)
    → ((if b then Ok [] else plan_result_and_then place (λ at. Ok (edits at))) ≡ Ok []) ↔ (b ≡ true)
put_if_not true place edits some = ((λ _. refl), (λ _. refl))
put_if_not false (Err fault) edits some = ((λ h. absurd (cc)), (λ h. absurd (cc)))
put_if_not false (Ok at) edits some = ((λ h. absurd (some at ((ok_is (edits at) []).0 h))), (λ h. absurd (cc)))

take_if_there : (any spared includes : Bool) (edits : List Edit) → ((edits ≡ []) ↔ (any ≡ false))
    → ((if any && spared && includes then Err IncludeLine else Ok edits) ≡ Ok []) ↔ (any ≡ false)
take_if_there false spared includes edits one = ((λ _. refl), (λ h. ap ok (one.1 h)))
take_if_there true true true edits one = ((λ h. absurd (cc)), (λ h. absurd (cc)))
take_if_there true true false edits one = ((λ h. one.0 ((ok_is edits []).0 h)), (λ h. absurd (cc)))
take_if_there true false includes edits one = ((λ h. one.0 ((ok_is edits []).0 h)), (λ h. absurd (cc)))

-- ALL WISHES

-- a wish wants no edit exactly where it is met
pub nothing_wanted_if_met : (wish : Wish) (policy : LoadedPolicy) → (edits_wanted_by wish policy ≡ Ok []) ↔ MeetsWish policy wish
unfolding edits_wanted_by
nothing_wanted_if_met (HasMember k alias text) policy =
    members_wanted (member_of_text k text) (members_of_alias_definition k alias policy.walk.lines) true _ (λ m ms. add_if_not (is_member_listed m ms) _)
nothing_wanted_if_met (LacksMember k alias text) policy =
    members_wanted (member_of_text k text) (members_of_alias_definition k alias policy.walk.lines) false _
    (λ m ms. (
      (λ h. (none_passes (is_same_member m) 0 ms).0 ((no_edit_of_numbers (λ at. DropMember k alias at) _).0 h)),
      (λ h. (no_edit_of_numbers (λ at. DropMember k alias at) _).1 ((none_passes (is_same_member m) 0 ms).1 h)),
    ))
nothing_wanted_if_met (HasLine name text place) policy =
    lines_wanted (number_of_file_on_walk name policy) (is_text_of_one_line text) true (line_texts_of_file policy) (is_line_of_text text)
    (λ f lines. if list_any (is_line_of_text text) lines then Ok [] else plan_result_and_then (number_of_new_line place lines) (λ at. Ok (edits_putting_line f at text lines)))
    (λ f. put_if_not (list_any (is_line_of_text text) (line_texts_of_file policy f)) (number_of_new_line place (line_texts_of_file policy f))
    (λ at. edits_putting_line f at text (line_texts_of_file policy f)) (λ at. puts_a_line f at text (line_texts_of_file policy f)))
nothing_wanted_if_met (LacksLine name text even_includes) policy =
    lines_wanted (number_of_file_on_walk name policy) (is_text_of_one_line text) false (line_texts_of_file policy) (is_line_of_text text)
    (λ f lines. if list_any (is_line_of_text text) lines && not even_includes && is_text_of_include_line text then Err IncludeLine
    else Ok (map (λ at. Delete f at) (reverse (numbers_of_passing (is_line_of_text text) 0 lines))))
    (λ f. take_if_there (list_any (is_line_of_text text) (line_texts_of_file policy f)) (not even_includes) (is_text_of_include_line text) _ (
      (λ h. (none_passes (is_line_of_text text) 0 (line_texts_of_file policy f)).0 ((no_edit_of_numbers (λ at. Delete f at) _).0 h)),
      (λ h. (no_edit_of_numbers (λ at. Delete f at) _).1 ((none_passes (is_line_of_text text) 0 (line_texts_of_file policy f)).1 h)),
    ))
nothing_wanted_if_met (NoUser user even_denials) policy = nothing_wanted_of_user_if_not_named user even_denials policy

nothing_is_ok : (r : Result (List Edit) PlanFault) → is_nothing_wanted r ≡ true → r ≡ Ok []
nothing_is_ok (Ok []) h = refl
nothing_is_ok (Ok (e ∷ es)) h = absurd (cc)
nothing_is_ok (Err fault) h = absurd (cc)

-- where no wish is found that is not met, the policy meets all
pub all_met_if_none_unmet : (n : ℕ) (wishes : List Wish) (policy : LoadedPolicy) → first_unmet_wish n wishes policy ≡ None → MeetsAllWishes policy wishes
unfolding MeetsAllWishes
all_met_if_none_unmet n [] policy h = tt
all_met_if_none_unmet n (wish ∷ wishes) policy h = by (is_nothing_wanted (edits_wanted_by wish policy)) refl (all_met_if_none_unmet (n + 1) wishes policy) h
  where
    by : (b : Bool) → is_nothing_wanted (edits_wanted_by wish policy) ≡ b → (first_unmet_wish (n + 1) wishes policy ≡ None → MeetsAllWishes policy wishes)
        → (if b then first_unmet_wish (n + 1) wishes policy else Some n) ≡ None → MeetsAllWishes policy (wish ∷ wishes)
    by true e rest h = ((nothing_wanted_if_met wish policy).0 (nothing_is_ok _ e), rest h)
    by false e rest h = absurd (cc)

-- a wish that is met plans nothing
nothing_planned_if_met : (wish : Wish) (policy : LoadedPolicy) → MeetsWish policy wish → planned_for_wish wish policy ≡ Ok ([], policy)
unfolding planned_for_wish
nothing_planned_if_met wish policy met = by (edits_wanted_by wish policy) ((nothing_wanted_if_met wish policy).1 met)
  where
    by : (r : Result (List Edit) PlanFault) → r ≡ Ok []
        → plan_result_and_then {B = List Edit × LoadedPolicy} r (λ edits. plan_result_and_then {B = List Edit × LoadedPolicy} (policy_after_wanted_edits edits policy) (λ new. Ok (edits, new)))
        ≡ Ok ([], policy)
    by (Ok []) e = refl
    by (Ok (edit ∷ edits)) e = absurd (cc)
    by (Err fault) e = absurd (cc)

-- wishes that are met plan nothing more than those before
pub nothing_planned_if_all_met : (n : ℕ) (before : List Edit) (wishes : List Wish) (policy : LoadedPolicy) → MeetsAllWishes policy wishes
    → planned_for_wishes n before wishes policy ≡ Ok (before, policy)
unfolding MeetsAllWishes
nothing_planned_if_all_met n before [] policy met = refl
nothing_planned_if_all_met n before (wish ∷ wishes) policy met =
    ap (λ r. numbered_result_and_then n r (λ planned. planned_for_wishes (n + 1) (before ++ planned.0) wishes planned.1)) (nothing_planned_if_met wish policy met.0)
    ∙ ap (λ es. planned_for_wishes (n + 1) es wishes policy) (append-nil before)
    ∙ nothing_planned_if_all_met (n + 1) before wishes policy met.1

-- no wish that is met is found not to be
pub none_unmet_if_all_met : (n : ℕ) (wishes : List Wish) (policy : LoadedPolicy) → MeetsAllWishes policy wishes → first_unmet_wish n wishes policy ≡ None
unfolding MeetsAllWishes
none_unmet_if_all_met n [] policy met = refl
none_unmet_if_all_met n (wish ∷ wishes) policy met =
    ap (λ r. if is_nothing_wanted r then first_unmet_wish (n + 1) wishes policy else Some n) ((nothing_wanted_if_met wish policy).1 met.0)
    ∙ none_unmet_if_all_met (n + 1) wishes policy met.1
