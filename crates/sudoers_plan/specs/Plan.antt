-- What is wished of a policy, which policies meet it, and the edits that it wants.
use Rattle.std.specs.Prelude.{◌≡◌, ◌⊎◌, ℕ, ◌+◌, ◌-◌, codes, ◌==◌, ◌&&◌, Bool, true, false, not, List, [], ◌∷◌, ◌++◌, length, map, reverse, slice_get, Option, Some, None, Result, Ok, Err, IsSomeAnd, if◌then◌else◌}
use Rattle.std.specs.List.{list_any, AllByRecursion}
use Rattle.std.specs.Str.{bytes_eq}
use Rattle.sudoers_grammar.specs.declared.node.Kind.{Kind}
use Rattle.sudoers_grammar.specs.Node.{Member}
use Rattle.sudoers_line_rows.specs.Alike.{is_same_member}
use Rattle.sudoers_text.specs.Ended.{ends_in_lf}
use Rattle.sudoers_tree.specs.Definition.{members_of_alias_definition}
use Rattle.sudoers_tree.specs.Files.{lines_of_numbered_file, name_of_numbered_file}
use Rattle.sudoers_tree.specs.Load.{LoadedPolicy}
use Rattle.sudoers_tree.specs.Policy.{texts_of_lines}
use Rattle.sudoers_edit_script.specs.declared.edit.Edit.{Edit}
use Rattle.sudoers_edit_script.specs.declared.edit.Edit.TheVariants.{AddMember, DropMember, Insert, Delete, EndLine}
use Rattle.sudoers_edit.specs.declared.fault.EditFault.{EditFault}
use Rattle.sudoers_edit.specs.declared.fault.EditFault.TheVariants as edit
use Rattle.sudoers_edit.specs.Editing.{policy_or_first_refusal}
use Rattle.sudoers_plan.specs.declared.fault.PlanFault.{PlanFault}
use Rattle.sudoers_plan.specs.declared.fault.PlanFault.TheVariants.{BadMember, NoAlias, NoFile, BadLine, IncludeLine, NoAnchor, SeveralAnchors, Refused, NotMet, NoMemory}
use Rattle.sudoers_plan.specs.declared.wish.Wish.{Wish}
use Rattle.sudoers_plan.specs.declared.wish.Wish.TheVariants.{HasMember, LacksMember, HasLine, LacksLine, NoUser}
use Rattle.sudoers_plan.specs.declared.wish.LinePlace.{LinePlace}
use Rattle.sudoers_plan.specs.declared.wish.LinePlace.TheVariants.{End, After, Before}
use Rattle.sudoers_plan.specs.Numbers.{numbers_of_passing}
use Rattle.sudoers_plan.specs.User.{edits_to_lose_user, is_user_named_in_lines}
use Rattle.sudoers_plan.specs.GivenText.{member_of_text, is_member_listed, text_with_percents_quoted, is_text_of_one_line, is_line_of_text, is_text_of_include_line}

-- WHICH POLICIES MEET A WISH

-- the first of these numbers of files whose file has this name
abbrev pub first_number_of_file_named : List ℕ → LoadedPolicy → List ℕ → Option ℕ
first_number_of_file_named name policy [] = None
first_number_of_file_named name policy (f ∷ files) =
    if bytes_eq (name_of_numbered_file policy.files f) name then Some f else first_number_of_file_named name policy files

-- the number of the file on the walk that has this name
abbrev pub number_of_file_on_walk : List ℕ → LoadedPolicy → Option ℕ
number_of_file_on_walk name policy = first_number_of_file_named name policy policy.walk.on

abbrev pub line_texts_of_file : LoadedPolicy → ℕ → List (List ℕ)
line_texts_of_file policy f = texts_of_lines (lines_of_numbered_file policy.files f)

-- The text is one member, the walk defines the alias, and whether one of its members says the same is as `told`.
abbrev pub IsMemberListedAs : Bool → Kind → List ℕ → List ℕ → LoadedPolicy → Type 0
IsMemberListedAs told k alias text policy =
    IsSomeAnd (member_of_text k text) (λ member. IsSomeAnd (members_of_alias_definition k alias policy.walk.lines) (λ members.
    is_member_listed member members ≡ told))

-- The text is one line, the file is on the walk, and whether one of its lines is the text is as `told`.
abbrev pub IsLineThereAs : Bool → List ℕ → List ℕ → LoadedPolicy → Type 0
IsLineThereAs told name text policy =
    (is_text_of_one_line text ≡ true) × IsSomeAnd (number_of_file_on_walk name policy) (λ f. list_any (is_line_of_text text) (line_texts_of_file policy f) ≡ told)

-- The policy meets the wish.
abbrev pub MeetsWish : LoadedPolicy → Wish → Type 0
MeetsWish policy (HasMember k alias text) = IsMemberListedAs true k alias text policy
MeetsWish policy (LacksMember k alias text) = IsMemberListedAs false k alias text policy
MeetsWish policy (HasLine name text place) = IsLineThereAs true name text policy
MeetsWish policy (LacksLine name text even_includes) = IsLineThereAs false name text policy
MeetsWish policy (NoUser user even_denials) = is_user_named_in_lines user policy.walk.lines policy.walk.lines ≡ false

unfoldable pub MeetsAllWishes : LoadedPolicy → List Wish → Type 0
MeetsAllWishes policy wishes = AllByRecursion (MeetsWish policy) wishes

-- WHICH EDITS A WISH WANTS

-- what follows for what there is, or the fault
abbrev pub result_or_fault_if_none : {A B : Type 0} → Option A → PlanFault → (A → Result B PlanFault) → Result B PlanFault
result_or_fault_if_none None fault next = Err fault
result_or_fault_if_none (Some x) fault next = next x

-- what follows for what there is, or its fault
abbrev pub plan_result_and_then : {A B : Type 0} → Result A PlanFault → (A → Result B PlanFault) → Result B PlanFault
plan_result_and_then (Ok x) next = next x
plan_result_and_then (Err fault) next = Err fault

-- MEMBERS

-- what follows for the member that the text is, and the members of the alias
abbrev pub result_with_member_and_list : Kind → List ℕ → List ℕ → LoadedPolicy → (Member → List Member → Result (List Edit) PlanFault) → Result (List Edit) PlanFault
result_with_member_and_list k alias text policy next =
    result_or_fault_if_none (member_of_text k text) BadMember (λ member.
    result_or_fault_if_none (members_of_alias_definition k alias policy.walk.lines) NoAlias (next member))

-- A member that is not listed is put behind the last one.
abbrev pub edits_to_have_member : Kind → List ℕ → List ℕ → LoadedPolicy → Result (List Edit) PlanFault
edits_to_have_member k alias text policy =
    result_with_member_and_list k alias text policy (λ member members.
    Ok (if is_member_listed member members then [] else AddMember k alias (length members) (codes ", " ++ text_with_percents_quoted text) ∷ []))

-- Each member that says the same is taken out, the last first.
abbrev pub edits_to_lack_member : Kind → List ℕ → List ℕ → LoadedPolicy → Result (List Edit) PlanFault
edits_to_lack_member k alias text policy =
    result_with_member_and_list k alias text policy (λ member members.
    Ok (map (λ at. DropMember k alias at) (reverse (numbers_of_passing (is_same_member member) 0 members))))

-- LINES

-- what follows for the file and its lines, if the text is one line
abbrev pub result_with_file_lines : List ℕ → List ℕ → LoadedPolicy → (ℕ → List (List ℕ) → Result (List Edit) PlanFault) → Result (List Edit) PlanFault
result_with_file_lines name text policy next =
    result_or_fault_if_none (number_of_file_on_walk name policy) NoFile (λ f.
    if is_text_of_one_line text then next f (line_texts_of_file policy f) else Err BadLine)

-- the only number
abbrev pub only_anchor_number : List ℕ → Result ℕ PlanFault
only_anchor_number [] = Err NoAnchor
only_anchor_number (at ∷ []) = Ok at
only_anchor_number (at ∷ other ∷ more) = Err SeveralAnchors

-- the number of the line before which a new line goes
abbrev pub number_of_new_line : LinePlace → List (List ℕ) → Result ℕ PlanFault
number_of_new_line End lines = Ok (length lines)
number_of_new_line (After anchor) lines =
    plan_result_and_then (only_anchor_number (numbers_of_passing (is_line_of_text anchor) 0 lines)) (λ at. Ok (at + 1))
number_of_new_line (Before anchor) lines = only_anchor_number (numbers_of_passing (is_line_of_text anchor) 0 lines)

-- there is a line, and it does not end in LF
abbrev pub is_line_without_lf : Option (List ℕ) → Bool
is_line_without_lf None = false
is_line_without_lf (Some line) = not (ends_in_lf line)

-- The line is put there. Where it would stand behind a last line without LF, this one first gets its LF.
abbrev pub edits_putting_line : ℕ → ℕ → List ℕ → List (List ℕ) → List Edit
edits_putting_line f at text lines =
    (if (at == length lines) && is_line_without_lf (slice_get lines (length lines - 1)) then EndLine f ∷ [] else [])
    ++ Insert f at (text ++ 10 ∷ []) ∷ []

-- A line that is not there is put in its place.
abbrev pub edits_to_have_line : List ℕ → List ℕ → LinePlace → LoadedPolicy → Result (List Edit) PlanFault
edits_to_have_line name text place policy =
    result_with_file_lines name text policy (λ f lines.
    if list_any (is_line_of_text text) lines then Ok []
    else plan_result_and_then (number_of_new_line place lines) (λ at. Ok (edits_putting_line f at text lines)))

-- Each line that is the text is taken out, the last first.
abbrev pub edits_to_lack_line : List ℕ → List ℕ → Bool → LoadedPolicy → Result (List Edit) PlanFault
edits_to_lack_line name text even_includes policy =
    result_with_file_lines name text policy (λ f lines.
    if list_any (is_line_of_text text) lines && not even_includes && is_text_of_include_line text then Err IncludeLine
    else Ok (map (λ at. Delete f at) (reverse (numbers_of_passing (is_line_of_text text) 0 lines))))

-- the edits that the wish wants of the policy, or why it cannot be made true
unfoldable pub edits_wanted_by : Wish → LoadedPolicy → Result (List Edit) PlanFault
edits_wanted_by (HasMember k alias text) policy = edits_to_have_member k alias text policy
edits_wanted_by (LacksMember k alias text) policy = edits_to_lack_member k alias text policy
edits_wanted_by (HasLine name text place) policy = edits_to_have_line name text place policy
edits_wanted_by (LacksLine name text even_includes) policy = edits_to_lack_line name text even_includes policy
edits_wanted_by (NoUser user even_denials) policy = edits_to_lose_user user even_denials policy

-- PLANS

-- the refusal of an edit as the fault of a plan
abbrev pub plan_fault_of_refusal : EditFault → PlanFault
plan_fault_of_refusal edit.NoMemory = NoMemory
plan_fault_of_refusal fault = Refused fault

abbrev pub policy_or_plan_fault : Result LoadedPolicy (ℕ × EditFault) → Result LoadedPolicy PlanFault
policy_or_plan_fault (Ok policy) = Ok policy
policy_or_plan_fault (Err refused) = Err (plan_fault_of_refusal refused.1)

-- the policy after the edits, or why the first refused one is refused
abbrev pub policy_after_wanted_edits : List Edit → LoadedPolicy → Result LoadedPolicy PlanFault
policy_after_wanted_edits edits policy = policy_or_plan_fault (policy_or_first_refusal 0 edits policy)

-- the edits that the wish wants of the policy, and the policy after them
unfoldable pub planned_for_wish : Wish → LoadedPolicy → Result (List Edit × LoadedPolicy) PlanFault
planned_for_wish wish policy =
    plan_result_and_then (edits_wanted_by wish policy) (λ edits.
    plan_result_and_then (policy_after_wanted_edits edits policy) (λ new. Ok (edits, new)))

-- what follows for what there is, or its fault with the number of the wish
abbrev pub numbered_result_and_then : {A B : Type 0} → ℕ → Result A PlanFault → (A → Result B (ℕ × PlanFault)) → Result B (ℕ × PlanFault)
numbered_result_and_then n (Ok x) next = next x
numbered_result_and_then n (Err fault) next = Err (n, fault)

-- the edits of the wishes, numbered from n on, each wanted of the policy to which those before lead; and the policy after them. `before`
-- are the edits of the wishes before.
abbrev pub planned_for_wishes : ℕ → List Edit → List Wish → LoadedPolicy → Result (List Edit × LoadedPolicy) (ℕ × PlanFault)
planned_for_wishes n before [] policy = Ok (before, policy)
planned_for_wishes n before (wish ∷ wishes) policy =
    numbered_result_and_then n (planned_for_wish wish policy) (λ planned. planned_for_wishes (n + 1) (before ++ planned.0) wishes planned.1)

-- the wish wants no edit
abbrev pub is_nothing_wanted : Result (List Edit) PlanFault → Bool
is_nothing_wanted (Ok []) = true
is_nothing_wanted (Ok (edit ∷ edits)) = false
is_nothing_wanted (Err fault) = false

-- the number of the first of these wishes, numbered from n on, that wants an edit of the policy or cannot be made true
abbrev pub first_unmet_wish : ℕ → List Wish → LoadedPolicy → Option ℕ
first_unmet_wish n [] policy = None
first_unmet_wish n (wish ∷ wishes) policy =
    if is_nothing_wanted (edits_wanted_by wish policy) then first_unmet_wish (n + 1) wishes policy else Some n

abbrev pub edits_unless_unmet : List Edit → Option ℕ → Result (List Edit) (ℕ × PlanFault)
edits_unless_unmet edits None = Ok edits
edits_unless_unmet edits (Some n) = Err (n, NotMet)

abbrev pub edits_if_all_met : List Wish → Result (List Edit × LoadedPolicy) (ℕ × PlanFault) → Result (List Edit) (ℕ × PlanFault)
edits_if_all_met wishes (Ok planned) = edits_unless_unmet planned.0 (first_unmet_wish 0 wishes planned.1)
edits_if_all_met wishes (Err refused) = Err refused

-- the plan: the edits that make the wishes true, or the number of the first wish that cannot be made true, and why
unfoldable pub plan_of_wishes : List Wish → LoadedPolicy → Result (List Edit) (ℕ × PlanFault)
plan_of_wishes wishes policy = edits_if_all_met wishes (planned_for_wishes 0 [] wishes policy)

-- The edits are accepted, and lead to a policy that meets each wish.
pub record LeadsToAllWishes (edits : List Edit) (policy : LoadedPolicy) (wishes : List Wish) : Type 0 where
  pub new : LoadedPolicy
  pub leads : policy_or_first_refusal 0 edits policy ≡ Ok new
  pub meets : MeetsAllWishes new wishes

-- WHAT IS RETURNED

-- the fault is that of the definition, or memory ran out
abbrev pub IsFaultOrNoMemory : {A : Type 0} → PlanFault → Result A PlanFault → Type 0
IsFaultOrNoMemory fault wanted = (fault ≡ NoMemory) ⊎ (wanted ≡ Err fault)

-- what was returned is the definition's, unless memory ran out
abbrev pub IsOutcomeUnlessNoMemory : {A : Type 0} → Result A PlanFault → Result A PlanFault → Type 0
IsOutcomeUnlessNoMemory (Ok x) wanted = wanted ≡ Ok x
IsOutcomeUnlessNoMemory (Err fault) wanted = IsFaultOrNoMemory fault wanted
