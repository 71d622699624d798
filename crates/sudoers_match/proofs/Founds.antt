-- What is found with an answer.
use Rattle.sudoers_match.proofs.Common.{HeadHeld, HoldsCommandSettings, HostGroup, HostGroupPlace, IfSome, HasMemberAndSettingsFromGroupAtPlace, HasMemberAndSettingsFromLines, HasMemberAndSettingsFromSpecAtNumber, Line, List, None, Option, AccumulatedCommandSettings}
use Rattle.sudoers_match.proofs.Common.{Some, UserSpec, answer_without_member_and_settings, answer_of_view, ap, commands_with_settings, empty_command_settings, answer_with_member_and_settings, member_of_view, option_map, option_or}
use Rattle.sudoers_match.proofs.Common.{spec_group_command_numbers_of_answer, refl, slice_get, specs_with_line_numbers, sym, ℕ, ◌∙◌, ◌≡◌}
use Rattle.sudoers_line_rows.specs.declared.view.Member.{Member as MemberHeld}
use Rattle.sudoers_match.specs.declared.answer_of_row.Answer.{Answer as AnswerHeld}
use Rattle.sudoers_match.specs.declared.answer_of_row.AnswerWithMemberAndSettings.{AnswerWithMemberAndSettings}
use Rattle.sudoers_match.specs.declared.answer_of_row.SpecGroupCommandNumbers.{SpecGroupCommandNumbers}

module _ {X : Type 0} (P : X → Type 0) where
  -- what holds of both holds of the one that is taken
  pub some_or : (a b : Option X) → IfSome a P → IfSome b P → IfSome (option_or a b) P
  some_or None b p q = q
  some_or (Some x) b p q = p

  pub some_then : (Q : X → Type 0) → ((x : X) → P x → Q x) → (o : Option X) → IfSome o P → IfSome o Q
  some_then Q next None p = tt
  some_then Q next (Some x) p = next x p

pub answer_of_found_command_is_answer : (line : ℕ) (head : HeadHeld) (member : MemberHeld) (answer : Option AnswerHeld)
    → option_map answer_without_member_and_settings (option_map (answer_with_member_and_settings line head member) answer) ≡ option_map answer_of_view answer
answer_of_found_command_is_answer line head member None = refl
answer_of_found_command_is_answer line head member (Some a) = refl

-- a command of a host group
pub answer_with_command_is_found_in_group : (line : ℕ) (at : HostGroupPlace) (group : HostGroup) (k : ℕ) (held : HeadHeld) (member : MemberHeld) (h : AccumulatedCommandSettings) → HoldsCommandSettings held h
    → slice_get (commands_with_settings empty_command_settings group.commands) k ≡ Some (h, member_of_view member) → (answer : Option AnswerHeld)
    → IfSome answer (λ a. spec_group_command_numbers_of_answer a ≡ record { spec = at.spec; host_group = at.host_group; command = k })
    → IfSome (option_map (answer_with_member_and_settings line held member) answer) (HasMemberAndSettingsFromGroupAtPlace line at group)
answer_with_command_is_found_in_group line at group k held member h is there None told = tt
answer_with_command_is_found_in_group line at group k held member h is there (Some a) told = record {
  line = refl;
  spec = ap (λ (p : SpecGroupCommandNumbers). p.spec) told;
  host_group = ap (λ (p : SpecGroupCommandNumbers). p.host_group) told;
  in_group = record {
    head = h;
    is_head = is;
    stands = ap (λ (p : SpecGroupCommandNumbers). slice_get (commands_with_settings empty_command_settings group.commands) p.command) told ∙ there;
  };
}

-- a host group of a user specification
pub answer_in_group_is_found_in_spec : (line i j : ℕ) (groups : List HostGroup) (group : HostGroup) → slice_get groups j ≡ Some group
    → (found : AnswerWithMemberAndSettings) → HasMemberAndSettingsFromGroupAtPlace line (record { spec = i; host_group = j }) group found → HasMemberAndSettingsFromSpecAtNumber line i groups found
answer_in_group_is_found_in_spec line i j groups group there found of = record {
  line = of.line;
  spec = of.spec;
  in_groups = record { group = group; stands = ap (slice_get groups) of.host_group ∙ there; in_group = of.in_group };
}

-- a user specification of a policy
pub answer_in_spec_is_found_in_lines : (lines : List Line) (line i : ℕ) (s : UserSpec) → slice_get (specs_with_line_numbers 0 lines) i ≡ Some (line, s)
    → (found : AnswerWithMemberAndSettings) → HasMemberAndSettingsFromSpecAtNumber line i s.groups found → HasMemberAndSettingsFromLines lines found
answer_in_spec_is_found_in_lines lines line i s there found of = record {
  spec = s;
  stands = ap (slice_get (specs_with_line_numbers 0 lines)) of.spec ∙ there ∙ ap (λ n. Some (n, s)) (sym of.line);
  in_groups = of.in_groups;
}
