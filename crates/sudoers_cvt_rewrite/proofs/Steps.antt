-- Steps of loops that write rows.
use Rattle.sudoers_cvt_rewrite.proofs.Common.{AreTablesAlikeButLists, Bool, CmdSpec, Cmnd, CommandRow, CvtFault, HostGroup, IsTooManyMembersOrNoMemoryFault, Line, List, MemberRow, Option, Tables, [], ap}
use Rattle.sudoers_cvt_rewrite.proofs.Common.{arith, at_drop_all, at_drop_more, commands_of_command_expanded_if, command_in_tables, commands_for_each_member, commands_and_effective_runas_member_count, drop, expanded_member_limit, get_or}
use Rattle.sudoers_cvt_rewrite.proofs.Common.{host_group_member_count, host_groups_member_count, inl, inr, length, list_expanded_if, map, member_in_tables, optional_runas_in_tables, options_of_range_in_tables}
use Rattle.sudoers_cvt_rewrite.proofs.Common.{refl, runas_member_count_or_inherited, runas_spec_expanded_if, sym, tags_of_range_in_tables, true, ℕ, ◌++◌, ◌+◌, ◌<◌, ◌∙◌, ◌∷◌, ◌≡◌, ◌≤◌}
use Rattle.std.specs.Option.{option_map}
use Rattle.sudoers_line_rows.specs.declared.rows.RunasRow.{RunasRow}
use Rattle.sudoers_cvt_rewrite.proofs.Extending.{members_like, options_like, tags_like}

-- ---- counts

pub refusal_depends_on_count_if_expanding : (expand : Bool) (n m : ℕ) (fault : CvtFault) → IsTooManyMembersOrNoMemoryFault expand n fault → (expand ≡ true → n ≡ m) → IsTooManyMembersOrNoMemoryFault expand m fault
refusal_depends_on_count_if_expanding expand n m fault (inl e) same = inl e
refusal_depends_on_count_if_expanding expand n m fault (inr (e, is, less)) same = let s = same is in inr (e, is, omega arith)

module _ (t : Tables) (row : CommandRow) (ms : List MemberRow) (more : List CmdSpec) where
  abbrev runas : ℕ → ℕ
  runas before = runas_member_count_or_inherited before (optional_runas_in_tables t row.runas)

  abbrev left : ℕ → ℕ → ℕ
  left before i = commands_and_effective_runas_member_count before (commands_for_each_member t row (drop i ms) ++ more)

  one_left : (i : ℕ) (d : MemberRow) (before : ℕ) → i < length ms → left before i ≡ 1 + runas before + left (runas before) (i + 1)
  one_left i d before h = at_drop_more (λ xs. commands_and_effective_runas_member_count before (commands_for_each_member t row xs ++ more)) ms i d h

  pub one_counted : (i : ℕ) (d : MemberRow) (count before total new after : ℕ) → i < length ms → count + left before i ≡ total
      → after ≡ runas before → new ≡ count + (1 + runas before) → new + left after (i + 1) ≡ total
  one_counted i d count before total new after h is e f =
      let one = one_left i d before h in
      let same : left after (i + 1) ≡ left (runas before) (i + 1) = ap (λ b. left b (i + 1)) e in
      omega (arith, one, same, is, f)

  pub one_refused : (i : ℕ) (d : MemberRow) (count before total : ℕ) → i < length ms → count + left before i ≡ total
      → expanded_member_limit < count + (1 + runas before) → expanded_member_limit < total
  one_refused i d count before total h is less =
      let one = one_left i d before h in
      omega (arith, one, is, less)

  pub all_counted : (i count before total : ℕ) → length ms ≤ i → count + left before i ≡ total → count + commands_and_effective_runas_member_count before more ≡ total
  all_counted i count before total h is =
      let done : left before i ≡ commands_and_effective_runas_member_count before more = at_drop_all (λ xs. commands_and_effective_runas_member_count before (commands_for_each_member t row xs ++ more)) ms i h in
      omega (arith, done, is)

-- ---- a command with another Runas_Spec

pub commands_per_member_are_expanded_command : (base u : Tables) → AreTablesAlikeButLists base u → (expand : Bool) (lines : List Line) (row : CommandRow) (runas : Option RunasRow) (ms : List MemberRow)
    → optional_runas_in_tables u runas ≡ option_map (runas_spec_expanded_if expand lines) (optional_runas_in_tables base row.runas)
    → map (member_in_tables base) ms ≡ list_expanded_if expand Cmnd lines (member_in_tables base row.member ∷ [])
    → commands_for_each_member u (record { runas = runas; options = row.options; tags = row.tags; member = row.member }) ms ≡ commands_of_command_expanded_if expand lines (command_in_tables base row)
commands_per_member_are_expanded_command base u like expand lines row runas ms e f =
    let options : options_of_range_in_tables u row.options ≡ options_of_range_in_tables base row.options = options_like base u like row.options in
    let tags : tags_of_range_in_tables u row.tags ≡ tags_of_range_in_tables base row.tags = tags_like base u like row.tags in
    let members : map (member_in_tables u) ms ≡ list_expanded_if expand Cmnd lines (member_in_tables base row.member ∷ []) = members_like base u like ms ∙ f in
    λ i. map (λ m. record { runas = e i; options = options i; tags = tags i; member = m }) (members i)

-- ---- host groups

module _ {R : Type 0} (view : R → HostGroup) (written : HostGroup → HostGroup) (rows : List R) where
  abbrev seen_left : List R → List HostGroup
  seen_left rs = map written (map view rs)

  pub seen_next : (i : ℕ) (d : R) (g new : HostGroup) → i < length rows → g ≡ view (get_or rows i d) → new ≡ written g
      → seen_left (drop i rows) ≡ new ∷ seen_left (drop (i + 1) rows)
  seen_next i d g new h e f = at_drop_more seen_left rows i d h ∙ ap (λ x. x ∷ seen_left (drop (i + 1) rows)) (ap written (sym e) ∙ sym f)

  pub seen_counted : (i : ℕ) (d : R) (g : HostGroup) (count new total : ℕ) → i < length rows → g ≡ view (get_or rows i d)
      → new ≡ count + host_group_member_count (written g) → count + host_groups_member_count (seen_left (drop i rows)) ≡ total
      → new + host_groups_member_count (seen_left (drop (i + 1) rows)) ≡ total
  seen_counted i d g count new total h e f is =
      let at : host_groups_member_count (seen_left (drop i rows)) ≡ host_group_member_count (written g) + host_groups_member_count (seen_left (drop (i + 1) rows)) = ap host_groups_member_count (seen_next i d g (written g) h e refl) in
      omega (arith, at, f, is)
