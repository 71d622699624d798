-- The rows of a policy with its aliases replaced.
use Rattle.laws_program.proofs.Common.{◌≡◌, inl, inr, ℕ, suc, List, [], ◌∷◌, ◌++◌, map, Option, None, refl, sym, ap, subst, ◌∙◌, AllByRecursion, flat_map, User}
use Rattle.laws_program.proofs.Common.{Host, Cmnd, CmdSpec, Member, RunasSpec, Line, AreWalkLinesWithoutNul, ListHasElement, alias_members_of_atom, SignedAtom, signed_atom_of_member, none, one, fully_expanded_list, IsPointwiseRelated}
use Rattle.laws_program.proofs.Common.{HaveSameFlatListAfterRewrite, AreRunasSpecsAlike, AreTwoRowsAlikeButSpecNumbers, AccumulatedCommandSettings, settings_after_command, PrivilegeRow, privilege_row_of, AreRowsPerFlatAtomOfCommand, expanded_runas_spec, command_with_runas_and_member}
use Rattle.laws_program.proofs.Common.{commands_of_expanded_command}
use Rattle.std.specs.Option.{option_map}
use Rattle.sudoers_match.specs.Heads.{commands_with_settings}
use Rattle.sudoers_match.specs.Specs.{IsConcatenationOfParts}
use Rattle.sudoers_match.specs.internal.Straight.{CommandLeadsToNoCycle}
use Rattle.laws_program.proofs.HeadsAlike.{equal_final_options_give_equal_lists, equal_final_tags_give_equal_lists}
use Rattle.sudoers_match_list.specs.Alike.{unchanged_atom}
use Rattle.laws_program.proofs.Flattened.{LawsOfFlatLists, KeepsUndefinedAliases, none_defined, still_some, runas_alike}
use Rattle.laws_program.proofs.ExpandedHeads.{AreCommandSettingsExpandedAlike, first_head, next_head}

-- Two rows say the same, the second in the policy with its aliases replaced.
abbrev pub AreRowsAlikeAfterExpansion : List Line → List Line → PrivilegeRow → PrivilegeRow → Type 0
AreRowsAlikeAfterExpansion lines others = AreTwoRowsAlikeButSpecNumbers unchanged_atom lines others

module _ (lines others : List Line) (i j : ℕ) (users hosts : List Member)
    (same_users : HaveSameFlatListAfterRewrite unchanged_atom User lines others users (fully_expanded_list User lines users))
    (same_hosts : HaveSameFlatListAfterRewrite unchanged_atom Host lines others hosts (fully_expanded_list Host lines hosts)) where
  abbrev old_row : ℕ → AccumulatedCommandSettings → SignedAtom → PrivilegeRow
  old_row k h s = privilege_row_of i j users hosts k h s

  abbrev new_row : ℕ → AccumulatedCommandSettings → SignedAtom → PrivilegeRow
  new_row n g s = privilege_row_of i j (fully_expanded_list User lines users) (fully_expanded_list Host lines hosts) n g s

  abbrev NewRows : ℕ → List (AccumulatedCommandSettings × Member) → List PrivilegeRow → Type 0
  NewRows n cs rows = IsConcatenationOfParts (AreRowsPerFlatAtomOfCommand others i j (fully_expanded_list User lines users) (fully_expanded_list Host lines hosts)) n cs rows

  -- These rows have their likes among those of the commands.
  abbrev HaveLikes : List PrivilegeRow → ℕ → List (AccumulatedCommandSettings × Member) → Type 0
  HaveLikes rows n cs = (likes : List PrivilegeRow) × NewRows n cs likes × IsPointwiseRelated (AreRowsAlikeAfterExpansion lines others) rows likes

  row_alike : (k n : ℕ) (h g : AccumulatedCommandSettings) → AreCommandSettingsExpandedAlike lines others h g → (m : Member) → AreRowsAlikeAfterExpansion lines others (old_row k h (signed_atom_of_member m)) (new_row n g (signed_atom_of_member m))
  row_alike k n h g same m = record {
    users = same_users;
    hosts = same_hosts;
    runas = same.runas;
    options = equal_final_options_give_equal_lists h.options g.options same.options;
    tags = equal_final_tags_give_equal_lists h.tags g.tags same.tags;
    atom = refl;
  }

  abbrev IsUndefined : Member → Type 0
  IsUndefined m = alias_members_of_atom Cmnd others m.atom ≡ None

  module _ (k : ℕ) (h : AccumulatedCommandSettings) (c : CmdSpec) (r : Option RunasSpec) (same : AreRunasSpecsAlike unchanged_atom lines others c.runas r)
      (ds : List CmdSpec) (more : List PrivilegeRow) (behind : (g : AccumulatedCommandSettings) (n : ℕ) → AreCommandSettingsExpandedAlike lines others (settings_after_command h c) g → HaveLikes more n (commands_with_settings g ds)) where
    abbrev OfMembers : List Member → AccumulatedCommandSettings → ℕ → Type 0
    OfMembers ms g n = HaveLikes (map (old_row k (settings_after_command h c)) (map signed_atom_of_member ms) ++ more) n (commands_with_settings g (map (command_with_runas_and_member r c) ms ++ ds))

    -- one member, and those behind it
    one_more : (m : Member) (ms : List Member) → IsUndefined m → (g : AccumulatedCommandSettings) (n : ℕ) → AreCommandSettingsExpandedAlike lines others (settings_after_command h c) (settings_after_command g (command_with_runas_and_member r c m))
        → OfMembers ms (settings_after_command g (command_with_runas_and_member r c m)) (suc n) → OfMembers (m ∷ ms) g n
    one_more m ms undefined g n head rest =
        let row = new_row n (settings_after_command g (command_with_runas_and_member r c m)) (signed_atom_of_member m) in (
          row ∷ rest.0,
          (row ∷ [], rest.0, refl, (signed_atom_of_member m ∷ [], one m [] [] undefined none, refl), rest.1),
          (row_alike k n (settings_after_command h c) (settings_after_command g (command_with_runas_and_member r c m)) head m, rest.2),
        )

    next_members : (ms : List Member) → AllByRecursion IsUndefined ms → (g : AccumulatedCommandSettings) (n : ℕ) → AreCommandSettingsExpandedAlike lines others (settings_after_command h c) g → OfMembers ms g n
    next_members [] all g n head = behind g n head
    next_members (m ∷ ms) all g n head =
        let next = next_head lines others h c r same g m head in
        one_more m ms all.0 g n next (next_members ms all.1 (settings_after_command g (command_with_runas_and_member r c m)) (suc n) next)

    -- The members that stand for a command have the rows of the command.
    pub all_members : (ms : List Member) → AllByRecursion IsUndefined ms → (m : Member) (rest : List Member) → ms ≡ m ∷ rest → (g : AccumulatedCommandSettings) (n : ℕ)
        → AreCommandSettingsExpandedAlike lines others h g → OfMembers ms g n
    all_members [] all m rest e g n head = absurd cc
    all_members (x ∷ ms) all m rest e g n head =
        let first = first_head lines others h c r same g x head in
        one_more x ms all.0 g n first (next_members ms all.1 (settings_after_command g (command_with_runas_and_member r c x)) (suc n) first)

  module _ (laws : LawsOfFlatLists) (policy : AreWalkLinesWithoutNul lines) (keep : KeepsUndefinedAliases lines others) where
    -- Each row of the commands of a list has its like.
    pub commands_alike : (cs : List CmdSpec) → ((c : CmdSpec) → ListHasElement cs c → CommandLeadsToNoCycle lines c) → (h g : AccumulatedCommandSettings) (k n : ℕ) → AreCommandSettingsExpandedAlike lines others h g
        → (rows : List PrivilegeRow) → IsConcatenationOfParts (AreRowsPerFlatAtomOfCommand lines i j users hosts) k (commands_with_settings h cs) rows → HaveLikes rows n (commands_with_settings g (flat_map (commands_of_expanded_command lines) cs))
    commands_alike [] straight h g k n head rows are = ([], refl, subst (λ xs. IsPointwiseRelated (AreRowsAlikeAfterExpansion lines others) xs []) (sym are) tt)
    commands_alike (c ∷ cs) straight h g k n head rows are =
        let is = straight c (inl refl) in
        let flat = are.3 in
        let some = still_some lines policy Cmnd c.member [] in
        let made = are.2 ∙ ap (λ ys. ys ++ are.1) (flat.2 ∙ ap (map (old_row k (settings_after_command h c))) (laws.is Cmnd lines policy.walk (c.member ∷ []) flat.0 flat.1)) in
        subst (λ xs. HaveLikes xs n (commands_with_settings g (flat_map (commands_of_expanded_command lines) (c ∷ cs)))) (sym made)
        (all_members k h c (option_map (expanded_runas_spec lines) c.runas) (runas_alike laws lines others policy keep c.runas is.runas)
        (flat_map (commands_of_expanded_command lines) cs) are.1
        (λ next m same. commands_alike cs (λ d there. straight d (inr there)) (settings_after_command h c) next (suc k) m same are.1 are.4)
        (fully_expanded_list Cmnd lines (c.member ∷ [])) (none_defined laws lines others policy keep Cmnd (c.member ∷ []) flat.0 flat.1) some.0 some.1 some.2 g n head)
