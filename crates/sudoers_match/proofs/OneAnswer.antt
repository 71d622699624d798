-- A request has one answer.
use Rattle.sudoers_match.proofs.Common.{Answer, AreRowsPerFlatAtomOfCommand, AreRowsPerFlatAtomOfHostGroup, AreRowsPerFlatAtomOfPolicy, AreRowsPerFlatAtomOfSpec, Cmnd, HostGroup, IsAnswerToRequest, IsConcatenationOfParts, IsFlatListOf, IsLastItemWith, Kind}
use Rattle.sudoers_match.proofs.Common.{Line, List, Member, Option, PrivilegeRow, Request, RowFitsRequest, AccumulatedCommandSettings, SignedAtom, UserSpec, [], answer_of_fitting_row, ap, ap₂, commands_with_settings}
use Rattle.sudoers_match.proofs.Common.{empty_command_settings, map, option_map, privilege_row_of, subst, suc, sym, user_specs_of_lines, ℕ, ◌++◌, ◌∙◌, ◌∷◌, ◌≡◌}
use Rattle.sudoers_match.proofs.Lasts.{last_one}

pub concatenation_of_unique_parts_is_unique : {X Y : Type 0} (Part : ℕ → X → List Y → Type 0) → ((i : ℕ) (x : X) (ys zs : List Y) → Part i x ys → Part i x zs → ys ≡ zs)
    → (i : ℕ) (xs : List X) (ys zs : List Y) → IsConcatenationOfParts Part i xs ys → IsConcatenationOfParts Part i xs zs → ys ≡ zs
concatenation_of_unique_parts_is_unique Part each i [] ys zs a b = a ∙ sym b
concatenation_of_unique_parts_is_unique Part each i (x ∷ xs) ys zs a b =
    a.2 ∙ ap₂ (λ front back. front ++ back) (each i x a.0 b.0 a.3 b.3) (concatenation_of_unique_parts_is_unique Part each (suc i) xs a.1 b.1 a.4 b.4) ∙ sym b.2

-- what the law of flat lists says
abbrev pub FlatListIsUnique : Type 0
FlatListIsUnique = (k : Kind) (lines : List Line) (ms : List Member) (fs others : List SignedAtom) → IsFlatListOf k lines ms fs → IsFlatListOf k lines ms others → fs ≡ others

module _ (law : FlatListIsUnique) (lines : List Line) where
  command_one : (i j : ℕ) (users hosts : List Member) (k : ℕ) (c : AccumulatedCommandSettings × Member) (xs ys : List PrivilegeRow)
      → AreRowsPerFlatAtomOfCommand lines i j users hosts k c xs → AreRowsPerFlatAtomOfCommand lines i j users hosts k c ys → xs ≡ ys
  command_one i j users hosts k c xs ys a b =
      a.2 ∙ ap (map (privilege_row_of i j users hosts k c.0)) (law Cmnd lines (c.1 ∷ []) a.0 b.0 a.1 b.1) ∙ sym b.2

  group_one : (i : ℕ) (users : List Member) (j : ℕ) (g : HostGroup) (xs ys : List PrivilegeRow) → AreRowsPerFlatAtomOfHostGroup lines i users j g xs → AreRowsPerFlatAtomOfHostGroup lines i users j g ys → xs ≡ ys
  group_one i users j g xs ys a b = concatenation_of_unique_parts_is_unique (AreRowsPerFlatAtomOfCommand lines i j users g.hosts) (command_one i j users g.hosts) 0 (commands_with_settings empty_command_settings g.commands) xs ys a b

  spec_one : (i : ℕ) (s : UserSpec) (xs ys : List PrivilegeRow) → AreRowsPerFlatAtomOfSpec lines i s xs → AreRowsPerFlatAtomOfSpec lines i s ys → xs ≡ ys
  spec_one i s xs ys a b = concatenation_of_unique_parts_is_unique (AreRowsPerFlatAtomOfHostGroup lines i s.users) (group_one i s.users) 0 s.groups xs ys a b

  pub rows_one : (xs ys : List PrivilegeRow) → AreRowsPerFlatAtomOfPolicy lines xs → AreRowsPerFlatAtomOfPolicy lines ys → xs ≡ ys
  rows_one xs ys a b = concatenation_of_unique_parts_is_unique (AreRowsPerFlatAtomOfSpec lines) spec_one 0 (user_specs_of_lines lines) xs ys a b

pub answer_to_request_is_unique : FlatListIsUnique → (lines : List Line) (q : Request) (answer other : Option Answer) → IsAnswerToRequest lines q answer → IsAnswerToRequest lines q other → answer ≡ other
answer_to_request_is_unique law lines q answer other a b =
    let same = rows_one law lines a.rows b.rows a.are_rows b.are_rows in
    let last = last_one (RowFitsRequest lines q) b.rows a.answers.last b.answers.last (subst (λ (rows : List PrivilegeRow). IsLastItemWith (RowFitsRequest lines q) rows a.answers.last) same a.answers.is_last) b.answers.is_last in
    a.answers.says ∙ ap (option_map answer_of_fitting_row) last ∙ sym b.answers.says
