-- Lists whose aliases are replaced: how long they are.
use Rattle.sudoers_cvt_rewrite.proofs.Common.{Atom, Kind, Line, List, Member, None, Option, Some, [], alias_members_of_atom, arith, length, length-append, length-map, list_expanded_n_times}
use Rattle.sudoers_cvt_rewrite.proofs.Common.{list_with_aliases_expanded_once, member_or_alias_members, member_under_negation, refl, suc, zero, ℕ, ◌∷◌, ◌≡◌, ◌≤◌}

-- Each alias of this kind has a member.
abbrev pub AllAliasesHaveMembers : Kind → List Line → Type 0
AllAliasesHaveMembers k lines = (a : Atom) (ms : List Member) → alias_members_of_atom k lines a ≡ Some ms → 1 ≤ length ms

module _ (k : Kind) (lines : List Line) where
  module _ (have : AllAliasesHaveMembers k lines) where
    some_by : (m : Member) (o : Option (List Member)) → alias_members_of_atom k lines m.atom ≡ o → 1 ≤ length (member_or_alias_members m o)
    some_by m None e = omega arith
    some_by m (Some ms) e = let some = have m.atom ms e in omega (arith, some, length-map ms (member_under_negation m.negated))

    longer_once : (ms : List Member) → length ms ≤ length (list_with_aliases_expanded_once k lines ms)
    longer_once [] = omega arith
    longer_once (m ∷ ms) =
        let first = some_by m (alias_members_of_atom k lines m.atom) refl in
        let rest = longer_once ms in
        omega (arith, first, rest, length-append (member_or_alias_members m (alias_members_of_atom k lines m.atom)) (list_with_aliases_expanded_once k lines ms))

    pub longer : (n : ℕ) (ms : List Member) → length ms ≤ length (list_expanded_n_times n k lines ms)
    longer zero ms = omega arith
    longer (suc n) ms = let first = longer_once ms in let rest = longer n (list_with_aliases_expanded_once k lines ms) in omega (arith, first, rest)
