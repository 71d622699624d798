-- Lists that are left to be written, and how many steps it takes.
use Rattle.sudoers_match_list.proofs.Common.{Bool, IsPendingPartInPlaceOfAliasMember, Kind, Line, List, Member, MemberRow, None, Option, PendingListPart, Some, Tables, [], alias_members_of_atom, ap, append-nil, append_assoc, arith}
use Rattle.sudoers_match_list.proofs.Common.{expansion_steps, expansion_steps_left, expansion_steps_of_member, expansion_steps_of_part, false, list_expanded_n_times, list_with_aliases_expanded_once, map}
use Rattle.sudoers_match_list.proofs.Common.{member_in_tables, member_or_alias_members, member_under_negation, members_left_to_write, expanded_members_of_part, refl, suc, sym, zero, ℕ, ◌++◌, ◌+◌, ◌<◌, ◌∙◌, ◌∷◌, ◌≡◌}
use Rattle.sudoers_match_list.proofs.Common.{◌≤◌}
use Rattle.std.proofs.lemmas.Grind.{flat_map-append}

pub members_not_negated_are_unchanged : (ms : List Member) → map (member_under_negation false) ms ≡ ms
members_not_negated_are_unchanged [] = refl
members_not_negated_are_unchanged (m ∷ ms) = ap (λ ns. m ∷ ns) (members_not_negated_are_unchanged ms)

member_takes_at_least_one_expansion_step : (inner : List Member → ℕ) (o : Option (List Member)) → 1 ≤ expansion_steps_of_member inner o
member_takes_at_least_one_expansion_step inner None = omega arith
member_takes_at_least_one_expansion_step inner (Some ms) = omega arith

module _ (k : Kind) (lines : List Line) where
  -- ---- what replacing comes to

  pub times_append : (n : ℕ) (xs ys : List Member) → list_expanded_n_times n k lines (xs ++ ys) ≡ list_expanded_n_times n k lines xs ++ list_expanded_n_times n k lines ys
  times_append zero xs ys = refl
  times_append (suc n) xs ys =
      ap (list_expanded_n_times n k lines) (flat_map-append (λ (m : Member). member_or_alias_members m (alias_members_of_atom k lines m.atom)) xs ys)
      ∙ times_append n (list_with_aliases_expanded_once k lines xs) (list_with_aliases_expanded_once k lines ys)

  pub times_empty : (n : ℕ) → list_expanded_n_times n k lines [] ≡ []
  times_empty zero = refl
  times_empty (suc n) = times_empty n

  pub times_plain : (n : ℕ) (m : Member) → alias_members_of_atom k lines m.atom ≡ None → list_expanded_n_times n k lines (m ∷ []) ≡ m ∷ []
  times_plain zero m e = refl
  times_plain (suc n) m e = ap (λ o. list_expanded_n_times n k lines (member_or_alias_members m o ++ [])) e ∙ times_plain n m e

  pub times_alias : (n : ℕ) (m : Member) (ms : List Member) → alias_members_of_atom k lines m.atom ≡ Some ms
      → list_expanded_n_times (suc n) k lines (m ∷ []) ≡ list_expanded_n_times n k lines (map (member_under_negation m.negated) ms)
  times_alias n m ms e = ap (λ o. list_expanded_n_times n k lines (member_or_alias_members m o ++ [])) e ∙ ap (list_expanded_n_times n k lines) (append-nil (map (member_under_negation m.negated) ms))

  -- ---- how many steps it takes

  pub steps_more : (n : ℕ) (m : Member) (ms : List Member) → expansion_steps n k lines (m ∷ ms) + 1 ≡ expansion_steps n k lines (m ∷ []) + expansion_steps n k lines ms
  steps_more zero m ms = omega arith
  steps_more (suc n) m ms = omega arith

  pub steps_one : (n : ℕ) (m : Member) → 2 ≤ expansion_steps n k lines (m ∷ [])
  steps_one zero m = omega arith
  steps_one (suc n) m = omega (arith, member_takes_at_least_one_expansion_step (expansion_steps n k lines) (alias_members_of_atom k lines m.atom))

  pub steps_none : (n : ℕ) → expansion_steps n k lines [] ≡ 1
  steps_none zero = refl
  steps_none (suc n) = refl

  pub steps_alias : (n : ℕ) (m : Member) (ms : List Member) → alias_members_of_atom k lines m.atom ≡ Some ms → expansion_steps (suc n) k lines (m ∷ []) ≡ expansion_steps n k lines ms + 2
  steps_alias n m ms e = let one = ap (λ o. expansion_steps_of_member (expansion_steps n k lines) o + 1) e in omega (arith, one)

  pub steps_turned : (n : ℕ) (negated : Bool) (m : Member) → expansion_steps n k lines (member_under_negation negated m ∷ []) ≡ expansion_steps n k lines (m ∷ [])
  steps_turned zero negated m = refl
  steps_turned (suc n) negated m = refl

  module _ (t : Tables) where
    -- ---- the last part comes first

    pub left_push : (ps : List PendingListPart) (p : PendingListPart) → members_left_to_write k lines t (ps ++ p ∷ []) ≡ expanded_members_of_part k lines t p ++ members_left_to_write k lines t ps
    left_push [] p = sym (append-nil (expanded_members_of_part k lines t p))
    left_push (q ∷ ps) p =
        ap (λ ms. ms ++ expanded_members_of_part k lines t q) (left_push ps p) ∙ append_assoc (expanded_members_of_part k lines t p) (members_left_to_write k lines t ps) (expanded_members_of_part k lines t q)

    pub steps_push : (ps : List PendingListPart) (p : PendingListPart) → expansion_steps_left k lines t (ps ++ p ∷ []) ≡ expansion_steps_of_part k lines t p + expansion_steps_left k lines t ps
    steps_push [] p = refl
    steps_push (q ∷ ps) p = let rest = steps_push ps p in omega (arith, rest)

    -- ---- an empty part

    pub none_written : (ps : List PendingListPart) (p : PendingListPart) → p.rows.now ≡ [] → members_left_to_write k lines t ps ≡ members_left_to_write k lines t (ps ++ p ∷ [])
    none_written ps p e =
        let empty = ap (λ rs. list_expanded_n_times p.times k lines (map (member_under_negation p.negated) (map (member_in_tables t) rs))) e ∙ times_empty p.times in
        sym (left_push ps p ∙ ap (λ ms. ms ++ members_left_to_write k lines t ps) empty)

    pub none_stepped : (ps : List PendingListPart) (p : PendingListPart) → p.rows.now ≡ [] → expansion_steps_left k lines t ps < expansion_steps_left k lines t (ps ++ p ∷ [])
    none_stepped ps p e =
        let one = ap (λ rs. expansion_steps p.times k lines (map (member_in_tables t) rs)) e ∙ steps_none p.times in
        let all = steps_push ps p in
        omega (arith, one, all)

    -- ---- a part with a member in front, and the same part without it

    module _ (ps : List PendingListPart) (p q : PendingListPart) (row : MemberRow) (rest : List MemberRow) (is : p.rows.now ≡ row ∷ rest) (others : q.rows.now ≡ rest)
        (negated : q.negated ≡ p.negated) (times : q.times ≡ p.times) where
      abbrev first : Member
      first = member_under_negation p.negated (member_in_tables t row)

      part_split : expanded_members_of_part k lines t p ≡ list_expanded_n_times p.times k lines (first ∷ []) ++ expanded_members_of_part k lines t q
      part_split =
          ap (λ rs. list_expanded_n_times p.times k lines (map (member_under_negation p.negated) (map (member_in_tables t) rs))) is
          ∙ times_append p.times (first ∷ []) (map (member_under_negation p.negated) (map (member_in_tables t) rest))
          ∙ ap (λ rs. list_expanded_n_times p.times k lines (first ∷ []) ++ list_expanded_n_times p.times k lines (map (member_under_negation p.negated) (map (member_in_tables t) rs))) (sym others)
          ∙ ap (λ b. list_expanded_n_times p.times k lines (first ∷ []) ++ list_expanded_n_times p.times k lines (map (member_under_negation b) (map (member_in_tables t) q.rows.now))) (sym negated)
          ∙ ap (λ n. list_expanded_n_times p.times k lines (first ∷ []) ++ list_expanded_n_times n k lines (map (member_under_negation q.negated) (map (member_in_tables t) q.rows.now))) (sym times)

      pub left_split : members_left_to_write k lines t (ps ++ p ∷ []) ≡ list_expanded_n_times p.times k lines (first ∷ []) ++ members_left_to_write k lines t (ps ++ q ∷ [])
      left_split =
          left_push ps p ∙ ap (λ ms. ms ++ members_left_to_write k lines t ps) part_split
          ∙ append_assoc (list_expanded_n_times p.times k lines (first ∷ [])) (expanded_members_of_part k lines t q) (members_left_to_write k lines t ps)
          ∙ ap (λ ms. list_expanded_n_times p.times k lines (first ∷ []) ++ ms) (sym (left_push ps q))

      pub steps_split : expansion_steps_left k lines t (ps ++ p ∷ []) + 1 ≡ expansion_steps p.times k lines (first ∷ []) + expansion_steps_left k lines t (ps ++ q ∷ [])
      steps_split =
          let whole = ap (λ rs. expansion_steps p.times k lines (map (member_in_tables t) rs)) is in
          let more = steps_more p.times (member_in_tables t row) (map (member_in_tables t) rest) in
          let part = ap (λ n. expansion_steps n k lines (map (member_in_tables t) q.rows.now)) times ∙ ap (λ rs. expansion_steps p.times k lines (map (member_in_tables t) rs)) others in
          let turned = steps_turned p.times p.negated (member_in_tables t row) in
          let one = steps_push ps p in
          let other = steps_push ps q in
          omega (arith, whole, more, part, turned, one, other)

      pub plain_stepped : expansion_steps_left k lines t (ps ++ q ∷ []) < expansion_steps_left k lines t (ps ++ p ∷ [])
      plain_stepped = let split = steps_split in let one = steps_one p.times first in omega (arith, split, one)

      -- the members of an alias in place of the member
      pub alias_written : (a : PendingListPart) → IsPendingPartInPlaceOfAliasMember k lines t p.times first a → members_left_to_write k lines t ((ps ++ q ∷ []) ++ a ∷ []) ≡ members_left_to_write k lines t (ps ++ p ∷ [])
      alias_written a replaces = left_push (ps ++ q ∷ []) a ∙ ap (λ ms. ms ++ members_left_to_write k lines t (ps ++ q ∷ [])) replaces.same ∙ sym left_split

      pub alias_stepped : (a : PendingListPart) → IsPendingPartInPlaceOfAliasMember k lines t p.times first a → expansion_steps_left k lines t ((ps ++ q ∷ []) ++ a ∷ []) < expansion_steps_left k lines t (ps ++ p ∷ [])
      alias_stepped a replaces =
          let split = steps_split in
          let push = steps_push (ps ++ q ∷ []) a in
          let fewer = replaces.fewer in
          omega (arith, split, push, fewer)
