-- Lists that could be turned where the rules of a user are listed, list after list.
use Rattle.std.proofs.Common.{◌≡◌, ◌⊎◌, inl, inr, ◌+◌, ◌≤◌, not, true, false, ℕ, Bool, List, [], ◌∷◌, ◌++◌, take, length, get_or, slice_get, Some, Bor, refl, sym, ap, subst, ◌∙◌}
use Rattle.std.proofs.lemmas.List.{take_all, take_more}
use Rattle.std.proofs.lemmas.Option.{slice_get-get_or, slice_get_within}
use Rattle.sudoers_grammar.specs.declared.node.Atom.{Atom}
use Rattle.sudoers_grammar.specs.declared.node.Kind.{Kind}
use Rattle.sudoers_grammar.specs.declared.node.Kind.TheVariants.{User, Host}
use Rattle.sudoers_line_rows.specs.declared.row_lists.RowsOfTable.{RowsOfTable}
use Rattle.sudoers_line_rows.specs.declared.rows.MemberRow.{MemberRow}
use Rattle.sudoers_line_rows.specs.View.{members_of_view}
use Rattle.sudoers_tree.specs.Line.{Line}
use Rattle.sudoers_check.specs.Chain.{ListHasElement}
use Rattle.sudoers_check.proofs.Lists.{Has_front, Has_push, Has_pushed}
use Rattle.sudoers_match_member.specs.declared.request.Request.{Request}
use Rattle.sudoers_match_member.specs.declared.people_and_commands.Person.{Person}
use Rattle.sudoers_match_member.specs.declared.people_and_commands.Who.{Who}
use Rattle.sudoers_match_member.specs.Hits.{is_host_atom_match, is_user_atom_match}
use Rattle.sudoers_match_list.specs.Flat.{SignedAtom}
use Rattle.sudoers_match.specs.Allows.{ListAllows}
use Rattle.sudoers_match.specs.Specs.{UserSpec}
use Rattle.sudoers_undecided.specs.declared.decided_aliases.DecidedAliases.{DecidedAliases}
use Rattle.sudoers_undecided.specs.declared.decided_aliases.PartStanding.{PartStanding}
use Rattle.sudoers_undecided.specs.declared.member_question.MemberQuestion.TheVariants as question
use Rattle.sudoers_undecided.specs.declared.wanted_members.CountedList.{CountedList}
use Rattle.sudoers_undecided.specs.ListSway.{is_bare_and_undecided}
use Rattle.sudoers_undecided.specs.MatchTests.{match_tests_of_request, undecided_by_files_or_paths}
use Rattle.sudoers_undecided.specs.MemberQuestions.{is_host_atom_undecided}
use Rattle.sudoers_undecided.specs.TurningMembers.{CouldTurnList}
use Rattle.sudoers_undecided.specs.internal.Counted.{AreHostAliases, AreUserAliases, IsPartStanding, counted_list}
use Rattle.sudoers_undecided.specs.internal.Decided.{DecidesAllAliases}
use Rattle.sudoers_undecided.specs.internal.Rights.{AddsListsOfGroups, AddsTurningAtoms, CouldTurnHostsOfGroup, CouldTurnHostsOfSpec, CouldTurnOneOf}
use Rattle.sudoers_undecided.specs.internal.Wanted.{AreFlat, HasFlatList, IsWantedOfList, IsWantedOfLists, wanted_of_sign}
use Rattle.sudoers_undecided.proofs.Standings.{aliases_decided_by}

-- ---- the first things of a list

taken_one_more : {X : Type 0} (xs : List X) (i : ℕ) (x : X) → slice_get xs i ≡ Some x → take (i + 1) xs ≡ take i xs ++ x ∷ []
taken_one_more xs i x at =
    let within = slice_get_within xs i x at in
    let same : get_or xs i x ≡ x = let two : Some (get_or xs i x) ≡ Some x = sym (slice_get-get_or xs i x within) ∙ at in cc in
    take_more xs i x within ∙ ap (λ y. take i xs ++ y ∷ []) same

module _ (k : Kind) (lines : List Line) (undecided test : Atom → Bool) where
  abbrev Adds : (SignedAtom → Type 0) → List CountedList → List CountedList → Type 0
  Adds Turns old new = AddsTurningAtoms k lines undecided test Turns old new

  abbrev IsWanted : List CountedList → SignedAtom → Type 0
  IsWanted lists s = IsWantedOfLists k lines (is_bare_and_undecided undecided) test lists s

  wanted_of_more : (old new : List CountedList) (s : SignedAtom) → ((l : CountedList) → ListHasElement old l → ListHasElement new l) → IsWanted old s → IsWanted new s
  wanted_of_more old new s kept w = record { list = w.list; stands = kept w.list w.stands; is_wanted = w.is_wanted }

  pub nothing_added : (Turns : SignedAtom → Type 0) (lists : List CountedList) → ((s : SignedAtom) → Turns s → ⊥) → Adds Turns lists lists
  nothing_added Turns lists none = record { kept = λ l h. h; each = λ s t. absurd (none s t); only = λ s w. inl w; flats = λ f. f }

  pub no_new_list_added : (Turns : SignedAtom → Type 0) (old new : List CountedList) → ((l : CountedList) → ListHasElement old l → ListHasElement new l) → ((l : CountedList) → ListHasElement new l → ListHasElement old l)
      → ((s : SignedAtom) → Turns s → ⊥) → Adds Turns old new
  no_new_list_added Turns old new kept back none = record { kept = kept; each = λ s t. absurd (none s t); only = λ s w. inl (wanted_of_more new old s back w); flats = λ f l h. f l (back l h) }

  -- the list of a part that stands so was added, if it could be turned
  pub list_added : (old new : List CountedList) (line : ℕ) (members : RowsOfTable MemberRow) (st : PartStanding)
      → ((l : CountedList) → ListHasElement old l → ListHasElement new l)
      → (st.could_turn ≡ true → ListHasElement new (counted_list line members st.holds))
      → ((l : CountedList) → ListHasElement new l → ListHasElement old l ⊎ ((st.could_turn ≡ true) × (l ≡ counted_list line members st.holds)))
      → IsPartStanding (ListAllows k lines test (members_of_view members)) (CouldTurnList k lines undecided test false (members_of_view members))
      (IsWantedOfList k lines (is_bare_and_undecided undecided) test (members_of_view members) (wanted_of_sign (not st.holds))) st
      → Adds (CouldTurnList k lines undecided test false (members_of_view members)) old new
  list_added old new line members st kept has only stands = record {
    kept = kept;
    each = λ s t. record { list = counted_list line members st.holds; stands = has (stands.turns s t); is_wanted = stands.wanted s t };
    only = λ s w. elim (only w.list w.stands) as (λ _. IsWanted old s ⊎ CouldTurnList k lines undecided test false (members_of_view members) s) [
      | inl before ↦ inl (record { list = w.list; stands = before; is_wanted = w.is_wanted })
      | inr it ↦ inr
          (stands.only s (subst (λ (l : CountedList). IsWantedOfList k lines (is_bare_and_undecided undecided) test (members_of_view l.members) l.wanted s) it.1 w.is_wanted))
    ];
    flats = λ flats l at. elim (only l at) as (λ _. HasFlatList k lines l) [
      | inl before ↦ flats l before
      | inr it ↦ let t = stands.turned it.0 in
          let own : HasFlatList k lines (counted_list line members st.holds) = record { flat = t.1.flat; is_flat = t.1.is_flat } in
          subst (HasFlatList k lines) (sym it.1) own
    ];
  }

  pub added_on : (T U V : SignedAtom → Type 0) (a b c : List CountedList) → ((s : SignedAtom) → V s → T s ⊎ U s) → ((s : SignedAtom) → T s → V s) → ((s : SignedAtom) → U s → V s) → Adds T a b → Adds U b c → Adds V a c
  added_on T U V a b c splits first second m n = record {
    kept = λ l h. n.kept l (m.kept l h);
    each = λ s v. elim (splits s v) as (λ _. IsWanted c s) [
      | inl t ↦ wanted_of_more b c s n.kept (m.each s t)
      | inr u ↦ n.each s u
    ];
    only = λ s w. elim (n.only s w) as (λ _. IsWanted a s ⊎ V s) [
      | inl before ↦ elim (m.only s before) as (λ _. IsWanted a s ⊎ V s) [
        | inl old ↦ inl old
        | inr t ↦ inr (first s t)
      ]
      | inr u ↦ inr (second s u)
    ];
    flats = λ flats. n.flats (m.flats flats);
  }

  pub same_atoms_added : (T V : SignedAtom → Type 0) (a b : List CountedList) → ((s : SignedAtom) → V s → T s) → ((s : SignedAtom) → T s → V s) → Adds T a b → Adds V a b
  same_atoms_added T V a b back on h = record {
    kept = h.kept;
    each = λ s v. h.each s (back s v);
    only = λ s w. elim (h.only s w) as (λ _. IsWanted a s ⊎ V s) [
      | inl old ↦ inl old
      | inr t ↦ inr (on s t)
    ];
    flats = h.flats;
  }

  pub added_lists_flat : (Turns : SignedAtom → Type 0) (empty lists : List CountedList) → empty ≡ [] → Adds Turns empty lists → AreFlat k lines lists
  added_lists_flat Turns empty lists e h = h.flats (λ l at. absurd (subst (λ ls. ListHasElement ls l) e at))

  pub added_atom_turns : (Turns : SignedAtom → Type 0) (empty lists : List CountedList) → empty ≡ [] → Adds Turns empty lists → (s : SignedAtom) → IsWanted lists s → Turns s
  added_atom_turns Turns empty lists e h s w = elim (h.only s w) as (λ _. Turns s) [
    | inl old ↦ absurd (subst (λ ls. ListHasElement ls old.list) e old.stands)
    | inr t ↦ t
  ]

  module _ {X : Type 0} (Turns : X → SignedAtom → Type 0) (xs : List X) where
    pub none_added : (lists : List CountedList) → Adds (CouldTurnOneOf Turns (take 0 xs)) lists lists
    none_added lists = nothing_added (CouldTurnOneOf Turns (take 0 xs)) lists (λ s t. t.stands)

    pub one_more_added : (i : ℕ) (x : X) (a b c : List CountedList) → slice_get xs i ≡ Some x → Adds (CouldTurnOneOf Turns (take i xs)) a b → Adds (Turns x) b c → Adds (CouldTurnOneOf Turns (take (i + 1) xs)) a c
    one_more_added i x a b c at =
        subst (λ ys. Adds (CouldTurnOneOf Turns (take i xs)) a b → Adds (Turns x) b c → Adds (CouldTurnOneOf Turns ys) a c) (sym (taken_one_more xs i x at))
        (added_on (CouldTurnOneOf Turns (take i xs)) (Turns x) (CouldTurnOneOf Turns (take i xs ++ x ∷ [])) a b c splits
        (λ s t. record { item = t.item; stands = Has_front (take i xs) (x ∷ []) t.item t.stands; turns = t.turns })
        (λ s t. record { item = x; stands = Has_pushed (take i xs) x; turns = t }))
      where
        splits : (s : SignedAtom) → CouldTurnOneOf Turns (take i xs ++ x ∷ []) s → CouldTurnOneOf Turns (take i xs) s ⊎ Turns x s
        splits s t = elim (Has_push (take i xs) x t.item t.stands) as (λ _. CouldTurnOneOf Turns (take i xs) s ⊎ Turns x s) [
          | inl before ↦ inl (record { item = t.item; stands = before; turns = t.turns })
          | inr same ↦ inr (subst (λ y. Turns y s) (sym same) t.turns)
        ]

    pub all_added : (i : ℕ) (a b : List CountedList) → length xs ≤ i → Adds (CouldTurnOneOf Turns (take i xs)) a b → Adds (CouldTurnOneOf Turns xs) a b
    all_added i a b end h = subst (λ ys. Adds (CouldTurnOneOf Turns ys) a b) (take_all i xs end) h

-- ---- members where rules are listed

module _ (lines : List Line) (r : Request) where
  pub hosts_of_spec_added : (spec : UserSpec) (old new : List CountedList) → ListAllows User lines (match_tests_of_request r).user spec.users → AddsListsOfGroups lines r spec.groups old new
      → AddsTurningAtoms Host lines (undecided_by_files_or_paths r).host (match_tests_of_request r).host (CouldTurnHostsOfSpec lines r spec) old new
  hosts_of_spec_added spec old new allows h =
      same_atoms_added Host lines (undecided_by_files_or_paths r).host (match_tests_of_request r).host (CouldTurnOneOf (CouldTurnHostsOfGroup lines r) spec.groups) (CouldTurnHostsOfSpec lines r spec) old new
      (λ s t. t.turns) (λ s t. record { allows = allows; turns = t }) h

  pub no_hosts_of_spec_added : (spec : UserSpec) (lists : List CountedList) → (ListAllows User lines (match_tests_of_request r).user spec.users → ⊥)
      → AddsTurningAtoms Host lines (undecided_by_files_or_paths r).host (match_tests_of_request r).host (CouldTurnHostsOfSpec lines r spec) lists lists
  no_hosts_of_spec_added spec lists not_allowed =
      nothing_added Host lines (undecided_by_files_or_paths r).host (match_tests_of_request r).host (CouldTurnHostsOfSpec lines r spec) lists (λ s t. not_allowed t.allows)

  pub user_aliases_of_who : (person : Bor Person) (d : DecidedAliases) → r.who.user ≡ person.now → DecidesAllAliases lines d → d.kind ≡ User → d.question ≡ question.User person → AreUserAliases lines r d
  user_aliases_of_who person d e all kind same =
      aliases_decided_by lines User _ _ d (question.User person) all kind same refl (ap is_user_atom_match (sym e))

  pub host_aliases_of_who : (who : Bor Who) (d : DecidedAliases) → r.who ≡ who.now → DecidesAllAliases lines d → d.kind ≡ Host → d.question ≡ question.Host who → AreHostAliases lines r d
  host_aliases_of_who who d e all kind same =
      aliases_decided_by lines Host _ _ d (question.Host who) all kind same (ap (λ (w : Who). is_bare_and_undecided (is_host_atom_undecided w)) (sym e)) (ap (λ (w : Who). is_host_atom_match w) (sym e))
