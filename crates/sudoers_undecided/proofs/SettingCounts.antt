-- Settings of runas_default that are counted one after another.
use Rattle.std.proofs.Common.{◌==◌, ◌≡◌, ◌⊎◌, inl, inr, ◌<◌, ◌+◌, ℕ, true, false, List, [], ◌∷◌, ◌++◌, map, drop, length, get_or, Option, Some, None, refl, sym, ap, subst, ◌∙◌, append_assoc}
use Rattle.std.proofs.lemmas.List.{at_drop_more}
use Rattle.std.specs.List.{AllByRecursion}
use Rattle.sudoers_grammar.specs.declared.node.Kind.{Kind}
use Rattle.sudoers_grammar.specs.declared.node.Kind.TheVariants.{User, Host, Runas, Cmnd}
use Rattle.sudoers_grammar.specs.Node.{Node, Scope}
use Rattle.sudoers_line_rows.specs.declared.view.Scope.{Scope as ScopeView}
use Rattle.sudoers_line_rows.specs.View.{members_of_view, scope_of_view}
use Rattle.sudoers_tree.specs.Line.{Line}
use Rattle.sudoers_check.specs.Chain.{ListHasElement}
use Rattle.sudoers_match_member.specs.declared.request.Request.{Request}
use Rattle.sudoers_match_list.specs.Flat.{SignedAtom}
use Rattle.sudoers_match.specs.Default.{runas_defaults_in_node, runas_defaults_of_lines, setting_with_scope}
use Rattle.sudoers_undecided.specs.declared.decided_aliases.PartStanding.{PartStanding}
use Rattle.sudoers_undecided.specs.declared.user_and_host_lists.UserAndHostLists.{UserAndHostLists}
use Rattle.sudoers_undecided.specs.declared.wanted_members.CountedList.{CountedList}
use Rattle.sudoers_undecided.specs.ListSway.{is_bare_and_undecided}
use Rattle.sudoers_undecided.specs.MatchTests.{match_tests_of_request, undecided_by_files_or_paths}
use Rattle.sudoers_undecided.specs.RowParts.{CouldTurnRunasDefault, CouldTurnScope, IsScopeForUserOnHostByTests}
use Rattle.sudoers_undecided.specs.internal.Counted.{AreScopeListsTurned, IsWantedOfScopes, counted_list}
use Rattle.sudoers_undecided.specs.internal.Wanted.{IsWantedOfList}
use Rattle.sudoers_undecided.specs.internal.Settings.{AddsOnlyScopeList, CouldTurnOneOfSettings, CountsNot, CountsSettings, CoversSettings, HasScopeList, HaveScopesGrown, IsScopeStanding, IsWantedOfScopeList, NamesOnlyAtomsOfSettings, has_item}

abbrev pub Setting : Type 0
Setting = Option Scope × List ℕ

pub scopes_grown_on : (c d e : UserAndHostLists) → HaveScopesGrown c d → HaveScopesGrown d e → HaveScopesGrown c e
scopes_grown_on c d e a b = record { users = λ x y. b.users x (a.users x y); hosts = λ x y. b.hosts x (a.hosts x y) }

pub scopes_stay : (c : UserAndHostLists) → HaveScopesGrown c c
scopes_stay c = record { users = λ x y. y; hosts = λ x y. y }

all_of_append : {X : Type 0} (P : X → Type 0) (xs ys : List X) → AllByRecursion P (xs ++ ys) → AllByRecursion P xs × AllByRecursion P ys
all_of_append P [] ys h = (tt, h)
all_of_append P (x ∷ xs) ys h = let rest = all_of_append P xs ys h.1 in ((h.0, rest.0), rest.1)

append_all : {X : Type 0} (P : X → Type 0) (xs ys : List X) → AllByRecursion P xs → AllByRecursion P ys → AllByRecursion P (xs ++ ys)
append_all P [] ys a b = b
append_all P (x ∷ xs) ys a b = (a.0, append_all P xs ys a.1 b)

-- the last of mapped items
pub last_of_mapped : {X Y : Type 0} (f : X → Y) (x : X) (xs : List X) → (before : List Y) × (last : X) × (map f (x ∷ xs) ≡ before ++ f last ∷ [])
last_of_mapped f x [] = ([], x, refl)
last_of_mapped f x (y ∷ xs) = let rest = last_of_mapped f y xs in (f x ∷ rest.0, rest.1, ap (λ zs. f x ∷ zs) rest.2)

pub has_first : {X : Type 0} (xs : List X) → has_item xs ≡ true → (x : X) × (rest : List X) × (xs ≡ x ∷ rest)
has_first [] e = absurd cc
has_first (x ∷ xs) e = (x, xs, refl)

pub has_none : {X : Type 0} (xs : List X) → has_item xs ≡ false → xs ≡ []
has_none [] e = refl
has_none (x ∷ xs) e = absurd cc

module _ (lines : List Line) (r : Request) where
  named_stays : (c e : UserAndHostLists) → HaveScopesGrown c e → (s : SignedAtom) → IsWantedOfScopes lines r c s → IsWantedOfScopes lines r e s
  named_stays c e g s (inl w) = inl (record { list = w.list; stands = g.users w.list w.stands; is_wanted = w.is_wanted })
  named_stays c e g s (inr w) = inr (record { list = w.list; stands = g.hosts w.list w.stands; is_wanted = w.is_wanted })

  covers_on : (d e : UserAndHostLists) (xs ys : List Setting) → CoversSettings lines r d xs → (AllByRecursion (CountsNot lines r) ys → ⊥) ⊎ HaveScopesGrown d e → CoversSettings lines r e ys → CoversSettings lines r e (xs ++ ys)
  covers_on d e [] ys a f b = b
  covers_on d e (x ∷ xs) ys a f b = (
    (λ none s w.
        let parts = all_of_append (CountsNot lines r) xs ys none in
        elim f as (λ _. IsWantedOfScopes lines r e s) [
          | inl one ↦ absurd (one parts.1)
          | inr grown ↦ named_stays d e grown s (a.0 parts.0 s w)
        ]),
    covers_on d e xs ys a.1 f b,
  )

  turned_behind : (xs ys : List Setting) (s : SignedAtom) → CouldTurnOneOfSettings lines r xs s → AllByRecursion (CountsNot lines r) ys → CouldTurnOneOfSettings lines r (xs ++ ys) s
  turned_behind xs ys s o none = record {
    setting = o.setting;
    before = o.before;
    after = o.after ++ ys;
    stands = ap (λ zs. zs ++ ys) o.stands ∙ append_assoc o.before (o.setting ∷ o.after) ys;
    none_behind = append_all (CountsNot lines r) o.after ys o.none_behind none;
    turns = o.turns;
  }

  turned_after : (xs ys : List Setting) (s : SignedAtom) → CouldTurnOneOfSettings lines r ys s → CouldTurnOneOfSettings lines r (xs ++ ys) s
  turned_after xs ys s o = record {
    setting = o.setting;
    before = xs ++ o.before;
    after = o.after;
    stands = ap (λ zs. xs ++ zs) o.stands ∙ sym (append_assoc xs o.before (o.setting ∷ o.after));
    none_behind = o.none_behind;
    turns = o.turns;
  }

  names_only_on : (c d e : UserAndHostLists) (xs ys : List Setting) → NamesOnlyAtomsOfSettings lines r c d xs → NamesOnlyAtomsOfSettings lines r d e ys → NamesOnlyAtomsOfSettings lines r c e (xs ++ ys)
  names_only_on c d e xs ys a b s w = elim (b s w) as (λ _. (IsWantedOfScopes lines r c s × AllByRecursion (CountsNot lines r) (xs ++ ys)) ⊎ CouldTurnOneOfSettings lines r (xs ++ ys) s) [
    | inl old ↦ elim (a s old.0) as (λ _. (IsWantedOfScopes lines r c s × AllByRecursion (CountsNot lines r) (xs ++ ys)) ⊎ CouldTurnOneOfSettings lines r (xs ++ ys) s) [
      | inl first ↦ inl (first.0, append_all (CountsNot lines r) xs ys first.1 old.1)
      | inr one ↦ inr (turned_behind xs ys s one old.1)
    ]
    | inr one ↦ inr (turned_after xs ys s one)
  ]

  pub settings_on : (c d e : UserAndHostLists) (xs ys : List Setting) → CountsSettings lines r c d xs → CountsSettings lines r d e ys → CountsSettings lines r c e (xs ++ ys)
  settings_on c d e xs ys a b = record {
    counts = elim b.counts as (λ _. (AllByRecursion (CountsNot lines r) (xs ++ ys) → ⊥) ⊎ HaveScopesGrown c e) [
      | inl one ↦ inl (λ none. one (all_of_append (CountsNot lines r) xs ys none).1)
      | inr grown ↦ elim a.counts as (λ _. (AllByRecursion (CountsNot lines r) (xs ++ ys) → ⊥) ⊎ HaveScopesGrown c e) [
        | inl one ↦ inl (λ none. one (all_of_append (CountsNot lines r) xs ys none).0)
        | inr first ↦ inr (scopes_grown_on c d e first grown)
      ]
    ];
    covers = covers_on d e xs ys a.covers b.counts b.covers;
    only = names_only_on c d e xs ys a.only b.only;
    turned = λ t. b.turned (a.turned t);
  }

  pub no_settings_count : (c : UserAndHostLists) → CountsSettings lines r c c []
  no_settings_count c = record { counts = inr (scopes_stay c); covers = tt; only = λ s w. inl (w, tt); turned = λ t. t }

  -- ---- the settings of a line

  named_by_list : (e : UserAndHostLists) (line : ℕ) (scope : ScopeView) (k : Kind) (st : PartStanding) (s : SignedAtom) → HasScopeList e line scope k st → IsWantedOfScopeList lines r scope k st s → IsWantedOfScopes lines r e s
  named_by_list e line scope User st s x w = inl (record { list = counted_list line scope.members st.holds; stands = x; is_wanted = w })
  named_by_list e line scope Host st s x w = inr (record { list = counted_list line scope.members st.holds; stands = x; is_wanted = w })
  named_by_list e line scope Runas st s x w = absurd w
  named_by_list e line scope Cmnd st s x w = absurd w

  scope_covers : (e : UserAndHostLists) (line : ℕ) (scope : ScopeView) (st : PartStanding) → IsScopeStanding lines r scope st → (st.could_turn ≡ true → HasScopeList e line scope scope.kind st) → (names : List (List ℕ))
      → CoversSettings lines r e (map (setting_with_scope (Some (scope_of_view scope))) names)
  scope_covers e line scope st h has [] = tt
  scope_covers e line scope st h has (name ∷ names) = ((λ _ s w. named_by_list e line scope scope.kind st s (has (h.turns s w)) (h.wanted s w)), scope_covers e line scope st h has names)

  -- the last of the settings with this scope could be turned
  turned_by_scope : (scope : Option Scope) (name : List ℕ) (names : List (List ℕ)) (s : SignedAtom) → CouldTurnScope lines (undecided_by_files_or_paths r) (match_tests_of_request r) scope s
      → CouldTurnOneOfSettings lines r (map (setting_with_scope scope) (name ∷ names)) s
  turned_by_scope scope name names s w =
      let last = last_of_mapped (setting_with_scope scope) name names in
      record { setting = (scope, last.1); before = last.0; after = []; stands = last.2; none_behind = tt; turns = w }

  none_counts : (scope : Option Scope) → (IsScopeForUserOnHostByTests lines (match_tests_of_request r) scope → ⊥) → (names : List (List ℕ)) → AllByRecursion (CountsNot lines r) (map (setting_with_scope scope) names)
  none_counts scope n [] = tt
  none_counts scope n (name ∷ names) = (n, none_counts scope n names)

  pub nothing_wanted_of_no_lists : (c : UserAndHostLists) → c.users.items ≡ [] → c.hosts.items ≡ [] → (s : SignedAtom) → IsWantedOfScopes lines r c s → ⊥
  nothing_wanted_of_no_lists c e f s (inl w) = subst (λ ls. ListHasElement ls w.list) e w.stands
  nothing_wanted_of_no_lists c e f s (inr w) = subst (λ ls. ListHasElement ls w.list) f w.stands

  pub no_lists_are_turned : (c : UserAndHostLists) → c.users.items ≡ [] → c.hosts.items ≡ [] → AreScopeListsTurned lines r c
  no_lists_are_turned c e f = record { users = λ l h. absurd (subst (λ ls. ListHasElement ls l) e h); hosts = λ l h. absurd (subst (λ ls. ListHasElement ls l) f h) }

  -- a list that is added

  wanted_before_or_of_scope : (c e : UserAndHostLists) (line : ℕ) (scope : ScopeView) (st : PartStanding) → AddsOnlyScopeList c e line scope scope.kind st → (s : SignedAtom) → IsWantedOfScopes lines r e s
      → IsWantedOfScopes lines r c s ⊎ IsWantedOfScopeList lines r scope scope.kind st s
  wanted_before_or_of_scope c e line scope st h s (inl w) = elim (h.users w.list w.stands) as (λ _. IsWantedOfScopes lines r c s ⊎ IsWantedOfScopeList lines r scope scope.kind st s) [
    | inl old ↦ inl (inl (record { list = w.list; stands = old; is_wanted = w.is_wanted }))
    | inr new ↦ inr (subst (λ (k : Kind). IsWantedOfScopeList lines r scope k st s) (sym new.0)
        (subst (λ (l : CountedList). IsWantedOfList User lines (is_bare_and_undecided (undecided_by_files_or_paths r).user) (match_tests_of_request r).user (members_of_view l.members) l.wanted s) new.1.is w.is_wanted))
  ]
  wanted_before_or_of_scope c e line scope st h s (inr w) = elim (h.hosts w.list w.stands) as (λ _. IsWantedOfScopes lines r c s ⊎ IsWantedOfScopeList lines r scope scope.kind st s) [
    | inl old ↦ inl (inr (record { list = w.list; stands = old; is_wanted = w.is_wanted }))
    | inr new ↦ inr (subst (λ (k : Kind). IsWantedOfScopeList lines r scope k st s) (sym new.0)
        (subst (λ (l : CountedList). IsWantedOfList Host lines (is_bare_and_undecided (undecided_by_files_or_paths r).host) (match_tests_of_request r).host (members_of_view l.members) l.wanted s) new.1.is w.is_wanted))
  ]

  lists_stay_turned : (c e : UserAndHostLists) (line : ℕ) (scope : ScopeView) (st : PartStanding) → IsScopeStanding lines r scope st → AddsOnlyScopeList c e line scope scope.kind st → AreScopeListsTurned lines r c → AreScopeListsTurned lines r e
  lists_stay_turned c e line scope st h adds t = record {
    users = λ l stands. elim (adds.users l stands) as (λ _. (s : SignedAtom) × IsWantedOfList User lines (is_bare_and_undecided (undecided_by_files_or_paths r).user) (match_tests_of_request r).user (members_of_view l.members) l.wanted s) [
      | inl old ↦ t.users l old
      | inr new ↦
          let w = h.turned new.1.could_turn in (
            w.0,
            subst (λ (x : CountedList). IsWantedOfList User lines (is_bare_and_undecided (undecided_by_files_or_paths r).user) (match_tests_of_request r).user (members_of_view x.members) x.wanted w.0) (sym new.1.is)
                (subst (λ (k : Kind). IsWantedOfScopeList lines r scope k st w.0) new.0 (h.wanted w.0 w.1)),
          )
    ];
    hosts = λ l stands. elim (adds.hosts l stands) as (λ _. (s : SignedAtom) × IsWantedOfList Host lines (is_bare_and_undecided (undecided_by_files_or_paths r).host) (match_tests_of_request r).host (members_of_view l.members) l.wanted s) [
      | inl old ↦ t.hosts l old
      | inr new ↦
          let w = h.turned new.1.could_turn in (
            w.0,
            subst (λ (x : CountedList). IsWantedOfList Host lines (is_bare_and_undecided (undecided_by_files_or_paths r).host) (match_tests_of_request r).host (members_of_view x.members) x.wanted w.0) (sym new.1.is)
                (subst (λ (k : Kind). IsWantedOfScopeList lines r scope k st w.0) new.0 (h.wanted w.0 w.1)),
          )
    ];
  }

  pub counting_scope_counts : (c d e : UserAndHostLists) (line : ℕ) (scope : ScopeView) (st : PartStanding) → IsScopeStanding lines r scope st → (st.could_turn ≡ true → HasScopeList e line scope scope.kind st) → st.holds ≡ true
      → d.users.items ≡ [] → d.hosts.items ≡ [] → AddsOnlyScopeList d e line scope scope.kind st
      → (name : List ℕ) (names : List (List ℕ)) → CountsSettings lines r c e (map (setting_with_scope (Some (scope_of_view scope))) (name ∷ names))
  counting_scope_counts c d e line scope st h has holds users hosts adds name names = record {
    counts = inl (λ none. none.0 (h.holds holds));
    covers = scope_covers e line scope st h has (name ∷ names);
    only = λ s w. inr (elim (wanted_before_or_of_scope d e line scope st adds s w) as (λ _. CouldTurnOneOfSettings lines r (map (setting_with_scope (Some (scope_of_view scope))) (name ∷ names)) s) [
      | inl old ↦ absurd (nothing_wanted_of_no_lists d users hosts s old)
      | inr new ↦ turned_by_scope (Some (scope_of_view scope)) name names s (h.only s new)
    ]);
    turned = λ _. lists_stay_turned d e line scope st h adds (no_lists_are_turned d users hosts);
  }

  pub added_scope_counts : (c e : UserAndHostLists) (line : ℕ) (scope : ScopeView) (st : PartStanding) → IsScopeStanding lines r scope st → (st.could_turn ≡ true → HasScopeList e line scope scope.kind st) → st.holds ≡ false
      → HaveScopesGrown c e → AddsOnlyScopeList c e line scope scope.kind st
      → (name : List ℕ) (names : List (List ℕ)) → CountsSettings lines r c e (map (setting_with_scope (Some (scope_of_view scope))) (name ∷ names))
  added_scope_counts c e line scope st h has fails grown adds name names = record {
    counts = inr grown;
    covers = scope_covers e line scope st h has (name ∷ names);
    only = λ s w. elim (wanted_before_or_of_scope c e line scope st adds s w) as (λ _. (IsWantedOfScopes lines r c s × AllByRecursion (CountsNot lines r) (map (setting_with_scope (Some (scope_of_view scope))) (name ∷ names)))
        ⊎ CouldTurnOneOfSettings lines r (map (setting_with_scope (Some (scope_of_view scope))) (name ∷ names)) s) [
          | inl old ↦ inl (old, none_counts (Some (scope_of_view scope)) (λ counts. let clash : false ≡ true = sym fails ∙ h.held counts in cc) (name ∷ names))
          | inr new ↦ inr (turned_by_scope (Some (scope_of_view scope)) name names s (h.only s new))
        ];
    turned = lists_stay_turned c e line scope st h adds;
  }

  pub settings_for_all_count : (c e : UserAndHostLists) → e.users.items ≡ [] → e.hosts.items ≡ [] → (name : List ℕ) (names : List (List ℕ)) → CountsSettings lines r c e (map (setting_with_scope None) (name ∷ names))
  settings_for_all_count c e users hosts name names = record {
    counts = inl (λ none. none.0 tt);
    covers = covers (name ∷ names);
    only = λ s w. absurd (nothing_wanted_of_no_lists e users hosts s w);
    turned = λ _. no_lists_are_turned e users hosts;
  }
    where
      covers : (xs : List (List ℕ)) → CoversSettings lines r e (map (setting_with_scope None) xs)
      covers [] = tt
      covers (x ∷ xs) = ((λ _ s w. absurd w), covers xs)

  pub named_settings : (c e : UserAndHostLists) (scope : Option Scope) (xs : List (List ℕ)) → has_item xs ≡ true
      → ((name : List ℕ) (names : List (List ℕ)) → CountsSettings lines r c e (map (setting_with_scope scope) (name ∷ names))) → CountsSettings lines r c e (map (setting_with_scope scope) xs)
  named_settings c e scope xs some each = let first = has_first xs some in subst (λ ys. CountsSettings lines r c e (map (setting_with_scope scope) ys)) (sym first.2) (each first.0 first.1)

  pub unnamed_settings : (c : UserAndHostLists) (scope : Option Scope) (xs : List (List ℕ)) → has_item xs ≡ false → CountsSettings lines r c c (map (setting_with_scope scope) xs)
  unnamed_settings c scope xs e = subst (λ ys. CountsSettings lines r c c (map (setting_with_scope scope) ys)) (sym (has_none xs e)) (no_settings_count c)

  -- ---- one line more

  abbrev pub CountsBefore : UserAndHostLists → UserAndHostLists → List Line → List Line → Type 0
  CountsBefore c e all left = (before : List Setting) × (runas_defaults_of_lines all ≡ before ++ runas_defaults_of_lines left) × CountsSettings lines r c e before

  pub one_line_more_counts : {X : Type 0} (f : X → Line) (rows : List X) (n : ℕ) (x : X) → n < length rows → (c d e : UserAndHostLists) (all : List Line) → CountsBefore c d all (map f (drop n rows))
      → (says : Node) → says ≡ (f (get_or rows n x)).node → CountsSettings lines r d e (runas_defaults_in_node says) → CountsBefore c e all (map f (drop (n + 1) rows))
  one_line_more_counts f rows n x within c d e all w says is more = (
    w.0 ++ runas_defaults_in_node (f (get_or rows n x)).node,
    w.1 ∙ ap (λ ys. w.0 ++ ys) (at_drop_more (λ ls. runas_defaults_of_lines (map f ls)) rows n x within)
        ∙ sym (append_assoc w.0 (runas_defaults_in_node (f (get_or rows n x)).node) (runas_defaults_of_lines (map f (drop (n + 1) rows)))),
    settings_on c d e w.0 (runas_defaults_in_node (f (get_or rows n x)).node) w.2 (subst (λ (m : Node). CountsSettings lines r d e (runas_defaults_in_node m)) is more),
  )

  pub setting_is_named : (e : UserAndHostLists) (before after : List Setting) (x : Setting) → CoversSettings lines r e (before ++ x ∷ after) → AllByRecursion (CountsNot lines r) after
      → (s : SignedAtom) → CouldTurnScope lines (undecided_by_files_or_paths r) (match_tests_of_request r) x.0 s → IsWantedOfScopes lines r e s
  setting_is_named e [] after x h none = h.0 none
  setting_is_named e (y ∷ before) after x h none = setting_is_named e before after x h.1 none

  pub only_turning_atoms_are_named : (c e : UserAndHostLists) (xs : List Setting) → NamesOnlyAtomsOfSettings lines r c e xs → c.users.items ≡ [] → c.hosts.items ≡ [] → runas_defaults_of_lines lines ≡ xs
      → (s : SignedAtom) → IsWantedOfScopes lines r e s → CouldTurnRunasDefault lines (undecided_by_files_or_paths r) (match_tests_of_request r) s
  only_turning_atoms_are_named c e xs only users hosts all s w = elim (only s w) as (λ _. CouldTurnRunasDefault lines (undecided_by_files_or_paths r) (match_tests_of_request r) s) [
    | inl old ↦ absurd (nothing_wanted_of_no_lists c users hosts s old.0)
    | inr one ↦ record { setting = one.setting; before = one.before; after = one.after; stands = all ∙ one.stands; none_behind = one.none_behind; turns = one.turns }
  ]

-- ---- an atom of some list

pub record HasSomeItem {X : Type 0} (xs : List X) : Type 0 where
  pub item : X
  pub stands : ListHasElement xs item

pub list_with_length_has_item : {X : Type 0} (xs : List X) → (length xs == 0) ≡ false → HasSomeItem xs
list_with_length_has_item [] e = let clash : true ≡ false = e in absurd cc
list_with_length_has_item (x ∷ xs) e = record { item = x; stands = inl refl }
