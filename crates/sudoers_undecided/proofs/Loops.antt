-- Rows that are counted one after another.
use Rattle.std.proofs.Common.{◌≡◌, ◌⊎◌, inl, inr, ◌||◌, ◌≤◌, ◌+◌, ℕ, Bool, true, false, List, [], ◌∷◌, ◌++◌, map, drop, length, Option, Some, None, option_map, slice_get, refl, sym, ap, subst, ◌∙◌, append_assoc, append-nil}
use Rattle.std.proofs.Math.Numerals.{add-one}
use Rattle.std.proofs.lemmas.List.{drop_all}
use Rattle.std.specs.List.{AllByRecursion}
use Rattle.std.specs.Option.{option_or}
use Rattle.sudoers_grammar.specs.declared.node.Kind.{Kind}
use Rattle.sudoers_grammar.specs.declared.node.Atom.{Atom}
use Rattle.sudoers_grammar.specs.Node.{CmdSpec, HostGroup, Member, RunasSpec}
use Rattle.sudoers_line_rows.specs.declared.row_lists.RowsOfTable.{RowsOfTable}
use Rattle.sudoers_line_rows.specs.declared.rows.MemberRow.{MemberRow}
use Rattle.sudoers_line_rows.specs.declared.view.RunasSpec.{RunasSpec as RunasView}
use Rattle.sudoers_grammar.specs.declared.node.Kind.TheVariants.{Host}
use Rattle.sudoers_match.specs.Allows.{ListAllows}
use Rattle.sudoers_match.specs.Moment.{is_in_option_time_bounds}
use Rattle.sudoers_match.specs.Values.{final_values_of_options}
use Rattle.sudoers_undecided.specs.TurningMembers.{CouldTurnList}
use Rattle.sudoers_undecided.specs.declared.asked_request.CommandLists.{CommandLists}
use Rattle.sudoers_undecided.specs.declared.spec_rows.RunasOfCommands.{RunasOfCommands}
use Rattle.sudoers_undecided.specs.declared.spec_rows.UsersAndHosts.{UsersAndHosts}
use Rattle.sudoers_undecided.specs.internal.Looped.{IsRunasStanding, IsWhoStanding, lists_of}
use Rattle.sudoers_line_rows.specs.View.{members_of_view, runas_of_view}
use Rattle.sudoers_tree.specs.Line.{Line}
use Rattle.sudoers_check.specs.Chain.{ListHasElement}
use Rattle.sudoers_match_member.specs.declared.people_and_commands.Group.{Group}
use Rattle.sudoers_match_member.specs.declared.request.Request.{Request}
use Rattle.sudoers_match_list.specs.Flat.{SignedAtom}
use Rattle.sudoers_match.specs.declared.command_settings.CommandSettings.{CommandSettings as HeadHeld}
use Rattle.sudoers_match.specs.Heads.{AccumulatedCommandSettings, commands_with_settings, empty_command_settings, settings_after_command}
use Rattle.sudoers_match.specs.IsHead.{HoldsCommandSettings}
use Rattle.sudoers_match.specs.Rows.{AreRowsPerFlatAtomOfCommand, AreRowsPerFlatAtomOfHostGroup, PrivilegeRow, privilege_row_of}
use Rattle.sudoers_match.specs.Specs.{IsConcatenationOfParts}
use Rattle.sudoers_match.proofs.Gathered.{list_from_index_is_element_and_rest, rest_after_first_is_from_next}
use Rattle.sudoers_match.proofs.Lasts.{all_append}
use Rattle.sudoers_match.proofs.Rowed.{joined_all}
use Rattle.sudoers_undecided.specs.declared.counted_lists.CountedLists.{CountedLists}
use Rattle.sudoers_undecided.specs.declared.decided_aliases.PartStanding.{PartStanding}
use Rattle.sudoers_undecided.specs.declared.user_and_host_lists.UserAndHostLists.{UserAndHostLists}
use Rattle.sudoers_undecided.specs.declared.request_part.RequestPart.{RequestPart}
use Rattle.sudoers_undecided.specs.declared.request_part.RequestPart.TheVariants as part
use Rattle.sudoers_undecided.specs.declared.wanted_members.CountedList.{CountedList}
use Rattle.sudoers_undecided.specs.MatchTests.{match_tests_of_request, undecided_by_files_or_paths}
use Rattle.sudoers_undecided.specs.UndecidedAnswer.{CouldChangeWhetherRowFits, RowMayFitRequest}
use Rattle.sudoers_undecided.specs.internal.Counted.{AreCountedListsFlat, AreGroupListsFlat, AreListsOfCommand, CouldChangeOneOfRows, HasNotedLists, HaveSameLists, IsHostsStanding, IsUsersStanding, CountsCommandsSoFar, CountsPartsSoFar, CountsRows, CoversAtom, CoversRows, FitsNot, HaveGrown, IsPartStanding, IsWantedOfGroupLists, NamesOnlyAtomsOfRows, counted_list}
use Rattle.sudoers_undecided.specs.internal.Parts.{may_part_hold}
use Rattle.sudoers_undecided.specs.internal.Wanted.{IsWantedOfLists}
use Rattle.sudoers_undecided.proofs.AddedLists.{same_lists_back, same_lists_have_grown}

pub have_grown_by_nothing : (c : CountedLists) → HaveGrown c c
have_grown_by_nothing c = record { users = λ x y. y; hosts = λ x y. y; runas_users = λ x y. y; runas_groups = λ x y. y; commands = λ x y. y; default = λ x. x }

pub grown_on : (c d e : CountedLists) → HaveGrown c d → HaveGrown d e → HaveGrown c e
grown_on c d e a b = record {
  users = λ x y. b.users x (a.users x y);
  hosts = λ x y. b.hosts x (a.hosts x y);
  runas_users = λ x y. b.runas_users x (a.runas_users x y);
  runas_groups = λ x y. b.runas_groups x (a.runas_groups x y);
  commands = λ x y. b.commands x (a.commands x y);
  default = λ x. b.default (a.default x);
}

abbrev MayFitNot : List Line → Request → PrivilegeRow → Type 0
MayFitNot lines r row = RowMayFitRequest lines (undecided_by_files_or_paths r) (match_tests_of_request r) r row → ⊥

all_of_append : {X : Type 0} (P : X → Type 0) (xs ys : List X) → AllByRecursion P (xs ++ ys) → AllByRecursion P xs × AllByRecursion P ys
all_of_append P [] ys h = (tt, h)
all_of_append P (x ∷ xs) ys h = let rest = all_of_append P xs ys h.1 in ((h.0, rest.0), rest.1)

lists_grow : (k : Kind) (lines : List Line) (undecided : SignedAtom → Bool) (test : Atom → Bool) (xs ys : List CountedList) (s : SignedAtom) → ((l : CountedList) → ListHasElement xs l → ListHasElement ys l)
    → IsWantedOfLists k lines undecided test xs s → IsWantedOfLists k lines undecided test ys s
lists_grow k lines undecided test xs ys s grow w = record { list = w.list; stands = grow w.list w.stands; is_wanted = w.is_wanted }

module _ (lines : List Line) (r : Request) (scopes : UserAndHostLists) where
  group_lists_grow : (g : Option Group) (xs ys : List CountedList) (s : SignedAtom) → ((l : CountedList) → ListHasElement xs l → ListHasElement ys l) → IsWantedOfGroupLists lines r g xs s → IsWantedOfGroupLists lines r g ys s
  group_lists_grow None xs ys s grow w = w
  group_lists_grow (Some g) xs ys s grow w = record { list = w.list; stands = grow w.list w.stands; is_wanted = w.is_wanted }

  pub atom_stays_covered : (c e : CountedLists) → HaveGrown c e → (p : RequestPart) (s : SignedAtom) → CoversAtom lines r scopes c p s → CoversAtom lines r scopes e p s
  atom_stays_covered c e g part.Users s w = record { list = w.list; stands = g.users w.list w.stands; is_wanted = w.is_wanted }
  atom_stays_covered c e g part.Hosts s w = record { list = w.list; stands = g.hosts w.list w.stands; is_wanted = w.is_wanted }
  atom_stays_covered c e g part.RunasUsers s (inl w) = inl (record { list = w.list; stands = g.runas_users w.list w.stands; is_wanted = w.is_wanted })
  atom_stays_covered c e g part.RunasUsers s (inr w) = inr (g.default w.0, w.1)
  atom_stays_covered c e g part.RunasGroups s w = group_lists_grow r.target_group c.runas_groups.items e.runas_groups.items s g.runas_groups w
  atom_stays_covered c e g part.Moment s w = w
  atom_stays_covered c e g part.Command s w = record { list = w.list; stands = g.commands w.list w.stands; is_wanted = w.is_wanted }

  covers_on : (d e : CountedLists) (rows more : List PrivilegeRow) → CoversRows lines r scopes d rows → (AllByRecursion (FitsNot lines r) more → ⊥) ⊎ HaveGrown d e → CoversRows lines r scopes e more → CoversRows lines r scopes e (rows ++ more)
  covers_on d e [] more a f b = b
  covers_on d e (row ∷ rows) more a f b = (
    (λ none p s w.
        let parts = all_of_append (FitsNot lines r) rows more none in
        elim f as (λ _. CoversAtom lines r scopes e p s) [
          | inl fits ↦ absurd (fits parts.1)
          | inr grown ↦ atom_stays_covered d e grown p s (a.0 parts.0 p s w)
        ]),
    covers_on d e rows more a.1 f b,
  )

  abbrev IsNamedOnlyByRows : CountedLists → List PrivilegeRow → RequestPart → SignedAtom → Type 0
  IsNamedOnlyByRows c rows p s = (CoversAtom lines r scopes c p s × AllByRecursion (FitsNot lines r) rows) ⊎ CouldChangeOneOfRows lines r rows p s

  names_on : (c d e : CountedLists) (rows more : List PrivilegeRow) → NamesOnlyAtomsOfRows lines r scopes c d rows → NamesOnlyAtomsOfRows lines r scopes d e more → NamesOnlyAtomsOfRows lines r scopes c e (rows ++ more)
  names_on c d e rows more a b p s w = elim (b p s w) as (λ _. IsNamedOnlyByRows c (rows ++ more) p s) [
    | inl old ↦ elim (a p s old.0) as (λ _. IsNamedOnlyByRows c (rows ++ more) p s) [
      | inl first ↦ inl (first.0, all_append (FitsNot lines r) rows more first.1 old.1)
      | inr one ↦ inr (record {
        row = one.row;
        before = one.before;
        after = one.after ++ more;
        stands = ap (λ xs. xs ++ more) one.stands ∙ append_assoc one.before (one.row ∷ one.after) more;
        none_behind = all_append (FitsNot lines r) one.after more one.none_behind old.1;
        could = one.could;
      })
    ]
    | inr one ↦ inr (record {
      row = one.row;
      before = rows ++ one.before;
      after = one.after;
      stands = ap (λ xs. rows ++ xs) one.stands ∙ sym (append_assoc rows one.before (one.row ∷ one.after));
      none_behind = one.none_behind;
      could = one.could;
    })
  ]

  pub counts_on : (c d e : CountedLists) (rows more : List PrivilegeRow) → CountsRows lines r scopes c d rows → CountsRows lines r scopes d e more → CountsRows lines r scopes c e (rows ++ more)
  counts_on c d e rows more a b = record {
    fits = elim b.fits as (λ _. (AllByRecursion (FitsNot lines r) (rows ++ more) → ⊥) ⊎ HaveGrown c e) [
      | inl fits ↦ inl (λ none. fits (all_of_append (FitsNot lines r) rows more none).1)
      | inr grown ↦ elim a.fits as (λ _. (AllByRecursion (FitsNot lines r) (rows ++ more) → ⊥) ⊎ HaveGrown c e) [
        | inl fits ↦ inl (λ none. fits (all_of_append (FitsNot lines r) rows more none).0)
        | inr first ↦ inr (grown_on c d e first grown)
      ]
    ];
    covers = covers_on d e rows more a.covers b.fits b.covers;
    only = names_on c d e rows more a.only b.only;
    flats = λ f. b.flats (a.flats f);
  }

  lists_stay_flat : (c d : CountedLists) → HaveSameLists c d → AreCountedListsFlat lines r c → AreCountedListsFlat lines r d
  lists_stay_flat c d s f =
      let back = same_lists_have_grown d c (same_lists_back c d s) in
      record { users = λ x y. f.users x (back.users x y); hosts = λ x y. f.hosts x (back.hosts x y); runas_users = λ x y. f.runas_users x (back.runas_users x y); runas_groups = of_groups r.target_group f.runas_groups; commands = λ x y. f.commands x (back.commands x y) }
    where
      of_groups : (g : Option Group) → AreGroupListsFlat lines g c.runas_groups.items → AreGroupListsFlat lines g d.runas_groups.items
      of_groups None f = tt
      of_groups (Some g) f = λ x y. f x (subst (λ xs. ListHasElement xs x) s.runas_groups y)

  pub counts_after_same_lists : (c d e : CountedLists) (rows : List PrivilegeRow) → HaveSameLists c d → CountsRows lines r scopes d e rows → CountsRows lines r scopes c e rows
  counts_after_same_lists c d e rows s b =
      let grown = same_lists_have_grown c d s in
      let back = same_lists_have_grown d c (same_lists_back c d s) in
      record {
        fits = elim b.fits as (λ _. (AllByRecursion (FitsNot lines r) rows → ⊥) ⊎ HaveGrown c e) [ inl fits ↦ inl fits | inr more ↦ inr (grown_on c d e grown more) ];
        covers = b.covers;
        only = λ p t w. elim (b.only p t w) as (λ _. IsNamedOnlyByRows c rows p t) [
          | inl old ↦ inl (atom_stays_covered d c back p t old.0, old.1)
          | inr one ↦ inr one
        ];
        flats = λ f. b.flats (lists_stay_flat c d s f);
      }

  pub no_rows_count : (c d : CountedLists) → HaveSameLists c d → CountsRows lines r scopes c d []
  no_rows_count c d s = record {
    fits = inr (same_lists_have_grown c d s);
    covers = tt;
    only = λ p t w. inl (atom_stays_covered d c (same_lists_have_grown d c (same_lists_back c d s)) p t w, tt);
    flats = lists_stay_flat c d s;
  }

  module _ {X : Type 0} (Part : ℕ → X → List PrivilegeRow → Type 0) (all : List X) where
    pub parts_none : (c d : CountedLists) → HaveSameLists c d → CountsPartsSoFar Part lines r scopes c d all 0 all
    parts_none c d g rows j = ([], rows, refl, no_rows_count c d g, j)

    pub parts_more : (c d e : CountedLists) (i : ℕ) (x : X) (left more : List X) → left ≡ x ∷ more → CountsPartsSoFar Part lines r scopes c d all i left
        → ((rows : List PrivilegeRow) → Part i x rows → CountsRows lines r scopes d e rows) → CountsPartsSoFar Part lines r scopes c e all (i + 1) more
    parts_more c d e i x left more is s each rows j =
        let w = s rows j in
        let rest : IsConcatenationOfParts Part i (x ∷ more) w.1 = subst (λ ys. IsConcatenationOfParts Part i ys w.1) is w.4 in (
          w.0 ++ rest.0,
          rest.1,
          w.2 ∙ ap (λ ys. w.0 ++ ys) rest.2 ∙ sym (append_assoc w.0 rest.0 rest.1),
          counts_on c d e w.0 rest.0 w.3 (each rest.0 rest.3),
          subst (λ n. IsConcatenationOfParts Part n more rest.1) (sym (add-one i)) rest.4,
        )

    pub parts_all : (c e : CountedLists) (i : ℕ) (left : List X) → left ≡ [] → CountsPartsSoFar Part lines r scopes c e all i left → (rows : List PrivilegeRow) → IsConcatenationOfParts Part 0 all rows → CountsRows lines r scopes c e rows
    parts_all c e i left is s rows j =
        let w = s rows j in
        let none : w.1 ≡ [] = subst (λ ys. IsConcatenationOfParts Part i ys w.1) is w.4 in
        subst (CountsRows lines r scopes c e) (sym (w.2 ∙ ap (λ ys. w.0 ++ ys) none ∙ append-nil w.0)) w.3

  -- ---- the commands of a list

  module _ (users hosts : List Member) (cs : List CmdSpec) where
    pub commands_none : (c d : CountedLists) → HaveSameLists c d → (held : HeadHeld) (runas : Option RunasView) → HoldsCommandSettings held empty_command_settings → runas ≡ None
        → CountsCommandsSoFar lines r scopes c d users hosts cs 0 held runas
    commands_none c d g held runas is none = record {
      head = empty_command_settings;
      runas_are = ap (option_map runas_of_view) none;
      is_head = is;
      left = refl;
      so_far = λ i j. parts_none (AreRowsPerFlatAtomOfCommand lines i j users hosts) (commands_with_settings empty_command_settings cs) c d g;
    }

    pub commands_more : (c d e : CountedLists) (k : ℕ) (cmd : CmdSpec) → slice_get cs k ≡ Some cmd → (held new : HeadHeld) (runas next : Option RunasView) → (s : CountsCommandsSoFar lines r scopes c d users hosts cs k held runas)
        → HoldsCommandSettings new (settings_after_command s.head cmd) → option_map runas_of_view next ≡ (settings_after_command s.head cmd).runas
        → ((i j : ℕ) (rows : List PrivilegeRow) → AreRowsPerFlatAtomOfCommand lines i j users hosts k (settings_after_command s.head cmd, cmd.member) rows → CountsRows lines r scopes d e rows)
        → CountsCommandsSoFar lines r scopes c e users hosts cs (k + 1) new next
    commands_more c d e k cmd at held new runas next s is are each = record {
      head = settings_after_command s.head cmd;
      runas_are = are;
      is_head = is;
      left = rest_after_first_is_from_next (commands_with_settings empty_command_settings cs) k (settings_after_command s.head cmd, cmd.member) (commands_with_settings (settings_after_command s.head cmd) (drop (k + 1) cs))
          (s.left ∙ ap (commands_with_settings s.head) (list_from_index_is_element_and_rest cs k cmd at));
      so_far = λ i j. parts_more (AreRowsPerFlatAtomOfCommand lines i j users hosts) (commands_with_settings empty_command_settings cs) c d e k (settings_after_command s.head cmd, cmd.member)
          (commands_with_settings s.head (drop k cs)) (commands_with_settings (settings_after_command s.head cmd) (drop (k + 1) cs)) (ap (commands_with_settings s.head) (list_from_index_is_element_and_rest cs k cmd at)) (s.so_far i j) (each i j);
    }

    pub commands_all : (c e : CountedLists) (k : ℕ) (held : HeadHeld) (runas : Option RunasView) → length cs ≤ k → CountsCommandsSoFar lines r scopes c e users hosts cs k held runas
        → (i j : ℕ) (rows : List PrivilegeRow) → IsConcatenationOfParts (AreRowsPerFlatAtomOfCommand lines i j users hosts) 0 (commands_with_settings empty_command_settings cs) rows → CountsRows lines r scopes c e rows
    commands_all c e k held runas end s i j rows p =
        parts_all (AreRowsPerFlatAtomOfCommand lines i j users hosts) (commands_with_settings empty_command_settings cs) c e k (commands_with_settings s.head (drop k cs)) (ap (commands_with_settings s.head) (drop_all k cs end)) (s.so_far i j) rows p

  -- ---- rows that cannot fit

  unfit_rows_count : (c : CountedLists) (rows : List PrivilegeRow) → AllByRecursion (λ row. RowMayFitRequest lines (undecided_by_files_or_paths r) (match_tests_of_request r) r row → ⊥) rows → CoversRows lines r scopes c rows
  unfit_rows_count c [] none = tt
  unfit_rows_count c (row ∷ rows) none = ((λ _ p s w. absurd (none.0 w.may)), unfit_rows_count c rows none.1)

  unfit_rows_fit_not : (rows : List PrivilegeRow) → AllByRecursion (MayFitNot lines r) rows → AllByRecursion (FitsNot lines r) rows
  unfit_rows_fit_not [] none = tt
  unfit_rows_fit_not (row ∷ rows) none = ((λ fits. none.0 (λ p. inl (fits p))), unfit_rows_fit_not rows none.1)

  pub unfit_group_counts : (c : CountedLists) (i : ℕ) (users : List Member) (j : ℕ) (g : HostGroup) (rows : List PrivilegeRow)
      → ((k : ℕ) (head : AccumulatedCommandSettings) (s : SignedAtom) → RowMayFitRequest lines (undecided_by_files_or_paths r) (match_tests_of_request r) r (privilege_row_of i j users g.hosts k head s) → ⊥)
      → AreRowsPerFlatAtomOfHostGroup lines i users j g rows → CountsRows lines r scopes c c rows
  unfit_group_counts c i users j g rows none are = record {
    fits = inr (have_grown_by_nothing c);
    covers = unfit_rows_count c rows unfit;
    only = λ p s w. inl (w, unfit_rows_fit_not rows unfit);
    flats = λ f. f;
  }
    where
      of_atoms : (k : ℕ) (head : AccumulatedCommandSettings) (flat : List SignedAtom) → AllByRecursion (MayFitNot lines r) (map (privilege_row_of i j users g.hosts k head) flat)
      of_atoms k head [] = tt
      of_atoms k head (s ∷ flat) = (none k head s, of_atoms k head flat)

      each : (k : ℕ) (x : AccumulatedCommandSettings × Member) (more : List PrivilegeRow) → AreRowsPerFlatAtomOfCommand lines i j users g.hosts k x more → AllByRecursion (MayFitNot lines r) more
      each k x more are = subst (AllByRecursion (MayFitNot lines r)) (sym are.2) (of_atoms k x.0 are.0)

      unfit : AllByRecursion (MayFitNot lines r) rows
      unfit = joined_all (AreRowsPerFlatAtomOfCommand lines i j users g.hosts) (MayFitNot lines r) each 0 (commands_with_settings empty_command_settings g.commands) rows are

  pub may_hold_or_turn : {P : Type 0} {T W : SignedAtom → Type 0} (st : PartStanding) → IsPartStanding P T W st → may_part_hold st ≡ false → P ⊎ ((s : SignedAtom) × T s) → ⊥
  may_hold_or_turn st x e (inl p) = neither st.holds st.could_turn e (inl (x.held p))
    where
      neither : (a b : Bool) → (a || b) ≡ false → (a ≡ true) ⊎ (b ≡ true) → ⊥
      neither true b e h = let clash : true ≡ false = e in cc
      neither false true e h = let clash : true ≡ false = e in cc
      neither false false e (inl h) = let clash : false ≡ true = h in cc
      neither false false e (inr h) = let clash : false ≡ true = h in cc
  may_hold_or_turn st x e (inr t) = neither st.holds st.could_turn e (inr (x.turns t.0 t.1))
    where
      neither : (a b : Bool) → (a || b) ≡ false → (a ≡ true) ⊎ (b ≡ true) → ⊥
      neither true b e h = let clash : true ≡ false = e in cc
      neither false true e h = let clash : true ≡ false = e in cc
      neither false false e (inl h) = let clash : false ≡ true = h in cc
      neither false false e (inr h) = let clash : false ≡ true = h in cc

-- every row is counted with what stands behind it
pub covers_at : (lines : List Line) (r : Request) (scopes : UserAndHostLists) (c : CountedLists) (before after : List PrivilegeRow) (row : PrivilegeRow) → CoversRows lines r scopes c (before ++ row ∷ after) → AllByRecursion (FitsNot lines r) after
    → (p : RequestPart) (s : SignedAtom) → CouldChangeWhetherRowFits lines (undecided_by_files_or_paths r) (match_tests_of_request r) r row p s → CoversAtom lines r scopes c p s
covers_at lines r scopes c [] after row h none = h.0 none
covers_at lines r scopes c (x ∷ before) after row h none = covers_at lines r scopes c before after row h.1 none

-- ---- one command more

pub runas_goes_on : (written before next : Option RunasView) (earlier : Option RunasSpec) → next ≡ option_or written before → option_map runas_of_view before ≡ earlier → option_map runas_of_view next ≡ option_or (option_map runas_of_view written) earlier
runas_goes_on written before next earlier e is = ap (option_map runas_of_view) e ∙ by written
  where
    by : (w : Option RunasView) → option_map runas_of_view (option_or w before) ≡ option_or (option_map runas_of_view w) earlier
    by None = is
    by (Some x) = refl

pub noted_at_any_time : (c : CountedLists) (who : UsersAndHosts) (runas : RunasOfCommands) (a b : Bool) → HasNotedLists c (lists_of who runas a) → HasNotedLists c (lists_of who runas b)
noted_at_any_time c who runas a b h = record { users = h.users; hosts = h.hosts; runas_users = h.runas_users; runas_groups = h.runas_groups }

pub noted_at_start : (c e : CountedLists) (who : UsersAndHosts) (runas : RunasOfCommands) → HaveSameLists c e → e.has_users ≡ c.has_users → e.has_hosts ≡ c.has_hosts → e.has_runas_users ≡ false → e.has_runas_groups ≡ false
    → (c.has_users ≡ true → ListHasElement c.users.items (counted_list who.line who.users who.users_standing.holds)) → (c.has_hosts ≡ true → ListHasElement c.hosts.items (counted_list who.line who.hosts who.hosts_standing.holds))
    → HasNotedLists e (lists_of who runas true)
noted_at_start c e who runas s users hosts no_users no_groups u h = record {
  users = λ has. subst (λ xs. ListHasElement xs (counted_list who.line who.users who.users_standing.holds)) (sym s.users) (u (sym users ∙ has));
  hosts = λ has. subst (λ xs. ListHasElement xs (counted_list who.line who.hosts who.hosts_standing.holds)) (sym s.hosts) (h (sym hosts ∙ has));
  runas_users = λ has. let clash : true ≡ false = sym has ∙ no_users in absurd cc;
  runas_groups = λ has. let clash : true ≡ false = sym has ∙ no_groups in absurd cc;
}

pub are_lists_of_command : (lines : List Line) (r : Request) (scopes : UserAndHostLists) (who : UsersAndHosts) (runas : RunasOfCommands) (head : AccumulatedCommandSettings) (l : CommandLists)
    → IsWhoStanding lines r who → IsRunasStanding lines r scopes runas → option_map runas_of_view runas.runas ≡ head.runas → l ≡ lists_of who runas l.standing.is_in_time
    → l.standing.is_in_time ≡ is_in_option_time_bounds r.moment (final_values_of_options head.options) → AreListsOfCommand lines r scopes head l
are_lists_of_command lines r scopes who runas head l w s are e time =
    subst (AreListsOfCommand lines r scopes head) (sym e) (record { users = w.users; hosts = w.hosts; runas_are = are; runas_users = s.users; runas_groups = s.groups; moment = time })

pub unfit_user_counts : (lines : List Line) (r : Request) (scopes : UserAndHostLists) (c : CountedLists) (users : RowsOfTable MemberRow) (st : PartStanding) → IsUsersStanding lines r users st → may_part_hold st ≡ false
    → (i j : ℕ) (g : HostGroup) (rows : List PrivilegeRow) → AreRowsPerFlatAtomOfHostGroup lines i (members_of_view users) j g rows → CountsRows lines r scopes c c rows
unfit_user_counts lines r scopes c users st h e i j g rows are =
    unfit_group_counts lines r scopes c i (members_of_view users) j g rows (λ k head s may. may_hold_or_turn lines r scopes st h e (may part.Users)) are

pub unfit_host_counts : (lines : List Line) (r : Request) (scopes : UserAndHostLists) (c : CountedLists) (us : List Member) (hosts : RowsOfTable MemberRow) (st : PartStanding) → IsHostsStanding lines r hosts st → may_part_hold st ≡ false
    → (i j : ℕ) (g : HostGroup) → g.hosts ≡ members_of_view hosts → (rows : List PrivilegeRow) → AreRowsPerFlatAtomOfHostGroup lines i us j g rows → CountsRows lines r scopes c c rows
unfit_host_counts lines r scopes c us hosts st h e i j g same rows are =
    unfit_group_counts lines r scopes c i us j g rows
    (λ k head s may. may_hold_or_turn lines r scopes st h e
    (subst (λ ms. ListAllows Host lines (match_tests_of_request r).host ms ⊎ ((t : SignedAtom) × CouldTurnList Host lines (undecided_by_files_or_paths r).host (match_tests_of_request r).host false ms t)) same (may part.Hosts))) are
