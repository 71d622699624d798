-- The parts of a row by two tests.
use Rattle.std.proofs.Common.{◌≡◌, ◌⊎◌, ◌↔◌, inl, inr, ℕ, Bool, true, false, List, [], ◌∷◌, Option, Some, None, refl, sym, ◌∙◌}
use Rattle.std.proofs.lemmas.Bool.Decides.{eqb_tells}
use Rattle.sudoers_grammar.specs.declared.node.Kind.TheVariants.{User, Host, Runas}
use Rattle.sudoers_grammar.specs.Node.{Member, RunasSpec}
use Rattle.sudoers_tree.specs.Line.{Line}
use Rattle.sudoers_match_member.specs.declared.people_and_commands.Group.{Group}
use Rattle.sudoers_match_member.specs.declared.people_and_commands.Person.{Person}
use Rattle.sudoers_match_member.specs.declared.request.Request.{Request}
use Rattle.sudoers_match_list.specs.Flat.{SignedAtom}
use Rattle.sudoers_match.specs.Moment.{is_in_option_time_bounds}
use Rattle.sudoers_match.specs.Rows.{PrivilegeRow}
use Rattle.sudoers_match.specs.Runas.{is_group_absent_or_among}
use Rattle.sudoers_match.specs.Values.{final_values_of_options}
use Rattle.sudoers_undecided.specs.MatchTests.{MatchTests, AgreesOnDecidedAtoms, MatchesNoUndecidedAtom}
use Rattle.sudoers_undecided.specs.RowParts.{RowPartHolds, CouldTurnRowPart, IsRunasDefaultByTests, RunasUserListAllowsByTests, RunasSpecAllowsUserByTests, RunasGroupListAllowsByTests, RunasListsAllowGroupByTests, RunasSpecAllowsGroupByTests, CouldTurnRunasUserList, CouldTurnRunasSpecUsers, CouldTurnRunasGroupList, CouldTurnRunasSpecGroups}
use Rattle.sudoers_undecided.specs.UndecidedAnswer.{RowFitsRequestByTests, RowMayFitRequest, CouldChangeWhetherRowFits}
use Rattle.sudoers_undecided.proofs.DefaultsByTests.{runas_default_alike_or_could_turn}
use Rattle.sudoers_undecided.proofs.ListsByTests.{list_allows_as_it_says, group_list_allows_as_it_says}
use Rattle.sudoers_undecided.proofs.Decided.{HoldsAlikeOrCouldTurn, alike_under_equivalence, alike_by_all_tests, is_true_or_not, list_alike_or_could_turn, HasFlatListOrNone, FlatListIsUnique}
use Rattle.sudoers_undecided.specs.declared.request_part.RequestPart.{RequestPart}
use Rattle.sudoers_undecided.specs.declared.request_part.RequestPart.TheVariants as part

pub are_numbers_equal_or_not : (m n : ℕ) → (m ≡ n) ⊎ (m ≡ n → ⊥)
are_numbers_equal_or_not m n = elim (eqb_tells m n) [ inl e ↦ inl e.1 | inr e ↦ inr e.1 ]

module _ (one : FlatListIsUnique) (lines : List Line) (flats : HasFlatListOrNone lines) (undecided tests other : MatchTests) (misses : MatchesNoUndecidedAtom undecided tests) (agrees : AgreesOnDecidedAtoms undecided tests other) where
  module _ (user target : Person) (group : Option Group) (name : List ℕ) (default : IsRunasDefaultByTests lines tests name) where
    users : (us : List Member) → HoldsAlikeOrCouldTurn (RunasUserListAllowsByTests lines tests user target us) (RunasUserListAllowsByTests lines other user target us) (CouldTurnRunasUserList lines undecided tests us)
    users [] = alike_by_all_tests (are_numbers_equal_or_not target.uid user.uid)
    users (u ∷ us) = alike_under_equivalence (list_allows_as_it_says Runas lines tests.target (u ∷ us)) (list_allows_as_it_says Runas lines other.target (u ∷ us))
        (list_alike_or_could_turn undecided.target tests.target other.target misses.target agrees.target one false Runas lines (u ∷ us) flats)

    runas_users : (o : Option RunasSpec) → HoldsAlikeOrCouldTurn (RunasSpecAllowsUserByTests lines tests user target o) (RunasSpecAllowsUserByTests lines other user target o) (CouldTurnRunasSpecUsers lines undecided tests o)
    runas_users None = runas_default_alike_or_could_turn one lines flats undecided tests other misses agrees target.name name default
    runas_users (Some s) = users s.users

    group_list : (o : Option Group) (g : Member) (gs : List Member) → HoldsAlikeOrCouldTurn (RunasGroupListAllowsByTests lines tests target o (g ∷ gs)) (RunasGroupListAllowsByTests lines other target o (g ∷ gs)) (CouldTurnRunasGroupList lines undecided tests target o (g ∷ gs))
    group_list None g gs = alike_by_all_tests (inl tt)
    group_list (Some x) g gs =
        let own : Bool = is_group_absent_or_among target.groups (Some x) in
        alike_under_equivalence (group_list_allows_as_it_says Runas lines (tests.group x) (g ∷ gs) own) (group_list_allows_as_it_says Runas lines (other.group x) (g ∷ gs) own)
        (list_alike_or_could_turn (undecided.group x) (tests.group x) (other.group x) (misses.group x) (agrees.group x) one own Runas lines (g ∷ gs) flats)

    groups : (us gs : List Member) → HoldsAlikeOrCouldTurn (RunasListsAllowGroupByTests lines tests user target group us gs) (RunasListsAllowGroupByTests lines other user target group us gs) (CouldTurnRunasGroupList lines undecided tests target group gs)
    groups [] [] = alike_by_all_tests (is_true_or_not (is_group_absent_or_among user.groups group))
    groups (u ∷ us) [] = alike_by_all_tests (is_true_or_not (is_group_absent_or_among target.groups group))
    groups [] (g ∷ gs) = group_list group g gs
    groups (u ∷ us) (g ∷ gs) = group_list group g gs

    runas_groups : (o : Option RunasSpec) → HoldsAlikeOrCouldTurn (RunasSpecAllowsGroupByTests lines tests user target group o) (RunasSpecAllowsGroupByTests lines other user target group o) (CouldTurnRunasSpecGroups lines undecided tests target group o)
    runas_groups None = alike_by_all_tests (is_true_or_not (is_group_absent_or_among target.groups group))
    runas_groups (Some s) = groups s.users s.groups

  command : (s : SignedAtom) → HoldsAlikeOrCouldTurn (tests.command s ≡ true) (other.command s ≡ true) (λ t. (t ≡ s) × (undecided.command t ≡ true))
  command s = record { told = is_true_or_not (tests.command s); same = same }
    where
      alike : undecided.command s ≡ false → (other.command s ≡ true) ↔ (tests.command s ≡ true)
      alike c = ((λ e. sym (agrees.command s c) ∙ e), (λ e. agrees.command s c ∙ e))

      by : (b : Bool) → undecided.command s ≡ b → ((t : SignedAtom) × ((t ≡ s) × (undecided.command t ≡ true))) ⊎ ((other.command s ≡ true) ↔ (tests.command s ≡ true))
      by true e = inl (s, (refl, e))
      by false e = inr (alike e)

      same : ((t : SignedAtom) × ((t ≡ s) × (undecided.command t ≡ true))) ⊎ ((other.command s ≡ true) ↔ (tests.command s ≡ true))
      same = by (undecided.command s) refl

  module _ (r : Request) (name : List ℕ) (default : IsRunasDefaultByTests lines tests name) (row : PrivilegeRow) where
    row_part_alike_or_could_turn : (p : RequestPart) → HoldsAlikeOrCouldTurn (RowPartHolds lines tests r row p) (RowPartHolds lines other r row p) (CouldTurnRowPart lines undecided tests r row p)
    row_part_alike_or_could_turn part.Users = alike_under_equivalence (list_allows_as_it_says User lines tests.user row.users) (list_allows_as_it_says User lines other.user row.users)
        (list_alike_or_could_turn undecided.user tests.user other.user misses.user agrees.user one false User lines row.users flats)
    row_part_alike_or_could_turn part.Hosts = alike_under_equivalence (list_allows_as_it_says Host lines tests.host row.hosts) (list_allows_as_it_says Host lines other.host row.hosts)
        (list_alike_or_could_turn undecided.host tests.host other.host misses.host agrees.host one false Host lines row.hosts flats)
    row_part_alike_or_could_turn part.RunasUsers = runas_users r.who.user r.target r.target_group name default row.head.runas
    row_part_alike_or_could_turn part.RunasGroups = runas_groups r.who.user r.target r.target_group name default row.head.runas
    row_part_alike_or_could_turn part.Moment = alike_by_all_tests (is_true_or_not (is_in_option_time_bounds r.moment (final_values_of_options row.head.options)))
    row_part_alike_or_could_turn part.Command = command row.atom

    abbrev Could : RequestPart → SignedAtom → Type 0
    Could p s = CouldChangeWhetherRowFits lines undecided tests r row p s

    may : RowFitsRequestByTests lines other r row → RowMayFitRequest lines undecided tests r row
    may g p = elim (row_part_alike_or_could_turn p).told as (λ _. RowPartHolds lines tests r row p ⊎ ((s : SignedAtom) × CouldTurnRowPart lines undecided tests r row p s)) [
      | inl h ↦ inl h
      | inr n ↦ elim (row_part_alike_or_could_turn p).same as (λ _. RowPartHolds lines tests r row p ⊎ ((s : SignedAtom) × CouldTurnRowPart lines undecided tests r row p s)) [
        | inl l ↦ inr l
        | inr f ↦ absurd (n (f.0 (g p)))
      ]
    ]

    -- A row that no undecided member could change fits by both tests, or by none.
    pub unturned_row_fits_by_both_or_none : ((p : RequestPart) (s : SignedAtom) → Could p s → ⊥) → RowFitsRequestByTests lines other r row ↔ RowFitsRequestByTests lines tests r row
    unturned_row_fits_by_both_or_none none = (there, back)
      where
        there : RowFitsRequestByTests lines other r row → RowFitsRequestByTests lines tests r row
        there g p = elim (row_part_alike_or_could_turn p).told as (λ _. RowPartHolds lines tests r row p) [
          | inl h ↦ h
          | inr n ↦ elim (row_part_alike_or_could_turn p).same as (λ _. RowPartHolds lines tests r row p) [
            | inl l ↦ absurd (none p l.0 (record { may = may g; turns = l.1; counts = inr n }))
            | inr f ↦ f.0 (g p)
          ]
        ]

        back : RowFitsRequestByTests lines tests r row → RowFitsRequestByTests lines other r row
        back g p = elim (row_part_alike_or_could_turn p).same as (λ _. RowPartHolds lines other r row p) [
          | inl l ↦ absurd (none p l.0 (record { may = (λ q. inl (g q)); turns = l.1; counts = inl g }))
          | inr f ↦ f.1 (g p)
        ]
