-- The last of which something holds, by two tests; runas_default by two tests.
use Rattle.std.proofs.Common.{◌≡◌, ◌⊎◌, ◌↔◌, inl, inr, ℕ, true, false, List, [], ◌∷◌, ◌++◌, Option, Some, None, refl, sym, ap, ◌∙◌, append_assoc}
use Rattle.std.specs.List.{AllByRecursion}
use Rattle.sudoers_grammar.specs.declared.node.Kind.{Kind}
use Rattle.sudoers_grammar.specs.declared.node.Kind.TheVariants.{User, Host, Runas, Cmnd}
use Rattle.sudoers_grammar.specs.Node.{Member, Scope}
use Rattle.sudoers_tree.specs.Line.{Line}
use Rattle.sudoers_match_member.specs.Hits.{is_name_equal_ignoring_case}
use Rattle.sudoers_match_list.specs.Flat.{SignedAtom}
use Rattle.sudoers_match.specs.Default.{runas_defaults_of_lines, runas_name_or_root}
use Rattle.sudoers_match.specs.Last.{IsLastItemWith}
use Rattle.sudoers_match.proofs.Lasts.{last_one}
use Rattle.sudoers_undecided.specs.MatchTests.{MatchTests, AgreesOnDecidedAtoms, MatchesNoUndecidedAtom}
use Rattle.sudoers_undecided.specs.RowParts.{IsScopeForUserOnHostByTests, IsScopeListForUserOrHostByTests, IsRunasDefaultByTests, CouldTurnScope, CouldTurnScopeList, CouldTurnRunasDefault}
use Rattle.sudoers_undecided.proofs.ListsByTests.{list_allows_as_it_says}
use Rattle.sudoers_undecided.proofs.Decided.{HoldsAlikeOrCouldTurn, alike_under_equivalence, alike_by_all_tests, is_true_or_not, list_alike_or_could_turn, HasFlatListOrNone, FlatListIsUnique}

module _ {X : Type 0} (P Q : X → Type 0) (L : Type 0) (xs : List X)
    (each : (before after : List X) (x : X) → xs ≡ before ++ x ∷ after → AllByRecursion (λ y. P y → ⊥) after → L ⊎ (Q x ↔ P x)) where
  none_by_both_or_could_turn : (before ys : List X) → xs ≡ before ++ ys → AllByRecursion (λ y. P y → ⊥) ys → L ⊎ AllByRecursion (λ y. Q y → ⊥) ys
  none_by_both_or_could_turn before [] e none = inr tt
  none_by_both_or_could_turn before (y ∷ ys) e none = by (each before ys y e none.1) (none_by_both_or_could_turn (before ++ y ∷ []) ys (e ∙ sym (append_assoc before (y ∷ []) ys)) none.1)
    where
      by : L ⊎ (Q y ↔ P y) → L ⊎ AllByRecursion (λ z. Q z → ⊥) ys → L ⊎ AllByRecursion (λ z. Q z → ⊥) (y ∷ ys)
      by (inl l) r = inl l
      by (inr f) (inl l) = inl l
      by (inr f) (inr r) = inr ((λ q. none.0 (f.0 q)), r)

  -- The last is the same, or something could turn it.
  pub last_same_or_could_turn : (last : Option X) → IsLastItemWith P xs last → L ⊎ IsLastItemWith Q xs last
  last_same_or_could_turn None l = none_by_both_or_could_turn [] xs refl l
  last_same_or_could_turn (Some x) (before, after, e, p, none) = by (each before after x e none) (none_by_both_or_could_turn (before ++ x ∷ []) after (e ∙ sym (append_assoc before (x ∷ []) after)) none)
    where
      by : L ⊎ (Q x ↔ P x) → L ⊎ AllByRecursion (λ z. Q z → ⊥) after → L ⊎ IsLastItemWith Q xs (Some x)
      by (inl l) r = inl l
      by (inr f) (inl l) = inl l
      by (inr f) (inr r) = inr (before, after, e, f.1 p, r)

-- what holds of the same items has the same last
pub last_of_equivalent_is_same : {X : Type 0} (P Q : X → Type 0) (xs : List X) → ((before after : List X) (x : X) → xs ≡ before ++ x ∷ after → AllByRecursion (λ y. P y → ⊥) after → Q x ↔ P x)
    → (last : Option X) → IsLastItemWith P xs last → IsLastItemWith Q xs last
last_of_equivalent_is_same P Q xs each last l = elim (last_same_or_could_turn P Q ⊥ xs (λ before after x e none. inr (each before after x e none)) last l) as (λ _. IsLastItemWith Q xs last) [
  | inl lost ↦ absurd lost
  | inr m ↦ m
]

module _ (one : FlatListIsUnique) (lines : List Line) (flats : HasFlatListOrNone lines) (undecided tests other : MatchTests) (misses : MatchesNoUndecidedAtom undecided tests) (agrees : AgreesOnDecidedAtoms undecided tests other) where
  for_list : (k : Kind) (ms : List Member) → HoldsAlikeOrCouldTurn (IsScopeListForUserOrHostByTests lines tests k ms) (IsScopeListForUserOrHostByTests lines other k ms) (CouldTurnScopeList lines undecided tests k ms)
  for_list User ms = alike_under_equivalence (list_allows_as_it_says User lines tests.user ms) (list_allows_as_it_says User lines other.user ms) (list_alike_or_could_turn undecided.user tests.user other.user misses.user agrees.user one false User lines ms flats)
  for_list Host ms = alike_under_equivalence (list_allows_as_it_says Host lines tests.host ms) (list_allows_as_it_says Host lines other.host ms) (list_alike_or_could_turn undecided.host tests.host other.host misses.host agrees.host one false Host lines ms flats)
  for_list Runas ms = alike_by_all_tests (inr (λ lost. lost))
  for_list Cmnd ms = alike_by_all_tests (inr (λ lost. lost))

  pub scope_alike_or_could_turn : (scope : Option Scope) → HoldsAlikeOrCouldTurn (IsScopeForUserOnHostByTests lines tests scope) (IsScopeForUserOnHostByTests lines other scope) (CouldTurnScope lines undecided tests scope)
  scope_alike_or_could_turn None = alike_by_all_tests (inl tt)
  scope_alike_or_could_turn (Some s) = for_list s.kind s.members

  abbrev Loosened : Type 0
  Loosened = (s : SignedAtom) × CouldTurnRunasDefault lines undecided tests s

  same_last : (last : Option (Option Scope × List ℕ)) → IsLastItemWith (λ setting. IsScopeForUserOnHostByTests lines tests setting.0) (runas_defaults_of_lines lines) last
      → Loosened ⊎ IsLastItemWith (λ setting. IsScopeForUserOnHostByTests lines other setting.0) (runas_defaults_of_lines lines) last
  same_last last l = last_same_or_could_turn (λ (setting : Option Scope × List ℕ). IsScopeForUserOnHostByTests lines tests setting.0) (λ setting. IsScopeForUserOnHostByTests lines other setting.0) Loosened (runas_defaults_of_lines lines) each last l
    where
      each : (before after : List (Option Scope × List ℕ)) (x : Option Scope × List ℕ) → runas_defaults_of_lines lines ≡ before ++ x ∷ after
          → AllByRecursion (λ (y : Option Scope × List ℕ). IsScopeForUserOnHostByTests lines tests y.0 → ⊥) after → Loosened ⊎ (IsScopeForUserOnHostByTests lines other x.0 ↔ IsScopeForUserOnHostByTests lines tests x.0)
      each before after x e none = elim (scope_alike_or_could_turn x.0).same as (λ _. Loosened ⊎ (IsScopeForUserOnHostByTests lines other x.0 ↔ IsScopeForUserOnHostByTests lines tests x.0)) [
        | inl l ↦ inl (l.0, record { setting = x; before = before; after = after; stands = e; none_behind = none; turns = l.1 })
        | inr f ↦ inr f
      ]

  one_default : (by_tests : MatchTests) (name also : List ℕ) → IsRunasDefaultByTests lines by_tests name → IsRunasDefaultByTests lines by_tests also → name ≡ also
  one_default by_tests name also d e =
      d.says ∙ ap runas_name_or_root (last_one (λ (setting : Option Scope × List ℕ). IsScopeForUserOnHostByTests lines by_tests setting.0) (runas_defaults_of_lines lines) d.last e.last d.is_last e.is_last) ∙ sym e.says

  abbrev RunsAs : MatchTests → List ℕ → Type 0
  RunsAs by_tests target = (name : List ℕ) × IsRunasDefaultByTests lines by_tests name × (is_name_equal_ignoring_case name target ≡ true)

  pub runas_default_alike_or_could_turn : (target name : List ℕ) → IsRunasDefaultByTests lines tests name → HoldsAlikeOrCouldTurn (RunsAs tests target) (RunsAs other target) (CouldTurnRunasDefault lines undecided tests)
  runas_default_alike_or_could_turn target name d = record { told = told; same = same }
    where
      told : RunsAs tests target ⊎ (RunsAs tests target → ⊥)
      told = elim (is_true_or_not (is_name_equal_ignoring_case name target)) as (λ _. RunsAs tests target ⊎ (RunsAs tests target → ⊥)) [
        | inl e ↦ inl (name, d, e)
        | inr n ↦ inr (λ w. n (ap (λ also. is_name_equal_ignoring_case also target) (one_default tests name w.0 d w.1) ∙ w.2))
      ]

      alike : IsRunasDefaultByTests lines other name → RunsAs other target ↔ RunsAs tests target
      alike e = (
        (λ w. (name, d, ap (λ also. is_name_equal_ignoring_case also target) (one_default other name w.0 e w.1) ∙ w.2)),
        (λ w. (name, e, ap (λ also. is_name_equal_ignoring_case also target) (one_default tests name w.0 d w.1) ∙ w.2)),
      )

      same : Loosened ⊎ (RunsAs other target ↔ RunsAs tests target)
      same = elim (same_last d.last d.is_last) as (λ _. Loosened ⊎ (RunsAs other target ↔ RunsAs tests target)) [
        | inl l ↦ inl l
        | inr l ↦ inr (alike (record { last = d.last; is_last = l; says = d.says }))
      ]
