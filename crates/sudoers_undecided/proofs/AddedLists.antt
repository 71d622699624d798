-- Lists of a command that are added, and no others.
use Rattle.std.proofs.Common.{◌≡◌, ◌⊎◌, inl, inr, true, List, [], ◌∷◌, ◌++◌, refl, sym, subst, ◌∙◌}
use Rattle.sudoers_line_rows.specs.declared.view.RunasSpec.{RunasSpec as RunasView}
use Rattle.sudoers_check.specs.Chain.{ListHasElement}
use Rattle.sudoers_check.proofs.Lists.{Has_front, Has_pushed}
use Rattle.sudoers_undecided.specs.declared.asked_request.CommandLists.{CommandLists}
use Rattle.sudoers_undecided.specs.declared.asked_request.CountedParts.{CountedParts}
use Rattle.sudoers_undecided.specs.declared.counted_lists.CountedLists.{CountedLists}
use Rattle.sudoers_undecided.specs.declared.wanted_members.CountedList.{CountedList}
use Rattle.sudoers_undecided.specs.internal.Counted.{AddsOnlyListsOfParts, HaveGrown, HaveSameLists}
use Rattle.sudoers_undecided.specs.internal.Parts.{hosts_part, no_parts, runas_groups_part, runas_users_part, users_part}

either_on : {A B C P Q : Type 0} → (P → Q) → (B → A ⊎ P) → (C → B ⊎ Q) → C → A ⊎ Q
either_on {A} {B} {C} {P} {Q} f g h x = elim (h x) as (λ _. A ⊎ Q) [ inl y ↦ elim (g y) as (λ _. A ⊎ Q) [ inl z ↦ inl z | inr p ↦ inr (f p) ] | inr q ↦ inr q ]

right_by : {A P Q : Type 0} → (P → Q) → A ⊎ P → A ⊎ Q
right_by {A} {P} {Q} f x = elim x as (λ _. A ⊎ Q) [ inl y ↦ inl y | inr p ↦ inr (f p) ]

pub listed_alone : {A : Type 0} (x y : CountedList) → A ⊎ (x ≡ y) → A ⊎ ListHasElement (y ∷ []) x
listed_alone {A} x y h = elim h as (λ _. A ⊎ ListHasElement (y ∷ []) x) [ inl a ↦ inl a | inr e ↦ inr (inl (sym e)) ]

pub flagged : {A F P : Type 0} → F → A ⊎ P → A ⊎ (F × P)
flagged {A} {F} {P} f x = elim x as (λ _. A ⊎ (F × P)) [ inl y ↦ inl y | inr p ↦ inr (f, p) ]

pub flagged_of_spec : {A F : Type 0} {P Q : RunasView → Type 0} → F → (spec : RunasView) → P spec → A ⊎ Q spec → A ⊎ (F × (spec : RunasView) × P spec × Q spec)
flagged_of_spec {A} {F} {P} {Q} f spec p x = elim x as (λ _. A ⊎ (F × (spec : RunasView) × P spec × Q spec)) [ inl y ↦ inl y | inr q ↦ inr (f, spec, p, q) ]

pub nothing_added : (c : CountedLists) (l : CommandLists) (parts : CountedParts) (commands : List CountedList) → AddsOnlyListsOfParts c c l parts commands
nothing_added c l parts commands = record { users = λ x h. inl h; hosts = λ x h. inl h; runas_users = λ x h. inl h; runas_groups = λ x h. inl h; commands = λ x h. inl h; default = λ e. inl e }

pub added_among : (c e : CountedLists) (l : CommandLists) (p q : CountedParts) (xs ys : List CountedList) → (p.users ≡ true → q.users ≡ true) → (p.hosts ≡ true → q.hosts ≡ true)
    → (p.runas_users ≡ true → q.runas_users ≡ true) → (p.runas_groups ≡ true → q.runas_groups ≡ true) → ((x : CountedList) → ListHasElement xs x → ListHasElement ys x)
    → AddsOnlyListsOfParts c e l p xs → AddsOnlyListsOfParts c e l q ys
added_among c e l p q xs ys a b f g h w = record {
  users = λ x y. right_by (λ z. (a z.0, z.1)) (w.users x y);
  hosts = λ x y. right_by (λ z. (b z.0, z.1)) (w.hosts x y);
  runas_users = λ x y. right_by (λ z. (f z.0, z.1, z.2, z.3)) (w.runas_users x y);
  runas_groups = λ x y. right_by (λ z. (g z.0, z.1, z.2, z.3)) (w.runas_groups x y);
  commands = λ x y. right_by (h x) (w.commands x y);
  default = λ y. right_by (λ z. (f z.0, z.1)) (w.default y);
}

pub added_on : (c d e : CountedLists) (l : CommandLists) (p : CountedParts) (xs : List CountedList) → AddsOnlyListsOfParts c d l p xs → AddsOnlyListsOfParts d e l p xs → AddsOnlyListsOfParts c e l p xs
added_on c d e l p xs a b = record {
  users = λ x. either_on (λ z. z) (a.users x) (b.users x);
  hosts = λ x. either_on (λ z. z) (a.hosts x) (b.hosts x);
  runas_users = λ x. either_on (λ z. z) (a.runas_users x) (b.runas_users x);
  runas_groups = λ x. either_on (λ z. z) (a.runas_groups x) (b.runas_groups x);
  commands = λ x. either_on (λ z. z) (a.commands x) (b.commands x);
  default = either_on (λ z. z) a.default b.default;
}

-- part after part
pub parts_added : (a b c d e : CountedLists) (l : CommandLists) (parts : CountedParts) → AddsOnlyListsOfParts a b l (users_part parts.users) [] → AddsOnlyListsOfParts b c l (hosts_part parts.hosts) []
    → AddsOnlyListsOfParts c d l (runas_users_part parts.runas_users) [] → AddsOnlyListsOfParts d e l (runas_groups_part parts.runas_groups) [] → AddsOnlyListsOfParts a e l parts []
parts_added a b c d e l parts f g h i =
    let first : AddsOnlyListsOfParts a b l parts [] = added_among a b l (users_part parts.users) parts [] [] (λ x. x) (λ x. absurd cc) (λ x. absurd cc) (λ x. absurd cc) (λ x y. y) f in
    let second : AddsOnlyListsOfParts b c l parts [] = added_among b c l (hosts_part parts.hosts) parts [] [] (λ x. absurd cc) (λ x. x) (λ x. absurd cc) (λ x. absurd cc) (λ x y. y) g in
    let third : AddsOnlyListsOfParts c d l parts [] = added_among c d l (runas_users_part parts.runas_users) parts [] [] (λ x. absurd cc) (λ x. absurd cc) (λ x. x) (λ x. absurd cc) (λ x y. y) h in
    let fourth : AddsOnlyListsOfParts d e l parts [] = added_among d e l (runas_groups_part parts.runas_groups) parts [] [] (λ x. absurd cc) (λ x. absurd cc) (λ x. absurd cc) (λ x. x) (λ x y. y) i in
    added_on a d e l parts [] (added_on a c d l parts [] (added_on a b c l parts [] first second) third) fourth

-- then a command
pub command_added : (c d e : CountedLists) (l : CommandLists) (parts : CountedParts) (xs : List CountedList) (y : CountedList) → AddsOnlyListsOfParts c d l parts xs → AddsOnlyListsOfParts d e l no_parts (y ∷ [])
    → AddsOnlyListsOfParts c e l parts (xs ++ y ∷ [])
command_added c d e l parts xs y a b =
    added_on c d e l parts (xs ++ y ∷ [])
    (added_among c d l parts parts xs (xs ++ y ∷ []) (λ x. x) (λ x. x) (λ x. x) (λ x. x) (λ x. Has_front xs (y ∷ []) x) a)
    (added_among d e l no_parts parts (y ∷ []) (xs ++ y ∷ []) (λ x. absurd cc) (λ x. absurd cc) (λ x. absurd cc) (λ x. absurd cc) last b)
  where
    last : (x : CountedList) → ListHasElement (y ∷ []) x → ListHasElement (xs ++ y ∷ []) x
    last x (inl e) = subst (λ z. ListHasElement (xs ++ y ∷ []) z) e (Has_pushed xs y)
    last x (inr h) = absurd h

-- ---- the same lists

pub same_lists_by_nothing : (c : CountedLists) → HaveSameLists c c
same_lists_by_nothing c = record { users = refl; hosts = refl; runas_users = refl; runas_groups = refl; commands = refl; default = refl }

pub same_lists_have_grown : (c e : CountedLists) → HaveSameLists c e → HaveGrown c e
same_lists_have_grown c e s = record {
  users = λ x h. subst (λ xs. ListHasElement xs x) (sym s.users) h;
  hosts = λ x h. subst (λ xs. ListHasElement xs x) (sym s.hosts) h;
  runas_users = λ x h. subst (λ xs. ListHasElement xs x) (sym s.runas_users) h;
  runas_groups = λ x h. subst (λ xs. ListHasElement xs x) (sym s.runas_groups) h;
  commands = λ x h. subst (λ xs. ListHasElement xs x) (sym s.commands) h;
  default = λ h. s.default ∙ h;
}

pub same_lists_back : (c e : CountedLists) → HaveSameLists c e → HaveSameLists e c
same_lists_back c e s = record { users = sym s.users; hosts = sym s.hosts; runas_users = sym s.runas_users; runas_groups = sym s.runas_groups; commands = sym s.commands; default = sym s.default }
