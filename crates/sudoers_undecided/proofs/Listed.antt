-- Members that are found, list after list.
use Rattle.std.proofs.Common.{◌≡◌, ◌⊎◌, ◌∙◌, inl, inr, ◌+◌, ◌<◌, ◌≤◌, ℕ, Bool, true, false, List, [], ◌∷◌, ◌++◌, take, length, get_or, Option, Some, None, refl, sym, subst}
use Rattle.std.proofs.lemmas.List.{take_all, take_more}
use Rattle.std.specs.List.Sorted.{IsPermutation}
use Rattle.std.proofs.lemmas.List.Sorted.{All-permutation, IsPermutation-sym}
use Rattle.std.proofs.lemmas.List.Elements.{All-from_recursion, recursion_from_All}
use Rattle.std.specs.List.{AllByRecursion}
use Rattle.sudoers_grammar.specs.declared.node.Kind.{Kind}
use Rattle.sudoers_grammar.specs.declared.node.Atom.{Atom}
use Rattle.sudoers_tree.specs.Line.{Line}
use Rattle.sudoers_check.specs.Chain.{ListHasElement}
use Rattle.sudoers_check.proofs.Lists.{Has_push}
use Rattle.sudoers_match_member.specs.declared.people_and_commands.Group.{Group}
use Rattle.sudoers_match_member.specs.declared.request.Request.{Request}
use Rattle.sudoers_match_list.specs.Flat.{SignedAtom, signed_atom_of_member}
use Rattle.sudoers_undecided.specs.declared.decided_aliases.DecidedAliases.{DecidedAliases}
use Rattle.sudoers_undecided.specs.declared.request_part.RequestPart.{RequestPart}
use Rattle.sudoers_undecided.specs.declared.undecided_member.UndecidedMember.{UndecidedMember}
use Rattle.sudoers_undecided.specs.declared.wanted_members.CountedList.{CountedList}
use Rattle.sudoers_undecided.specs.FoundMembers.{HasAtomInPart, IsAtomInPart}
use Rattle.sudoers_undecided.specs.internal.Counted.{AreDecidedBy, AreGroupAliases, AreGroupListsFlat, IsWantedOfGroupLists}
use Rattle.sudoers_undecided.specs.internal.Collected.{IsMemberOfLists, IsMemberUndecided}
use Rattle.sudoers_undecided.specs.internal.Decided.{matched_by, undecided_by}
use Rattle.sudoers_undecided.specs.internal.Wanted.{AreFlat, IsWantedOfList, IsWantedOfLists}
use Rattle.sudoers_line_rows.specs.View.{member_of_view, members_of_view}

pub found_kept : (old new : List UndecidedMember) (p : RequestPart) (s : SignedAtom) → ((u : UndecidedMember) → ListHasElement old u → ListHasElement new u) → HasAtomInPart old p s → HasAtomInPart new p s
found_kept old new p s kept h = record { member = h.member; stands = kept h.member h.stands; is = h.is }

pub has_back : {X : Type 0} (xs ys : List X) (x : X) → ListHasElement ys x → ListHasElement (xs ++ ys) x
has_back [] ys x h = h
has_back (y ∷ xs) ys x h = inr (has_back xs ys x h)

pub listed_one_more : (P : CountedList → Type 0) (lists : List CountedList) (i : ℕ) (d : CountedList) → i < length lists → ((l : CountedList) → ListHasElement (take i lists) l → P l) → P (get_or lists i d)
    → (l : CountedList) → ListHasElement (take (i + 1) lists) l → P l
listed_one_more P lists i d within before here l h =
    elim (Has_push (take i lists) (get_or lists i d) l (subst (λ xs. ListHasElement xs l) (take_more lists i d within) h)) as (λ _. P l) [
      | inl old ↦ before l old
      | inr same ↦ subst P same here
    ]

pub listed_all : (lists : List CountedList) (i : ℕ) → length lists ≤ i → (l : CountedList) → ListHasElement lists l → ListHasElement (take i lists) l
listed_all lists i end l h = subst (λ xs. ListHasElement xs l) (sym (take_all i lists end)) h

pub wanted_by_decided : (lines : List Line) (k : Kind) (undecided : SignedAtom → Bool) (test : Atom → Bool) (d : DecidedAliases) → AreDecidedBy lines k undecided test d → (lists others : List CountedList) → others ≡ lists → (s : SignedAtom)
    → IsWantedOfLists k lines undecided test lists s → IsWantedOfLists d.kind lines (undecided_by d) (matched_by d) others s
wanted_by_decided lines k undecided test d a lists others same s w =
    subst (λ (j : Kind). IsWantedOfLists j lines (undecided_by d) (matched_by d) others s) (sym a.kind)
    (subst (λ (u : SignedAtom → Bool). IsWantedOfLists k lines u (matched_by d) others s) (sym a.undecided_are)
    (subst (λ (t : Atom → Bool). IsWantedOfLists k lines undecided t others s) (sym a.matched_are)
    (subst (λ xs. IsWantedOfLists k lines undecided test xs s) (sym same) w)))

pub wanted_of_group : (lines : List Line) (r : Request) (o : Option Group) (d : DecidedAliases) → AreGroupAliases lines r o d → (lists others : List CountedList) → others ≡ lists → (s : SignedAtom)
    → IsWantedOfGroupLists lines r o lists s → IsWantedOfLists d.kind lines (undecided_by d) (matched_by d) others s
wanted_of_group lines r None d a lists others same s w = absurd w
wanted_of_group lines r (Some g) d a lists others same s w = wanted_by_decided lines _ _ _ d a lists others same s w

pub wanted_as_decided : (lines : List Line) (k : Kind) (undecided : SignedAtom → Bool) (test : Atom → Bool) (d : DecidedAliases) → AreDecidedBy lines k undecided test d → (lists others : List CountedList) → others ≡ lists → (s : SignedAtom)
    → IsWantedOfLists d.kind lines (undecided_by d) (matched_by d) others s → IsWantedOfLists k lines undecided test lists s
wanted_as_decided lines k undecided test d a lists others same s w =
    subst (λ (j : Kind). IsWantedOfLists j lines undecided test lists s) a.kind
    (subst (λ (u : SignedAtom → Bool). IsWantedOfLists d.kind lines u test lists s) a.undecided_are
    (subst (λ (t : Atom → Bool). IsWantedOfLists d.kind lines (undecided_by d) t lists s) a.matched_are
    (subst (λ xs. IsWantedOfLists d.kind lines (undecided_by d) (matched_by d) xs s) same w)))

pub flat_by_decided : (lines : List Line) (k : Kind) (undecided : SignedAtom → Bool) (test : Atom → Bool) (d : DecidedAliases) → AreDecidedBy lines k undecided test d → (lists others : List CountedList) → others ≡ lists
    → AreFlat k lines lists → AreFlat d.kind lines others
flat_by_decided lines k undecided test d a lists others same f = subst (λ (j : Kind). AreFlat j lines others) (sym a.kind) (subst (AreFlat k lines) (sym same) f)

-- The member is an atom that is named in its part.
abbrev pub IsNamedMember : (RequestPart → SignedAtom → Type 0) → UndecidedMember → Type 0
IsNamedMember Named u = (s : SignedAtom) × Named u.part s × IsAtomInPart u.part s u

-- Each member that is new is one.
abbrev pub AddsOnlyNamed : (RequestPart → SignedAtom → Type 0) → List UndecidedMember → List UndecidedMember → Type 0
AddsOnlyNamed Named old new = (u : UndecidedMember) → ListHasElement new u → ListHasElement old u ⊎ IsNamedMember Named u

pub named_in_part : (Named : RequestPart → SignedAtom → Type 0) (p : RequestPart) (u : UndecidedMember) (s : SignedAtom) → Named p s → IsAtomInPart p s u → IsNamedMember Named u
named_in_part Named p u s named is = (s, subst (λ (q : RequestPart). Named q s) (sym is.part) named, record { part = refl; atom = is.atom; digests = is.digests })

pub adds_on : (Named : RequestPart → SignedAtom → Type 0) (first second third : List UndecidedMember) → AddsOnlyNamed Named first second → AddsOnlyNamed Named second third → AddsOnlyNamed Named first third
adds_on Named first second third a b u h = elim (b u h) as (λ _. ListHasElement first u ⊎ IsNamedMember Named u) [ inl before ↦ a u before | inr new ↦ inr new ]

pub adds_named_of_lists : (Named : RequestPart → SignedAtom → Type 0) (lines : List Line) (k : Kind) (undecided : SignedAtom → Bool) (test : Atom → Bool) (d : DecidedAliases) → AreDecidedBy lines k undecided test d
    → (p : RequestPart) (lists others : List CountedList) → others ≡ lists → ((s : SignedAtom) → IsWantedOfLists k lines undecided test lists s → Named p s) → AreFlat k lines lists → (old new : List UndecidedMember)
    → (AreFlat d.kind lines others → (u : UndecidedMember) → ListHasElement new u → ListHasElement old u ⊎ IsMemberOfLists lines d p others u) → AddsOnlyNamed Named old new
adds_named_of_lists Named lines k undecided test d a p lists others same named flat old new only u h =
    elim (only (flat_by_decided lines k undecided test d a lists others same flat) u h) as (λ _. ListHasElement old u ⊎ IsNamedMember Named u) [
      | inl before ↦ inl before
      | inr m ↦ inr (named_in_part Named p u m.atom (named m.atom (wanted_as_decided lines k undecided test d a lists others same m.atom m.is_wanted)) m.is)
    ]

pub adds_named_of_groups : (Named : RequestPart → SignedAtom → Type 0) (lines : List Line) (r : Request) (o : Option Group) (d : DecidedAliases) → AreGroupAliases lines r o d
    → (p : RequestPart) (lists others : List CountedList) → others ≡ lists → ((s : SignedAtom) → IsWantedOfGroupLists lines r o lists s → Named p s) → AreGroupListsFlat lines o lists → (old new : List UndecidedMember)
    → (AreFlat d.kind lines others → (u : UndecidedMember) → ListHasElement new u → ListHasElement old u ⊎ IsMemberOfLists lines d p others u)
    → ((u : UndecidedMember) → ListHasElement new u → ListHasElement old u ⊎ IsMemberUndecided d u) → AddsOnlyNamed Named old new
adds_named_of_groups Named lines r None d a p lists others same named flat old new only undecided u h =
    elim (undecided u h) as (λ _. ListHasElement old u ⊎ IsNamedMember Named u) [
      | inl before ↦ inl before
      | inr is ↦ let clash : true ≡ false = sym is ∙ a.1 (signed_atom_of_member (member_of_view u.member)) in absurd cc
    ]
adds_named_of_groups Named lines r (Some g) d a p lists others same named flat old new only undecided u h =
    adds_named_of_lists Named lines _ _ _ d a p lists others same named flat old new only u h

pub collected_one_more : (lines ls : List Line) (d e : DecidedAliases) → e ≡ d → ls ≡ lines → (lists : List CountedList) (i : ℕ) (other : CountedList) → i < length lists → (found : List UndecidedMember) (p : RequestPart)
    → ((l : CountedList) → ListHasElement (take i lists) l → (s : SignedAtom) → IsWantedOfList d.kind lines (undecided_by d) (matched_by d) (members_of_view l.members) l.wanted s → HasAtomInPart found p s)
    → (item : CountedList) → item ≡ get_or lists i other → ((s : SignedAtom) → IsWantedOfList e.kind ls (undecided_by e) (matched_by e) (members_of_view item.members) item.wanted s → HasAtomInPart found p s)
    → (l : CountedList) → ListHasElement (take (i + 1) lists) l → (s : SignedAtom) → IsWantedOfList d.kind lines (undecided_by d) (matched_by d) (members_of_view l.members) l.wanted s → HasAtomInPart found p s
collected_one_more lines ls d e aliases walk lists i other within found p before item is here =
    listed_one_more (λ (l : CountedList). (s : SignedAtom) → IsWantedOfList d.kind lines (undecided_by d) (matched_by d) (members_of_view l.members) l.wanted s → HasAtomInPart found p s) lists i other within before
    (λ s w. here s
    (subst (λ xs. IsWantedOfList e.kind xs (undecided_by e) (matched_by e) (members_of_view item.members) item.wanted s) (sym walk)
    (subst (λ (x : DecidedAliases). IsWantedOfList x.kind lines (undecided_by x) (matched_by x) (members_of_view item.members) item.wanted s) (sym aliases)
    (subst (λ (x : CountedList). IsWantedOfList d.kind lines (undecided_by d) (matched_by d) (members_of_view x.members) x.wanted s) (sym is) w))))

all_stand : {X : Type 0} (ys zs : List X) → ((y : X) → ListHasElement zs y → ListHasElement ys y) → AllByRecursion (ListHasElement ys) zs
all_stand ys [] each = tt
all_stand ys (z ∷ zs) each = (each z (inl refl), all_stand ys zs (λ y h. each y (inr h)))

one_of_all : {X : Type 0} (P : X → Type 0) (xs : List X) (x : X) → AllByRecursion P xs → ListHasElement xs x → P x
one_of_all P [] x all h = absurd h
one_of_all P (y ∷ xs) x all (inl same) = subst P same all.0
one_of_all P (y ∷ xs) x all (inr h) = one_of_all P xs x all.1 h

pub permuted_has : {X : Type 0} (xs ys : List X) → IsPermutation xs ys → (x : X) → ListHasElement xs x → ListHasElement ys x
permuted_has xs ys same x h =
    one_of_all (ListHasElement ys) xs x
    (recursion_from_All (ListHasElement ys) xs (All-permutation (ListHasElement ys) ys xs (IsPermutation-sym xs ys same) (All-from_recursion (ListHasElement ys) ys (all_stand ys ys (λ y k. k))))) h

pub permuted_has_no_other : {X : Type 0} (xs ys : List X) → IsPermutation xs ys → (x : X) → ListHasElement ys x → ListHasElement xs x
permuted_has_no_other xs ys same = permuted_has ys xs (IsPermutation-sym xs ys same)
