-- Members and definitions with one more say, without it, what they said before.
use Rattle.std.proofs.Common.{◌≡◌, ℕ, zero, suc, ◌≤◌, ◌<◌, Bool, true, ◌&&◌, List, [], ◌∷◌, length, refl, sym, subst, arith, Some, slice_get}
use Rattle.std.specs.Prelude.{remove}
use Rattle.std.specs.Str.{bytes_eq}
use Rattle.sudoers_grammar.specs.Node.{Member, Def}
use Rattle.sudoers_line_rows.specs.Alike.{are_lists_alike, is_same_member, is_same_def}
use Rattle.sudoers_edit.specs.Splice.{definition_without_member, definitions_with_one_changed}
use Rattle.sudoers_edit.specs.internal.LineCuts.{stop_of_item_at}
use Rattle.sudoers_edit.proofs.TokenFronts.{AreAlike, AreMembersAlike, stop_of_member}
use Rattle.sudoers_edit.proofs.FrontLists.{AreDefsAlike}
use Rattle.sudoers_edit.proofs.InnerCuts.{AreAlikeButOne}
use Rattle.sudoers_edit.proofs.AlikeItems.{bytes_are_equal_to_same}
use Rattle.sudoers_edit.proofs.TokenGains.{HasOneGained, IsMemberEndingAt}

both_are_true : (a b : Bool) → a ≡ true → b ≡ true → (a && b) ≡ true
both_are_true a b e f = rw (e, f) refl

alike_members_say_same_reversed : (limit : ℕ) (ms os : List Member) → AreAlike (AreMembersAlike limit) ms os → are_lists_alike is_same_member os ms ≡ true
alike_members_say_same_reversed limit [] [] alike = refl
alike_members_say_same_reversed limit [] (o ∷ os) alike = absurd alike
alike_members_say_same_reversed limit (m ∷ ms) [] alike = absurd alike
alike_members_say_same_reversed limit (m ∷ ms) (o ∷ os) alike =
    both_are_true (is_same_member o m) (are_lists_alike is_same_member os ms) alike.0.2 (alike_members_say_same_reversed limit ms os alike.1)

gained_members_say_same_without : (limit to at : ℕ) (ms os : List Member) → HasOneGained (AreMembersAlike limit) (IsMemberEndingAt to) at ms os → are_lists_alike is_same_member (remove os at) ms ≡ true
gained_members_say_same_without limit to zero ms [] gained = absurd gained
gained_members_say_same_without limit to zero ms (o ∷ os) gained = alike_members_say_same_reversed limit ms os gained.1
gained_members_say_same_without limit to (suc at) [] os gained = absurd gained
gained_members_say_same_without limit to (suc at) (m ∷ ms) [] gained = absurd gained
gained_members_say_same_without limit to (suc at) (m ∷ ms) (o ∷ os) gained =
    both_are_true (is_same_member o m) (are_lists_alike is_same_member (remove os at) ms) gained.0.2 (gained_members_say_same_without limit to at ms os gained.1)

-- where the new member and the one before it end
pub gained_member_ends_there : (limit to at : ℕ) (ms os : List Member) → HasOneGained (AreMembersAlike limit) (IsMemberEndingAt to) at ms os → (stop_of_item_at stop_of_member os at ≡ to) × (at < length os)
gained_member_ends_there limit to zero ms [] gained = absurd gained
gained_member_ends_there limit to zero ms (o ∷ os) gained = (gained.0, omega arith)
gained_member_ends_there limit to (suc at) [] os gained = absurd gained
gained_member_ends_there limit to (suc at) (m ∷ ms) [] gained = absurd gained
gained_member_ends_there limit to (suc at) (m ∷ ms) (o ∷ os) gained = let later = gained_member_ends_there limit to at ms os gained.1 in (later.0, omega (arith, later.1))

pub member_before_gained_ends_as_before : (limit to at : ℕ) (ms os : List Member) → HasOneGained (AreMembersAlike limit) (IsMemberEndingAt to) (suc at) ms os → stop_of_item_at stop_of_member ms at ≤ limit
    → stop_of_item_at stop_of_member os at ≡ stop_of_item_at stop_of_member ms at
member_before_gained_ends_as_before limit to at [] os gained inside = absurd gained
member_before_gained_ends_as_before limit to at (m ∷ ms) [] gained inside = absurd gained
member_before_gained_ends_as_before limit to zero (m ∷ ms) (o ∷ os) gained inside = gained.0.1 inside
member_before_gained_ends_as_before limit to (suc at) (m ∷ ms) (o ∷ os) gained inside = member_before_gained_ends_as_before limit to at ms os gained.1 inside

-- ---- definitions

-- a definition of this name, with one member more than these
abbrev pub HasNameAndMemberMore : ℕ → ℕ → ℕ → List ℕ → List Member → Def → Type 0
HasNameAndMemberMore limit to at name members e = (e.name ≡ name) × HasOneGained (AreMembersAlike limit) (IsMemberEndingAt to) at members e.members

alike_definition_says_same_reversed : (limit : ℕ) (d e : Def) → AreDefsAlike limit d e → is_same_def e d ≡ true
alike_definition_says_same_reversed limit d e alike =
    both_are_true (bytes_eq e.name d.name) (are_lists_alike is_same_member e.members d.members) (bytes_are_equal_to_same e.name d.name (sym alike.name)) (alike_members_say_same_reversed limit d.members e.members alike.members)

alike_definitions_say_same_reversed : (limit : ℕ) (ds es : List Def) → AreAlike (AreDefsAlike limit) ds es → are_lists_alike is_same_def es ds ≡ true
alike_definitions_say_same_reversed limit [] [] alike = refl
alike_definitions_say_same_reversed limit [] (e ∷ es) alike = absurd alike
alike_definitions_say_same_reversed limit (d ∷ ds) [] alike = absurd alike
alike_definitions_say_same_reversed limit (d ∷ ds) (e ∷ es) alike =
    both_are_true (is_same_def e d) (are_lists_alike is_same_def es ds) (alike_definition_says_same_reversed limit d e alike.0) (alike_definitions_say_same_reversed limit ds es alike.1)

pub definitions_with_member_more_say_same_without : (limit to at def : ℕ) (d : Def) (ds es : List Def) → slice_get ds def ≡ Some d
    → AreAlikeButOne (AreDefsAlike limit) (HasNameAndMemberMore limit to at d.name d.members) def ds es
    → are_lists_alike is_same_def (definitions_with_one_changed def (definition_without_member at) es) ds ≡ true
definitions_with_member_more_say_same_without limit to at def d [] es here alike = absurd alike
definitions_with_member_more_say_same_without limit to at def d (x ∷ ds) [] here alike = absurd alike
definitions_with_member_more_say_same_without limit to at zero d (x ∷ ds) (y ∷ es) here alike =
    let same : x ≡ d = cc in
    subst (λ (z : Def). (is_same_def (definition_without_member at y) z && are_lists_alike is_same_def es ds) ≡ true) (sym same)
    (both_are_true (is_same_def (definition_without_member at y) d) (are_lists_alike is_same_def es ds)
    (both_are_true (bytes_eq y.name d.name) (are_lists_alike is_same_member (remove y.members at) d.members) (bytes_are_equal_to_same y.name d.name (sym alike.0.0)) (gained_members_say_same_without limit to at d.members y.members alike.0.1))
    (alike_definitions_say_same_reversed limit ds es alike.1))
definitions_with_member_more_say_same_without limit to at (suc def) d (x ∷ ds) (y ∷ es) here alike =
    both_are_true (is_same_def y x) (are_lists_alike is_same_def (definitions_with_one_changed def (definition_without_member at) es) ds)
    (alike_definition_says_same_reversed limit x y alike.0) (definitions_with_member_more_say_same_without limit to at def d ds es here alike.1)
