-- Flat lists and their last hits.
use Rattle.sudoers_match_list.proofs.Common.{Atom, Bool, IsFlatListOf, IsLastHitOfList, Kind, Line, List, Member, MemberHit, None, Option, SignedAtom, Some, [], alias_number_of_atom, ap, append-nil, append_assoc}
use Rattle.sudoers_match_list.proofs.Common.{false, flipped_if_negated, has_no_digests, hit_of_signed_atom, hit_under_negation, is_all_atom, last_hit_of_list, later_hit_if_any, many, map}
use Rattle.sudoers_match_list.proofs.Common.{members_of_definition_number, none, one, refl, signed_atom_of_member, signed_atom_under_negation, subst, sym, true, ℕ, ◌&&◌, ◌++◌, ◌∙◌, ◌∷◌, ◌≡◌}
use Rattle.std.specs.Prelude.{if◌then◌else◌}
use Rattle.sudoers_match_list.proofs.Numbered.{alias_some, alias_none}

later_hit_is_associative : (a b c : Option MemberHit) → later_hit_if_any (later_hit_if_any a b) c ≡ later_hit_if_any a (later_hit_if_any b c)
later_hit_is_associative a b None = refl
later_hit_is_associative a b (Some h) = refl

later_hit_after_none_is_hit : (a : Option MemberHit) → later_hit_if_any None a ≡ a
later_hit_after_none_is_hit None = refl
later_hit_after_none_is_hit (Some h) = refl

pub last_hit_of_appended_is_later_hit : (test : Atom → Bool) (fs gs : List SignedAtom) → last_hit_of_list test (fs ++ gs) ≡ later_hit_if_any (last_hit_of_list test fs) (last_hit_of_list test gs)
last_hit_of_appended_is_later_hit test [] gs = sym (later_hit_after_none_is_hit (last_hit_of_list test gs))
last_hit_of_appended_is_later_hit test (s ∷ fs) gs = ap (later_hit_if_any (hit_of_signed_atom test s)) (last_hit_of_appended_is_later_hit test fs gs) ∙ sym (later_hit_is_associative (hit_of_signed_atom test s) (last_hit_of_list test fs) (last_hit_of_list test gs))

negated_later_hit_is_later_of_negated : (n : Bool) (a b : Option MemberHit) → hit_under_negation n (later_hit_if_any a b) ≡ later_hit_if_any (hit_under_negation n a) (hit_under_negation n b)
negated_later_hit_is_later_of_negated n a None = refl
negated_later_hit_is_later_of_negated n a (Some h) = refl

negated_conditional_hit_is_hit_of_flipped : (t n allow all : Bool) → (if t then Some (record { allow = flipped_if_negated n allow; by_all = all }) else None) ≡ hit_under_negation n (if t then Some (record { allow = allow; by_all = all }) else None)
negated_conditional_hit_is_hit_of_flipped true n allow all = refl
negated_conditional_hit_is_hit_of_flipped false n allow all = refl

hit_of_negated_atom_is_negated_hit : (test : Atom → Bool) (n : Bool) (s : SignedAtom) → hit_of_signed_atom test (signed_atom_under_negation n s) ≡ hit_under_negation n (hit_of_signed_atom test s)
hit_of_negated_atom_is_negated_hit test n s = negated_conditional_hit_is_hit_of_flipped (test s.atom && has_no_digests s.digests) n s.allow (is_all_atom s.atom)

pub negated_list_has_negated_last_hit : (test : Atom → Bool) (n : Bool) (fs : List SignedAtom) → last_hit_of_list test (map (signed_atom_under_negation n) fs) ≡ hit_under_negation n (last_hit_of_list test fs)
negated_list_has_negated_last_hit test n [] = refl
negated_list_has_negated_last_hit test n (s ∷ fs) =
    ap (λ h. later_hit_if_any h (last_hit_of_list test (map (signed_atom_under_negation n) fs))) (hit_of_negated_atom_is_negated_hit test n s)
    ∙ ap (later_hit_if_any (hit_under_negation n (hit_of_signed_atom test s))) (negated_list_has_negated_last_hit test n fs)
    ∙ sym (negated_later_hit_is_later_of_negated n (hit_of_signed_atom test s) (last_hit_of_list test fs))

pub appended_lists_have_appended_flat_list : (kd : Kind) (lines : List Line) (ms ns : List Member) (fs gs : List SignedAtom) → IsFlatListOf kd lines ms fs → IsFlatListOf kd lines ns gs → IsFlatListOf kd lines (ms ++ ns) (fs ++ gs)
appended_lists_have_appended_flat_list kd lines ms ns fs gs none g = g
appended_lists_have_appended_flat_list kd lines ms ns fs gs (one m rest more e f) g = one m (rest ++ ns) (more ++ gs) e (appended_lists_have_appended_flat_list kd lines rest ns more gs f g)
appended_lists_have_appended_flat_list kd lines ms ns fs gs (many m rest members inner more e i f) g =
    subst (IsFlatListOf kd lines (m ∷ rest ++ ns)) (sym (append_assoc (map (signed_atom_under_negation m.negated) inner) more gs))
    (many m (rest ++ ns) members inner (more ++ gs) e i (appended_lists_have_appended_flat_list kd lines rest ns more gs f g))

pub empty_list_has_no_last_hit : (kd : Kind) (lines : List Line) (test : Atom → Bool) → IsLastHitOfList kd lines test [] None
empty_list_has_no_last_hit kd lines test = record { flat = []; is_flat = none; is_last = refl }

-- a member more that is no defined alias
pub member_without_alias_extends_last_hit : (kd : Kind) (lines : List Line) (test : Atom → Bool) (ms : List Member) (m : Member) (hit : Option MemberHit) → IsLastHitOfList kd lines test ms hit
    → alias_number_of_atom kd lines m.atom ≡ None → IsLastHitOfList kd lines test (ms ++ m ∷ []) (later_hit_if_any hit (hit_of_signed_atom test (signed_atom_of_member m)))
member_without_alias_extends_last_hit kd lines test ms m hit l e = record {
  flat = l.flat ++ signed_atom_of_member m ∷ [];
  is_flat = appended_lists_have_appended_flat_list kd lines ms (m ∷ []) l.flat (signed_atom_of_member m ∷ []) l.is_flat (one m [] [] (alias_none kd lines m.atom e) none);
  is_last = last_hit_of_appended_is_later_hit test l.flat (signed_atom_of_member m ∷ []) ∙ ap (λ h. later_hit_if_any h (hit_of_signed_atom test (signed_atom_of_member m))) l.is_last;
}

-- a member more that is a defined alias
pub alias_member_extends_last_hit : (kd : Kind) (lines : List Line) (test : Atom → Bool) (ms : List Member) (m : Member) (k : ℕ) (hit inner : Option MemberHit) → IsLastHitOfList kd lines test ms hit
    → alias_number_of_atom kd lines m.atom ≡ Some k → IsLastHitOfList kd lines test (members_of_definition_number lines k) inner → IsLastHitOfList kd lines test (ms ++ m ∷ []) (later_hit_if_any hit (hit_under_negation m.negated inner))
alias_member_extends_last_hit kd lines test ms m k hit inner l e i =
    let new = map (signed_atom_under_negation m.negated) i.flat in
    record {
      flat = l.flat ++ (new ++ []);
      is_flat = appended_lists_have_appended_flat_list kd lines ms (m ∷ []) l.flat (new ++ []) l.is_flat (many m [] (members_of_definition_number lines k) i.flat [] (alias_some kd lines m.atom k e) i.is_flat none);
      is_last = last_hit_of_appended_is_later_hit test l.flat (new ++ []) ∙ ap (λ h. later_hit_if_any h (last_hit_of_list test (new ++ []))) l.is_last
          ∙ ap (later_hit_if_any hit) (ap (last_hit_of_list test) (append-nil new) ∙ negated_list_has_negated_last_hit test m.negated i.flat ∙ ap (hit_under_negation m.negated) i.is_last);
    }
