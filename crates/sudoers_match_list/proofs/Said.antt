-- Laws of verdicts.
use Rattle.sudoers_match_list.proofs.Common.{Atom, Bool, IsFlatListOf, IsListVerdict, Kind, Line, List, ListHasElement, Member, MemberHit, None, Option, SignedAtom, Some, [], alias_members_of_atom, ap, append-nil}
use Rattle.sudoers_match_list.proofs.Common.{false, hit_of_signed_atom, hit_under_negation, inl, inr, last_hit_of_list, later_hit_if_any, later_verdict_unless_unsaid, many, map, none, opposite_verdict, refl}
use Rattle.sudoers_match_list.proofs.Common.{signed_atom_under_negation, sym, true, verdict_of_hit, ◌++◌, ◌∙◌, ◌∷◌, ◌≡◌}
use Rattle.sudoers_match_list.specs.declared.verdict.Verdict.{Verdict}
use Rattle.sudoers_match_list.specs.declared.verdict.Verdict.TheVariants.{Unsaid}
use Rattle.sudoers_match_list.proofs.Flats.{appended_lists_have_appended_flat_list, last_hit_of_appended_is_later_hit, negated_list_has_negated_last_hit}
use Rattle.sudoers_match_list.proofs.Unique.{one_latest}

list_without_hits_has_no_last_hit : (test : Atom → Bool) (fs : List SignedAtom) → ((s : SignedAtom) → ListHasElement fs s → hit_of_signed_atom test s ≡ None) → last_hit_of_list test fs ≡ None
list_without_hits_has_no_last_hit test [] absent = refl
list_without_hits_has_no_last_hit test (s ∷ fs) absent =
    ap (later_hit_if_any (hit_of_signed_atom test s)) (list_without_hits_has_no_last_hit test fs (λ t h. absent t (inr h))) ∙ absent s (inl refl)

verdict_of_later_hit_is_later_verdict : (a b : Option MemberHit) → verdict_of_hit (later_hit_if_any a b) ≡ later_verdict_unless_unsaid (verdict_of_hit a) (verdict_of_hit b)
verdict_of_later_hit_is_later_verdict a None = refl
verdict_of_later_hit_is_later_verdict a (Some hit) = by hit.allow hit.by_all
  where
    by : (allow all : Bool) → verdict_of_hit (later_hit_if_any a (Some (record { allow = allow; by_all = all }))) ≡ later_verdict_unless_unsaid (verdict_of_hit a) (verdict_of_hit (Some (record { allow = allow; by_all = all })))
    by true all = refl
    by false all = refl

verdict_of_negated_hit_is_opposite : (a : Option MemberHit) → verdict_of_hit (hit_under_negation true a) ≡ opposite_verdict (verdict_of_hit a)
verdict_of_negated_hit_is_opposite None = refl
verdict_of_negated_hit_is_opposite (Some hit) = by hit.allow hit.by_all
  where
    by : (allow all : Bool) → verdict_of_hit (hit_under_negation true (Some (record { allow = allow; by_all = all }))) ≡ opposite_verdict (verdict_of_hit (Some (record { allow = allow; by_all = all })))
    by true all = refl
    by false all = refl

module _ (kd : Kind) (lines : List Line) (test : Atom → Bool) where
  pub no_hit : (ms : List Member) (fs : List SignedAtom) → IsFlatListOf kd lines ms fs → ((s : SignedAtom) → ListHasElement fs s → hit_of_signed_atom test s ≡ None) → IsListVerdict kd lines test ms Unsaid
  no_hit ms fs f absent = record { hit = None; is_latest = record { flat = fs; is_flat = f; is_last = list_without_hits_has_no_last_hit test fs absent }; says = refl }

  pub negated : (m : Member) (members : List Member) (verdict : Verdict) → alias_members_of_atom kd lines m.atom ≡ Some members → m.negated ≡ true
      → IsListVerdict kd lines test members verdict → IsListVerdict kd lines test (m ∷ []) (opposite_verdict verdict)
  negated m members verdict e n v =
      let inner = v.is_latest in
      let new = map (signed_atom_under_negation m.negated) inner.flat in
      record {
        hit = hit_under_negation true v.hit;
        is_latest = record {
          flat = new ++ [];
          is_flat = many m [] members inner.flat [] e inner.is_flat none;
          is_last = ap (last_hit_of_list test) (append-nil new) ∙ negated_list_has_negated_last_hit test m.negated inner.flat ∙ ap (λ b. hit_under_negation b (last_hit_of_list test inner.flat)) n ∙ ap (hit_under_negation true) inner.is_last;
        };
        says = ap opposite_verdict v.says ∙ sym (verdict_of_negated_hit_is_opposite v.hit);
      }

  pub lists : (ms ns : List Member) (first second : Verdict) → IsListVerdict kd lines test ms first → IsListVerdict kd lines test ns second
      → IsListVerdict kd lines test (ms ++ ns) (later_verdict_unless_unsaid first second)
  lists ms ns first second v w = record {
    hit = later_hit_if_any v.hit w.hit;
    is_latest = record {
      flat = v.is_latest.flat ++ w.is_latest.flat;
      is_flat = appended_lists_have_appended_flat_list kd lines ms ns v.is_latest.flat w.is_latest.flat v.is_latest.is_flat w.is_latest.is_flat;
      is_last = last_hit_of_appended_is_later_hit test v.is_latest.flat w.is_latest.flat ∙ ap (λ h. later_hit_if_any h (last_hit_of_list test w.is_latest.flat)) v.is_latest.is_last ∙ ap (later_hit_if_any v.hit) w.is_latest.is_last;
    };
    says = ap (λ x. later_verdict_unless_unsaid x second) v.says ∙ ap (later_verdict_unless_unsaid (verdict_of_hit v.hit)) w.says ∙ sym (verdict_of_later_hit_is_later_verdict v.hit w.hit);
  }

  pub one : (ms : List Member) (verdict other : Verdict) → IsListVerdict kd lines test ms verdict → IsListVerdict kd lines test ms other → verdict ≡ other
  one ms verdict other v w = v.says ∙ ap verdict_of_hit (one_latest kd lines test ms v.hit w.hit v.is_latest w.is_latest) ∙ sym w.says
