-- What is known of the line that the last change replaces.
use Rattle.std.proofs.Common.{◌≡◌, ℕ, Bool, true, ◌&&◌, List, ◌∷◌, refl, sym, ap, subst, ◌∙◌, Some, None, Option, Ok, Err, Result, IfOk}
use Rattle.std.proofs.lemmas.Bool.{eq-eqb}
use Rattle.std.specs.Prelude.{◌==◌, if◌then◌else◌}
use Rattle.std.specs.Option.{option_or}
use Rattle.sudoers_tree.specs.declared.line_change.LineChange.{LineChange}
use Rattle.sudoers_tree.specs.declared.line_change.LineChange.TheVariants.{Swap}
use Rattle.sudoers_edit.specs.declared.line_being_cut.LineBeingCut.{LineBeingCut}
use Rattle.sudoers_edit.specs.declared.prune_plan.LastCutLine.{LastCutLine}
use Rattle.sudoers_edit.specs.internal.Drafts.{replacement_text_by_first_change}
use Rattle.sudoers_edit.specs.internal.LineCuts.{IsLastCutLineKnown, IsLineKnown}

pub no_line_is_known : (changes : List LineChange) → IsLastCutLineKnown changes None
no_line_is_known changes l e = absurd (cc)

pub holds_if_ok : {X E : Type 0} (r : Result X E) (P : Type 0) → P → IfOk r (λ (x : X). P)
holds_if_ok (Ok x) P p = p
holds_if_ok (Err e) P p = tt

first_swap_replaces_its_line : (file line : ℕ) (text : List ℕ) (olds : List LineChange) → replacement_text_by_first_change file line (Swap file line text ∷ olds) ≡ Some text
first_swap_replaces_its_line file line text olds = by_tests (file == file) (line == line) (eq-eqb file file refl) (eq-eqb line line refl)
  where
    by_tests : (a b : Bool) → a ≡ true → b ≡ true → (if a && b then Some text else None) ≡ Some text
    by_tests a b e f = rw (e, f) refl

same_line : (a b : LastCutLine) → Some a ≡ Some b → a ≡ b
same_line a b e = cc

pub replaced_line_is_known : (changes olds : List LineChange) (file line : ℕ) (text : List ℕ) (known : LineBeingCut) → changes ≡ Swap file line text ∷ olds → IsLineKnown known text
    → IsLastCutLineKnown changes (Some (record { file = file; line = line; known = known }))
replaced_line_is_known changes olds file line text known is knows l e =
    subst (λ (l : LastCutLine). (t : List ℕ) × (replacement_text_by_first_change l.file l.line changes ≡ Some t) × IsLineKnown l.known t) (same_line (record { file = file; line = line; known = known }) l e)
    (text, ap (replacement_text_by_first_change file line) is ∙ first_swap_replaces_its_line file line text olds, knows)

same_text : (text old : List ℕ) (o other : Option (List ℕ)) → o ≡ Some text → Some old ≡ option_or o other → text ≡ old
same_text text old o other e f = by_some (f ∙ ap (λ (p : Option (List ℕ)). option_or p other) e)
  where
    by_some : Some old ≡ Some text → text ≡ old
    by_some g = cc

-- The text of the line is that of which it is known.
pub last_line_text_is_known : (changes : List LineChange) (last : Option LastCutLine) (file line : ℕ) (old : List ℕ) (other : Option (List ℕ)) → IsLastCutLineKnown changes last
    → Some old ≡ option_or (replacement_text_by_first_change file line changes) other → (l : LastCutLine) → last ≡ Some l → l.file ≡ file → l.line ≡ line → IsLineKnown l.known old
last_line_text_is_known changes last file line old other known is l e f g =
    let x = known l e in
    subst (IsLineKnown l.known)
    (same_text x.0 old (replacement_text_by_first_change file line changes) other (ap (λ (n : ℕ). replacement_text_by_first_change n line changes) (sym f) ∙ ap (λ (n : ℕ). replacement_text_by_first_change l.file n changes) (sym g) ∙ x.1) is) x.2
